-- One step of a pass over two lists of entries that rise.
use Rattle.std.proofs.Common.{◌≡◌, List, [], ◌∷◌, ◌++◌, Less, Equal, Greater, Box, false, refl, sym, ap, ◌∙◌, append_assoc}
use Rattle.std.proofs.lemmas.List.{map-append}
use Rattle.std.proofs.lemmas.Cmp.{tied_back}
use Rattle.ga_base.specs.declared.key.Key.{Key}
use Rattle.ga_summary.specs.declared.entry.Entry.{Entry}
use Rattle.ga_summary.specs.Steps.Entries.{row_of, rows_of}
use Rattle.ga_summary.specs.Steps.Joined.{joined, put_rows}
use Rattle.ga_base.specs.Orders.{key_cmp, is_same_key}
use Rattle.ga_summary.specs.Steps.Places.{Rises}
use Rattle.ga_summary.specs.Steps.Room.{AllHavePlace, HasPlace, CanTake, entry_at}
use Rattle.ga_summary.specs.SummaryRows.{SummaryRow}
use Rattle.ga_summary.proofs.Put.{above_more, above_same, rises_head, rises_tail, put_all-less, put_all-equal, put_all-greater, put_all-into_none}
use Rattle.ga_base.proofs.OrderLemmas.{key_cmp_total}
use Rattle.ga_summary.proofs.Placing.{places_left}

-- the first row of what is left goes to the end of what is done
moved : {A : Type 0} (done : List (Box Entry A)) (pushed : Box Entry A) (left rest whole : List SummaryRow) (row : SummaryRow) → row_of pushed.value ≡ row → left ≡ row ∷ rest → rows_of done ++ left ≡ whole → rows_of (done ++ pushed ∷ []) ++ rest ≡ whole
moved {A} done pushed left rest whole row is e h =
    ap (λ (l : List SummaryRow). l ++ rest) (map-append (λ (b : Box Entry A). row_of b.value) done (pushed ∷ []) ∙ ap (λ (r : SummaryRow). rows_of done ++ r ∷ []) is)
    ∙ append_assoc (rows_of done) (row ∷ []) rest ∙ ap (λ (l : List SummaryRow). rows_of done ++ l) (sym e) ∙ h

module _ {A : Type 0} (done : List (Box Entry A)) (whole : List SummaryRow) (a b : Box Entry A) (ls rs : List (Box Entry A)) (t : Rises key_cmp (λ (row : SummaryRow). row.key) (rows_of (b ∷ rs))) (h : rows_of done ++ put_rows (rows_of (b ∷ rs)) (rows_of (a ∷ ls)) ≡ whole) where
  -- without the first entry, a look-up at another key is the same
  others : (key : Key) → is_same_key key a.value.key ≡ false → entry_at ls key ≡ entry_at (a ∷ ls) key
  others key apart = rw apart

  pub row_less : key_cmp a.value.key b.value.key ≡ Less → rows_of (done ++ a ∷ []) ++ put_rows (rows_of (b ∷ rs)) (rows_of ls) ≡ whole
  row_less e = moved done a _ _ whole (row_of a.value) refl (put_all-less key_cmp key_cmp_total (λ (row : SummaryRow). row.key) joined (row_of a.value) (row_of b.value) (rows_of ls) (rows_of rs) e t) h

  pub fits_less : AllHavePlace (a ∷ ls) (b ∷ rs) → key_cmp a.value.key b.value.key ≡ Less → AllHavePlace ls (b ∷ rs)
  fits_less fits e = places_left (a ∷ ls) ls a.value.key others (b ∷ rs) (e, above_more key_cmp key_cmp_total (λ (row : SummaryRow). row.key) a.value.key b.value.key (rows_of rs) e (rises_head key_cmp (λ (row : SummaryRow). row.key) (row_of b.value) (rows_of rs) t)) fits

  pub row_equal : (pushed : Box Entry A) → row_of pushed.value ≡ joined (row_of a.value) (row_of b.value) → key_cmp a.value.key b.value.key ≡ Equal → rows_of (done ++ pushed ∷ []) ++ put_rows (rows_of rs) (rows_of ls) ≡ whole
  row_equal pushed is e = moved done pushed _ _ whole (joined (row_of a.value) (row_of b.value)) is (put_all-equal key_cmp key_cmp_total (λ (row : SummaryRow). row.key) joined (λ _ _. refl) (row_of a.value) (row_of b.value) (rows_of ls) (rows_of rs) e t) h

  pub fits_equal : AllHavePlace (a ∷ ls) (b ∷ rs) → key_cmp a.value.key b.value.key ≡ Equal → AllHavePlace ls rs
  fits_equal fits e = places_left (a ∷ ls) ls a.value.key others rs (above_same key_cmp key_cmp_total (λ (row : SummaryRow). row.key) a.value.key b.value.key (rows_of rs) e (rises_head key_cmp (λ (row : SummaryRow). row.key) (row_of b.value) (rows_of rs) t)) fits.1

  pub row_greater : key_cmp a.value.key b.value.key ≡ Greater → rows_of (done ++ b ∷ []) ++ put_rows (rows_of rs) (rows_of (a ∷ ls)) ≡ whole
  row_greater e = moved done b _ _ whole (row_of b.value) refl (put_all-greater key_cmp key_cmp_total (λ (row : SummaryRow). row.key) joined (row_of a.value) (row_of b.value) (rows_of ls) (rows_of rs) e t) h

-- the entry that comes first can take another of its key
pub first_takes : {A : Type 0} (a b : Box Entry A) (ls : List (Box Entry A)) → key_cmp a.value.key b.value.key ≡ Equal → HasPlace (a ∷ ls) b.value → CanTake a.value b.value
first_takes a b ls e place = place a (rw (tied_back key_cmp_total a.value.key b.value.key e))

pub row_left : {A : Type 0} (done : List (Box Entry A)) (whole : List SummaryRow) (a : Box Entry A) (ls : List (Box Entry A)) → rows_of done ++ put_rows [] (rows_of (a ∷ ls)) ≡ whole → rows_of (done ++ a ∷ []) ++ put_rows [] (rows_of ls) ≡ whole
row_left done whole a ls h = moved done a (rows_of (a ∷ ls)) (rows_of ls) whole (row_of a.value) refl refl h

pub row_right : {A : Type 0} (done : List (Box Entry A)) (whole : List SummaryRow) (b : Box Entry A) (rs : List (Box Entry A)) → Rises key_cmp (λ (row : SummaryRow). row.key) (rows_of (b ∷ rs)) → rows_of done ++ put_rows (rows_of (b ∷ rs)) [] ≡ whole → rows_of (done ++ b ∷ []) ++ put_rows (rows_of rs) [] ≡ whole
row_right done whole b rs t h =
    let all : put_rows (rows_of (b ∷ rs)) [] ≡ rows_of (b ∷ rs) = put_all-into_none key_cmp key_cmp_total (λ (row : SummaryRow). row.key) joined (rows_of (b ∷ rs)) t in
    let rest : put_rows (rows_of rs) [] ≡ rows_of rs = put_all-into_none key_cmp key_cmp_total (λ (row : SummaryRow). row.key) joined (rows_of rs) (rises_tail key_cmp (λ (row : SummaryRow). row.key) (row_of b.value) (rows_of rs) t) in
    moved done b (put_rows (rows_of (b ∷ rs)) []) (put_rows (rows_of rs) []) whole (row_of b.value) refl (all ∙ ap (λ (l : List SummaryRow). row_of b.value ∷ l) (sym rest)) h
