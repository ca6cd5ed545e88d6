-- An entry put among a summary's entries, by their rows.
use Rattle.std.proofs.Common.{◌≡◌, ℕ, zero, suc, ◌≤◌, Less, Greater, true, vec_capacity, List, [], ◌∷◌, Some, None, false, Equal, get_or, set, map, Box, refl, sym, ap, ◌∙◌, arith}
use Rattle.std.proofs.lemmas.List.{map-set}
use Rattle.std.proofs.lemmas.Cmp.{alike_right, tied_itself}
use Rattle.std.specs.List.{insert}
use Rattle.std.specs.Ordering.{is_eq}
use Rattle.std.specs.Box.{with_value}
use Rattle.ga_base.specs.declared.key.Key.{Key}
use Rattle.ga_summary.specs.declared.entry.Entry.{Entry}
use Rattle.ga_base.specs.Orders.{key_cmp, is_same_key}
use Rattle.ga_summary.specs.SummaryRows.{SummaryRow, row_at}
use Rattle.ga_summary.specs.Steps.Entries.{IsClosed, entry_names, rows_of, row_of}
use Rattle.ga_summary.specs.Steps.Joined.{joined, put_row}
use Rattle.std.specs.Ordering.{ordering_reverse}
use Rattle.ga_summary.specs.Steps.Room.{entry_at, HasNameRoom, HasRoom, HasPlace, AllHavePlace, CanTake, IsClosedAt}
use Rattle.ga_summary.specs.Steps.Places.{StandsAt, GoesTo}
use Rattle.ga_summary.proofs.Put.{Above, find_stands, put_stands, put_goes, read_map, stands_unmap, find-set_other, find-set_here, none_unmapped, Some≢None, find_same, find-insert_other, equal_from_is_eq}
use Rattle.ga_summary.proofs.NameLists.{set-same}
use Rattle.ga_summary.proofs.RowLookups.{row_missing}
use Rattle.ga_summary.proofs.Closing.{EntriesRise, found_inserted}
use Rattle.ga_base.proofs.OrderLemmas.{key_cmp_total}

some_inj : {X : Type 0} {x y : X} → Some x ≡ Some y → x ≡ y
some_inj e = cc

map-insert : {X Y : Type 0} (f : X → Y) (xs : List X) (i : ℕ) (x : X) → map f (insert xs i x) ≡ insert (map f xs) i (f x)
map-insert f [] zero x = refl
map-insert f [] (suc i) x = refl
map-insert f (y ∷ xs) zero x = refl
map-insert f (y ∷ xs) (suc i) x = ap (λ (l : List _). f y ∷ l) (map-insert f xs i x)

module _ {A : Type 0} (entries : List (Box Entry A)) (more : Entry) (i : ℕ) where
  -- where the key stands
  module _ (boxed : Box Entry A) (h : StandsAt key_cmp (λ (row : SummaryRow). row.key) more.key (rows_of entries) i) (read : boxed ≡ get_or entries i boxed) where
    unmapped : StandsAt key_cmp (λ (b : Box Entry A). b.value.key) more.key entries i
    unmapped = stands_unmap key_cmp (λ (row : SummaryRow). row.key) (λ (b : Box Entry A). row_of b.value) more.key entries i h

    pub takes_here : HasPlace entries more → CanTake boxed.value more
    takes_here fits = fits boxed (find_stands key_cmp key_cmp_total (λ (b : Box Entry A). b.value.key) more.key entries i boxed unmapped ∙ ap Some (sym read))

    pub rows_taken : (entry : Entry) → row_of entry ≡ joined (row_of boxed.value) (row_of more) → rows_of (set entries i (with_value boxed entry)) ≡ put_row (row_of more) (rows_of entries)
    rows_taken entry e =
        let f = λ (b : Box Entry A). row_of b.value in
        map-set f entries i (with_value boxed entry)
        ∙ ap (λ (r : SummaryRow). set (rows_of entries) i r) (e ∙ ap (λ (r : SummaryRow). joined r (row_of more)) (sym (read_map key_cmp (λ (row : SummaryRow). row.key) f entries i boxed unmapped.within read)))
        ∙ sym (put_stands key_cmp key_cmp_total (λ (row : SummaryRow). row.key) joined (row_of more) (rows_of entries) i (row_of boxed.value) h)

    pub others_set : (entry : Entry) → entry.key ≡ boxed.value.key → (key : Key) → is_same_key key more.key ≡ false → entry_at (set entries i (with_value boxed entry)) key ≡ entry_at entries key
    others_set entry e key apart =
        let same : key_cmp more.key boxed.value.key ≡ Equal = rw read (unmapped.here boxed) in
        let old : is_same_key key boxed.value.key ≡ false = ap is_eq (sym (alike_right key_cmp_total more.key boxed.value.key key same)) ∙ apart in
        let new : is_same_key key entry.key ≡ false = ap (λ (k : Key). is_same_key key k) e ∙ old in
        find-set_other (λ (b : Box Entry A). is_same_key key b.value.key) entries i (with_value boxed entry) boxed read unmapped.within old new

    pub others_taken : (entry : Entry) → row_of entry ≡ joined (row_of boxed.value) (row_of more) → (key : Key) → is_same_key key more.key ≡ false → entry_at (set entries i (with_value boxed entry)) key ≡ entry_at entries key
    others_taken entry e key apart = others_set entry (ap (λ (r : SummaryRow). r.key) e) key apart

    entry_there : (key : Key) → key_cmp key more.key ≡ Equal → entry_at entries key ≡ Some boxed
    entry_there key same = find_same key_cmp key_cmp_total (λ (b : Box Entry A). b.value.key) key more.key entries same ∙ find_stands key_cmp key_cmp_total (λ (b : Box Entry A). b.value.key) more.key entries i boxed unmapped ∙ ap Some (sym read)

    -- another entry of its key at its place
    entry_here : (entry : Entry) → entry.key ≡ boxed.value.key → (key : Key) → key_cmp key more.key ≡ Equal → entry_at (set entries i (with_value boxed entry)) key ≡ Some (with_value boxed entry)
    entry_here entry is key same =
        let here : key_cmp more.key boxed.value.key ≡ Equal = rw read (unmapped.here boxed) in
        let new : is_same_key key entry.key ≡ true = ap (λ (k : Key). is_same_key key k) is ∙ ap is_eq (key_cmp_total.congr key more.key boxed.value.key same ∙ here) in
        find-set_here (λ (b : Box Entry A). is_same_key key b.value.key) entries i (with_value boxed entry) unmapped.within (λ j d lt. ap is_eq (key_cmp_total.congr key more.key _ same ∙ unmapped.before j d lt)) new

    pub closed_taken : (entry : Entry) → row_of entry ≡ joined (row_of boxed.value) (row_of more) → IsClosed entry → (key : Key) → is_same_key key more.key ≡ true → IsClosedAt (set entries i (with_value boxed entry)) key
    closed_taken entry e closed key same x found =
        let is : with_value boxed entry ≡ x = some_inj (sym (entry_here entry (ap (λ (r : SummaryRow). r.key) e) key (equal_from_is_eq _ same)) ∙ found) in
        rw (← is) closed

    -- another entry with the same row at its place
    module _ (entry : Entry) (row : row_of entry ≡ row_of boxed.value) where
      same_key : entry.key ≡ boxed.value.key
      same_key = ap (λ (r : SummaryRow). r.key) row

      pub rows_same : rows_of (set entries i (with_value boxed entry)) ≡ rows_of entries
      rows_same =
          let f = λ (b : Box Entry A). row_of b.value in
          map-set f entries i (with_value boxed entry)
          ∙ ap (λ (r : SummaryRow). set (rows_of entries) i r) (row ∙ sym (read_map key_cmp (λ (r : SummaryRow). r.key) f entries i boxed unmapped.within read))
          ∙ set-same (rows_of entries) i (row_of boxed.value) h.within

      pub room_here : HasNameRoom entry more → HasRoom (set entries i (with_value boxed entry)) more
      room_here enough x found =
          let is : with_value boxed entry ≡ x = some_inj (sym (entry_here entry same_key more.key (tied_itself key_cmp_total more.key)) ∙ found) in
          rw (← is) enough

      pub room_kept : vec_capacity boxed.value.work ≤ vec_capacity entry.work → (other : Entry) → HasRoom entries other → HasRoom (set entries i (with_value boxed entry)) other
      room_kept capacity other had x found =
          let apart : is_same_key other.key more.key ≡ false → HasNameRoom x.value other = λ e. had x (sym (others_set entry same_key other.key e) ∙ found) in
          elim (key_cmp other.key more.key) as (λ v. key_cmp other.key more.key ≡ v → HasNameRoom x.value other) [
            | Less ↦ λ e. apart (ap is_eq e)
            | Equal ↦ λ e.
                let is : with_value boxed entry ≡ x = some_inj (sym (entry_here entry same_key other.key e) ∙ found) in
                let enough = had boxed (entry_there other.key e) in
                let names : entry_names entry ≡ entry_names boxed.value = ap (λ (r : SummaryRow). r.names) row in
                rw (← is, names) (omega (arith, enough, capacity))
            | Greater ↦ λ e. apart (ap is_eq e)
          ] refl

-- where the key is not there, there is room enough
module _ {A : Type 0} (entries : List (Box Entry A)) (more : Entry) where
  pub room_missing : row_at (rows_of entries) more.key ≡ None → HasRoom entries more
  room_missing e x found = absurd (Some≢None (sym found ∙ none_unmapped (λ (row : SummaryRow). is_same_key more.key row.key) (λ (b : Box Entry A). row_of b.value) entries e))

-- where the key would go
module _ {A : Type 0} (entries : List (Box Entry A)) (boxed : Box Entry A) (i : ℕ) where
  pub rows_inserted : GoesTo key_cmp (λ (row : SummaryRow). row.key) boxed.value.key (rows_of entries) i → rows_of (insert entries i boxed) ≡ put_row (row_of boxed.value) (rows_of entries)
  rows_inserted h = map-insert (λ (b : Box Entry A). row_of b.value) entries i boxed ∙ sym (put_goes key_cmp key_cmp_total (λ (row : SummaryRow). row.key) joined (row_of boxed.value) (rows_of entries) i h)

  pub others_inserted : (key : Key) → is_same_key key boxed.value.key ≡ false → entry_at (insert entries i boxed) key ≡ entry_at entries key
  others_inserted key apart = find-insert_other (λ (b : Box Entry A). is_same_key key b.value.key) entries i boxed apart

  pub closed_inserted : EntriesRise entries → GoesTo key_cmp (λ (row : SummaryRow). row.key) boxed.value.key (rows_of entries) i → IsClosed boxed.value → (key : Key) → is_same_key key boxed.value.key ≡ true → IsClosedAt (insert entries i boxed) key
  closed_inserted rising h closed key same x found =
      let none : entry_at entries boxed.value.key ≡ None = none_unmapped (λ (row : SummaryRow). is_same_key boxed.value.key row.key) (λ (b : Box Entry A). row_of b.value) entries (row_missing entries boxed.value.key i rising h) in
      let none_too : entry_at entries key ≡ None = find_same key_cmp key_cmp_total (λ (b : Box Entry A). b.value.key) key boxed.value.key entries (equal_from_is_eq _ same) ∙ none in
      found_inserted (λ (b : Box Entry A). IsClosed b.value) (λ (b : Box Entry A). is_same_key key b.value.key) entries i boxed x closed none_too found

-- where an entry was put, the entries with greater keys still have their places
module _ {A : Type 0} (old new : List (Box Entry A)) (key : Key) (others : (other : Key) → is_same_key other key ≡ false → entry_at new other ≡ entry_at old other) where
  pub places_left : (more : List (Box Entry A)) → Above key_cmp (λ (row : SummaryRow). row.key) key (rows_of more) → AllHavePlace old more → AllHavePlace new more
  places_left [] above fits = tt
  places_left (boxed ∷ more) above fits =
      let apart : is_same_key boxed.value.key key ≡ false = ap is_eq (key_cmp_total.antisymm boxed.value.key key ∙ ap ordering_reverse above.0) in
      (rw (others boxed.value.key apart) fits.0, places_left more above.1 fits.1)
