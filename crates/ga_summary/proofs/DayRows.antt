-- The row of a day, searched by panel, date and parent.
use Rattle.std.proofs.Common.{◌≡◌, ℕ, ◌<◌, Result, Ok, Err, MatchResult, List, [], ◌∷◌, Some, None, Less, Equal, Greater, inl, inr, length, get_or, refl, sym, ap, ◌∙◌, subst, arith}
use Rattle.std.specs.declared.cmp.Ordering.{Ordering}
use Rattle.std.specs.Ordering.{MatchOrdering, nat_cmp, ordering_then}
use Rattle.std.specs.Cmp.{ranks}
use Rattle.std.specs.List.{All}
use Rattle.std.specs.List.Sorted.{IsSearchInRange, IsBinarySearchResult}
use Rattle.std.proofs.lemmas.Cmp.{nat_cmp_total, tied_itself}
use Rattle.std.proofs.lemmas.List.{length-map}
use Rattle.std.proofs.lemmas.Map.Lookups.{exact_unsigned}
use Rattle.ga_base.specs.declared.key.Key.{Key}
use Rattle.ga_base.specs.declared.panel.Panel.TheVariants.{Visitors}
use Rattle.ga_base.specs.Days.{eight_digits}
use Rattle.ga_base.specs.Layers.{HasForm, IsDayOrPart, day_key}
use Rattle.ga_base.specs.Orders.{key_cmp, text_cmp}
use Rattle.ga_base.specs.Panels.{panel_number}
use Rattle.ga_base.proofs.OrderLemmas.{key_cmp_total, panel_number_exact}
use Rattle.ga_summary.specs.declared.summary_parts.PartRow.{PartRow}
use Rattle.ga_summary.specs.SummaryParts.{row_of_part, rows_in}
use Rattle.ga_summary.specs.SummaryRows.{SummaryRow, row_at}
use Rattle.ga_summary.specs.Steps.Passing.{day_cmp}
use Rattle.ga_summary.specs.Steps.Places.{StandsAt, GoesTo}
use Rattle.ga_summary.proofs.Put.{searched_map, find_stands, find_goes, read_map, get_or-map_at}
use Rattle.ga_summary.proofs.PartRows.{KeysRise}

-- what a search answers by an order it answers by another that is the same at each item
module _ {X : Type 0} (f g : X → Ordering) (xs : List X) (same : (k : ℕ) (d : X) → k < length xs → f (get_or xs k d) ≡ g (get_or xs k d)) where
  pub searched_same : (r : Result ℕ ℕ) → IsSearchInRange r (length xs) → IsBinarySearchResult f xs r → IsBinarySearchResult g xs r
  searched_same (Ok i) within found = λ d. sym (same i d within) ∙ found d
  searched_same (Err i) within parted = λ rises.
      let parts = parted (λ a b d le lt. rw (same a d (omega arith), same b d lt) (rises a b d le lt)) in
      ((λ k d low high. sym (same k d (omega arith)) ∙ parts.0 k d low high), (λ k d low high. sym (same k d high) ∙ parts.1 k d low high))

-- a key of VISITORS in its form that has no parent is its day's
pub day_key_is : (key : Key) → HasForm key → key.panel ≡ Visitors → key.parent ≡ [] → key ≡ day_key key.date
day_key_is key form visitors none =
    let rest = form.request (rw visitors) in
    λ i. record { panel = visitors i; date = key.date; parent = none i; label = day_label (form.visit visitors) i; method = rest.0 i; protocol = rest.1 i }
  where
    day_label : IsDayOrPart key.date key.parent key.label → key.label ≡ eight_digits key.date
    day_label (inl day) = day.1
    day_label (inr part) = let clash : [] ≡ eight_digits key.date = sym none ∙ part.0 in cc

by_three : (a b c t whole : Ordering) → whole ≡ ordering_then a (ordering_then b (ordering_then c t)) → (a ≡ Equal → b ≡ Equal → c ≡ Equal → whole ≡ Equal)
    → ordering_then a (ordering_then b c) ≡ whole
by_three Less b c t whole e same = sym e
by_three Equal Less c t whole e same = sym e
by_three Equal Equal Less t whole e same = sym e
by_three Equal Equal Equal t whole e same = sym (same refl refl refl)
by_three Equal Equal Greater t whole e same = sym e
by_three Equal Greater c t whole e same = sym e
by_three Greater b c t whole e same = sym e

no_parent : (parent : List ℕ) → text_cmp parent [] ≡ Equal → parent ≡ []
no_parent [] e = refl
no_parent (b ∷ parent) e = cc

-- so a key in its form is ordered beside a day's by panel, date and parent
pub day_cmp_is : (key : Key) (date : ℕ) → HasForm key → day_cmp key date ≡ key_cmp key (day_key date)
unfolding key_cmp
day_cmp_is key date form =
    by_three (nat_cmp (panel_number key.panel) 0) (nat_cmp key.date date) (text_cmp key.parent []) _ (key_cmp key (day_key date)) refl (λ panel day parent.
    let visitors : key.panel ≡ Visitors = panel_number_exact key.panel Visitors (exact_unsigned _ _ panel) in
    let is : key ≡ day_key date = day_key_is key form visitors (no_parent key.parent parent) ∙ ap day_key (exact_unsigned key.date date day) in
    ap (λ (k : Key). key_cmp k (day_key date)) is ∙ tied_itself key_cmp_total (day_key date))

-- no key is below its day's in this order
pub day_not_less : (key : Key) → day_cmp key key.date ≡ Less → ⊥
day_not_less key less =
    not_less (nat_cmp (panel_number key.panel) 0) (nat_cmp key.date key.date) (text_cmp key.parent []) (nothing_below (panel_number key.panel))
    (λ e. let clash : Less ≡ Equal = sym e ∙ tied_itself nat_cmp_total key.date in cc) (no_text_below key.parent) less
  where
    not_less : (a b c : Ordering) → (a ≡ Less → ⊥) → (b ≡ Less → ⊥) → (c ≡ Less → ⊥) → ordering_then a (ordering_then b c) ≡ Less → ⊥
    not_less Less b c x y z e = x refl
    not_less Equal Less c x y z e = y refl
    not_less Equal Equal c x y z e = z e
    not_less Equal Greater c x y z e = cc
    not_less Greater b c x y z e = cc

    nothing_below : (n : ℕ) → nat_cmp n 0 ≡ Less → ⊥
    nothing_below n e = let below : n < 0 = subst (λ (o : Ordering). MatchOrdering o (n < 0) (n ≡ 0) (0 < n)) e (ranks n 0) in omega (arith, below)

    no_text_below : (text : List ℕ) → text_cmp text [] ≡ Less → ⊥
    no_text_below [] e = cc
    no_text_below (b ∷ text) e = cc

module _ (rows : List PartRow) (date : ℕ) (rising : KeysRise (rows_in rows)) (formed : All (λ (row : SummaryRow). HasForm row.key) (rows_in rows)) where
  pub day_searched : (r : Result ℕ ℕ) → IsSearchInRange r (length rows) → IsBinarySearchResult (λ (row : PartRow). day_cmp row.key date) rows r
      → MatchResult r (StandsAt key_cmp (λ (row : SummaryRow). row.key) (day_key date) (rows_in rows)) (GoesTo key_cmp (λ (row : SummaryRow). row.key) (day_key date) (rows_in rows))
  day_searched r within found =
      let same = λ (k : ℕ) (d : PartRow) (lt : k < length rows). day_cmp_is (get_or rows k d).key date
      (subst (λ (row : SummaryRow). HasForm row.key) (get_or-map_at key_cmp (λ (row : SummaryRow). row.key) row_of_part rows k d (row_of_part d) lt) (formed k (row_of_part d) (omega (arith, lt, length-map rows row_of_part)))) in
      searched_map key_cmp (λ (row : SummaryRow). row.key) row_of_part key_cmp_total (day_key date) rows r rising within
      (searched_same (λ (row : PartRow). day_cmp row.key date) (λ (row : PartRow). key_cmp row.key (day_key date)) rows same r within found)

module _ (rows : List PartRow) (key : Key) (i : ℕ) where
  pub part_found : (part : PartRow) → StandsAt key_cmp (λ (row : SummaryRow). row.key) key (rows_in rows) i → part ≡ get_or rows i part → row_at (rows_in rows) key ≡ Some (row_of_part part)
  part_found part h e =
      find_stands key_cmp key_cmp_total (λ (row : SummaryRow). row.key) key (rows_in rows) i (row_of_part part) h
      ∙ ap Some (read_map key_cmp (λ (row : SummaryRow). row.key) row_of_part rows i part (omega (arith, h.within, length-map rows row_of_part)) e)

  pub part_missing : KeysRise (rows_in rows) → GoesTo key_cmp (λ (row : SummaryRow). row.key) key (rows_in rows) i → row_at (rows_in rows) key ≡ None
  part_missing s h = find_goes key_cmp key_cmp_total (λ (row : SummaryRow). row.key) key (rows_in rows) i s h
