-- The rows of parts up to a place, and the row there.
use Rattle.std.proofs.Common.{◌≡◌, ℕ, ◌+◌, ◌-◌, ◌<◌, ◌≤◌, List, [], ◌∷◌, ◌++◌, true, Less, Equal, Greater, length, get_or, take, is_lt, length-take, get_or-take, refl, sym, ap, ◌∙◌, subst, arith}
use Rattle.std.specs.declared.cmp.Ordering.{Ordering}
use Rattle.std.proofs.lemmas.Bool.{false≢true}
use Rattle.std.proofs.lemmas.List.{length-map, map-append, take_more}
use Rattle.ga_base.specs.Orders.{key_cmp}
use Rattle.ga_base.proofs.OrderLemmas.{key_cmp_total}
use Rattle.ga_summary.specs.declared.summary_parts.PartRow.{PartRow}
use Rattle.ga_summary.specs.SummaryParts.{row_of_part, rows_in}
use Rattle.ga_summary.specs.SummaryRows.{SummaryRow}
use Rattle.ga_summary.specs.Steps.Places.{Rises}
use Rattle.ga_summary.proofs.Put.{rises_none, rises_cons, get_or-map_at}
use Rattle.ga_summary.proofs.Rising.{rises_push, below_from_push, below_above_last}

pub less_from_is_lt : (o : Ordering) → is_lt o ≡ true → o ≡ Less
less_from_is_lt Less e = refl
less_from_is_lt Equal e = absurd (false≢true e)
less_from_is_lt Greater e = absurd (false≢true e)

-- the keys of rows rise
abbrev pub KeysRise : List SummaryRow → Type 0
KeysRise rows = Rises key_cmp (λ (row : SummaryRow). row.key) rows

pub one_rises : (rows : List PartRow) (at : ℕ) → at ≡ 0 → KeysRise (rows_in (take (at + 1) rows))
one_rises rows at e = rw e (go rows)
  where
    go : (rows : List PartRow) → KeysRise (rows_in (take 1 rows))
    go [] = rises_none key_cmp (λ (row : SummaryRow). row.key)
    go (row ∷ rows) = rises_cons key_cmp (λ (row : SummaryRow). row.key) (row_of_part row) [] tt (rises_none key_cmp (λ (row : SummaryRow). row.key))

module _ (rows : List PartRow) (at : ℕ) (row : PartRow) (within : at < length rows) (is : row ≡ get_or rows at row) where
  pub rows_more : rows_in (take (at + 1) rows) ≡ rows_in (take at rows) ++ row_of_part row ∷ []
  rows_more = ap rows_in (take_more rows at row within) ∙ map-append row_of_part (take at rows) (get_or rows at row ∷ []) ∙ ap (λ (r : PartRow). rows_in (take at rows) ++ row_of_part r ∷ []) (sym is)

  size : length (rows_in (take at rows)) ≡ at
  size = omega (arith, length-map (take at rows) row_of_part, length-take at rows)

  -- beside the row before it
  module _ (prev : PartRow) (prev_is : prev ≡ get_or rows (at - 1) prev) (later : 1 ≤ at) where
    last_read : (d : SummaryRow) → get_or (rows_in (take at rows)) (at - 1) d ≡ row_of_part prev
    last_read d =
        get_or-map_at key_cmp (λ (r : SummaryRow). r.key) row_of_part (take at rows) (at - 1) prev d (omega (arith, length-take at rows))
        ∙ ap row_of_part (get_or-take at rows (at - 1) prev (omega arith) ∙ sym prev_is)

    pub rises_from_last : KeysRise (rows_in (take at rows)) → is_lt (key_cmp prev.key row.key) ≡ true → KeysRise (rows_in (take (at + 1) rows))
    rises_from_last rising less =
        let below = below_above_last key_cmp (λ (r : SummaryRow). r.key) key_cmp_total (rows_in (take at rows)) (at - 1) row.key rising (omega (arith, size)) (λ d. rw (last_read d) (less_from_is_lt _ less)) in
        subst KeysRise (sym rows_more) (rises_push key_cmp (λ (r : SummaryRow). r.key) (rows_in (take at rows)) (row_of_part row) rising below)

    pub last_from_rises : KeysRise (rows_in (take (at + 1) rows)) → is_lt (key_cmp prev.key row.key) ≡ true
    last_from_rises rising =
        let below = below_from_push key_cmp (λ (r : SummaryRow). r.key) (rows_in (take at rows)) (row_of_part row) (subst KeysRise rows_more rising) in
        ap is_lt (rw (last_read (row_of_part prev)) at (below (at - 1) (row_of_part prev) (omega (arith, size))))
