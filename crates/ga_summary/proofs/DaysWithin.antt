-- Where the rows of days sum to more than is allowed.
use Rattle.std.proofs.Common.{◌≡◌, ℕ, ◌+◌, ◌<◌, true, false, List, [], ◌∷◌, ◌++◌, length, get_or, take, drop, take-append-drop, refl, sym, ap, ◌∙◌, subst, arith}
use Rattle.std.proofs.lemmas.List.{map-append}
use Rattle.std.proofs.lemmas.List.Elements.{filter-append}
use Rattle.ga_base.specs.Layers.{is_day}
use Rattle.ga_summary.specs.declared.load.Load.{Load}
use Rattle.ga_summary.specs.declared.summary_parts.PartRow.{PartRow}
use Rattle.ga_summary.specs.SummaryParts.{row_of_part, rows_in}
use Rattle.ga_summary.specs.SummaryRows.{SummaryRow}
use Rattle.ga_summary.specs.Sound.{day_rows}
use Rattle.ga_summary.specs.Steps.Loads.{LoadWithin, load_of, load_plus, sums_load}
use Rattle.ga_summary.proofs.LayerSteps.{load_of-append, load_of-one}
use Rattle.ga_summary.proofs.PartRows.{rows_more}

day_rows-append : (xs ys : List SummaryRow) → day_rows (xs ++ ys) ≡ day_rows xs ++ day_rows ys
day_rows-append xs ys = filter-append (λ (row : SummaryRow). is_day row.key) xs ys

-- what the days sum to is at least what the first of them do
days_grow : (rows : List PartRow) (n : ℕ) (most : Load) → LoadWithin (load_of (day_rows (rows_in rows))) most → LoadWithin (load_of (day_rows (rows_in (take n rows)))) most
days_grow rows n most fits =
    let parts : rows_in rows ≡ rows_in (take n rows) ++ rows_in (drop n rows) = ap rows_in (sym (take-append-drop n rows)) ∙ map-append row_of_part (take n rows) (drop n rows) in
    let sum : load_of (day_rows (rows_in rows)) ≡ load_plus (load_of (day_rows (rows_in (take n rows)))) (load_of (day_rows (rows_in (drop n rows)))) =
    ap (λ (l : List SummaryRow). load_of (day_rows l)) parts ∙ ap load_of (day_rows-append (rows_in (take n rows)) (rows_in (drop n rows))) ∙ load_of-append (day_rows (rows_in (take n rows))) (day_rows (rows_in (drop n rows))) in
    let both : LoadWithin (load_plus (load_of (day_rows (rows_in (take n rows)))) (load_of (day_rows (rows_in (drop n rows))))) most = subst (λ (l : Load). LoadWithin l most) sum fits in
    record { hits = omega (arith, both.hits); bytes = omega (arith, both.bytes); micros = omega (arith, both.micros) }

-- with a day's row they sum to more
pub days_over : (rows : List PartRow) (i : ℕ) (row : PartRow) (sum most : Load) → i < length rows → row ≡ get_or rows i row → is_day row.key ≡ true
    → sum ≡ load_of (day_rows (rows_in (take i rows))) → (LoadWithin (load_plus sum (sums_load row.sums)) most → ⊥) → LoadWithin (load_of (day_rows (rows_in rows))) most → false ≡ true
days_over rows i row sum most within is day sum_is over fits =
    let more : day_rows (rows_in (take (i + 1) rows)) ≡ day_rows (rows_in (take i rows)) ++ row_of_part row ∷ [] =
    ap day_rows (rows_more rows i row within is) ∙ day_rows-append (rows_in (take i rows)) (row_of_part row ∷ []) ∙ rw day refl in
    let load : load_of (day_rows (rows_in (take (i + 1) rows))) ≡ load_plus sum (sums_load row.sums) =
    ap load_of more ∙ load_of-append (day_rows (rows_in (take i rows))) (row_of_part row ∷ []) ∙ (λ j. load_plus (sym sum_is j) (load_of-one (row_of_part row) j)) in
    absurd (over (subst (λ (l : Load). LoadWithin l most) load (days_grow rows (i + 1) most fits)))
