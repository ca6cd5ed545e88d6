use Rattle.std.proofs.Common.{◌≡◌, ◌≢◌, ◌∷◌, List, arith, length, remove, subst, sym, vec_len, ◌∙◌}
use Rattle.std.proofs.lemmas.Bool.{eqb-true, eqb-false}
use Rattle.ga_workers.specs.Together.{totals_in}
use Rattle.ga_logs.proofs.Absorbed.{absorbed-counted, first-fits, first-removed, none-counted}
use Rattle.ga_logs.proofs.Counts.{no-items, tallies-fit}
use Rattle.ga_base.specs.Totals.{TotalsFit}
use Rattle.ga_tallies.specs.Tallies.{AbsorbsAll, TallySeen, totals_from}
use Rattle.ga_logs.proofs.stream_total.total_of.Goals as goal

pub returns-then-is_empty : goal.returns-then-is_empty
returns-then-is_empty g c outcomes are =
    let len : vec_len c.args.tallies ≡ 0 = eqb-true _ _ (sym c.is_empty.ensures ∙ c.if-is_empty.true) in
    let none : length c.args.tallies.items ≡ 0 = omega (arith, len, c.args.tallies.ok) in
    none-counted c.args.tallies.items c.new.result (no-items c.args.tallies.items none) c.new.ensures outcomes are

pub with-requires : goal.with-requires
with-requires g c =
    let some = c.requires.some in
    let first = c.remove-first.result in
    let all = c.args.tallies.items in
    let len : vec_len c.args.tallies ≢ 0 = eqb-false _ _ (sym c.is_empty.ensures ∙ c.if-is_empty.false) in
    let apart : all ≡ first ∷ remove all 0 = first-removed all first c.remove-first.ensures.value (omega (arith, len, c.args.tallies.ok)) in
    let fit : TotalsFit (totals_in (first ∷ remove all 0)) = subst (λ (l : List TallySeen). TotalsFit (totals_in l)) apart (tallies-fit some.0 all some.1 some.2) in
    (c.type_bounds.sync-R, subst (λ (l : List TallySeen). TotalsFit (totals_from first.totals l)) (sym c.remove-first.ensures.items) (first-fits first (remove all 0) fit))

pub returns : goal.returns
returns g c =
    let first = c.remove-first.result in
    let all = c.args.tallies.items in
    let len : vec_len c.args.tallies ≢ 0 = eqb-false _ _ (sym c.is_empty.ensures ∙ c.if-is_empty.false) in
    let apart : all ≡ first ∷ remove all 0 = first-removed all first c.remove-first.ensures.value (omega (arith, len, c.args.tallies.ok)) in
    let absorbs = subst (λ (l : List TallySeen). AbsorbsAll l first c.of.result) c.remove-first.ensures.items (subst (AbsorbsAll c.remove-first.new.self.items first) (sym c.of.ensures) c.in_ok-with.ensures.absorbed) in
    absorbed-counted all first (remove all 0) c.of.result apart absorbs
