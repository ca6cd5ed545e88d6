use Rattle.std.proofs.Common.{◌≡◌, ◌+◌, ◌∷◌, ◌++◌, [], List, ap, sym, subst, ◌∙◌, drop, take, take-append-drop}
use Rattle.std.proofs.lemmas.List.{take_more}
use Rattle.ga_base.specs.Totals.{totals_plus, TotalsFit}
use Rattle.ga_tallies.specs.Tallies.{TallySeen, totals_from}
use Rattle.ga_tallies.proofs.AllTotals.{some-fit, totals-behind}
use Rattle.ga_tallies.proofs.tally_columns.totals_with.Goals as goal

pub plus-totals-requires : goal.plus-totals-requires
plus-totals-requires c =
    let i = c.loop-tally.tally-index in
    let all = c.args.tallies.now in
    let fit : TotalsFit (totals_from c.args.start (take i all)) =
    some-fit c.args.start (take i all) (drop i all) (subst (λ (l : List TallySeen). TotalsFit (totals_from c.args.start l)) (sym (take-append-drop i all)) c.requires.fit) in
    record { fit = (subst TotalsFit (sym c.loop-tally.invariant.value) fit, c.totals.ensures.fit); lines = (c.loop-tally.invariant.lines, c.totals.ensures.lines) }

pub loop-tally-preserved : goal.loop-tally-preserved
loop-tally-preserved c =
    let i = c.loop-tally.tally-index in
    let all = c.args.tallies.now in
    let tally = c.tally-item.result in
    let more : take (i + 1) all ≡ take i all ++ tally ∷ [] = take_more all i tally c.loop-tally-test.true ∙ ap (λ (t : TallySeen). take i all ++ t ∷ []) (sym c.tally-item.is) in
    record {
      value = c.plus-totals.ensures.value ∙ (λ j. totals_plus (c.loop-tally.invariant.value j) (c.totals.ensures.value j)) ∙ sym (totals-behind c.args.start (take i all) tally)
          ∙ ap (totals_from c.args.start) (sym more);
      lines = c.plus-totals.ensures.lines;
    }
