use Rattle.std.proofs.Common.{◌∙◌, sym, arith}
use Rattle.ga_dbtool.proofs.Sharing.{all-passed, found-first, none-yet, one-more, item-at, none-found}
use Rattle.ga_dbtool.proofs.shared.first_shared.Goals as goal

pub loop-at-init : goal.loop-at-init
loop-at-init c = record { within = omega arith; none = none-yet c.args.left.now c.args.right.now }

pub returns-in-Some : goal.returns-in-Some
returns-in-Some c =
    let x = c.index-left-at.result in
    found-first c.args.left.now c.args.right.now c.loop-at.at c.in-Some.other x (item-at c.args.left.now c.loop-at.at x c.loop-at-test.true c.index-left-at.is)
    (sym c.place_of.ensures ∙ c.in-Some.is) c.loop-at.invariant.none

pub loop-at-preserved : goal.loop-at-preserved
loop-at-preserved c =
    let x = c.index-left-at.result in
    record {
      within = omega (arith, c.loop-at-test.true);
      none = one-more c.args.left.now c.args.right.now c.loop-at.at x (item-at c.args.left.now c.loop-at.at x c.loop-at-test.true c.index-left-at.is)
          (none-found _ (λ i e. c.in_default.not-Some i (c.place_of.ensures ∙ e))) c.loop-at.invariant.none;
    }

pub returns : goal.returns
returns c = all-passed c.args.left.now c.args.right.now c.loop-at.at (omega (arith, c.loop-at-test.false)) c.loop-at.invariant.none
