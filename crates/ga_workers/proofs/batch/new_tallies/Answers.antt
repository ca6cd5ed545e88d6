use Rattle.std.proofs.Common.{[], ◌∷◌, ◌∙◌, ap, arith, length, length-append, subst, sym}
use Rattle.std.specs.List.{All}
use Rattle.std.proofs.lemmas.List.Elements.{All-push}
use Rattle.ga_tallies.specs.Tallies.{IsTallyOf}
use Rattle.ga_workers.proofs.Together.{counted-totals, none-counted}
use Rattle.ga_workers.proofs.batch.new_tallies.Goals as goal

pub loop-preserved : goal.loop-preserved
loop-preserved c =
    let before = c.loop.invariant in
    let pushed = c.in_ok-push.ensures.items in
    record {
      len = ap length pushed ∙ omega (arith, length-append c.loop.tallies.items (c.new.result ∷ []), before.len);
      none = subst (All (IsTallyOf [])) (sym pushed) (All-push (IsTallyOf []) c.loop.tallies.items c.new.result before.none c.new.ensures);
    }

pub returns-clause-none : goal.returns-clause-none
returns-clause-none c = none-counted c.loop.tallies.items c.loop.invariant.none

pub returns-clause-totals : goal.returns-clause-totals
returns-clause-totals c = counted-totals [] c.loop.tallies.items (none-counted c.loop.tallies.items c.loop.invariant.none)
