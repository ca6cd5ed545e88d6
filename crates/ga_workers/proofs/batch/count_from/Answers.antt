use Rattle.std.proofs.Common.{◌≡◌, ℕ, true, List, Bor, map, ap, ◌∙◌, subst, IfOk, IfSome}
use Rattle.ga_line.specs.Lines.{lines}
use Rattle.ga_workers.specs.Steps.Drawing.{all_lines}
use Rattle.ga_workers.specs.Together.{CountsOn}
use Rattle.ga_workers.proofs.Answers.{same-some}
use Rattle.ga_workers.proofs.batch.count_from.Goals as goal

pub returns-clause-ok : goal.returns-clause-ok
returns-clause-ok g c =
    let setup = c.args.crew.now.setup.now in
    let old = c.args.tallies.items in
    let whole : all_lines (map (λ (piece : Bor (List ℕ)). piece.now) c.deref.result.now) ≡ lines c.args.batch.now true =
    ap (λ (ps : List (Bor (List ℕ))). all_lines (map (λ (piece : Bor (List ℕ)). piece.now) ps)) c.deref.ensures.value ∙ c.in-Ok.ensures.lines in
    same-some c.count_pieces-counted.result.0 c.check_limits.result (λ v. CountsOn setup (lines c.args.batch.now true) old v.items)
    (subst (λ (ls : List (List ℕ)). IfOk c.count_pieces-counted.result.0 (λ answer. IfSome answer (λ v. CountsOn setup ls old v.items))) whole c.count_pieces-counted.ensures.counts)
    c.check_limits.ensures.ok
