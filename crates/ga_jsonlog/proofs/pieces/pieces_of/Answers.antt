use Rattle.std.proofs.Common.{◌≡◌, ◌∙◌, ◌≤◌, Option, length, map, take, ap, subst, arith, MatchOption}
use Rattle.std.proofs.lemmas.List.{take_all}
use Rattle.serde_json.specs.Data.{Data, Members, object}
use Rattle.serde_json.specs.View.{view}
use Rattle.serde_json.specs.declared.value.Value.{Value}
use Rattle.ga_jsonlog.specs.Objects.{IsObject}
use Rattle.ga_jsonlog.specs.Pieces.{piece_at}
use Rattle.ga_jsonlog.proofs.pieces.pieces_of.Goals as goal

pub returns : goal.returns
returns c =
    let line = c.args.line.now in
    let leaves = c.leaves-leaves.result.now in
    let found = subst (λ (read : Option Value). MatchOption read ((ms : Members) → ¬ IsObject line ms) (λ value. (ms : Members) × (view value ≡ object ms) × IsObject line ms)) c.in-Some.is c.in_ok-value.ensures in
    let past : length leaves ≤ c.loop-leaf.leaf-index = omega (arith, c.loop-leaf-test.false) in (
      found.0,
      found.2,
      c.from.ensures ∙ (c.loop-leaf.invariant.pieces ∙ (ap (λ (v : Value). map (piece_at (view v)) (take c.loop-leaf.leaf-index leaves)) c.loop-leaf.invariant.value ∙ (ap (map (piece_at (view c.in-Some.value))) (take_all c.loop-leaf.leaf-index leaves past)
          ∙ (ap (λ (d : Data). map (piece_at d) leaves) found.1 ∙ ap (map (piece_at (object found.0))) c.leaves-leaves.ensures)))),
    )
