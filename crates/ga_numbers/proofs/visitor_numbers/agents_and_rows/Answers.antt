use Rattle.std.proofs.Common.{◌∷◌, ◌++◌, [], List, sym, subst}
use Rattle.ga_base.specs.declared.key.Visitor.{Visitor}
use Rattle.ga_numbers.specs.Steps.ShardRows.{AreMade, is_same_row}
use Rattle.ga_numbers.specs.Steps.Three.{AllThree}
use Rattle.ga_numbers.specs.Steps.VisitorRows.{IsAgent, visitors_in}
use Rattle.ga_numbers.specs.declared.shard_row.ShardRow.{ShardRow}
use Rattle.ga_numbers.proofs.Three.{three-more}
use Rattle.ga_numbers.proofs.visitor_numbers.agents_and_rows.Goals as goal

pub loop-visitors-preserved : goal.loop-visitors-preserved
loop-visitors-preserved c =
    let Made : List Visitor → List ShardRow → List ShardRow → Type 0 = AreMade is_same_row IsAgent visitors_in in
    let before = c.loop-visitors.yielded ++ c.in-Some.visitors ∷ [] in
    let inside = c.visitors.inside in
    subst (λ (l : List (List ShardRow)). AllThree Made before l c.push-in-loop-visitors.new.self.items) (sym c.in_ok-push.ensures.items)
    (subst (λ (l : List (List ShardRow)). AllThree Made before (c.loop-visitors.agents.items ++ inside.agents ∷ []) l) (sym c.in_ok-push-2.ensures.items)
    (three-more Made c.loop-visitors.yielded c.loop-visitors.agents.items c.loop-visitors.rows.items c.in-Some.visitors inside.agents inside.rows c.loop-visitors.invariant
    (record { whole = c.visitors.view_is; parts = c.visitors.invariant })))
