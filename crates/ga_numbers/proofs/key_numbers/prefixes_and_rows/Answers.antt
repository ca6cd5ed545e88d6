use Rattle.std.proofs.Common.{◌∷◌, ◌++◌, [], List, sym, subst}
use Rattle.ga_base.specs.declared.key.Key.{Key}
use Rattle.ga_numbers.specs.Steps.KeyPrefixes.{IsKeyPrefix, is_same_prefix, keys_in}
use Rattle.ga_numbers.specs.Steps.ShardRows.{AreMade}
use Rattle.ga_numbers.specs.Steps.Three.{AllThree}
use Rattle.ga_numbers.specs.declared.shard_row.ShardRow.{ShardRow}
use Rattle.ga_numbers.proofs.Three.{three-more}
use Rattle.ga_numbers.proofs.key_numbers.prefixes_and_rows.Goals as goal

pub loop-keys-preserved : goal.loop-keys-preserved
loop-keys-preserved c =
    let Made : List Key → List Key → List ShardRow → Type 0 = AreMade is_same_prefix IsKeyPrefix keys_in in
    let before = c.loop-keys.yielded ++ c.in-Some.keys ∷ [] in
    let inside = c.keys.inside in
    subst (λ (l : List (List Key)). AllThree Made before l c.push-in-loop-keys.new.self.items) (sym c.in_ok-push.ensures.items)
    (subst (λ (l : List (List ShardRow)). AllThree Made before (c.loop-keys.prefixes.items ++ inside.prefixes ∷ []) l) (sym c.in_ok-push-2.ensures.items)
    (three-more Made c.loop-keys.yielded c.loop-keys.prefixes.items c.loop-keys.rows.items c.in-Some.keys inside.prefixes inside.rows c.loop-keys.invariant
    (record { whole = c.keys.view_is; parts = c.keys.invariant })))
