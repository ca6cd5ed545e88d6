use Rattle.ga_numbers.specs.Steps.KeyPrefixes.{IsKeyPrefix, is_same_prefix, keys_in}
use Rattle.ga_numbers.specs.Steps.ShardRows.{AreMade}
use Rattle.ga_numbers.specs.Steps.Three.{AllThree}
use Rattle.ga_numbers.proofs.key_numbers.prefixes_and_rows.Given as goal

abbrev pub invariant-loop-keys : goal.invariant-loop-keys
invariant-loop-keys l = AllThree (AreMade is_same_prefix IsKeyPrefix keys_in) l.yielded l.prefixes.items l.rows.items
