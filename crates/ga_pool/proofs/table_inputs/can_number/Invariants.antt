use Rattle.std.proofs.Common.{◌≡◌, ◌≤◌, ◌⊎◌, length, take}
use Rattle.std.specs.List.{sum_by}
use Rattle.ga_pool.proofs.table_inputs.can_number.Given as goal

abbrev pub invariant-loop-dictionary : goal.invariant-loop-dictionary
invariant-loop-dictionary g l = (sum_by (λ items. length items) (take l.dictionary-index l.dictionaries) ≡ l.items) ⊎ (4294967295 ≤ l.items)
