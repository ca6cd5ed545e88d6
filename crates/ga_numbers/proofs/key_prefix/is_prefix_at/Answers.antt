use Rattle.std.proofs.Common.{Some, ap, ◌∙◌}
use Rattle.ga_numbers.specs.Steps.KeyPrefixes.{prefix_of, is_same_prefix}
use Rattle.ga_numbers.proofs.NotedSo.{stands-so}
use Rattle.ga_numbers.proofs.Same.{prefix-laws}
use Rattle.ga_numbers.proofs.key_prefix.is_prefix_at.Goals as goal

pub returns-then-number-len : goal.returns-then-number-len
returns-then-number-len c = λ is.
    stands-so is_same_prefix prefix-laws (prefix_of c.args.key.now) c.args.number c.args.prefixes.now c.len.ensures.distinct (c.item.ensures ∙ ap Some (c.is_prefix.ensures is))
