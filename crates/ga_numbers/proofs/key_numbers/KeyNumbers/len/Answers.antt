use Rattle.std.proofs.Common.{subst}
use Rattle.std.specs.List.{IsDistinct}
use Rattle.ga_base.specs.Orders.{is_same_key}
use Rattle.ga_numbers.specs.Steps.KeyPrefixes.{IsKeyPrefix, is_same_prefix, key_at, no_key_prefix}
use Rattle.ga_numbers.proofs.Prefixed.{different-items}
use Rattle.ga_numbers.proofs.Prefixings.{makes-keys}
use Rattle.ga_numbers.proofs.key_numbers.KeyNumbers.len.Goals as goal

pub returns-clause-distinct : goal.returns-clause-distinct
returns-clause-distinct c =
    let inside = c.self.inside in
    subst (IsDistinct is_same_key) c.self.view_is
    (different-items no_key_prefix is_same_prefix is_same_key IsKeyPrefix key_at makes-keys inside.prefixes inside.rows c.self.invariant.different c.self.invariant.plain c.self.invariant.prefixed c.len.ensures.distinct)
