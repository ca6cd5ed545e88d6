use Rattle.std.proofs.Common.{refl, sym, subst}
use Rattle.std.specs.List.{All}
use Rattle.ga_numbers.specs.Steps.KeyPrefixes.{IsKeyPrefix, is_same_prefix}
use Rattle.ga_numbers.specs.NotedNumbers.{IsNumbered}
use Rattle.ga_numbers.proofs.Noted.{noted-all}
use Rattle.ga_numbers.proofs.NotedSo.{noted-so}
use Rattle.ga_numbers.proofs.Same.{same-prefix}
use Rattle.ga_numbers.proofs.key_prefix.prefix_among.Goals as goal

pub returns-clause-ok : goal.returns-clause-ok
returns-clause-ok c =
    let told = c.in_ok-number.ensures in
    subst (λ prefix. IsNumbered is_same_prefix prefix c.in_ok-number.number c.args.prefixes.now c.note.new.items) c.in_ok-prefix_from.ensures
    (noted-so is_same_prefix same-prefix c.in_ok-prefix_from.field-0 c.in_ok-number.number c.args.prefixes.now c.note.new.items told.value told.noted told.known)

pub returns-clause-plain : goal.returns-clause-plain
returns-clause-plain c = λ plain.
    subst (All IsKeyPrefix) (sym c.in_ok-number.ensures.noted) (noted-all is_same_prefix IsKeyPrefix c.args.prefixes.now c.in_ok-prefix_from.field-0 plain (subst IsKeyPrefix (sym c.in_ok-prefix_from.ensures) (refl, refl)))
