use Rattle.std.proofs.Common.{ℕ, ◌-◌, ◌++◌, ◌∷◌, [], min, take, refl, ap, ◌∙◌}
use Rattle.ga_line.specs.declared.digits.TheConstants.{TOO_BIG}
use Rattle.ga_line.proofs.DecimalLemmas.{all-front, decimals-are}
use Rattle.ga_line.proofs.digits.decimal_of.Goals as goal

pub with_digits-number-requires-clause-digits : goal.with_digits-number-requires-clause-digits
with_digits-number-requires-clause-digits c = all-front c.args.back.now c.min-there.result c.requires.digits

pub with_digits-requires-clause-digits : goal.with_digits-requires-clause-digits
with_digits-requires-clause-digits c = all-front (48 ∷ 48 ∷ 48 ∷ 48 ∷ 48 ∷ 48 ∷ []) (c.args.places - c.min-there.result) refl

pub returns-clause-found : goal.returns-clause-found
returns-clause-found c =
    let front = c.args.front.now in
    let back = take c.min-there.result c.args.back.now in (
      c.in_ok-units.ensures.found.0,
      c.with_digits.ensures.value (front ++ back) (c.with_digits-number.ensures.value front c.in_ok-units.ensures.found.1)
          ∙ ap (λ (v : ℕ). min v TOO_BIG) (decimals-are c.args.places front c.args.back.now c.min-there.result c.min-there.ensures c.requires.places c.requires.digits),
    )
