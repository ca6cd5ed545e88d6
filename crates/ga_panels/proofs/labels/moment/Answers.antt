use Rattle.std.proofs.Common.{◌<◌, ◌∷◌, [], arith}
use Rattle.std.specs.List.{AllByRecursion}
use Rattle.ga_panels.proofs.Moments.{ascii-all}
use Rattle.ga_panels.proofs.labels.moment.Goals as goal

pub invariant_of-result : goal.invariant_of-result
invariant_of-result c =
    let bytes = c.digit.result ∷ c.digit-2.result ∷ c.digit-3.result ∷ c.digit-4.result ∷ c.digit-5.result ∷ c.digit-6.result ∷ c.digit-7.result ∷ c.digit-8.result ∷ c.first_digit.result ∷ c.digit-9.result ∷ c.first_digit-2.result ∷ c.digit-10.result ∷ [] in
    let small : AllByRecursion (λ b. b < 128) bytes = (omega (arith, c.digit.ensures), (omega (arith, c.digit-2.ensures), (omega (arith, c.digit-3.ensures), (omega (arith, c.digit-4.ensures), (omega (arith, c.digit-5.ensures), (omega (arith, c.digit-6.ensures), (omega (arith, c.digit-7.ensures), (omega (arith, c.digit-8.ensures), (omega (arith, c.first_digit.ensures.small), (omega (arith, c.digit-9.ensures), (omega (arith, c.first_digit-2.ensures.small), (omega (arith, c.digit-10.ensures), tt)))))))))))) in
    ascii-all bytes small
