-- Which outcomes have a sum: a visitor is counted under keys of the day of the visit alone.
use Rattle.std.specs.Prelude.{◌≡◌, true, List, All}
use Rattle.std.specs.Option.{ForSome}
use Rattle.ga_base.specs.declared.key.Key.{Key}
use Rattle.ga_summary.specs.Outcomes.{Hit, Outcome, has_key, hits_of}

-- the visitor of a counted line, where it has one, is of the day of each of its keys
abbrev pub IsDated : Hit → Type 0
IsDated hit = (key : Key) → has_key key hit ≡ true → ForSome hit.visitor (λ visitor. visitor.date ≡ key.date)

abbrev pub AllDated : List Outcome → Type 0
AllDated outcomes = All IsDated (hits_of outcomes)
