use Rattle.std.proofs.Common.{◌≡◌, ℕ, List, min, subst}
use Rattle.std.proofs.lemmas.Option.{IfSome_then}
use Rattle.ga_line.specs.declared.digits.TheConstants.{TOO_BIG}
use Rattle.ga_line.specs.Records.{AreDigits, decimal_value}
use Rattle.ga_line.proofs.DecimalLemmas.{none-then, none-whole, none-parted, found-parted}
use Rattle.ga_line.proofs.digits.decimal_in.Goals as goal

pub returns-in-None-clause-none : goal.returns-in-None-clause-none
returns-in-None-clause-none c = none-then c.decimal_of.result (none-whole c.args.places c.args.text.now c.in-None.ensures.none) c.decimal_of.ensures.none

pub returns-in-Some-clause-found : goal.returns-in-Some-clause-found
returns-in-Some-clause-found c =
    let cut = c.in-Some.ensures.found in
    let back = c.after_first.ensures 46 cut.0 cut.2 in
    let front = c.in-Some.front.now in
    IfSome_then c.split_decimal_in.result c.split_decimal_in.ensures.found (λ n h.
    found-parted c.args.places c.args.text.now front cut.0 TOO_BIG cut.1 n
    (subst (λ (b : List ℕ). AreDigits front × AreDigits b × (n ≡ min (decimal_value c.args.places front b) TOO_BIG)) back h))

pub returns-in-Some-clause-none : goal.returns-in-Some-clause-none
returns-in-Some-clause-none c =
    let cut = c.in-Some.ensures.found in
    let back = c.after_first.ensures 46 cut.0 cut.2 in
    let front = c.in-Some.front.now in
    none-then c.split_decimal_in.result
    (λ not. none-parted c.args.places c.args.text.now front cut.0 cut.1 (subst (λ (b : List ℕ). AreDigits front → ¬ AreDigits b) back not)) c.split_decimal_in.ensures.none
