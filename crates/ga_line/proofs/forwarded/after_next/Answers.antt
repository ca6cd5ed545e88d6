use Rattle.std.proofs.Common.{List, [], ℕ, ◌≡◌, ◌-◌, length, take, drop, take_all, length-drop, sym, subst, arith}
use Rattle.std.specs.Option.{IfNone}
use Rattle.bstr.specs.Bytes.{not_in}
use Rattle.memchr.specs.Find.{IsFirstByte}
use Rattle.ga_line.specs.Steps.Forwarding.{BeginsAddress, IsNextAddress}
use Rattle.ga_line.proofs.ChainLemmas.{next-none, next-found, begins-some}
use Rattle.ga_line.proofs.SeparatorLemmas.{gap-run, all-gap}
use Rattle.ga_line.proofs.forwarded.after_next.Goals as goal

pub returns-in_err-gap-clause-none : goal.returns-in_err-gap-clause-none
returns-in_err-gap-clause-none c =
    let separators = c.args.separators.now in
    let rest = c.args.rest.now in
    let none = subst (λ r. IsFirstByte (not_in separators) rest r) c.in_err-gap.was c.find_not_byteset.ensures in
    subst (λ r. IfNone r ((next : List ℕ) → ¬ IsNextAddress separators rest next)) (sym c.from_residual.ensures)
    (next-none separators rest rest [] (all-gap separators rest none) (begins-some separators))

pub returns-in_err-next-clause-none : goal.returns-in_err-next-clause-none
returns-in_err-next-clause-none c =
    let separators = c.args.separators.now in
    let rest = c.args.rest.now in
    let gap = c.in_ok-gap.gap in
    let first = subst (λ r. IsFirstByte (not_in separators) rest r) c.in_ok-gap.was c.find_not_byteset.ensures in
    let whole : take (length rest - gap) (drop gap rest) ≡ drop gap rest = take_all (length rest - gap) (drop gap rest) (omega (arith, length-drop gap rest)) in
    subst (λ r. IfNone r ((next : List ℕ) → ¬ IsNextAddress separators rest next)) (sym c.from_residual-in_err-next.ensures)
    (next-none separators rest (take gap rest) (drop gap rest) (gap-run separators rest gap first)
    (subst (λ (t : List ℕ). (host after : List ℕ) → ¬ BeginsAddress separators t host after) whole c.in_err-next.ensures.none))

pub returns-clause-found : goal.returns-clause-found
returns-clause-found c =
    let separators = c.args.separators.now in
    let rest = c.args.rest.now in
    let gap = c.in_ok-gap.gap in
    let first = subst (λ r. IsFirstByte (not_in separators) rest r) c.in_ok-gap.was c.find_not_byteset.ensures in
    let whole : take (length rest - gap) (drop gap rest) ≡ drop gap rest = take_all (length rest - gap) (drop gap rest) (omega (arith, length-drop gap rest)) in
    next-found separators rest (take gap rest) (drop gap rest) c.in_ok-next.field-0-0.now c.in_ok-next.next.now c.requires (gap-run separators rest gap first)
    (subst (λ (t : List ℕ). BeginsAddress separators t c.in_ok-next.field-0-0.now c.in_ok-next.next.now) whole c.in_ok-next.ensures.found)
