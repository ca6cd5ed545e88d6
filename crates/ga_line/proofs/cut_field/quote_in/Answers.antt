use Rattle.std.proofs.Common.{◌+◌, ◌≤◌, length, subst, sym, arith}
use Rattle.std.specs.Option.{IfNone}
use Rattle.ga_line.specs.Fits.{double_quote, NeverEnds, nothing}
use Rattle.ga_line.proofs.PlaceLemmas.{quote-none, found-within, found-free, found-slash, pair-free, lone-never, end-never}
use Rattle.ga_line.proofs.cut_field.quote_in.Goals as goal

pub loop-from-init : goal.loop-from-init
loop-from-init c = record { passed = λ _. nothing; past = λ past. absurd (omega arith) }

pub returns-in_err-at-clause-none : goal.returns-in_err-at-clause-none
returns-in_err-at-clause-none c =
    let rest = c.args.rest.now in
    let within : c.loop-from.from ≤ length rest = omega arith in
    subst (λ r. IfNone r (NeverEnds double_quote rest)) (sym c.from_residual.ensures)
    (quote-none rest c.loop-from.from within (c.loop-from.invariant.passed within) c.in_err-at.ensures)

pub returns-then-rest-at-eq-QUOTE-clause-first : goal.returns-then-rest-at-eq-QUOTE-clause-first
returns-then-rest-at-eq-QUOTE-clause-first c =
    let within : c.loop-from.from ≤ length c.args.rest.now = omega arith in
    found-free c.args.rest.now c.loop-from.from within (c.loop-from.invariant.passed within) c.in_ok-at.field-0 c.in_ok-at.ensures

pub loop-from-preserved : goal.loop-from-preserved
loop-from-preserved c =
    let rest = c.args.rest.now in
    let from = c.loop-from.from in
    let within : from ≤ length rest = omega arith in
    let passed = c.loop-from.invariant.passed within in
    let at = c.in_ok-at.field-0 in
    let inside = found-within rest from within passed at c.in_ok-at.ensures in
    let free = found-free rest from within passed at c.in_ok-at.ensures in
    let slash = found-slash rest from within passed at c.in_ok-at.ensures c.if-rest-at-eq-QUOTE.false in
    record {
      passed = pair-free rest (from + at) inside free slash;
      past = lone-never rest (from + at) inside free slash;
    }

pub returns-clause-none : goal.returns-clause-none
returns-clause-none c = end-never c.args.rest.now c.loop-from.from c.loop-from.invariant.passed c.loop-from.invariant.past (omega arith)
