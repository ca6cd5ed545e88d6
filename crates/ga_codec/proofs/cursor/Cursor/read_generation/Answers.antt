use Rattle.std.proofs.Common.{ℕ, ◌-◌, drop, ap, arith}
use Rattle.std.proofs.lemmas.Result.{err_from_is_err_and}
use Rattle.ga_codec.specs.Steps.Grammar.{generation}
use Rattle.ga_codec.proofs.Going.{refuses_end, refuses_byte}
use Rattle.ga_codec.proofs.Starts.{generation_is_part}
use Rattle.ga_codec.proofs.Generations.{first_byte, refuses_zero, refuses_short}
use Rattle.ga_codec.proofs.cursor.Cursor.read_generation.Goals as goal

pub returns-in_err-peek : goal.returns-in_err-peek
returns-in_err-peek c =
    let p = err_from_is_err_and c.from_residual.result c.from_residual.ensures.1 in
    rw (p.1, p.2) (refuses_end generation c.args.self.now c.in_err-peek.field-0.0 generation_is_part (λ _. omega arith) c.in_err-peek.ensures.0 c.in_err-peek.ensures.1)

pub returns-then-branch-gt-MOST_FIRST : goal.returns-then-branch-gt-MOST_FIRST
returns-then-branch-gt-MOST_FIRST c =
    let high = c.if-branch-gt-MOST_FIRST.true in
    refuses_byte generation c.args.self.now c.fault.result c.in_ok-peek.field-0 (drop 1 c.args.self.now.rest) generation_is_part (λ _. omega arith)
    (λ g f e. omega (arith, high, first_byte g c.in_ok-peek.field-0 f e)) c.in_ok-peek.ensures c.fault.ensures

pub returns-in_err-generation : goal.returns-in_err-generation
returns-in_err-generation c =
    let p = err_from_is_err_and c.from_residual-in_err-generation.result c.from_residual-in_err-generation.ensures.1 in
    rw (p.1, p.2) (refuses_short c.args.self.now c.in_err-generation.field-0.0 c.in_ok-peek.field-0 (drop 1 c.args.self.now.rest) c.in_ok-peek.ensures c.if-branch-gt-MOST_FIRST.false c.in_err-generation.ensures)

pub returns-then-generation-eq0 : goal.returns-then-generation-eq0
returns-then-generation-eq0 c =
    refuses_zero c.args.self.now c.read_u64.new.self c.in_ok-generation.generation (c.place-last.result - 1) c.in_ok-generation.ensures c.if-generation-eq0.true (ap (λ (n : ℕ). n - 1) c.place-last.ensures)
