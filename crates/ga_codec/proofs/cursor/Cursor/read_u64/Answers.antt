use Rattle.std.proofs.Common.{ℕ, sym, subst}
use Rattle.std.specs.Int.{w64, from_be_bytes}
use Rattle.std.proofs.lemmas.Result.{err_from_is_err_and}
use Rattle.ga_codec.specs.Steps.Parts.{Takes}
use Rattle.ga_codec.specs.Steps.Grammar.{number}
use Rattle.ga_codec.proofs.Going.{begins, ends, fails}
use Rattle.ga_codec.proofs.Numbers.{number_made, wide64}
use Rattle.ga_codec.proofs.cursor.Cursor.read_u64.Goals as goal

pub returns-in_err-read_array : goal.returns-in_err-read_array
returns-in_err-read_array c =
    let p = err_from_is_err_and c.from_residual.result c.from_residual.ensures.1 in
    rw (p.1, p.2) (fails c.in_err-read_array.field-0.0 (begins (number w64) _ (from_be_bytes w64) c.args.self.now (number_made w64 wide64)) c.in_err-read_array.ensures)

pub returns : goal.returns
returns c =
    let read = ends (begins (number w64) _ (from_be_bytes w64) c.args.self.now (number_made w64 wide64)) c.in_ok-read_array.ensures in
    subst (λ (n : ℕ). Takes (number w64) n c.args.self.now c.read_array.new.self) (sym c.from_be_bytes.ensures) read
