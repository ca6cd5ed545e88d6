use Rattle.std.specs.Int.{w32, from_be_bytes}
use Rattle.std.proofs.lemmas.Result.{err_from_is_err_and}
use Rattle.ga_codec.specs.Steps.Grammar.{number}
use Rattle.ga_codec.proofs.Going.{begins, fails}
use Rattle.ga_codec.proofs.Numbers.{number_made, wide32}
use Rattle.ga_codec.proofs.cursor.Cursor.read_u32.Goals as goal

pub returns-in_err-read_array : goal.returns-in_err-read_array
returns-in_err-read_array c =
    let p = err_from_is_err_and c.from_residual.result c.from_residual.ensures.1 in
    rw (p.1, p.2) (fails c.in_err-read_array.field-0.0 (begins (number w32) _ (from_be_bytes w32) c.args.self.now (number_made w32 wide32)) c.in_err-read_array.ensures)
