use Rattle.std.proofs.Common.{drop, arith}
use Rattle.std.proofs.lemmas.Result.{err_from_is_err_and}
use Rattle.ga_codec.specs.Steps.Grammar.{panel}
use Rattle.ga_codec.proofs.Going.{refuses_end, refuses_byte}
use Rattle.ga_codec.proofs.Fields.{panel_is_part}
use Rattle.ga_codec.proofs.cursor.Cursor.read_panel.Goals as goal

pub returns-in_err-peek : goal.returns-in_err-peek
returns-in_err-peek c =
    let p = err_from_is_err_and c.from_residual.result c.from_residual.ensures.1 in
    rw (p.1, p.2) (refuses_end panel c.args.self.now c.in_err-peek.field-0.0 panel_is_part (λ _. omega arith) c.in_err-peek.ensures.0 c.in_err-peek.ensures.1)

pub returns-in-None : goal.returns-in-None
returns-in-None c =
    refuses_byte panel c.args.self.now c.fault.result c.in_ok-peek.field-0 (drop 1 c.args.self.now.rest) panel_is_part (λ _. omega arith) (λ a _ e. c.in-None.ensures a e) c.in_ok-peek.ensures c.fault.ensures
