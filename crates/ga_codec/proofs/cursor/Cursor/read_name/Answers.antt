use Rattle.std.proofs.lemmas.Result.{err_from_is_err_and}
use Rattle.ga_codec.specs.Steps.Grammar.{text, name}
use Rattle.ga_codec.proofs.Fields.{name_inner, text_is_part, name_of, name_made}
use Rattle.ga_codec.proofs.Going.{begins, goes_on, fails, fails_here}
use Rattle.ga_codec.proofs.cursor.Cursor.read_name.Goals as goal

pub returns-in_err-host : goal.returns-in_err-host
returns-in_err-host c =
    let p = err_from_is_err_and c.from_residual.result c.from_residual.ensures.1 in
    let a0 = begins name name_inner name_of c.args.self.now name_made in
    rw (p.1, p.2) (fails_here text (λ _. text) c.in_err-host.field-0.0 a0 text_is_part (λ _ _. text_is_part) c.in_err-host.ensures)

pub returns-in_err-agent : goal.returns-in_err-agent
returns-in_err-agent c =
    let p = err_from_is_err_and c.from_residual-in_err-agent.result c.from_residual-in_err-agent.ensures.1 in
    let a0 = begins name name_inner name_of c.args.self.now name_made in
    let a1 = goes_on (λ _. text) a0 text_is_part c.in_ok-host.ensures in
    rw (p.1, p.2) (fails c.in_err-agent.field-0.0 a1 c.in_err-agent.ensures)
