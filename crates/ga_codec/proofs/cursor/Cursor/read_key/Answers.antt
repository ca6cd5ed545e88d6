use Rattle.std.proofs.lemmas.Result.{err_from_is_err_and}
use Rattle.std.specs.Int.{w32}
use Rattle.ga_codec.specs.Steps.Grammar.{number, text, panel, key}
use Rattle.ga_codec.proofs.Fields.{key_inner, key_2, key_3, key_4, key_5, is_key_2, is_key_3, is_key_4, is_key_5, panel_is_part, n32_is_part, text_is_part, key_of, key_made}
use Rattle.ga_codec.proofs.Going.{begins, goes_on, fails, fails_here}
use Rattle.ga_codec.proofs.cursor.Cursor.read_key.Goals as goal

pub returns-in_err-panel : goal.returns-in_err-panel
returns-in_err-panel c =
    let p = err_from_is_err_and c.from_residual.result c.from_residual.ensures.1 in
    let a0 = begins key key_inner key_of c.args.self.now key_made in
    rw (p.1, p.2) (fails_here panel (λ _. key_2) c.in_err-panel.field-0.0 a0 panel_is_part (λ _ _. is_key_2) c.in_err-panel.ensures)

pub returns-in_err-date : goal.returns-in_err-date
returns-in_err-date c =
    let p = err_from_is_err_and c.from_residual-in_err-date.result c.from_residual-in_err-date.ensures.1 in
    let a0 = begins key key_inner key_of c.args.self.now key_made in
    let a1 = goes_on (λ _. key_2) a0 panel_is_part c.in_ok-panel.ensures in
    rw (p.1, p.2) (fails_here (number w32) (λ _. key_3) c.in_err-date.field-0.0 a1 n32_is_part (λ _ _. is_key_3) c.in_err-date.ensures)

pub returns-in_err-parent : goal.returns-in_err-parent
returns-in_err-parent c =
    let p = err_from_is_err_and c.from_residual-in_err-parent.result c.from_residual-in_err-parent.ensures.1 in
    let a0 = begins key key_inner key_of c.args.self.now key_made in
    let a1 = goes_on (λ _. key_2) a0 panel_is_part c.in_ok-panel.ensures in
    let a2 = goes_on (λ _. key_3) a1 n32_is_part c.in_ok-date.ensures in
    rw (p.1, p.2) (fails_here text (λ _. key_4) c.in_err-parent.field-0.0 a2 text_is_part (λ _ _. is_key_4) c.in_err-parent.ensures)

pub returns-in_err-label : goal.returns-in_err-label
returns-in_err-label c =
    let p = err_from_is_err_and c.from_residual-in_err-label.result c.from_residual-in_err-label.ensures.1 in
    let a0 = begins key key_inner key_of c.args.self.now key_made in
    let a1 = goes_on (λ _. key_2) a0 panel_is_part c.in_ok-panel.ensures in
    let a2 = goes_on (λ _. key_3) a1 n32_is_part c.in_ok-date.ensures in
    let a3 = goes_on (λ _. key_4) a2 text_is_part c.in_ok-parent.ensures in
    rw (p.1, p.2) (fails_here text (λ _. key_5) c.in_err-label.field-0.0 a3 text_is_part (λ _ _. is_key_5) c.in_err-label.ensures)

pub returns-in_err-method : goal.returns-in_err-method
returns-in_err-method c =
    let p = err_from_is_err_and c.from_residual-in_err-method.result c.from_residual-in_err-method.ensures.1 in
    let a0 = begins key key_inner key_of c.args.self.now key_made in
    let a1 = goes_on (λ _. key_2) a0 panel_is_part c.in_ok-panel.ensures in
    let a2 = goes_on (λ _. key_3) a1 n32_is_part c.in_ok-date.ensures in
    let a3 = goes_on (λ _. key_4) a2 text_is_part c.in_ok-parent.ensures in
    let a4 = goes_on (λ _. key_5) a3 text_is_part c.in_ok-label.ensures in
    rw (p.1, p.2) (fails_here text (λ _. text) c.in_err-method.field-0.0 a4 text_is_part (λ _ _. text_is_part) c.in_err-method.ensures)

pub returns-in_err-protocol : goal.returns-in_err-protocol
returns-in_err-protocol c =
    let p = err_from_is_err_and c.from_residual-in_err-protocol.result c.from_residual-in_err-protocol.ensures.1 in
    let a0 = begins key key_inner key_of c.args.self.now key_made in
    let a1 = goes_on (λ _. key_2) a0 panel_is_part c.in_ok-panel.ensures in
    let a2 = goes_on (λ _. key_3) a1 n32_is_part c.in_ok-date.ensures in
    let a3 = goes_on (λ _. key_4) a2 text_is_part c.in_ok-parent.ensures in
    let a4 = goes_on (λ _. key_5) a3 text_is_part c.in_ok-label.ensures in
    let a5 = goes_on (λ _. text) a4 text_is_part c.in_ok-method.ensures in
    rw (p.1, p.2) (fails c.in_err-protocol.field-0.0 a5 c.in_err-protocol.ensures)
