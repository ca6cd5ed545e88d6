use Rattle.std.proofs.Common.{Bool, true, Some, sym, subst}
use Rattle.std.proofs.lemmas.Result.{err_from_is_err_and}
use Rattle.std.specs.Int.{w32}
use Rattle.ga_codec.specs.Steps.Parts.{Refuses}
use Rattle.ga_codec.specs.Steps.Grammar.{keep_of, number}
use Rattle.ga_codec.proofs.Going.{begins, fails}
use Rattle.ga_codec.proofs.Starts.{keep_made}
use Rattle.ga_codec.proofs.cursor.Cursor.read_keep.Goals as goal

pub returns-in_err-keep : goal.returns-in_err-keep
returns-in_err-keep c =
    let p = err_from_is_err_and c.from_residual.result c.from_residual.ensures.1 in
    let fault = c.in_err-keep.field-0.0 in
    let refused = fails fault (begins (keep_of true) (number w32) Some c.args.self.now keep_made) c.in_err-keep.ensures in
    rw (p.1, p.2) (subst (λ (b : Bool). Refuses (keep_of b) c.args.self.now fault) (sym c.if-not-has_keep.false) refused)
