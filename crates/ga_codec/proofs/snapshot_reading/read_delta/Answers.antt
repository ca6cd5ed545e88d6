use Rattle.std.proofs.Common.{◌∙◌, Err, ap, sym, subst}
use Rattle.std.proofs.lemmas.Result.{err_from_is_err_and}
use Rattle.ga_codec.specs.declared.fault.CodecFault.{CodecFault}
use Rattle.ga_codec.specs.Steps.Parts.{Cursor, Takes, Refuses}
use Rattle.ga_codec.specs.Steps.Grammar.{delta}
use Rattle.ga_codec.specs.Steps.Shapes.{delta_shape}
use Rattle.ga_codec.proofs.Faults.{one_fault}
use Rattle.ga_codec.proofs.Wholes.{start, is_no_delta, refused_delta}
use Rattle.ga_codec.proofs.snapshot_reading.read_delta.Goals as goal

pub returns-in_err-body-clause-refused : goal.returns-in_err-body-clause-refused
returns-in_err-body-clause-refused c =
    let p = err_from_is_err_and c.from_residual.result c.from_residual.ensures.1 in
    let refused = subst (λ (s : Cursor). Refuses delta s c.in_err-body.field-0.0) c.of-cursor.ensures c.in_err-body.ensures in
    λ at e. refused_delta c.args.bytes.now at (subst (λ (f : CodecFault). Refuses delta (start c.args.bytes.now) f) (sym p.2 ∙ one_fault _ _ _ p.1 e) refused)

pub returns-in_err-summary-clause-refused : goal.returns-in_err-summary-clause-refused
returns-in_err-summary-clause-refused c =
    let p = err_from_is_err_and c.from_residual-in_err-summary.result c.from_residual-in_err-summary.ensures.1 in
    let shape = (delta_shape c.in_ok-body.body) in
    let read = subst (λ (s : Cursor). Takes delta shape s c.read_delta.new.self) c.of-cursor.ensures c.in_ok-body.ensures in
    λ at e.
    let bad = c.in_err-summary.ensures.bad at (ap Err (sym p.2 ∙ one_fault _ _ _ p.1 e)) in
    is_no_delta c.args.bytes.now shape c.read_delta.new.self at read bad.0 (λ none sound good. bad.1 none (record { summary = sound; entries = good }))
