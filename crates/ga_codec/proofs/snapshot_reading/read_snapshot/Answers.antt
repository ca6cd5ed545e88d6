use Rattle.std.proofs.Common.{◌∙◌, Err, ap, sym, subst}
use Rattle.std.proofs.lemmas.Result.{err_from_is_err_and}
use Rattle.ga_codec.specs.declared.fault.CodecFault.{CodecFault}
use Rattle.ga_codec.specs.Steps.Parts.{Cursor, Takes, Refuses}
use Rattle.ga_codec.specs.Steps.Grammar.{snapshot}
use Rattle.ga_codec.specs.Steps.Shapes.{snapshot_shape}
use Rattle.ga_codec.proofs.Faults.{one_fault}
use Rattle.ga_codec.proofs.Wholes.{start, is_no_snapshot, refused_snapshot}
use Rattle.ga_codec.proofs.snapshot_reading.read_snapshot.Goals as goal

pub returns-in_err-start-clause-refused : goal.returns-in_err-start-clause-refused
returns-in_err-start-clause-refused c =
    let p = err_from_is_err_and c.from_residual.result c.from_residual.ensures.1 in
    let refused = subst (λ (s : Cursor). Refuses snapshot s c.in_err-start.field-0.0) c.of-cursor.ensures c.in_err-start.ensures in
    λ at e. refused_snapshot c.args.bytes.now at (subst (λ (f : CodecFault). Refuses snapshot (start c.args.bytes.now) f) (sym p.2 ∙ one_fault _ _ _ p.1 e) refused)

pub returns-in_err-summary-clause-refused : goal.returns-in_err-summary-clause-refused
returns-in_err-summary-clause-refused c =
    let p = err_from_is_err_and c.from_residual-in_err-summary.result c.from_residual-in_err-summary.ensures.1 in
    let shape = (snapshot_shape c.in_ok-start.start c.in_ok-start.body) in
    let read = subst (λ (s : Cursor). Takes snapshot shape s c.read_snapshot.new.self) c.of-cursor.ensures c.in_ok-start.ensures in
    λ at e.
    let bad = c.in_err-summary.ensures.bad at (ap Err (sym p.2 ∙ one_fault _ _ _ p.1 e)) in
    is_no_snapshot c.args.bytes.now shape c.read_snapshot.new.self at read bad.0 (λ none sound good. bad.1 none (record { summary = sound; entries = good }))
