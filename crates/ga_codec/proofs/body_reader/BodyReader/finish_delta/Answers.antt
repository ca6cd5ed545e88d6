use Rattle.std.proofs.Common.{◌∙◌, Err, map, ap, sym, subst}
use Rattle.std.proofs.lemmas.Result.{err_from_is_err_and}
use Rattle.ga_codec.specs.declared.fault.CodecFault.{CodecFault}
use Rattle.ga_codec.specs.Steps.Grammar.{entry}
use Rattle.ga_codec.specs.Steps.Parts.{Cursor, Takes, Refuses, listed}
use Rattle.ga_codec.specs.Steps.Pieces.{head_value}
use Rattle.ga_codec.specs.Steps.Shapes.{shape_value}
use Rattle.ga_codec.specs.Values.{entry_value}
use Rattle.ga_codec.proofs.Faults.{one_fault}
use Rattle.ga_codec.proofs.Finishing.{no_delta_entries, no_delta_of, delta_of}
use Rattle.ga_codec.proofs.Wholes.{start}
use Rattle.ga_codec.proofs.body_reader.BodyReader.finish_delta.Goals as goal
use Rattle.ga_codec.proofs.body_reader.BodyReader.finish_delta.Goals.{In_ok-body}

pub returns-in_err-body-clause-refused : goal.returns-in_err-body-clause-refused
returns-in_err-body-clause-refused c =
    let p = err_from_is_err_and c.from_residual.result c.from_residual.ensures.1 in
    let piece = c.args.piece.now in
    let refused = subst (λ (s : Cursor). Refuses (listed entry) s c.in_err-body.field-0.0) c.of-cursor.ensures c.in_err-body.ensures.read in
    λ at e.
    no_delta_entries c.args.self piece c.into_body.ensures.front c.requires.full at c.requires.kind
    (subst (λ (f : CodecFault). Refuses (listed entry) (start piece) f) (sym p.2 ∙ one_fault _ _ _ p.1 e) refused)

entries_read : (c : In_ok-body)
    → Takes (listed entry) (map shape_value c.in_ok-body.body.entries.items) (start c.args.piece.now) c.into_body.new.cursor
entries_read c =
    let entries = map shape_value c.in_ok-body.body.entries.items in
    subst (λ (s : Cursor). Takes (listed entry) entries s c.into_body.new.cursor) c.of-cursor.ensures c.in_ok-body.ensures.read

pub returns-in_err-summary-clause-refused : goal.returns-in_err-summary-clause-refused
returns-in_err-summary-clause-refused c =
    let p = err_from_is_err_and c.from_residual-in_err-summary.result c.from_residual-in_err-summary.ensures.1 in
    let same = c.in_ok-body.ensures.same in
    let h = head_value c.in_ok-body.field-0-0 in
    let read = entries_read (goal.at.returns-in_err-summary-clause-refused c).In_ok-body in
    λ at e.
    let bad = c.in_err-summary.ensures.bad at (ap Err (sym p.2 ∙ one_fault _ _ _ p.1 e)) in
    no_delta_of c.args.self c.args.piece.now c.into_body.ensures.front c.requires.full h c.in_ok-body.body c.into_body.new.cursor same.0 same.1
    read c.requires.kind bad.1

pub returns-clause-read : goal.returns-clause-read
returns-clause-read c =
    let same = c.in_ok-body.ensures.same in
    let good = c.in_ok-summary.ensures.good in
    let h = head_value c.in_ok-body.field-0-0 in
    let read = entries_read (goal.at.returns-clause-read c).In_ok-body in
    delta_of c.args.self c.args.piece.now c.into_body.ensures.front c.requires.full h c.in_ok-body.body c.into_body.new.cursor same.0 same.1
    read good.0 good.1 c.in_ok-summary.summary (map entry_value c.in_ok-summary.entries) good.2 good.3 c.requires.kind
