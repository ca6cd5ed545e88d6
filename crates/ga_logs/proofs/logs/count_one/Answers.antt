use Rattle.std.proofs.Common.{Bool, inl, inr, refl, subst, arith}
use Rattle.std.proofs.lemmas.Result.{err_from_is_err_and}
use Rattle.ga_ports.specs.Trace.FilesTrace.{files_then}
use Rattle.ga_line.specs.Lines.{lines}
use Rattle.ga_logs.specs.Steps.Streaming.{Adds}
use Rattle.ga_logs.proofs.ReadSteps.{misses-rest, reads-portion, serves-later, starts-within}
use Rattle.ga_logs.proofs.logs.count_one.Goals as goal

pub returns-in_err-segment-clause-stops : goal.returns-in_err-segment-clause-stops
returns-in_err-segment-clause-stops g c =
    let p = err_from_is_err_and c.from_residual.result c.from_residual.ensures.1 in
    rw (p.1, p.2) (inl c.in_err-segment.ensures.failed)

pub returns-in_err-ended-clause-stops : goal.returns-in_err-ended-clause-stops
returns-in_err-ended-clause-stops g c =
    let view = g.F.Files.view in
    let p = err_from_is_err_and c.from_residual-in_err-ended.result c.from_residual-in_err-ended.ensures.1 in
    rw (p.1, p.2) (inl (misses-rest c.args.follow c.args.entries.now c.args.name.now (view c.args.files.now) (view c.open_log.new.files) (view c.count_part.new.files)
    c.in_ok-segment.segment c.in_ok-segment.ensures.ok _ c.in_err-ended.ensures.failed))

pub returns-in_err-ended-clause-calls : goal.returns-in_err-ended-clause-calls
returns-in_err-ended-clause-calls g c = files_then c.open_log.ensures.calls c.count_part.ensures.calls

pub returns-in_err-ended-clause-sure : goal.returns-in_err-ended-clause-sure
returns-in_err-ended-clause-sure g c =
    let view = g.F.Files.view in
    let p = err_from_is_err_and c.from_residual-in_err-ended.result c.from_residual-in_err-ended.ensures.1 in
    λ can. rw (p.1, p.2) (c.in_err-ended.ensures.sure (serves-later (view c.args.files.now) (view c.open_log.new.files) (c.files_stay.ensures _ _ c.open_log.ensures.calls) can.none_due))

pub follow_log-requires-clause-begins : goal.follow_log-requires-clause-begins
follow_log-requires-clause-begins g c =
    c.in_ok-segment.ensures.ok.begins.begins

pub follow_log-requires-clause-within : goal.follow_log-requires-clause-within
follow_log-requires-clause-within g c =
    let part = c.in_ok-ended.ensures.ok in
    omega (arith, part.ended.within, part.read.long, starts-within c.args.follow c.args.entries.now c.in_ok-segment.segment c.in_ok-segment.ensures.ok.begins.begins)

pub returns-in_err-follow_log-clause-stops : goal.returns-in_err-follow_log-clause-stops
returns-in_err-follow_log-clause-stops g c =
    let view = g.F.Files.view in
    let p = err_from_is_err_and c.from_residual-in_err-follow_log.result c.from_residual-in_err-follow_log.ensures.1 in
    let part = c.in_ok-ended.ensures.ok in
    rw (p.1, p.2) (inr (
      refl,
      (
        record { segment = c.in_ok-segment.segment; bytes = part.part },
        reads-portion c.args.follow c.args.entries.now c.args.name.now (view c.args.files.now) (view c.open_log.new.files) (view c.count_part.new.files)
            c.in_ok-segment.segment c.in_ok-segment.ensures.ok part.part part.read,
      ),
    ))

pub returns-in_err-follow_log-clause-calls : goal.returns-in_err-follow_log-clause-calls
returns-in_err-follow_log-clause-calls g c = files_then c.open_log.ensures.calls c.count_part.ensures.calls

pub returns-clause-ok : goal.returns-clause-ok
returns-clause-ok g c =
    let view = g.F.Files.view in
    let part = c.in_ok-ended.ensures.ok in
    record {
      portion = record { segment = c.in_ok-segment.segment; bytes = part.part };
      read = reads-portion c.args.follow c.args.entries.now c.args.name.now (view c.args.files.now) (view c.open_log.new.files) (view c.count_part.new.files)
          c.in_ok-segment.segment c.in_ok-segment.ensures.ok part.part part.read;
      follows = c.in_ok-follow_log.ensures.ok part.part part.ended;
      adds = subst (λ (keep : Bool). Adds c.args.crew.now.setup.now (lines part.part keep) c.args.counting.now c.count_part.new.counting) c.keeps.ensures part.adds;
    }

pub returns-clause-calls : goal.returns-clause-calls
returns-clause-calls g c = files_then c.open_log.ensures.calls c.count_part.ensures.calls
