use Rattle.std.proofs.Common.{arith, ◌+◌, ◌-◌, refl, subst, sym}
use Rattle.std.proofs.lemmas.Result.{err_from_is_err_and}
use Rattle.ga_counters.specs.Counts.{NoneDue}
use Rattle.ga_ports.specs.Trace.FilesTrace.{no_files_call, files_then}
use Rattle.ga_resume.proofs.PartReads.{listed-after_reads, stops-more-within, none-later}
use Rattle.ga_logs.proofs.StreamSteps.{fills-none, fills-then}
use Rattle.ga_logs.proofs.streaming.fill.Goals as goal

pub loop-at-init : goal.loop-at-init
loop-at-init g c =
    let order = c.requires.order in
    record {
      within = omega arith;
      begun = omega arith;
      begins = λ _. refl;
      some = c.requires.some;
      went = no_files_call;
      fills = fills-none c.args.part.from (g.F.Files.view c.args.files.now) c.args.batcher.now c.requires.going;
    }

pub loop-at-preserved : goal.loop-at-preserved
loop-at-preserved g c =
    let view = g.F.Files.view in
    let was = c.loop-at.invariant in
    let ok = c.in_ok-at.ensures in
    let at = c.loop-at.at in
    let end = at + c.in_ok-at.field-0 in
    record {
      within = ok.within;
      begun = omega (arith, was.begun);
      begins = λ same. absurd (omega (arith, was.begun, ok.some, same));
      some = omega (arith, was.some, c.loop-at.auto.buffer, c.fill_slice.auto.buffer);
      went = files_then was.went c.fill_slice.ensures.calls;
      fills = fills-then c.args.part.from at end (view c.args.files.now) (view c.loop-at.files) (view c.fill_slice.new.files) c.args.batcher.now c.loop-at.batcher c.fill_slice.new.batcher was.begun (omega arith)
          was.fills ok.ok;
    }

pub returns-in_err-at : goal.returns-in_err-at
returns-in_err-at g c =
    let view = g.F.Files.view in
    let p = err_from_is_err_and c.from_residual.result c.from_residual.ensures.1 in
    let read = c.loop-at.invariant.fills.read.files in
    let same = listed-after_reads (c.loop-at.at - c.args.part.from) (view c.args.files.now) (view c.loop-at.files) read in
    rw (p.1, p.2) (record {
      ok = tt;
      failed = stops-more-within (c.loop-at.at - c.args.part.from) _ (c.args.part.to - c.args.part.from) (view c.args.files.now) (view c.loop-at.files) _ _ read
          (omega (arith, c.loop-at.invariant.begun)) c.in_err-at.ensures.failed;
      calls = files_then c.loop-at.invariant.went c.fill_slice.ensures.calls;
      sure = λ none. c.in_err-at.ensures.sure (subst (λ told. NoneDue told (view c.loop-at.files).counts.calls) (sym same)
          (none-later _ _ (view c.args.files.now).listed (c.files_stay.ensures _ _ c.loop-at.invariant.went).calls none));
    })
