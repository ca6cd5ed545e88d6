use Rattle.std.proofs.Common.{inl, inr, refl, subst, sym}
use Rattle.ga_one_run.specs.Steps.Run.{IsTextAlone}
use Rattle.ga_one_run.proofs.run.run_alone.Goals as goal

pub returns-in-Ok : goal.returns-in-Ok
returns-in-Ok g c = record {
  ends = inl (record {
    text = c.bytes.result.now;
    is_text = subst (IsTextAlone c.args.setup.now c.args.context.now.settings.now (g.F.Files.view c.args.files.now) (g.F.Files.view c.text_alone.new.files)) (sym c.bytes.ensures) c.in-Ok.ensures.ok;
    ends = c.report.ensures.ends;
    errors = c.report.ensures.errors;
    outs_trace = c.report.ensures.calls;
  });
  files_trace = c.text_alone.ensures.files_trace;
}

pub returns : goal.returns
returns g c = record {
  ends = inr (record { stops = c.in-Err.ensures.stops; sure = c.in-Err.ensures.sure; quiet = refl });
  files_trace = c.text_alone.ensures.files_trace;
}
