use Rattle.std.proofs.Common.{List, ℕ, inl, inr, subst}
use Rattle.ga_targets.specs.Printing.{TakesOrStops}
use Rattle.ga_one_run.specs.Statuses.{fault_line}
use Rattle.ga_one_run.proofs.Configuring.{ends-at}
use Rattle.ga_one_run.proofs.run_words.run_configured.Goals as goal

pub returns-in-Ok : goal.returns-in-Ok
returns-in-Ok g c = inl record {
  conf = c.in-Ok.conf;
  mid = g.F.Files.view c.conf_of.new.files;
  has_conf = c.in-Ok.ensures.ok;
  runs = c.run_joined.ensures;
}

pub returns-in-Err : goal.returns-in-Err
returns-in-Err g c =
    let outs = g.O.Outs.view c.args.outs.now in
    let outs' = g.O.Outs.view c.tell.new.outs in
    let status = c.from-status.result in
    let line = subst (λ (text : List ℕ). TakesOrStops (fault_line text status) outs.stderr outs'.stderr) c.conf_name.ensures c.tell.ensures.line in
    inr (ends-at c.args.name.now (g.F.Files.view c.args.files.now) (g.F.Files.view c.conf_of.new.files) (g.D.Disk.view c.args.disk.now) (g.D.Disk.images c.args.disk.now) outs outs' c.in-Err.fault status
    c.from-status.ensures c.in-Err.ensures.stops c.in-Err.ensures.sure c.conf_of.ensures.calls line c.tell.ensures.others c.tell.ensures.calls)
