use Rattle.std.proofs.Common.{ℕ, List, [], ◌∙◌, sym, subst}
use Rattle.ga_words.specs.Joined.{AreConfWords, NamesConf}
use Rattle.ga_one_run.specs.Configured.{IsRun}
use Rattle.ga_one_run.specs.Outside.{outside_of as outside}
use Rattle.ga_targets.specs.Printing.{TakesOrStops}
use Rattle.ga_one_run.specs.Run.{RunsWords}
use Rattle.ga_one_run.specs.Statuses.{fault_line}
use Rattle.ga_one_run.specs.declared.status.Status.{Status}
use Rattle.ga_one_run.proofs.Configuring.{no-conf, run-alone, run-configured, run-unread, unjoined}
use Rattle.ga_one_run.proofs.Runs.{run-none}
use Rattle.ga_one_run.proofs.WordLaw.{one-words}
use Rattle.ga_one_run.proofs.run_words.goaccess_run.Goals as goal

pub run_joined-requires-clause-conf : goal.run_joined-requires-clause-conf
run_joined-requires-clause-conf g c κs within = subst AreConfWords (sym c.new-conf.ensures) no-conf

pub returns-in-Ok-Some : goal.returns-in-Ok-Some
returns-in-Ok-Some g c =
    run-configured c.one_scan.ensures.one c.args.words.now _ _ c.run_configured.result c.in-Ok-Some.name (subst (NamesConf c.args.words.now) c.in-Ok-Some.field-0-is c.in-Ok-Some.ensures.ok) c.run_configured.ensures

pub returns-in-Ok-None : goal.returns-in-Ok-None
returns-in-Ok-None g c =
    let old = outside (g.F.Files.view c.args.files.now) (g.D.Disk.view c.args.disk.now) (g.D.Disk.images c.args.disk.now) (g.O.Outs.view c.args.outs.now) in
    let new = outside (g.F.Files.view c.run_joined.new.files) (g.D.Disk.view c.run_joined.new.disk) (g.D.Disk.images c.run_joined.new.disk) (g.O.Outs.view c.run_joined.new.outs) in
    run-alone c.one_scan.ensures.one c.args.words.now old new c.run_joined.result (subst (NamesConf c.args.words.now) c.in-Ok-None.field-0-is c.in-Ok-None.ensures.ok)
    (subst (λ (conf : List (List ℕ)). RunsWords conf c.args.words.now old new c.run_joined.result) c.new-conf.ensures c.run_joined.ensures)

pub returns-in-Err : goal.returns-in-Err
returns-in-Err g c =
    let old = outside (g.F.Files.view c.args.files.now) (g.D.Disk.view c.args.disk.now) (g.D.Disk.images c.args.disk.now) (g.O.Outs.view c.args.outs.now) in
    let outs' = g.O.Outs.view c.refuse.new.outs in
    let is = c.refuse.ensures.status ∙ c.from.ensures in
    let line = subst (λ (status : Status). TakesOrStops (fault_line [] status) old.outs.stderr outs'.stderr) c.from.ensures c.refuse.ensures.line in
    let runs =
    run-none (one-words c.joined_words.ensures.one) c.one_outcome.ensures (record { all = c.read_as_told.ensures.all; some = c.read_as_told.ensures.some }) [] c.args.words.now old
    (g.D.Disk.only_now c.args.disk.now) c.in-Err.bad outs' (unjoined c.joined_words.ensures.alone c.args.words.now c.in-Err.bad c.in-Err.ensures.fault) line c.refuse.ensures.others c.refuse.ensures.calls in
    subst (λ (status : Status). IsRun c.args.words.now old (outside old.files old.disk old.images outs') status) (sym is)
    (run-unread c.one_scan.ensures.one c.args.words.now old outs' c.in-Err.bad c.in-Err.ensures.fault runs line c.refuse.ensures.others c.refuse.ensures.calls)
