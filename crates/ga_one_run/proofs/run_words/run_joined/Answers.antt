use Rattle.std.proofs.Common.{◌≡◌, ◌⊎◌, ℕ, List, [], Err, sym, subst, ◌∙◌}
use Rattle.ga_words.specs.Joined.{JoinedOf}
use Rattle.ga_words.specs.declared.fault.WordFault.TheVariants.{NoMemory as WordNoMemory}
use Rattle.ga_targets.specs.Printing.{TakesOrStops}
use Rattle.ga_one_run.specs.Run.{RunsWords}
use Rattle.ga_one_run.specs.Statuses.{fault_line}
use Rattle.ga_one_run.specs.declared.status.Status.{Status}
use Rattle.ga_one_run.specs.Outside.{outside_of as outside}
use Rattle.ga_one_run.proofs.Runs.{run-of, run-none}
use Rattle.ga_one_run.proofs.WordLaw.{one-words}
use Rattle.ga_one_run.proofs.run_words.run_joined.Goals as goal

pub returns-in-Err : goal.returns-in-Err
returns-in-Err g c =
    let old = outside (g.F.Files.view c.args.files.now) (g.D.Disk.view c.args.disk.now) (g.D.Disk.images c.args.disk.now) (g.O.Outs.view c.args.outs.now) in
    let outs' = g.O.Outs.view c.refuse.new.outs in
    let bad : (c.in-Err.fault ≡ WordNoMemory) ⊎ JoinedOf c.args.conf.now c.args.words.now (Err c.in-Err.fault) = c.in-Err.ensures.fault in
    let is = c.refuse.ensures.status ∙ c.from.ensures in
    let line = subst (λ (status : Status). TakesOrStops (fault_line [] status) old.outs.stderr outs'.stderr) c.from.ensures c.refuse.ensures.line in
    subst (λ (status : Status). RunsWords c.args.conf.now c.args.words.now old (outside old.files old.disk old.images outs') status) (sym is)
    (run-none (one-words c.joined_words.ensures.one) c.one_outcome.ensures (record { all = c.read_as_told.ensures.all; some = c.read_as_told.ensures.some }) c.args.conf.now c.args.words.now old
    (g.D.Disk.only_now c.args.disk.now) c.in-Err.fault outs' bad line c.refuse.ensures.others c.refuse.ensures.calls)

pub returns-in-Ok : goal.returns-in-Ok
returns-in-Ok g c =
    let old = outside (g.F.Files.view c.args.files.now) (g.D.Disk.view c.args.disk.now) (g.D.Disk.images c.args.disk.now) (g.O.Outs.view c.args.outs.now) in
    let s = c.in-Ok.settings in
    let status = c.run_settings-status.result in
    let mid = g.O.Outs.view c.run_settings-status.new.outs in
    let outs' = g.O.Outs.view c.tell.new.outs in
    let line = subst (λ (text : List ℕ). TakesOrStops (fault_line text status) mid.stderr outs'.stderr) c.failed_name.ensures c.tell.ensures.line in
    run-of (one-words c.joined_words.ensures.one) c.one_outcome.ensures (record { all = c.read_as_told.ensures.all; some = c.read_as_told.ensures.some }) c.args.conf.now c.args.words.now old
    (g.D.Disk.only_now c.args.disk.now) s (g.F.Files.view c.run_settings-status.new.files) (g.D.Disk.view c.run_settings-status.new.disk) (g.D.Disk.images c.run_settings-status.new.disk) mid outs' status
    c.in-Ok.ensures.ok c.run_settings-status.ensures line c.tell.ensures.others c.tell.ensures.calls c.tell.ensures.starved
