use Rattle.ga_one_run.proofs.Counting.{ends-panels, set-up}
use Rattle.ga_one_run.proofs.run.run_inputs.Goals as goal

pub returns-in-Ok : goal.returns-in-Ok
returns-in-Ok g c =
    let before = g.F.Files.view c.args.files.now in
    let mid = g.F.Files.view c.read_panels.new.files in
    let stay = c.files_stay.ensures before mid c.read_panels.ensures.calls in
    c.run_setup.ensures c.args.line before (set-up c.args.line c.args.context.now.settings.now before mid c.in-Ok.panels c.in-Ok.ensures.ok c.read_panels.ensures.calls stay)

pub returns-in-Err : goal.returns-in-Err
returns-in-Err g c =
    let before = g.F.Files.view c.args.files.now in
    let after = g.F.Files.view c.read_panels.new.files in
    ends-panels c.args.line c.args.context.now.settings.now before (g.D.Disk.view c.args.disk.now) (g.D.Disk.images c.args.disk.now) (g.O.Outs.view c.args.outs.now) after c.read_panels.ensures.calls
    c.in-Err.status c.in-Err.ensures.stops
