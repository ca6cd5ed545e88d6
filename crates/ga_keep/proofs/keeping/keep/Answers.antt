use Rattle.std.proofs.Common.{ap, sym, Err, map}
use Rattle.ga_codec.specs.Values.{entry_value}
use Rattle.std.proofs.lemmas.Result.{err_from_is_err_and}
use Rattle.ga_disk.specs.Trace.DiskTrace.{no_disk_call}
use Rattle.ga_keep.specs.RunDatabase.{IsKept}
use Rattle.ga_keep.specs.Faults.{IsUnkept}
use Rattle.ga_store.specs.Commit.{after_run, passes_generations}
use Rattle.ga_keep.proofs.Kept.{agrees-as, if_err-each, kept, merges-as, not-full, on_ok-each, unkept, unkept-early}
use Rattle.ga_keep.proofs.keeping.keep.Goals as goal

pub returns-in_err-work-clause-calls : goal.returns-in_err-work-clause-calls
returns-in_err-work-clause-calls g c = no_disk_call

pub commit-requires-clause-ready : goal.commit-requires-clause-ready
commit-requires-clause-ready g c =
    let stored = c.requires.after.0 in
    let after = c.requires.after.1 in
    record {
      old = stored;
      new = after_run c.mode.result c.args.settings.now.keep stored c.args.whole.now (map entry_value c.args.entries.now) c.in_ok-work.work;
      holds = after.holds;
      makes = c.in_ok-work.ensures.makes stored after.stands (agrees-as c.args.settings.now.keep stored (sym c.mode.ensures) after.agrees) (merges-as c.args.settings.now.keep stored.summary c.args.run.now c.args.whole.now (sym c.mode.ensures) after.is_whole);
    }

pub returns-in_err-work-clause-unkept : goal.returns-in_err-work-clause-unkept
returns-in_err-work-clause-unkept g c =
    let p = err_from_is_err_and c.from_residual.result c.from_residual.ensures.1 in
    let fault = c.in_err-work.field-0.0 in
    rw (p.1, p.2) (λ stored after.
    unkept-early c.args.settings.now stored c.args.whole.now c.args.entries.now (g.D.Disk.view c.args.disk.now) (g.D.Disk.images c.args.disk.now) c.mode.result c.mode.ensures fault c.in_err-work.ensures.causes
    (λ e. (c.in_err-work.ensures.full stored after.stands).0 (ap Err e)))

pub returns-clause-kept : goal.returns-clause-kept
returns-clause-kept g c =
    on_ok-each (λ stored. IsKept c.args.settings.now stored c.args.whole.now c.args.entries.now (g.D.Disk.view c.args.disk.now) (g.D.Disk.view c.commit.new.disk) (g.D.Disk.images c.args.disk.now) (g.D.Disk.images c.commit.new.disk)) c.commit.result (λ stored after.
    kept c.args.settings.now c.in_ok-work.work stored c.mode.result c.args.whole.now c.args.entries.now (g.D.Disk.view c.args.disk.now) (g.D.Disk.view c.commit.new.disk) (g.D.Disk.images c.args.disk.now) (g.D.Disk.images c.commit.new.disk)
    after.holds (agrees-as c.args.settings.now.keep stored (sym c.mode.ensures) after.agrees) (c.in_ok-work.ensures.makes stored after.stands (agrees-as c.args.settings.now.keep stored (sym c.mode.ensures) after.agrees) (merges-as c.args.settings.now.keep stored.summary c.args.run.now c.args.whole.now (sym c.mode.ensures) after.is_whole)) c.args.run.now (sym c.mode.ensures)
    (c.in_ok-work.ensures.work stored after.stands)
    (not-full (passes_generations c.mode.result stored) (λ passes. absurd (cc ((c.in_ok-work.ensures.full stored after.stands).1 passes)))) c.commit.result c.commit.ensures (g.D.Disk.reads_as_image c.commit.new.disk))

pub returns-clause-unkept : goal.returns-clause-unkept
returns-clause-unkept g c =
    if_err-each (λ stored fault. IsUnkept c.args.settings.now stored c.args.whole.now c.args.entries.now (g.D.Disk.view c.args.disk.now) (g.D.Disk.view c.commit.new.disk) (g.D.Disk.images c.args.disk.now) (g.D.Disk.images c.commit.new.disk) fault)
    c.commit.result (λ stored after.
    unkept c.args.settings.now c.in_ok-work.work stored c.mode.result c.args.whole.now c.args.entries.now (g.D.Disk.view c.args.disk.now) (g.D.Disk.view c.commit.new.disk) (g.D.Disk.images c.args.disk.now) (g.D.Disk.images c.commit.new.disk)
    after.holds (agrees-as c.args.settings.now.keep stored (sym c.mode.ensures) after.agrees) (c.in_ok-work.ensures.makes stored after.stands (agrees-as c.args.settings.now.keep stored (sym c.mode.ensures) after.agrees) (merges-as c.args.settings.now.keep stored.summary c.args.run.now c.args.whole.now (sym c.mode.ensures) after.is_whole)) c.commit.result c.commit.ensures)
