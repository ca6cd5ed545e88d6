use Rattle.std.proofs.Common.{◌≡◌, ℕ, List, refl, sym, subst, inl, inr}
use Rattle.ga_base.specs.declared.entry.Entry.{Entry}
use Rattle.ga_disk.specs.Disk.{DiskView}
use Rattle.ga_disk.specs.Images.{Images}
use Rattle.ga_disk.specs.Trace.DiskTrace.{no_disk_call}
use Rattle.ga_ports.specs.Trace.{no_outs_call}
use Rattle.ga_keep.specs.RunDatabase.{ComesAfter, IsKept}
use Rattle.ga_keep.specs.Faults.{IsUnkept}
use Rattle.ga_store.specs.Database.{DbValue}
use Rattle.ga_store.specs.declared.fault.StoreFault.{StoreFault}
use Rattle.ga_store.specs.declared.position.Position.{Position}
use Rattle.ga_summary.specs.SummaryRows.{SummaryValue}
use Rattle.ga_words.specs.declared.settings.Settings.{Settings}
use Rattle.ga_one_run.specs.Reports.{IsTextOf}
use Rattle.ga_one_run.specs.Steps.Run.{whole_in}
use Rattle.ga_one_run.proofs.Finishing.{reports-last, unkept-last}
use Rattle.ga_one_run.proofs.InputsEnds.{untouched}
use Rattle.ga_one_run.proofs.run.finish.Goals as goal
use Rattle.ga_one_run.proofs.run.finish.Goals.{then-settings+in_default-keep, else-settings}

after-as : {s : Settings} {stored : DbValue} {position : Position} {run whole whole' : SummaryValue} {d : DiskView} {i : Images} → whole ≡ whole' → ComesAfter s stored position run whole d i
    → ComesAfter s stored position run whole' d i
after-as {s} {stored} {position} {run} {whole} {whole'} {d} {i} e h = subst (λ (w : SummaryValue). ComesAfter s stored position run w d i) e h

kept-as : {s : Settings} {stored : DbValue} {whole whole' : SummaryValue} {entries : List Entry} {d d' : DiskView} {i i' : Images} → whole ≡ whole' → IsKept s stored whole entries d d' i i'
    → IsKept s stored whole' entries d d' i i'
kept-as {s} {stored} {whole} {whole'} {entries} {d} {d'} {i} {i'} e h = subst (λ (w : SummaryValue). IsKept s stored w entries d d' i i') e h

unkept-as : (s : Settings) (stored : DbValue) {whole whole' : SummaryValue} (entries : List Entry) (d d' : DiskView) (i i' : Images) (fault : StoreFault) → whole ≡ whole'
    → IsUnkept s stored whole entries d d' i i' fault → IsUnkept s stored whole' entries d d' i i' fault
unkept-as s stored entries d d' i i' fault e h = subst (λ (w : SummaryValue). IsUnkept s stored w entries d d' i i' fault) e h

text-as : {s : Settings} {whole whole' : SummaryValue} {text text' : List ℕ} → whole ≡ whole' → text ≡ text' → IsTextOf s whole text → IsTextOf s whole' text'
text-as {s} {whole} {whole'} {text} {text'} e f h = subst (λ (w : SummaryValue). IsTextOf s w text') e (subst (λ (t : List ℕ). IsTextOf s whole t) f h)

pub returns-in_default : goal.returns-in_default
returns-in_default g c = λ stored ready. record { ends = (untouched, refl); errors = refl; disk_trace = no_disk_call; outs_trace = no_outs_call }

pub keep-requires-clause-open : goal.keep-requires-clause-open
keep-requires-clause-open g c = (c.requires c.if-settings.true).1.is_open

pub keep-requires-clause-after : goal.keep-requires-clause-after
keep-requires-clause-after g c = let r = c.requires c.if-settings.true in (r.0, after-as (sym c.whole-whole.ensures) r.1.after)

pub returns-in-Err : goal.returns-in-Err
returns-in-Err g c =
    let s = c.args.context.now.settings.now in
    let counted = c.args.counted.now in
    rw (c.from.ensures) (λ stored ready.
    unkept-last s stored (whole_in s counted) counted.base.entries (g.D.Disk.view c.args.disk.now) (g.D.Disk.view c.keep.new.disk) (g.D.Disk.images c.args.disk.now) (g.D.Disk.images c.keep.new.disk)
    (g.O.Outs.view c.args.outs.now) c.if-settings.true c.in-Err.fault
    (unkept-as s stored counted.base.entries (g.D.Disk.view c.args.disk.now) (g.D.Disk.view c.keep.new.disk) (g.D.Disk.images c.args.disk.now) (g.D.Disk.images c.keep.new.disk) c.in-Err.fault c.whole-whole.ensures (c.in-Err.ensures.unkept stored (after-as (sym c.whole-whole.ensures) (ready c.if-settings.true).after))) c.keep.ensures.calls)

pub returns : goal.returns
returns g c = λ stored ready.
    let s = c.args.context.now.settings.now in
    let counted = c.args.counted.now in
    let entries = counted.base.entries in
    let disk = c.args.disk.now in
    let outs = g.O.Outs.view c.args.outs.now in
    let outs' = g.O.Outs.view c.report.new.outs in
    let e = c.whole-whole.ensures in
    let is : IsTextOf s (whole_in s counted) c.bytes.result.now = text-as e (sym c.bytes.ensures) c.in-Ok.ensures in
    elim c.if-settings.branch [
      | then-settings+in_default-keep w ↦ rw (w.disk-is) (reports-last s stored (whole_in s counted) entries (g.D.Disk.view disk) (g.D.Disk.view w.keep.new.disk) (g.D.Disk.images disk) (g.D.Disk.images w.keep.new.disk)
          outs outs' c.bytes.result.now is
          (inl (w.if-settings.true, kept-as e (w.in_default-keep.ensures.kept stored (after-as (sym e) (ready w.if-settings.true).after)))) c.report.result c.report.ensures.ends c.report.ensures.errors
          w.keep.ensures.calls c.report.ensures.calls)
      | else-settings w ↦ rw (w.disk-is) (reports-last s stored (whole_in s counted) entries (g.D.Disk.view disk) (g.D.Disk.view disk) (g.D.Disk.images disk) (g.D.Disk.images disk) outs outs' c.bytes.result.now is
          (inr (w.if-settings.false, untouched)) c.report.result c.report.ensures.ends c.report.ensures.errors no_disk_call c.report.ensures.calls)
    ]
