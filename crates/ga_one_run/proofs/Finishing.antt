-- How a run ended after its counting.
use Rattle.std.proofs.Common.{◌≡◌, ℕ, List, refl, true}
use Rattle.ga_base.specs.declared.entry.Entry.{Entry}
use Rattle.ga_disk.specs.Disk.{DiskView}
use Rattle.ga_disk.specs.Images.{Images}
use Rattle.ga_disk.specs.Trace.{DiskTrace}
use Rattle.ga_keep.specs.RunDatabase.{KeptIf}
use Rattle.ga_keep.specs.Faults.{IsUnkept}
use Rattle.ga_ports.specs.Outs.{OutsView}
use Rattle.ga_ports.specs.Trace.{OutsTrace, no_outs_call}
use Rattle.ga_store.specs.Database.{DbValue}
use Rattle.ga_store.specs.declared.fault.StoreFault.{StoreFault}
use Rattle.ga_store.specs.declared.fault.StoreFault.TheVariants.{CounterFull as StoreFull, Damaged, DiskFault as StoreFailed, NoMemory as StoreNoMemory}
use Rattle.ga_summary.specs.SummaryRows.{SummaryValue}
use Rattle.ga_words.specs.declared.settings.Settings.{Settings}
use Rattle.ga_one_run.specs.Reports.{IsTextOf}
use Rattle.ga_one_run.specs.Steps.Run.{EndsKeeping, EndsLast, EndsReport, status_of_store}
use Rattle.ga_one_run.specs.declared.status.Status.{Status}
use Rattle.ga_one_run.specs.declared.status.Status.TheVariants.{Done, BadWords, BadConf, BadFormat, BadRules, FileFault, FileShort, DiskFault, DbDamaged, KeepDiffers, OutFault, CounterFull, NoMemory}

module _ (s : Settings) (stored : DbValue) (whole : SummaryValue) (entries : List Entry) (d d' : DiskView) (i i' : Images) (o : OutsView) where
  -- the run wasn't kept
  unkept-ends : s.persist ≡ true → (fault : StoreFault) → IsUnkept s stored whole entries d d' i i' fault
      → EndsKeeping s stored whole entries d d' i i' o o (status_of_store fault)
  unkept-ends persists StoreFailed h = (persists, h, refl)
  unkept-ends persists (Damaged side at) h = absurd h
  unkept-ends persists (StoreFull which total) (counter, value, passes, left) = (persists, counter, value, passes, left, refl)
  unkept-ends persists StoreNoMemory h = (h, refl)

  pub unkept-last : s.persist ≡ true → (fault : StoreFault) → IsUnkept s stored whole entries d d' i i' fault → DiskTrace d d'
      → EndsLast s stored whole entries d d' i i' o o (status_of_store fault)
  unkept-last persists fault h went = record { ends = unkept-ends persists fault h; errors = refl; disk_trace = went; outs_trace = no_outs_call }

  -- it was kept where it persists, and its report was written or not
  delivers : (o' : OutsView) (text : List ℕ) → IsTextOf s whole text → KeptIf s stored whole entries d d' i i' → (status : Status)
      → EndsReport s text o o' status → EndsKeeping s stored whole entries d d' i i' o o' status
  delivers o' text is kept Done h = record { text = text; is_text = is; kept = kept; report = h }
  delivers o' text is kept (BadWords fault) h = absurd h
  delivers o' text is kept (BadConf at) h = absurd h
  delivers o' text is kept (BadFormat which fault) h = absurd h
  delivers o' text is kept (BadRules at) h = absurd h
  delivers o' text is kept (FileFault file) h = absurd h
  delivers o' text is kept (FileShort file at) h = absurd h
  delivers o' text is kept DiskFault h = absurd h
  delivers o' text is kept (DbDamaged side at) h = absurd h
  delivers o' text is kept (KeepDiffers number given) h = absurd h
  delivers o' text is kept (OutFault to at) h = record { text = text; is_text = is; kept = kept; report = h }
  delivers o' text is kept (CounterFull which total) h = absurd h
  delivers o' text is kept NoMemory h = absurd h

  pub reports-last : (o' : OutsView) (text : List ℕ) → IsTextOf s whole text → KeptIf s stored whole entries d d' i i' → (status : Status)
      → EndsReport s text o o' status → o'.stderr ≡ o.stderr → DiskTrace d d' → OutsTrace o o' → EndsLast s stored whole entries d d' i i' o o' status
  reports-last o' text is kept status h errors went wrote = record { ends = delivers o' text is kept status h; errors = errors; disk_trace = went; outs_trace = wrote }
