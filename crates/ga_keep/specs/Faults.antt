-- Why a run found no database, or wasn't kept.
use Rattle.std.specs.Prelude.{◌≡◌, ℕ, ◌+◌, true, List, IfSome}
use Rattle.ga_base.specs.declared.counts.Counter.TheVariants.{Generations}
use Rattle.ga_base.specs.declared.counts.TheConstants.{LIMIT}
use Rattle.ga_base.specs.declared.entry.Entry.{Entry}
use Rattle.ga_disk.specs.Disk.{DiskView}
use Rattle.ga_disk.specs.Images.{Images}
use Rattle.ga_counters.specs.Counts.{raised}
use Rattle.ga_store.specs.Holding.{IsDamaged}
use Rattle.ga_store.specs.declared.fault.StoreFault.{StoreFault}
use Rattle.ga_store.specs.declared.fault.StoreFault.TheVariants.{CounterFull, Damaged, DiskFault, NoMemory}
use Rattle.ga_store.specs.Commit.{passes_generations}
use Rattle.ga_store.specs.Commits.{Takes}
use Rattle.ga_store.specs.Database.{DbValue}
use Rattle.ga_summary.specs.SummaryRows.{SummaryValue}
use Rattle.ga_words.specs.declared.settings.Settings.{Settings}
use Rattle.ga_keep.specs.RunDatabase.{FailsKeeping, IsPathOf, IsUntouched, OnlyLooks, OpensOnce, finding_calls, mode_of, uses_database}

-- the sides have this damage
pub record HasDamage (s : Settings) (disk disk' : DiskView) (images' : Images) (side at : ℕ) : Type 0 where
  pub damaged : IsDamaged disk' images' side at
  pub path : IsPathOf s disk'
  pub faults : disk'.counts.faults ≡ disk.counts.faults
  -- it was found by these calls and no others
  pub calls : IfSome disk.seen (λ seen. Takes (finding_calls seen) disk disk')

-- why, by the fault
abbrev pub IsCause : Settings → DiskView → DiskView → Images → StoreFault → Type 0
IsCause s disk disk' images' DiskFault = disk'.counts.faults ≡ raised disk.counts.faults 1
IsCause s disk disk' images' (Damaged side at) = HasDamage s disk disk' images' side at
IsCause s disk disk' images' (CounterFull which total) = ⊥
IsCause s disk disk' images' NoMemory = disk'.counts.faults ≡ disk.counts.faults

-- no database was found, and no side was changed
pub record Misses (s : Settings) (disk disk' : DiskView) (images images' : Images) (fault : StoreFault) : Type 0 where
  pub uses : uses_database s ≡ true
  pub looks : OnlyLooks disk disk' images images'
  pub opens : OpensOnce s disk disk'
  pub cause : IsCause s disk disk' images' fault

-- why a run wasn't kept: the disk failed, its generation would be above the limit, or memory ran out before the disk was touched
abbrev pub IsUnkept : Settings → DbValue → SummaryValue → List Entry → DiskView → DiskView → Images → Images → StoreFault → Type 0
IsUnkept s stored whole entries disk disk' images images' DiskFault = FailsKeeping s.keep stored whole entries disk disk' images images'
IsUnkept s stored whole entries disk disk' images images' (Damaged side at) = ⊥
IsUnkept s stored whole entries disk disk' images images' (CounterFull which total) =
    (which ≡ Generations) × (total ≡ LIMIT + 1) × (passes_generations (mode_of s) stored ≡ true) × IsUntouched disk disk' images images'
IsUnkept s stored whole entries disk disk' images images' NoMemory = IsUntouched disk disk' images images'
