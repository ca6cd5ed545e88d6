-- The files that a run asked for, and the faults that they counted.
use Rattle.std.proofs.Common.{◌≡◌, ℕ, ◌+◌, List, refl, ap, sym, subst, ◌∙◌, Option, Some, None}
use Rattle.ga_agents.specs.declared.row.Rule.{Rule}
use Rattle.ga_base.specs.declared.entry.Entry.{Entry}
use Rattle.ga_keep.specs.RunDatabase.{follow_of}
use Rattle.ga_logs.specs.Following.{MissesAt, MissesLog, ReadsAll, ReadsPortion, ReadsSome}
use Rattle.ga_logs.specs.Following.MissesAt.{misses_first, misses_later}
use Rattle.ga_logs.specs.Following.ReadsAll.{read_all, read_then}
use Rattle.ga_logs.specs.Following.ReadsSome.{read_last, read_none, read_on}
use Rattle.ga_resume.specs.declared.follow.Follow.{Follow}
use Rattle.ga_logs.specs.declared.portion.Portion.{Portion}
use Rattle.ga_counters.specs.Counts.{raised}
use Rattle.ga_ports.specs.Files.{FilesView}
use Rattle.ga_ports.specs.declared.file_counts.FileCounts.{FileCounts}
use Rattle.ga_resume.specs.declared.fault.PlaceFault.{PlaceFault}
use Rattle.ga_resume.specs.declared.fault.PlaceFault.TheVariants.{FileFault, FileShort, NoMemory}
use Rattle.ga_words.specs.declared.settings.Settings.{Settings}
use Rattle.ga_one_run.specs.Course.{HasRules}
use Rattle.ga_one_run.specs.Inputs.{Walks, WalksInputs}
use Rattle.ga_one_run.specs.Inputs.Walks.{walks_last, walks_none, walks_on}
use Rattle.ga_one_run.specs.Inputs.WalksInputs.{asks_both, asks_logs, asks_none, asks_rules}
use Rattle.ga_one_run.specs.Run.{SameFaults}

-- ---- logs asked for

pub walks-all : {follow : Follow} {names : List (List ℕ)} {entries entries' : List Entry} {a b : FilesView} {portions : List Portion} → ReadsAll follow names entries entries' a b portions
    → (count : ℕ) × Walks follow names entries a b count
walks-all read_all = (0, walks_none)
walks-all (read_then reads follows rest) = let more = walks-all rest in (1 + more.0, walks_on reads follows more.1)

pub walks-some : {follow : Follow} {names : List (List ℕ)} {entries : List Entry} {a b : FilesView} {portions : List Portion} → ReadsSome follow names entries a b portions
    → (count : ℕ) × Walks follow names entries a b count
walks-some read_none = (0, walks_none)
walks-some (read_last reads) = (1, walks_last reads.asks)
walks-some (read_on reads follows rest) = let more = walks-some rest in (1 + more.0, walks_on reads follows more.1)

pub walks-miss : {follow : Follow} {names : List (List ℕ)} {entries : List Entry} {place : ℕ} {a b : FilesView} {portions : List Portion} {fault : PlaceFault} → MissesAt follow names entries place a b portions fault
    → (count : ℕ) × Walks follow names entries a b count
walks-miss (misses_first misses) = (1, walks_last misses.asks)
walks-miss (misses_later reads follows rest) = let more = walks-miss rest in (1 + more.0, walks_on reads follows more.1)

-- ---- and the browsers file before them

-- a count of logs that were asked for by entries of which this holds
abbrev pub Asked : Settings → (List Entry → Type 0) → FilesView → FilesView → Type 0
Asked s Followed a b = (count : ℕ) × WalksInputs s Followed a b count

module _ (s : Settings) {Followed : List Entry → Type 0} where
  -- the rules were read, and then some logs were asked for
  pub walks-behind : (file : Option (List ℕ)) → s.browsers_file ≡ file → (a mid b : FilesView) (rules : List Rule) → HasRules file a mid rules → (entries : List Entry) → Followed entries
      → ((count : ℕ) × Walks (follow_of s) s.logs entries mid b count) → Asked s Followed a b
  walks-behind None named a mid b rules has entries followed (count, walks) =
      (count, asks_logs entries named followed (subst (λ (v : FilesView). Walks (follow_of s) s.logs entries v b count) has.0 walks))
  walks-behind (Some name) named a mid b rules (text, reads, gives) entries followed (count, walks) = (1 + count, asks_both name entries mid text named reads followed walks)

  -- the rules were read, and no log was asked for
  pub walks-rules : (file : Option (List ℕ)) → s.browsers_file ≡ file → (a b : FilesView) (rules : List Rule) → HasRules file a b rules → Asked s Followed a b
  walks-rules None named a b rules has = (0, subst (λ (v : FilesView). WalksInputs s Followed a v 0) (sym has.0) asks_none)
  walks-rules (Some name) named a b rules (text, reads, gives) = (1, asks_rules name named reads.asks)

-- what holds of entries too of which the other holds
pub walks-as : {s : Settings} {P Q : List Entry → Type 0} {a b : FilesView} {count : ℕ} → ((entries : List Entry) → P entries → Q entries) → WalksInputs s P a b count → WalksInputs s Q a b count
walks-as step asks_none = asks_none
walks-as step (asks_rules name named asks) = asks_rules name named asks
walks-as step (asks_logs entries named followed walks) = asks_logs entries named (step entries followed) walks
walks-as step (asks_both name entries mid text named reads followed walks) = asks_both name entries mid text named reads (step entries followed) walks

-- ---- faults

pub same-none : {a : FileCounts} → SameFaults a a
same-none = record { faults = refl; shorts = refl; short_at = refl }

pub same-then : {a b c : FileCounts} → SameFaults a b → SameFaults b c → SameFaults a c
same-then h k = record { faults = k.faults ∙ h.faults; shorts = k.shorts ∙ h.shorts; short_at = k.short_at ∙ h.short_at }

pub same-files : {a b : FilesView} → b ≡ a → SameFaults a.counts b.counts
same-files e = record {
  faults = ap (λ (v : FilesView). v.counts.faults) e;
  shorts = ap (λ (v : FilesView). v.counts.shorts) e;
  short_at = ap (λ (v : FilesView). v.counts.short_at) e;
}

pub same-read : {follow : Follow} {entries : List Entry} {name : List ℕ} {a b : FilesView} {portion : Portion} → ReadsPortion follow entries name a b portion → SameFaults a.counts b.counts
same-read h = record { faults = h.faults; shorts = h.shorts; short_at = h.short_at }

pub same-all : {follow : Follow} {names : List (List ℕ)} {entries entries' : List Entry} {a b : FilesView} {portions : List Portion} → ReadsAll follow names entries entries' a b portions
    → SameFaults a.counts b.counts
same-all read_all = same-none
same-all (read_then reads follows rest) = same-then (same-read reads) (same-all rest)

pub same-some : {follow : Follow} {names : List (List ℕ)} {entries : List Entry} {a b : FilesView} {portions : List Portion} → ReadsSome follow names entries a b portions
    → SameFaults a.counts b.counts
same-some read_none = same-none
same-some (read_last reads) = same-read reads
same-some (read_on reads follows rest) = same-then (same-read reads) (same-some rest)

pub same-rules : (file : Option (List ℕ)) (a b : FilesView) (rules : List Rule) → HasRules file a b rules → SameFaults a.counts b.counts
same-rules None a b rules h = same-files h.0
same-rules (Some name) a b rules (text, reads, gives) = same-read reads

-- what a fault of a file counts, after calls that counted none
abbrev pub counts-after : PlaceFault → FileCounts → FileCounts
counts-after FileFault counts = record counts { faults = raised counts.faults 1 }
counts-after (FileShort at) counts = record counts { shorts = raised counts.shorts 1; short_at = at }
counts-after NoMemory counts = counts

miss-one : {follow : Follow} {entries : List Entry} {name : List ℕ} {b c : FilesView} (a : FileCounts) (fault : PlaceFault) → SameFaults a b.counts → MissesLog follow entries name b c fault
    → SameFaults (counts-after fault a) c.counts
miss-one a FileFault same h = record { faults = h.cause.0 ∙ ap (λ n. raised n 1) same.faults; shorts = h.cause.1 ∙ same.shorts; short_at = h.cause.2 ∙ same.short_at }
miss-one a (FileShort at) same h = record { faults = h.cause.3 ∙ same.faults; shorts = h.cause.0 ∙ ap (λ n. raised n 1) same.shorts; short_at = h.cause.1 }
miss-one a NoMemory same h = record { faults = h.cause.0 ∙ same.faults; shorts = h.cause.1 ∙ same.shorts; short_at = h.cause.2 ∙ same.short_at }

pub miss-counts : {follow : Follow} {names : List (List ℕ)} {entries : List Entry} {place : ℕ} {b c : FilesView} {portions : List Portion} (a : FileCounts) (fault : PlaceFault) → SameFaults a b.counts
    → MissesAt follow names entries place b c portions fault → SameFaults (counts-after fault a) c.counts
miss-counts a fault same (misses_first misses) = miss-one a fault same misses
miss-counts a fault same (misses_later reads follows rest) = miss-counts a fault (same-then same (same-read reads)) rest

pub miss-rules : {name : List ℕ} {follow : Follow} {entries : List Entry} {a b : FilesView} (fault : PlaceFault) → MissesLog follow entries name a b fault
    → SameFaults (counts-after fault a.counts) b.counts
miss-rules fault h = miss-one _ fault same-none h
