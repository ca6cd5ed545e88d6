-- The files that a run reads, in their order: the browsers file, where one is named, and then the logs.
use Rattle.std.specs.Prelude.{◌≡◌, ℕ, ◌+◌, List, [], ◌∷◌, ◌++◌, length, Option, Some, None, IfSome}
use Rattle.ga_base.specs.declared.entry.Entry.{Entry}
use Rattle.ga_disk.specs.Disk.{DiskView}
use Rattle.ga_keep.specs.RunDatabase.{SidesHave, follow_of}
use Rattle.ga_logs.specs.Following.{AsksFor, ReadsPortion}
use Rattle.ga_logs.specs.Portions.{Follows}
use Rattle.ga_resume.specs.declared.follow.Follow.{Follow}
use Rattle.ga_resume.specs.declared.follow.Follow.TheVariants.{Whole}
use Rattle.ga_logs.specs.declared.portion.Portion.{Portion}
use Rattle.ga_ports.specs.Files.{FilesView}
use Rattle.ga_store.specs.Database.{DbValue}
use Rattle.ga_words.specs.declared.settings.Settings.{Settings}
use Rattle.ga_one_run.specs.declared.status.Input.{Input}
use Rattle.ga_one_run.specs.declared.status.Input.TheVariants.{Conf, Rules, Log}

-- the names of a run's files
abbrev pub rules_file : Option (List ℕ) → List (List ℕ)
rules_file None = []
rules_file (Some name) = name ∷ []

abbrev pub inputs_of : Settings → List (List ℕ)
inputs_of s = rules_file s.browsers_file ++ s.logs

-- how many of a run's files stand before this one; a configuration file is read before all of them
abbrev pub place_of : Settings → Input → ℕ
place_of s Conf = 0
place_of s Rules = 0
place_of s (Log place) = length (rules_file s.browsers_file) + place

-- this many of these logs were asked for, each once, and handed out no more than a run reads of them
pub data Walks (follow : Follow) : List (List ℕ) → List Entry → FilesView → FilesView → ℕ → Type 0 where
  walks_none : {names : List (List ℕ)} {entries : List Entry} {files : FilesView} → Walks follow names entries files files 0
  walks_last : {name : List ℕ} {names : List (List ℕ)} {entries : List Entry} {files files' : FilesView}
      → AsksFor follow entries name files files' → Walks follow (name ∷ names) entries files files' 1
  walks_on : {name : List ℕ} {names : List (List ℕ)} {old mid : List Entry} {files between files' : FilesView} {portion : Portion} {count : ℕ}
      → ReadsPortion follow old name files between portion → Follows follow portion old mid
      → Walks follow names mid between files' count → Walks follow (name ∷ names) old files files' (1 + count)

-- what a run counts on from is what the sides have, where they are told
abbrev pub IsStored : Settings → DiskView → DbValue → Type 0
IsStored s disk stored = IfSome disk.seen (λ sides. SidesHave s sides stored)

-- the same of a run's files: the browsers file is read whole, and the logs from where entries lead of which this holds
pub data WalksInputs (s : Settings) (Followed : List Entry → Type 0) : FilesView → FilesView → ℕ → Type 0 where
  asks_none : {files : FilesView} → WalksInputs s Followed files files 0
  asks_rules : (name : List ℕ) {files files' : FilesView} → s.browsers_file ≡ Some name → AsksFor Whole [] name files files'
      → WalksInputs s Followed files files' 1
  asks_logs : (entries : List Entry) {files files' : FilesView} {count : ℕ} → s.browsers_file ≡ None
      → Followed entries → Walks (follow_of s) s.logs entries files files' count → WalksInputs s Followed files files' count
  asks_both : (name : List ℕ) (entries : List Entry) (mid : FilesView) (text : Portion) {files files' : FilesView} {count : ℕ}
      → s.browsers_file ≡ Some name → ReadsPortion Whole [] name files mid text
      → Followed entries → Walks (follow_of s) s.logs entries mid files' count → WalksInputs s Followed files files' (1 + count)
