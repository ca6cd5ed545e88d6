-- How a run of a world begins: by its settings, once the configuration file was read where one is named, or not at all. So what
-- holds of a run by settings holds of each run.
use Rattle.std.proofs.Common.{◌≡◌, ℕ, List, [], Option, Some, None, Result, Ok, Err, refl, subst, inl, inr, ⊎_elim}
use Rattle.ga_line.specs.declared.setup.LineSetup.{LineSetup}
use Rattle.ga_ports.specs.Files.{FilesView}
use Rattle.ga_ports.specs.MemFiles.{files_view}
use Rattle.ga_store.specs.Database.{DbValue}
use Rattle.ga_words.specs.Joined.{NamesConf, ScanOf}
use Rattle.ga_words.specs.declared.fault.WordFault.{WordFault}
use Rattle.ga_words.specs.declared.settings.Settings.{Settings}
use Rattle.ga_one_run.specs.Configured.{ConfIsTold, EndsAtConf, NameNoConf, RunsAfterConf, SayOver, StopsAtConf}
use Rattle.ga_one_run.specs.Run.{RunsWords, SameFaults, faults_after}
use Rattle.ga_one_run.specs.Setups.{IsLineSetup}
use Rattle.ga_one_run.specs.declared.status.Input.TheVariants.{Conf, Rules, Log}
use Rattle.ga_one_run.specs.declared.status.Status.{Status}
use Rattle.ga_one_run.specs.declared.status.Status.TheVariants.{Done, BadWords, BadConf, BadFormat, BadRules, FileFault, FileShort, DiskFault, DbDamaged, KeepDiffers, OutFault, CounterFull, NoMemory}
use Rattle.ga_one_run.proofs.Telling.{told-is}
use Rattle.ga_run.specs.Headline.{FailsOnlyBy, Holds, IsAcknowledged, IsDone, Kept, OnlyAppended}
use Rattle.ga_run.specs.History.{Runs, seen_of}
use Rattle.ga_run.specs.declared.history.World.{World}
use Rattle.ga_run.proofs.Appending.{kept-logs}
use Rattle.ga_run.proofs.Effects.{Made, begun-from, done-of, files-begun, made-of, of-untouched, some-contents}
use Rattle.ga_run.proofs.Effects.Made.{same}
use Rattle.ga_run.proofs.Faults.{fails-of, rose-at}
use Rattle.ga_run.proofs.Kept.{Laws}

data Began (words : List (List ℕ)) (old new : World) (status : Status) : Type 0 where
  -- files were read, which failed no call, and the words of the file that is named, or none, come before these
  begins : (read : FilesView) (conf : List (List ℕ)) → read.counts.faults ≡ old.files.counts.faults → ConfIsTold words (files_view old.files) conf
      → RunsWords conf words (begun-from old read) (seen_of new) status → Began words old new status
  -- the file that is named gave no words
  refuses : (name : List ℕ) → NamesConf words (Some name) → EndsAtConf name (seen_of old) (seen_of new) status → Began words old new status

-- a run that came to no words isn't acknowledged
unsure : (name : List ℕ) (files files' : FilesView) (status : Status) → StopsAtConf name files files' status → ¬ IsAcknowledged status
unsure name files files' Done h ack = h
unsure name files files' (BadWords fault) h ack = ack
unsure name files files' (BadConf line) h ack = ack
unsure name files files' (BadFormat which fault) h ack = ack
unsure name files files' (BadRules at) h ack = ack
unsure name files files' (FileFault file) h ack = ack
unsure name files files' (FileShort file at) h ack = ack
unsure name files files' DiskFault h ack = ack
unsure name files files' (DbDamaged side at) h ack = ack
unsure name files files' (KeepDiffers number given) h ack = ack
unsure name files files' (OutFault to at) h ack = h
unsure name files files' (CounterFull which total) h ack = ack
unsure name files files' NoMemory h ack = ack

module _ (laws : Laws) (kept : Kept) (db : DbValue) (old new : World) (held : Holds kept db old) (words : List (List ℕ)) (status : Status) (h : Runs words status old new) where
  began : Began words old new status
  began = by (laws.scanned words)
    where
      alone : NameNoConf words → Began words old new status
      alone none = begins (files_view old.files) [] refl (inl (none, refl)) (h.alone none)

      after : (name : List ℕ) → NamesConf words (Some name) → RunsAfterConf name words (seen_of old) (seen_of new) status → Began words old new status
      after name names r =
          let text = r.has_conf.0 in
          let reads = r.has_conf.1 in
          begins r.mid r.conf reads.faults (inr (name, names, (text.bytes, told-is name (files_view old.files) r.mid text (some-contents old) reads, r.has_conf.2)))
          (subst (λ (files : FilesView). RunsWords r.conf words (record (seen_of old) { files = files }) (seen_of new) status) reads.asks.others r.runs)

      by : (answer : Result (Option (List ℕ)) WordFault) × ScanOf words answer → Began words old new status
      by (Err fault, bad) = alone (inl (fault, bad))
      by (Ok None, none) = alone (inr none)
      by (Ok (Some name), names) = ⊎_elim (λ r. after name names r) (λ ends. refuses name names ends) (h.configured name names)

  pub made-by : Made words status old kept db new
  made-by = by began
    where
      by : Began words old new status → Made words status old kept db new
      by (begins read conf steady is_told runs) = made-of laws kept db old new held read words conf is_told status runs
      by (refuses name names ends) =
          same (of-untouched laws kept db old new held (files_view old.files) ends.disk) (λ s says persists ack. unsure name (files_view old.files) (files_view new.files) status ends.stops ack)

  pub done-by : (s : Settings) → SayOver words (files_view old.files) (Ok s) → status ≡ Done → (line : LineSetup) × IsLineSetup s line × IsDone line s kept.runs old new
  done-by s says e = by began
    where
      by : Began words old new status → (line : LineSetup) × IsLineSetup s line × IsDone line s kept.runs old new
      by (begins read conf steady is_told runs) = done-of laws kept db old new held read words conf is_told status runs s says e
      by (refuses name names ends) = absurd (subst (λ (x : Status). StopsAtConf name (files_view old.files) (files_view new.files) x) e ends.stops)

  pub fails-in : FailsOnlyBy words old new status
  fails-in = by began
    where
      refused : (name : List ℕ) → NamesConf words (Some name) → (st : Status) → StopsAtConf name (files_view old.files) (files_view new.files) st
          → SameFaults (faults_after st old.files.counts) new.files.counts → FailsOnlyBy words old new st
      refused name names Done h faults = tt
      refused name names (BadWords fault) h faults = absurd h
      refused name names (BadConf line) (text, reads, bad) faults =
          record { name = name; named = names; text = text.bytes; is_told = told-is name (files_view old.files) (files_view new.files) text (some-contents old) reads; bad = bad }
      refused name names (BadFormat which fault) h faults = absurd h
      refused name names (BadRules at) h faults = absurd h
      refused name names (FileFault Conf) h faults = rose-at old.files.counts.faults new.files.counts.faults faults.faults
      refused name names (FileFault Rules) h faults = absurd h
      refused name names (FileFault (Log place)) h faults = absurd h
      refused name names (FileShort Conf at) h faults = let none : (files_view old.files).contents ≡ None = h.cause.2 in absurd (cc none)
      refused name names (FileShort Rules at) h faults = absurd h
      refused name names (FileShort (Log place) at) h faults = absurd h
      refused name names DiskFault h faults = absurd h
      refused name names (DbDamaged side at) h faults = absurd h
      refused name names (KeepDiffers number given) h faults = absurd h
      refused name names (OutFault to at) h faults = absurd h
      refused name names (CounterFull which total) h faults = absurd h
      refused name names NoMemory h faults = tt

      by : Began words old new status → FailsOnlyBy words old new status
      by (begins read conf steady is_told runs) = fails-of laws kept db old new held read steady words conf is_told status runs
      by (refuses name names ends) = refused name names status ends.stops ends.faults

  -- no log changes in a run
  pub appends-none : OnlyAppended old.files.contents new.files.contents
  appends-none = by began
    where
      by : Began words old new status → OnlyAppended old.files.contents new.files.contents
      by (begins read conf steady is_told runs) = kept-logs new.files.contents old.files.contents (laws.files (files-begun old read) (files_view new.files) runs.files_trace).contents
      by (refuses name names ends) = kept-logs new.files.contents old.files.contents (laws.files (files_view old.files) (files_view new.files) ends.files_trace).contents
