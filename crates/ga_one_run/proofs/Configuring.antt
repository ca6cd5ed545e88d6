-- From how the reading of a configuration file ended to what the run is.
use Rattle.std.proofs.Common.{◌≡◌, ◌⊎◌, ◌↔◌, ◌≢◌, ℕ, List, [], Option, Some, None, Result, Ok, Err, refl, sym, ap, subst, inl, inr}
use Rattle.ga_disk.specs.Disk.{DiskView}
use Rattle.ga_disk.specs.Images.{Images}
use Rattle.ga_disk.specs.Trace.DiskTrace.{no_disk_call}
use Rattle.ga_logs.specs.Following.{CanServeOne}
use Rattle.ga_ports.specs.Files.{FilesView}
use Rattle.ga_ports.specs.Outs.{OutsView}
use Rattle.ga_ports.specs.Trace.{FilesTrace, OutsTrace, no_files_call}
use Rattle.ga_ports.specs.declared.outs.To.TheVariants.{Stderr}
use Rattle.ga_resume.specs.declared.fault.PlaceFault.TheVariants.{FileFault as PlaceFailed, FileShort as PlaceShort, NoMemory as PlaceNoMemory}
use Rattle.ga_words.specs.Defaults.{defaults}
use Rattle.ga_words.specs.Joined.{AreConfWords, JoinedOf, NamesConf, ScanOf}
use Rattle.ga_words.specs.WordsOf.{HasFault, WordsOf}
use Rattle.ga_words.specs.declared.settings.Settings.{Settings}
use Rattle.ga_words.specs.declared.fault.WordFault.{WordFault}
use Rattle.ga_words.specs.declared.fault.WordFault.TheVariants.{NoMemory as WordNoMemory}
use Rattle.ga_one_run.specs.Configured.{EndsAtConf, IsRun, NameNoConf, RunsAfterConf, StopsAtConf, conf_name}
use Rattle.ga_one_run.specs.Outside.{Outside, outside_of as outside}
use Rattle.ga_targets.specs.Printing.{ChangesOnly, TakesOrStops}
use Rattle.ga_one_run.specs.Run.{RunsWords, SameFaults, faults_after}
use Rattle.ga_one_run.specs.Statuses.{fault_line}
use Rattle.ga_one_run.specs.Steps.Conf.{MissesConf, status_of_conf}
use Rattle.ga_one_run.specs.Steps.Run.{status_of_words}
use Rattle.ga_one_run.specs.declared.conf.ConfFileFault.{ConfFileFault}
use Rattle.ga_one_run.specs.declared.conf.ConfFileFault.TheVariants.{Unread, Bad}
use Rattle.ga_one_run.specs.declared.status.Status.{Status}
use Rattle.ga_one_run.specs.declared.status.Status.TheVariants.{NoMemory}
use Rattle.ga_one_run.proofs.Endings.{along, same-but}

-- no words of a file
pub no-conf : AreConfWords []
no-conf = record { units = []; spells = refl; settings = defaults; row = refl; are = tt }

-- what the law of scanned words says
abbrev pub OneScan : Type 0
OneScan = (words : List (List ℕ)) (answer other : Result (Option (List ℕ)) WordFault) → ScanOf words answer → ScanOf words other → answer ≡ other

-- ---- what was scanned decides which run it is

module _ (one : OneScan) (words : List (List ℕ)) (old new : Outside) (status : Status) where
  -- words that name no file
  pub run-alone : NamesConf words None → RunsWords [] words old new status → IsRun words old new status
  run-alone none runs = record {
    alone = λ other. runs;
    configured = λ name names. absurd (let clash : Ok (Some name) ≡ Ok None = one words (Ok (Some name)) (Ok None) names none in cc);
  }

  -- words that are at fault by themselves
  pub run-refused : (fault : WordFault) → HasFault words fault → RunsWords [] words old new status → IsRun words old new status
  run-refused fault bad runs = record {
    alone = λ other. runs;
    configured = λ name names. absurd (let clash : Ok (Some name) ≡ Err fault = one words (Ok (Some name)) (Err fault) names bad in cc);
  }

  -- words that name one
  pub run-configured : (name : List ℕ) → NamesConf words (Some name) → RunsAfterConf name words old new status ⊎ EndsAtConf name old new status → IsRun words old new status
  run-configured name names runs = record {
    alone = not-alone;
    configured = λ other named.
        let same : Ok (Some other) ≡ Ok (Some name) = one words (Ok (Some other)) (Ok (Some name)) named names in
        let here : other ≡ name = cc in
        subst (λ (n : List ℕ). RunsAfterConf n words old new status ⊎ EndsAtConf n old new status) (sym here) runs;
  }
    where
      not-alone : NameNoConf words → RunsWords [] words old new status
      not-alone (inl (fault, bad)) = absurd (let clash : Ok (Some name) ≡ Err fault = one words (Ok (Some name)) (Err fault) names bad in cc)
      not-alone (inr none) = absurd (let clash : Ok (Some name) ≡ Ok None = one words (Ok (Some name)) (Ok None) names none in cc)

-- ---- a file that gave no words

module _ (name : List ℕ) (files files' : FilesView) where
  stops-at : (fault : ConfFileFault) → MissesConf name files files' fault → (CanServeOne name files → fault ≢ Unread PlaceFailed) → StopsAtConf name files files' (status_of_conf fault)
  stops-at (Bad line) h sure = h
  stops-at (Unread PlaceFailed) (inl misses) sure = (misses, λ serves. sure (record { none_due = serves.none_due; present = serves.present.0 }) refl)
  stops-at (Unread PlaceFailed) (inr (memory, read)) sure = absurd (cc memory)
  stops-at (Unread (PlaceShort at)) (inl misses) sure = misses
  stops-at (Unread (PlaceShort at)) (inr (memory, read)) sure = absurd (cc memory)
  stops-at (Unread PlaceNoMemory) (inl misses) sure = inr misses.asks
  stops-at (Unread PlaceNoMemory) (inr (memory, (text, read))) sure = inr read.asks

  -- its faults are counted as its status says
  faults-at : (fault : ConfFileFault) → MissesConf name files files' fault → SameFaults (faults_after (status_of_conf fault) files.counts) files'.counts
  faults-at (Bad line) (text, read, bad) = record { faults = read.faults; shorts = read.shorts; short_at = read.short_at }
  faults-at (Unread PlaceFailed) (inl misses) = record { faults = misses.cause.0; shorts = misses.cause.1; short_at = misses.cause.2 }
  faults-at (Unread PlaceFailed) (inr (memory, read)) = absurd (cc memory)
  faults-at (Unread (PlaceShort at)) (inl misses) = record { faults = misses.cause.3; shorts = misses.cause.0; short_at = misses.cause.1 }
  faults-at (Unread (PlaceShort at)) (inr (memory, read)) = absurd (cc memory)
  faults-at (Unread PlaceNoMemory) (inl misses) = record { faults = misses.cause.0; shorts = misses.cause.1; short_at = misses.cause.2 }
  faults-at (Unread PlaceNoMemory) (inr (memory, (text, read))) = record { faults = read.faults; shorts = read.shorts; short_at = read.short_at }

  -- such a run, once its fault line is written
  pub ends-at : (d : DiskView) (i : Images) (outs outs' : OutsView) (fault : ConfFileFault) (status : Status) → status ≡ status_of_conf fault → MissesConf name files files' fault
      → (CanServeOne name files → fault ≢ Unread PlaceFailed) → FilesTrace files files' → TakesOrStops (fault_line (conf_name name status) status) outs.stderr outs'.stderr
      → ChangesOnly Stderr outs outs' → OutsTrace outs outs' → EndsAtConf name (outside files d i outs) (outside files' d i outs') status
  ends-at d i outs outs' fault status is misses sure asked line changed wrote = record {
    stops = subst (StopsAtConf name files files') (sym is) (stops-at fault misses sure);
    disk = record { view = refl; moment = refl; now = λ image h. h; since = λ t image h. h };
    quiet = along outs outs outs' changed (same-but outs outs refl);
    line = line;
    faults = subst (λ (s : Status). SameFaults (faults_after s files.counts) files'.counts) (sym is) (faults-at fault misses);
    files_trace = asked;
    disk_trace = no_disk_call;
    outs_trace = wrote;
  }

-- ---- words that weren't looked through

-- their fault is that of them after no words
pub unjoined : ((words : List (List ℕ)) (answer : Result Settings WordFault) → JoinedOf [] words answer ↔ WordsOf words answer) → (words : List (List ℕ)) (fault : WordFault)
    → (fault ≡ WordNoMemory) ⊎ HasFault words fault → (fault ≡ WordNoMemory) ⊎ JoinedOf [] words (Err fault)
unjoined alone words fault (inl memory) = inl memory
unjoined alone words fault (inr bad) = inr ((alone words (Err fault)).1 (inl bad))

module _ (one : OneScan) (words : List (List ℕ)) (old : Outside) (outs : OutsView) where
  abbrev after : Outside
  after = outside old.files old.disk old.images outs

  hungry : RunsWords [] words old after NoMemory → TakesOrStops (fault_line [] NoMemory) old.outs.stderr outs.stderr → ChangesOnly Stderr old.outs outs → OutsTrace old.outs outs
      → IsRun words old after NoMemory
  hungry runs line changed wrote = record {
    alone = λ none. runs;
    configured = λ name names. inr (record {
      stops = inl refl;
      disk = record { view = refl; moment = refl; now = λ image h. h; since = λ t image h. h };
      quiet = along old.outs old.outs outs changed (same-but old.outs old.outs refl);
      line = line;
      faults = record { faults = refl; shorts = refl; short_at = refl };
      files_trace = no_files_call;
      disk_trace = no_disk_call;
      outs_trace = wrote;
    });
  }

  -- they are at fault by themselves, or memory ran out
  pub run-unread : (fault : WordFault) → (fault ≡ WordNoMemory) ⊎ HasFault words fault → RunsWords [] words old after (status_of_words fault)
      → TakesOrStops (fault_line [] (status_of_words fault)) old.outs.stderr outs.stderr → ChangesOnly Stderr old.outs outs → OutsTrace old.outs outs
      → IsRun words old after (status_of_words fault)
  run-unread fault (inr bad) runs line changed wrote = run-refused one words old after (status_of_words fault) fault bad runs
  run-unread fault (inl memory) runs line changed wrote =
      let is : status_of_words fault ≡ NoMemory = ap status_of_words memory in
      subst (λ (s : Status). IsRun words old after s) (sym is)
      (hungry (subst (λ (s : Status). RunsWords [] words old after s) is runs) (subst (λ (s : Status). TakesOrStops (fault_line [] s) old.outs.stderr outs.stderr) is line) changed wrote)
