-- The kept runs once a run is added: their outcomes, their entries, and the sum of their lines.
use Rattle.std.proofs.Common.{◌≡◌, ◌≢◌, ◌⊎◌, ◌&&◌, ℕ, Bool, true, false, List, [], ◌∷◌, ◌++◌, refl, ap, ◌∙◌, subst, inl, inr, arith, Option, Some, None, unwrap_or, if◌then◌else◌, Result}
use Rattle.std.proofs.lemmas.Grind.{flat_map-append}
use Rattle.std.proofs.lemmas.List.{append-nil}
use Rattle.std.specs.List.Sorted.{IsStrictlySortedBy}
use Rattle.ga_base.specs.Orders.{key_cmp}
use Rattle.ga_base.specs.Totals.{totals_plus}
use Rattle.ga_base.specs.declared.counts.Totals.{Totals}
use Rattle.ga_base.specs.declared.entry.Entry.{Entry}
use Rattle.ga_codec.specs.Values.{EntryValue}
use Rattle.ga_disk.specs.Images.{OnlyImage}
use Rattle.ga_disk.specs.MemDisk.{AreImages, DiskState, disk_images, states}
use Rattle.ga_disk.specs.Pick.{after_crash, crashed}
use Rattle.ga_disk.specs.Sides.{Sides}
use Rattle.ga_logs.specs.Following.{AreTold, ReadsAll}
use Rattle.ga_resume.specs.declared.follow.Follow.{Follow}
use Rattle.ga_logs.specs.declared.portion.Portion.{Portion}
use Rattle.ga_ports.specs.Files.{FilesView}
use Rattle.ga_ports.specs.Trace.{FilesStay, FilesTrace}
use Rattle.ga_store.specs.Commit.{Agrees, MergesBy}
use Rattle.ga_store.specs.Database.{DbOf, DbValue, Reading, empty_db, no_summary}
use Rattle.ga_store.specs.declared.mode.Mode.TheVariants.{Append, Overwrite}
use Rattle.ga_store.proofs.TrimmedRecords.{good-merge}
use Rattle.ga_summary.specs.LastDays.{trimmed}
use Rattle.ga_summary.specs.Limits.{passes}
use Rattle.ga_summary.specs.Outcomes.{Outcome, has_visit}
use Rattle.ga_summary.specs.Sound.{IsSummary}
use Rattle.ga_summary.specs.Steps.Joined.{merged_value}
use Rattle.ga_summary.specs.SummaryRows.{SummaryValue, has_pair}
use Rattle.ga_summary.specs.Sums.{IsMerged, IsSumOf}
use Rattle.ga_summary.proofs.LastDays.{trimmed-totals}
use Rattle.ga_summary.proofs.Soundness.{IsMerged-merged_value}
use Rattle.ga_summary.proofs.Unique.{one_merged}
use Rattle.ga_base.specs.declared.key.Key.{Key}
use Rattle.ga_base.specs.declared.key.Visitor.{Visitor}
use Rattle.ga_conf.specs.ConfFile.{ConfGives}
use Rattle.ga_words.specs.Joined.{ScanOf}
use Rattle.ga_words.specs.declared.fault.WordFault.{WordFault}
use Rattle.ga_one_run.proofs.WordLaw.{OneWords}
use Rattle.ga_run.specs.Headline.{HasRuns, RunCount, entries_after, found_entries, found_outcomes, number_after, outcomes_of, with_run}

-- what the laws of the lower crates say
pub record Laws : Type 0 where
  pub database : (sides : Sides) (x y : Reading) → DbOf sides x → DbOf sides y → x ≡ y
  pub merged : (xs ys : List Outcome) (a b s : SummaryValue) → IsSumOf xs a → IsSumOf ys b → IsMerged a b s → IsSumOf (xs ++ ys) s
  pub last_days : (n : ℕ) (a b both fewer : SummaryValue) → IsSummary a → IsSummary b → IsMerged a b both → IsMerged (trimmed n a) b fewer → trimmed n fewer ≡ trimmed n both
  pub as_told : (follow : Follow) (names : List (List ℕ)) (old new : List Entry) (files after : FilesView) (portions : List Portion)
      → ReadsAll follow names old new files after portions → files.contents ≢ None → AreTold follow files.contents names old new portions
  pub words : OneWords
  pub scan : (words : List (List ℕ)) (answer other : Result (Option (List ℕ)) WordFault) → ScanOf words answer → ScanOf words other → answer ≡ other
  pub scanned : (words : List (List ℕ)) → (answer : Result (Option (List ℕ)) WordFault) × ScanOf words answer
  pub conf : (bytes : List ℕ) (one two : List (List ℕ)) → ConfGives bytes one → ConfGives bytes two → one ≡ two
  pub files : (old new : FilesView) → FilesTrace old new → FilesStay old new
  pub crash : (pick : List ℕ) (disk : DiskState) → AreImages (states disk) (crashed pick (states disk))
  pub settled : (pick : List ℕ) (disk : DiskState) → OnlyImage (disk_images (after_crash pick disk)) (crashed pick (states disk))

-- ---- lists of runs

pub outcomes-with : (b : Bool) (run : RunCount) (runs : List RunCount) → outcomes_of (with_run b run runs) ≡ found_outcomes b runs ++ run.outcomes
outcomes-with true run runs = flat_map-append (λ (r : RunCount). r.outcomes) runs (run ∷ []) ∙ ap (λ (last : List Outcome). outcomes_of runs ++ last) (append-nil run.outcomes)
outcomes-with false run runs = append-nil run.outcomes

entries-last : (entries : List EntryValue) (runs : List RunCount) (run : RunCount) → entries_after entries (runs ++ run ∷ []) ≡ run.entries
entries-last entries [] run = refl
entries-last entries (first ∷ runs) run = entries-last first.entries runs run

pub entries-with : (b : Bool) (run : RunCount) (runs : List RunCount) → entries_after [] (with_run b run runs) ≡ run.entries
entries-with true run runs = entries-last [] runs run
entries-with false run runs = refl

number-last : (number : Option ℕ) (runs : List RunCount) (run : RunCount) → number_after number (runs ++ run ∷ []) ≡ Some run.keep
number-last number [] run = refl
number-last number (first ∷ runs) run = number-last (Some first.keep) runs run

pub number-with : (b : Bool) (run : RunCount) (runs : List RunCount) → number_after None (with_run b run runs) ≡ Some run.keep
number-with true run runs = number-last None runs run
number-with false run runs = refl

-- ---- databases

and-false : (b : Bool) → (b && false) ≡ false
and-false true = refl
and-false false = refl

no-keys : IsStrictlySortedBy key_cmp []
unfolding IsStrictlySortedBy
no-keys = tt

pub no-runs : HasRuns [] empty_db
no-runs = record { sum = no_summary; is_sum = nothing; is_summary = is-summary; summary = refl; number = refl; entries = refl }
  where
    is-summary : IsSummary no_summary
    is-summary = record {
      ordered = record { keys = no-keys; names = λ k row less. absurd (omega arith) };
      sound = record {
        rows = record {
          form = λ key has. cc;
          day = λ key has. cc;
          layers = λ layer date. record { hits = omega arith; bytes = omega arith; micros = omega arith };
          hit = λ key has. cc;
          visitors = λ key visitor has. cc;
          visits = λ key. omega arith;
        };
        totals = record {
          days = record { hits = omega arith; bytes = omega arith; micros = omega arith };
          lines = omega arith;
          fit = record { lines = omega arith; bytes = omega arith; micros = omega arith };
          times = λ key. (omega arith, omega arith);
        };
      };
    }

    pairs : (key : Key) (visitor : Visitor) → has_pair no_summary.rows key visitor ≡ has_visit key visitor []
    pairs key visitor = and-false _

    nothing : IsSumOf [] no_summary
    nothing = record {
      totals = refl;
      sums = λ key. refl;
      pairs = pairs;
      present = λ key. refl;
      ordered = record { keys = no-keys; names = λ k row less. absurd (omega arith) };
    }

-- the last days, this many, of the sum of these outcomes
pub record IsLastOf (keep : ℕ) (outcomes : List Outcome) (whole : SummaryValue) : Type 0 where
  pub sum : SummaryValue
  pub is_sum : IsSumOf outcomes sum
  pub is_summary : IsSummary sum
  pub last : whole ≡ trimmed keep sum

module _ (laws : Laws) (db : DbValue) (runs : List RunCount) (has : HasRuns runs db) where
  -- what the run is added to was trimmed by its own number, or not at all
  same-last : (keep : ℕ) (run whole both : SummaryValue) → IsSummary run → IsMerged has.sum run whole → (number : Option ℕ) → (number ≡ None) ⊎ (number ≡ Some keep)
      → IsMerged (trimmed (unwrap_or number 0) has.sum) run both → trimmed keep both ≡ trimmed keep whole
  same-last keep run whole both sound all number (inl none) merged =
      ap (λ (s : SummaryValue). trimmed keep s)
      (one_merged has.sum run both whole (subst (λ (o : Option ℕ). IsMerged (trimmed (unwrap_or o 0) has.sum) run both) none merged) all)
  same-last keep run whole both sound all number (inr some) merged =
      laws.last_days keep has.sum run whole both has.is_summary sound all (subst (λ (o : Option ℕ). IsMerged (trimmed (unwrap_or o 0) has.sum) run both) some merged)

  -- the whole of a run is the last days of the sum of what it found and of its own lines
  pub whole-sum : (b : Bool) (keep : ℕ) (own : List Outcome) (stored : DbValue) (run whole : SummaryValue) → (b ≡ true → stored ≡ db) → IsSumOf own run → IsSummary run
      → (b ≡ true → passes (totals_plus db.summary.totals run.totals) ≡ None) → Agrees (if b then Append else Overwrite) keep stored
      → MergesBy (if b then Append else Overwrite) keep stored.summary run whole → IsLastOf keep (found_outcomes b runs ++ own) whole
  whole-sum true keep own stored run whole same sum sound fits agrees merges =
      let all = IsMerged-merged_value has.sum run has.is_summary.ordered sound.ordered in
      let before = ap (λ (d : DbValue). d.summary) (same refl) ∙ has.summary in
      let merged = subst (λ (v : SummaryValue). IsMerged v run merges.0) before merges.1 in
      let number = subst (λ (o : Option ℕ). (o ≡ None) ⊎ (o ≡ Some keep)) (ap (λ (d : DbValue). d.keep) (same refl) ∙ has.number) agrees in
      let totals = ap (λ (v : SummaryValue). v.totals) has.summary ∙ trimmed-totals (unwrap_or (number_after None runs) 0) has.sum in
      let limits = subst (λ (t : Totals). passes (totals_plus t run.totals) ≡ None) totals (fits refl) in
      record {
        sum = merged_value has.sum run;
        is_sum = laws.merged (outcomes_of runs) own has.sum run (merged_value has.sum run) has.is_sum sum all;
        is_summary = good-merge has.sum run (merged_value has.sum run) has.is_summary sound limits all;
        last = merges.2 ∙ same-last keep run (merged_value has.sum run) merges.0 sound all (number_after None runs) number merged;
      }
  whole-sum false keep own stored run whole same sum sound fits agrees merges = record { sum = run; is_sum = sum; is_summary = sound; last = merges }

  -- it goes on from the entries after them
  pub begin-from : (b : Bool) (stored : DbValue) → (b ≡ true → stored ≡ db) → (if b then stored else empty_db).entries ≡ found_entries b runs
  begin-from true stored same = ap (λ (d : DbValue). d.entries) (same refl) ∙ has.entries
  begin-from false stored same = refl
