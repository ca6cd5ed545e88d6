-- How the counting of a run ended, from what its calls say.
use Rattle.std.proofs.Common.{◌≡◌, ℕ, List, [], ◌∷◌, refl, sym, ◌∙◌, ap, subst, inl, inr, arith, Bool, true, false, Option, Some, None}
use Rattle.std.proofs.lemmas.List.Sums.{sum_by-cons}
use Rattle.std.specs.Prelude.{◌||◌, if◌then◌else◌}
use Rattle.ga_base.specs.declared.counts.Totals.{Totals}
use Rattle.ga_base.specs.declared.entry.Entry.{Entry}
use Rattle.ga_disk.specs.Disk.{DiskView}
use Rattle.ga_disk.specs.Images.{Images}
use Rattle.ga_keep.specs.RunDatabase.{AreBase, Finds, GrowsBy, IsBaseOf, base_of, follow_of, start_of, whole_of}
use Rattle.ga_keep.specs.declared.base.Base.{Base}
use Rattle.ga_outcomes.specs.LineOutcomes.{CountsLines}
use Rattle.ga_logs.specs.Following.{CanServe}
use Rattle.ga_logs.specs.Logs.{CountsLogs, StopsLogs}
use Rattle.ga_logs.specs.Portions.{counted_lines}
use Rattle.ga_logs.specs.declared.fault.CountFault.{CountFault}
use Rattle.ga_resume.specs.declared.start.Start.{Start}
use Rattle.ga_logs.specs.declared.fault.CountFault.TheVariants.{Failed as LogFailed, Short as LogShort, Full, NoMemory as CountNoMemory}
use Rattle.ga_outcomes.specs.declared.setup.Setup.{Setup}
use Rattle.ga_outcomes.proofs.Limits.{all-within, no-counter}
use Rattle.ga_panels.specs.declared.setup.PanelSetup.{PanelSetup}
use Rattle.ga_ports.specs.Files.{FilesView}
use Rattle.ga_resume.specs.declared.fault.PlaceFault.TheVariants.{NoMemory as PlaceNoMemory}
use Rattle.ga_store.specs.Database.{DbValue, empty_db}
use Rattle.ga_summary.specs.Limits.{or_else, over, passes}
use Rattle.ga_base.specs.Totals.{totals_plus, TotalsFit}
use Rattle.ga_summary.specs.LastDays.{trimmed}
use Rattle.ga_summary.specs.Outcomes.{Hit, Outcome, Counted, hits_of, totals_of}
use Rattle.ga_summary.specs.Outcomes as outcomes
use Rattle.ga_summary.specs.SummaryRows.{SummaryValue}
use Rattle.ga_summary.specs.Sound.{AllCountable, IsSummary}
use Rattle.ga_summary.specs.Sums.{IsMerged, IsSumOf}
use Rattle.ga_summary.proofs.LastDays.{trimmed-twice}
use Rattle.ga_summary.proofs.SoundSums.{IsSound-sum}
use Rattle.ga_logs.specs.Counting.{AreInTotal}
use Rattle.ga_tallies.specs.Tallies.{IsTallyOf, TallySeen}
use Rattle.ga_totals.specs.Totals.{IsOfCountable}
use Rattle.ga_words.specs.declared.settings.Settings.{Settings}
use Rattle.ga_one_run.specs.Inputs.{Walks}
use Rattle.ga_keep.specs.RunDatabase.{IsWhole, differing, other_than, uses_database}
use Rattle.ga_keep.proofs.Kept.{agrees-with}
use Rattle.ga_store.specs.Commit.{MergesBy}
use Rattle.ga_store.specs.declared.mode.Mode.TheVariants.{Append, Overwrite}
use Rattle.std.proofs.lemmas.Bool.{true≢false}
use Rattle.ga_one_run.specs.declared.status.Status.{Status}
use Rattle.ga_one_run.specs.declared.status.Status.TheVariants.{NoMemory}
use Rattle.ga_one_run.specs.Steps.Run.{AreSums, CountsFrom, CountsOn, CountsRun, Differs, EndsAlone, EndsInputs, EndsLast, EndsReport, EndsTold, EndsUntold, HasPanels, IsOfLines, IsReady, IsSetUp, NoFileFailed, StopsAlone, StopsCounting, StopsFrom, StopsHungry, StopsPanels, WalksLogs, status_of_count, whole_in}
use Rattle.ga_one_run.proofs.Asking.{miss-counts, same-all, same-none, same-some, walks-all, walks-miss, walks-some}
use Rattle.ga_one_run.proofs.InputsEnds.{ends-count, ends-hungry, ends-last, ends-rules, looked-at, untouched}
use Rattle.ga_one_run.proofs.Moments.{OnlyNow}
use Rattle.ga_line.specs.declared.setup.LineSetup.{LineSetup}
use Rattle.ga_one_run.specs.Setups.{setup_of}
use Rattle.ga_one_run.specs.Outside.{outside_of as outside}
use Rattle.std.specs.Prelude.{◌⊎◌}
use Rattle.ga_one_run.proofs.Finishing.{reports-last}
use Rattle.ga_one_run.proofs.Telling.{found-there, there-in}
use Rattle.ga_disk.specs.Trace.{DiskTrace}
use Rattle.ga_disk.specs.Trace.DiskTrace.{no_disk_call}
use Rattle.ga_ports.specs.Outs.{OutsView}
use Rattle.ga_ports.specs.Trace.{FilesStay, FilesTrace, OutsTrace, files_then}
use Rattle.ga_one_run.specs.Reports.{IsTextOf}
use Rattle.ga_one_run.specs.declared.run.RunCounts.{RunCounts as TheCounted}

-- ---- the limits

or_else-none : {A : Type 0} (a b : Option A) → or_else a b ≡ None → (a ≡ None) × (b ≡ None)
or_else-none None b e = (refl, e)
or_else-none (Some x) b e = absurd (cc e)

-- totals from which on outcomes pass no limit fit with them
fits-on : (t : Totals) (os : List Outcome) → TotalsFit t → over t os ≡ None → TotalsFit (totals_plus t (totals_of os))
fits-on t [] fit e = record { lines = omega (arith, fit.lines); bytes = omega (arith, fit.bytes); micros = omega (arith, fit.micros) }
fits-on t (o ∷ os) fit e = by o (fits-on more os (all-within more parts.0) parts.1)
  where
    more : Totals
    more = totals_plus t (totals_of (o ∷ []))

    parts : (passes more ≡ None) × (over more os ≡ None)
    parts = or_else-none (passes more) (over more os) e

    by : (x : Outcome) → TotalsFit (totals_plus (totals_plus t (totals_of (x ∷ []))) (totals_of os)) → TotalsFit (totals_plus t (totals_of (x ∷ os)))
    by outcomes.Failed h = record { lines = omega (arith, h.lines); bytes = omega (arith, h.bytes); micros = omega (arith, h.micros) }
    by outcomes.Excluded h = record { lines = omega (arith, h.lines); bytes = omega (arith, h.bytes); micros = omega (arith, h.micros) }
    by (Counted hit) h = record {
      lines = omega (arith, h.lines);
      bytes = omega (arith, h.bytes, sum_by-cons (λ (x : Hit). x.bytes) hit (hits_of os), sum_by-cons (λ (x : Hit). x.bytes) hit []);
      micros = omega (arith, h.micros, sum_by-cons (λ (x : Hit). x.micros) hit (hits_of os), sum_by-cons (λ (x : Hit). x.micros) hit []);
    }

-- so the whole passes no limit
pub whole-fits : (setup : Setup) (base : SummaryValue) (all : List (List ℕ)) (sum : SummaryValue) → IsSummary base → CountsLines setup base.totals all sum
    → passes (totals_plus base.totals sum.totals) ≡ None
whole-fits setup base all sum sound h =
    let fits : TotalsFit (totals_plus base.totals (totals_of h.outcomes)) = fits-on base.totals h.outcomes sound.sound.totals.fit h.fits in
    let same : totals_of h.outcomes ≡ sum.totals = sym h.is_sum.totals in
    subst (λ (u : Totals). passes (totals_plus base.totals u) ≡ None) same
    (no-counter (totals_plus base.totals (totals_of h.outcomes)) fits.lines fits.bytes fits.micros)

-- ---- the total of all lines

-- a summary of it is their sum
pub sum-lines : (setup : Setup) (start : Totals) (all : List (List ℕ)) (total : TallySeen) (sum : SummaryValue) → AreInTotal setup start all total
    → ((xs : List Outcome) → IsTallyOf xs total → AllCountable xs → IsSumOf xs sum) → CountsLines setup start all sum
sum-lines setup start all total sum h is = record { outcomes = h.outcomes; have_outcomes = h.have_outcomes; is_sum = is h.outcomes h.tally h.countable; fits = h.fits }

pub countable-total : (setup : Setup) (start : Totals) (all : List (List ℕ)) (total : TallySeen) → AreInTotal setup start all total → IsOfCountable total
countable-total setup start all total h = record { outcomes = h.outcomes; tally = h.tally; countable = h.countable }

-- ---- what the calls say, the names being those of the settings

module _ (s : Settings) (setup : Setup) (start : Start) (names : List (List ℕ)) (same : names ≡ s.logs) (entries : List Entry) (files files' : FilesView) where
  pub counts-said : (entries' : List Entry) (total : TallySeen) → CountsLogs setup start s.generate names entries entries' files files' total
      → CountsLogs setup start s.generate s.logs entries entries' files files' total
  counts-said entries' total h = subst (λ (ns : List (List ℕ)). CountsLogs setup start s.generate ns entries entries' files files' total) same h

  pub stops-said : (fault : CountFault) → StopsLogs setup start s.generate names entries files files' fault → StopsLogs setup start s.generate s.logs entries files files' fault
  stops-said fault h = subst (λ (ns : List (List ℕ)). StopsLogs setup start s.generate ns entries files files' fault) same h

-- ---- a base that is what the settings say of a database

abbrev pub begins : Settings → SummaryValue → Start
begins s base = record { follow = follow_of s; totals = base.totals }

-- the lines of a total fit behind it
pub of-lines : (setup : Setup) (s : Settings) (base : SummaryValue) (start : Start) (lines : List (List ℕ)) (total : TallySeen) → start ≡ begins s base → AreInTotal setup start.totals lines total
    → IsOfLines base.totals total
of-lines setup s base start lines total is h = record { setup = setup; lines = lines; are = subst (λ (x : Start). AreInTotal setup x.totals lines total) is h }

-- the whole is what the base grew to, where the run restores, and else what is left of the run's own sum
whole-is : (s : Settings) (stored : DbValue) (base run grown left : SummaryValue) → base ≡ (base_of s stored).summary → GrowsBy s.restore s.keep base run grown left → IsWhole s stored run (whole_of s grown left)
whole-is s stored base run grown left = by s.restore
  where
    by : (b : Bool) → base ≡ (if b then stored else empty_db).summary → GrowsBy b s.keep base run grown left
        → MergesBy (if b then Append else Overwrite) s.keep stored.summary run (if b then grown else left)
    by true same (both, merged, new, own) = (both, subst (λ (v : SummaryValue). IsMerged v run both) same merged, new)
    by false same (still, own) = own

-- and so it is of what is left of that sum
left-is : (s : Settings) (stored : DbValue) (base run grown left : SummaryValue) → IsSummary run → base ≡ (base_of s stored).summary → GrowsBy s.restore s.keep base run grown left
    → IsWhole s stored left (whole_of s grown left)
left-is s stored base run grown left sound = by s.restore
  where
    by : (b : Bool) → base ≡ (if b then stored else empty_db).summary → GrowsBy b s.keep base run grown left
        → MergesBy (if b then Append else Overwrite) s.keep stored.summary left (if b then grown else left)
    by true same (both, merged, new, own) =
        (both, subst (λ (v : SummaryValue). IsMerged v left both) same (subst (λ (v : SummaryValue). IsMerged base v both) (sym own) merged), new)
    by false same (still, own) = own ∙ sym (trimmed-twice s.keep run sound) ∙ ap (trimmed s.keep) (sym own)

module _ (setup : Setup) (s : Settings) (files files' : FilesView) (stored : DbValue) (base : Base) (is : IsBaseOf (base_of s stored) base) (start : Start) (start-is : start ≡ begins s base.summary) where
  here : start ≡ start_of s stored
  here = start-is ∙ ap (λ (v : SummaryValue). begins s v) is.summary

  counts-here : (entries' : List Entry) (total : TallySeen) → CountsLogs setup start s.generate s.logs base.entries entries' files files' total
      → CountsLogs setup (start_of s stored) s.generate s.logs base.entries entries' files files' total
  counts-here entries' total h = subst (λ (x : Start). CountsLogs setup x s.generate s.logs base.entries entries' files files' total) here h

  pub stops-here : (status : Status) → StopsFrom setup s start base.entries files files' status → StopsAlone setup s stored files files' status
  stops-here status h = inl (record {
    entries = base.entries;
    begin = is.entries;
    fault = h.fault;
    status_is = h.status_is;
    stops = subst (λ (x : Start). StopsLogs setup x s.generate s.logs base.entries files files' h.fault) here h.stops;
  })

  pub counted-here : (entries' : List Entry) (total : TallySeen) → CountsLogs setup start s.generate s.logs base.entries entries' files files' total → CountsFrom setup s stored files files' total entries'
  counted-here entries' total h = record { entries = base.entries; begin = is.entries; counts = counts-here entries' total h }

  pub hungry-here : (entries' : List Entry) (total : TallySeen) → CountsLogs setup start s.generate s.logs base.entries entries' files files' total → StopsAlone setup s stored files files' NoMemory
  hungry-here entries' total h = inr (refl, record { total = total; entries' = entries'; counted = counted-here entries' total h })

  lines-here : (lines : List (List ℕ)) (total : TallySeen) (left grown : SummaryValue) (sums : AreSums s base.summary grown total left) → AreInTotal setup (start_of s stored).totals lines total
      → CountsLines setup (start_of s stored).totals lines sums.run
  lines-here lines total left grown sums in-total =
      subst (λ (v : SummaryValue). AreInTotal setup v.totals lines total → CountsLines setup v.totals lines sums.run) is.summary (sums.counts setup lines) in-total

  pub counts-on : (entries' : List Entry) (total : TallySeen) (left : SummaryValue) (base' : Base) → CountsLogs setup start s.generate s.logs base.entries entries' files files' total
      → AreSums s base.summary base'.summary total left → base'.entries ≡ entries' → CountsOn setup s stored files files' left base'
  counts-on entries' total left base' h sums same =
      let counted = counts-here entries' total h in
      record {
        has = record {
          entries = base.entries;
          begin = is.entries;
          entries' = entries';
          portions = counted.portions;
          read = counted.read;
          run = sums.run;
          is_summary = sums.is_summary;
          counts = lines-here (counted_lines s.generate (start_of s stored).follow counted.portions) total left base'.summary sums counted.counts;
          whole = whole_of s base'.summary left;
          is_whole = whole-is s stored base.summary sums.run base'.summary left is.summary sums.grown;
        };
        is_whole = left-is s stored base.summary sums.run base'.summary left sums.is_summary is.summary sums.grown;
        whole_is = refl;
        entries_are = sym same;
      }

-- an empty base is that of an empty database, whatever the settings say
pub empty-base : (s : Settings) (base : Base) → IsBaseOf empty_db base → IsBaseOf (base_of s empty_db) base
empty-base s base is = by s.restore
  where
    by : (b : Bool) → IsBaseOf (if b then empty_db else empty_db) base
    by true = is
    by false = is

-- ---- the calls

module _ (setup : Setup) (s : Settings) (files files' : FilesView) (d d' : DiskView) (i i' : Images) (stored : DbValue) (finds : Finds s d d' i i' stored) (agrees : differing s stored ≡ None)
    (entries : List Entry) (begin : AreBase s stored entries) where
  walked : (count : ℕ) × Walks (start_of s stored).follow s.logs entries files files' count → WalksLogs s d files files'
  walked h = record { stored = stored; is_stored = there-in s d d' stored (found-there s d d' i i' stored finds); entries = entries; begin = begin; count = h.0; walks = h.1 }

  pub stops-as : (fault : CountFault) → StopsLogs setup (start_of s stored) s.generate s.logs entries files files' fault → StopsCounting setup s files files' d d' i i' (status_of_count fault)
  stops-as (LogFailed place) h = record { found = record { stored = stored; finds = finds; agrees = agrees; entries = entries; begin = begin }; misses = h }
  stops-as (LogShort place at) h = record { found = record { stored = stored; finds = finds; agrees = agrees; entries = entries; begin = begin }; misses = h }
  stops-as (Full which total) h =
      record { found = record { stored = stored; finds = finds; agrees = agrees; entries = entries; begin = begin }; portions = h.portions; read = h.read; fills = h.fills }
  stops-as CountNoMemory (inl (place, portions, h)) = record {
    looks = looked-at s d d' i i' stored finds;
    asks = inr (walked (walks-miss h));
    faults = miss-counts files.counts PlaceNoMemory same-none h;
  }
  stops-as CountNoMemory (inr (portions, h)) = record { looks = looked-at s d d' i i' stored finds; asks = inr (walked (walks-some h)); faults = same-some h }

  -- memory ran out after all logs
  pub hungry-last : (entries' : List Entry) (total : TallySeen) → CountsLogs setup (start_of s stored) s.generate s.logs entries entries' files files' total → StopsHungry s files files' d d' i i'
  hungry-last entries' total h = record { looks = looked-at s d d' i i' stored finds; asks = inr (walked (walks-all h.read)); faults = same-all h.read }

module _ (setup : Setup) (s : Settings) (files files' : FilesView) (d d' : DiskView) (i i' : Images) (stored : DbValue) (finds : Finds s d d' i i' stored) (agrees : differing s stored ≡ None) where
  abbrev Stops : Status → Type 0
  Stops status = StopsCounting setup s files files' d d' i i' status

  -- the logs weren't all counted, or they were, and memory ran out then
  pub stops-on : (status : Status) → StopsAlone setup s stored files files' status → StopsCounting setup s files files' d d' i i' status
  stops-on status (inl h) = subst Stops (sym h.status_is) (stops-as setup s files files' d d' i i' stored finds agrees h.entries h.begin h.fault h.stops)
  stops-on status (inr (is, h)) = subst Stops (sym is) (hungry-last setup s files files' d d' i i' stored finds agrees h.counted.entries h.counted.begin h.entries' h.total h.counted.counts)

-- what was found keeps another number of days
pub stops-differs : (setup : Setup) (s : Settings) (files : FilesView) (d d' : DiskView) (i i' : Images) (stored : DbValue) → Finds s d d' i i' stored → (status : Status) → Differs s stored status
    → StopsCounting setup s files files d d' i i' status
stops-differs setup s files d d' i i' stored finds status (number, differs, is) =
    subst (λ (x : Status). StopsCounting setup s files files d d' i i' x) (sym is) (record { stored = stored; finds = finds; differs = differs; given_is = refl }, refl)

pub differs-unread : (s : Settings) (stored : DbValue) (status : Status) → Differs s stored status → NoFileFailed status
differs-unread s stored status (number, differs, is) = subst NoFileFailed (sym is) tt

-- ---- a run that uses no database

-- nothing that is stored has another number
none-differs : (s : Settings) → differing s empty_db ≡ None
none-differs s = by s.restore
  where
    by : (b : Bool) → (if b then other_than s.keep None else None) ≡ None
    by true = refl
    by false = refl

pub empty-fits : (s : Settings) → TotalsFit (start_of s empty_db).totals
empty-fits s = by s.restore
  where
    by : (b : Bool) → TotalsFit (if b then empty_db else empty_db).summary.totals
    by true = record { lines = omega arith; bytes = omega arith; micros = omega arith }
    by false = record { lines = omega arith; bytes = omega arith; micros = omega arith }

-- the sum of lines is a summary, where they pass no limit
pub sum-sound : (start : Totals) (outcomes : List Outcome) (sum : SummaryValue) → AllCountable outcomes → over start outcomes ≡ None → TotalsFit start → IsSumOf outcomes sum → IsSummary sum
sum-sound start outcomes sum countable fits fit is =
    let whole : TotalsFit (totals_plus start (totals_of outcomes)) = fits-on start outcomes fit fits in
    let own : TotalsFit (totals_of outcomes) = record { lines = omega (arith, whole.lines); bytes = omega (arith, whole.bytes); micros = omega (arith, whole.micros) } in
    record { ordered = is.ordered; sound = IsSound-sum outcomes sum countable own is }

-- the last days of its own sum are the whole
pub overwrites : (s : Settings) (stored : DbValue) (run : SummaryValue) → uses_database s ≡ false → IsWhole s stored run (trimmed s.keep run)
overwrites s stored run alone = by s.persist s.restore alone
  where
    by : (persist restore : Bool) → (persist || restore) ≡ false → MergesBy (if restore then Append else Overwrite) s.keep stored.summary run (trimmed s.keep run)
    by true restore h = absurd (true≢false h)
    by false true h = absurd (true≢false h)
    by false false h = refl

-- it finds no database, and leaves any as it is
pub finds-none : (s : Settings) (d : DiskView) (i : Images) (stored : DbValue) → uses_database s ≡ false → stored ≡ empty_db → Finds s d d i i stored
finds-none s d i stored alone empty = inr (alone, untouched, empty)

-- and it isn't kept
persists-not : (s : Settings) → uses_database s ≡ false → s.persist ≡ false
persists-not s alone = by s.persist s.restore alone
  where
    by : (persist restore : Bool) → (persist || restore) ≡ false → persist ≡ false
    by true restore h = absurd (true≢false h)
    by false restore h = refl

pub alone-last : (s : Settings) (stored : DbValue) (whole : SummaryValue) (entries : List Entry) (d : DiskView) (i : Images) (o o' : OutsView) → uses_database s ≡ false → (text : List ℕ)
    → IsTextOf s whole text → (status : Status) → EndsReport s text o o' status → o'.stderr ≡ o.stderr → OutsTrace o o' → EndsLast s stored whole entries d d i i o o' status
alone-last s stored whole entries d i o o' alone text is status ends errors wrote =
    reports-last s stored whole entries d d i i o o' text is (inr (persists-not s alone, untouched)) status ends errors no_disk_call wrote

-- how it ended after its setup says how it ended
pub ends-alone : {line : LineSetup} {s : Settings} {start files files' : FilesView} {setup : Setup} {d : DiskView} {i : Images} {o o' : OutsView} {status : Status} → IsSetUp line s start files setup → OnlyNow i
    → uses_database s ≡ false → EndsAlone setup s files files' o o' status → EndsInputs line s (outside start d i o) (outside files' d i o') status
ends-alone {line} {s} {start} {files} {files'} {setup} {d} {i} {o} {o'} {status} is only alone h =
    by (subst (λ (x : Setup). EndsTold x s files files' o o' status ⊎ EndsUntold x s files files' o o' status) is.is h.ends)
  where
    went : FilesTrace start files'
    went = files_then is.files_trace h.files_trace

    finding : Finds s d d i i empty_db
    finding = finds-none s d i empty_db alone refl

    by : EndsTold (setup_of line s is.rules) s files files' o o' status ⊎ EndsUntold (setup_of line s is.rules) s files files' o o' status → EndsInputs line s (outside start d i o) (outside files' d i o') status
    by (inl t) =
        let counted = t.is_text.has in
        ends-last line s start d i o files files' is.rules is.has_rules empty_db d i finding (none-differs s) counted only d i o' went no_disk_call status
        (alone-last s empty_db counted.whole counted.entries' d i o o' alone t.text t.is_text.is_text status t.ends t.errors t.outs_trace)
    by (inr u) =
        subst (λ (outs : OutsView). EndsInputs line s (outside start d i o) (outside files' d i outs) status) (sym u.quiet)
        (ends-count line s start d i o files files' is.rules is.has_rules d i went no_disk_call is.stay status (stops-on (setup_of line s is.rules) s files files' d d i i empty_db finding (none-differs s) status u.stops) u.sure)

-- ---- a run that uses the database

-- one that persists does
pub using : (s : Settings) → s.persist ≡ true → uses_database s ≡ true
using s persists = ap (λ (b : Bool). b || s.restore) persists

-- where it persists, it can be kept after what was found
pub ready : {setup : Setup} {s : Settings} {counted : TheCounted} {files files' : FilesView} {d d' : DiskView} {i i' : Images} (h : CountsRun setup s counted files files' d d' i i')
    → uses_database s ≡ true → IsReady s h.stored counted d' i'
ready {setup} {s} {counted} {files} {files'} {d} {d'} {i} {i'} h uses = by h.finds
  where
    by : Finds s d d' i i' h.stored → IsReady s h.stored counted d' i'
    by (inl (still, r)) = record {
      is_open = r.is_open;
      after = record {
        stands = h.stands;
        holds = r.holds;
        agrees = agrees-with s h.stored h.agrees;
        is_whole = h.is_whole;
      };
    }
    by (inr (none, left, empty)) = absurd (true≢false (sym uses ∙ none))

-- how it ended after its counting says how it ended
module _ {line : LineSetup} {s : Settings} {start files : FilesView} {setup : Setup} (is : IsSetUp line s start files setup) (counted : TheCounted) (files' : FilesView) (d d' d'' : DiskView) (i i' i'' : Images)
    (only : OnlyNow i) (o o' : OutsView) (status : Status) where
  EndsSo : Setup → Type 0
  EndsSo x = (h : CountsRun x s counted files files' d d' i i') → FilesTrace files files' → DiskTrace d d' → EndsLast s h.stored (whole_in s counted) counted.base.entries d' d'' i' i'' o o' status
      → EndsInputs line s (outside start d i o) (outside files' d'' i'' o') status

  ends-so : EndsSo (setup_of line s is.rules)
  unfolding EndsSo
  ends-so h went dwent ends =
      ends-last line s start d i o files files' is.rules is.has_rules h.stored d' i' h.finds h.agrees h.has only d'' i'' o' (files_then is.files_trace went) dwent status
      (subst (λ (whole : SummaryValue). EndsLast s h.stored whole h.has.entries' d' d'' i' i'' o o' status) (sym h.whole_is)
      (subst (λ (entries : List Entry). EndsLast s h.stored (whole_in s counted) entries d' d'' i' i'' o o' status) (sym h.entries_are) ends))

  pub ends-counted : (h : CountsRun setup s counted files files' d d' i i') → FilesTrace files files' → DiskTrace d d' → EndsLast s h.stored (whole_in s counted) counted.base.entries d' d'' i' i'' o o' status
      → EndsInputs line s (outside start d i o) (outside files' d'' i'' o') status
  unfolding EndsSo
  ends-counted = subst EndsSo (sym is.is) ends-so

-- one that wasn't counted
pub ends-uncounted : {line : LineSetup} {s : Settings} {start files files' : FilesView} {setup : Setup} {d d' : DiskView} {i i' : Images} {o : OutsView} {status : Status}
    → IsSetUp line s start files setup → StopsCounting setup s files files' d d' i i' status → (CanServe s.logs files → NoFileFailed status) → FilesTrace files files' → DiskTrace d d'
    → EndsInputs line s (outside start d i o) (outside files' d' i' o) status
ends-uncounted {line} {s} {start} {files} {files'} {setup} {d} {d'} {i} {i'} {o} {status} is stops sure went dwent =
    ends-count line s start d i o files files' is.rules is.has_rules d' i' (files_then is.files_trace went) dwent is.stay status
    (subst (λ (x : Setup). StopsCounting x s files files' d d' i i' status) is.is stops) sure

-- ---- its setup

-- it had one
abbrev setup_with : LineSetup → PanelSetup → Setup
setup_with line panels = record { line = line; panels = panels }

pub set-up : (line : LineSetup) (s : Settings) (start files : FilesView) (panels : PanelSetup) → HasPanels s start files panels → FilesTrace start files → FilesStay start files
    → IsSetUp line s start files (record { line = line; panels = panels })
set-up line s start files panels has went stay = record { rules = has.rules; has_rules = has.has_rules; is = ap (λ (p : PanelSetup). setup_with line p) has.is; files_trace = went; stay = stay }

-- it had none
pub ends-panels : (line : LineSetup) (s : Settings) (files : FilesView) (d : DiskView) (i : Images) (o : OutsView) (files' : FilesView) → FilesTrace files files' → (status : Status) → StopsPanels s files files' status
    → EndsInputs line s (outside files d i o) (outside files' d i o) status
ends-panels line s files d i o files' went status (inl h) =
    subst (λ (status : Status). EndsInputs line s (outside files d i o) (outside files' d i o) status) (sym h.status_is)
    (ends-rules line s files d i o files' went s.browsers_file refl h.fault h.stops h.sure)
ends-panels line s files d i o files' went status (inr h) =
    subst (λ (status : Status). EndsInputs line s (outside files d i o) (outside files' d i o) status) (sym h.0) (ends-hungry line s files d i o files' went h.1 h.2)
