-- What one run makes of the kept runs: nothing, or it is added to them.
use Rattle.std.proofs.Common.{◌≡◌, ◌≢◌, ◌⊎◌, ◌||◌, ℕ, Bool, true, false, List, ◌++◌, map, length, refl, ap, sym, ◌∙◌, subst, inl, inr, Option, Some, None, IfSome, Ok, unwrap_or, if◌then◌else◌}
use Rattle.std.proofs.lemmas.Bool.{false≢true}
use Rattle.ga_codec.specs.Values.{EntryValue, entry_value}
use Rattle.ga_disk.specs.Disk.{DiskView}
use Rattle.ga_disk.specs.Images.{LeavesOnly}
use Rattle.ga_disk.specs.Laws.{counts-now}
use Rattle.ga_disk.specs.MemDisk.{AreImages, bytes_of, disk_images, disk_view, states}
use Rattle.ga_disk.specs.Sides.{Sides}
use Rattle.ga_keep.specs.RunDatabase.{IsUntouched, IsAfter, base_of, follow_of, start_of, uses_database}
use Rattle.ga_keep.proofs.Kept.{agrees-with}
use Rattle.ga_line.specs.declared.setup.LineSetup.{LineSetup}
use Rattle.ga_logs.specs.Following.{AreTold}
use Rattle.ga_logs.specs.Portions.{counted_lines}
use Rattle.ga_outcomes.specs.LineOutcomes.{CountsLines}
use Rattle.ga_resume.specs.declared.follow.Follow.TheVariants.{ToEnd, ToLastLine, Whole}
use Rattle.ga_ports.specs.Files.{Contents, FilesView, told}
use Rattle.ga_ports.specs.MemFiles.{files_view, only_these}
use Rattle.ga_ports.specs.MemOuts.{outs_view}
use Rattle.ga_store.specs.Commit.{IsLater}
use Rattle.ga_store.specs.Commits.{HasEither}
use Rattle.ga_store.specs.Database.{DbOf, DbValue, empty_db}
use Rattle.ga_store.specs.Database.Reading.{stored as reads_as}
use Rattle.ga_base.specs.Totals.{totals_plus}
use Rattle.ga_summary.specs.LastDays.{trimmed}
use Rattle.ga_summary.specs.Limits.{passes}
use Rattle.ga_summary.specs.Outcomes.{Outcome}
use Rattle.ga_summary.specs.Sound.{IsSummary}
use Rattle.ga_summary.specs.SummaryRows.{SummaryValue}
use Rattle.ga_summary.specs.Sums.{IsSumOf}
use Rattle.ga_summary.proofs.LastDays.{trimmed-summary}
use Rattle.ga_words.specs.Joined.{JoinedOf}
use Rattle.ga_words.specs.declared.settings.Settings.{Settings}
use Rattle.ga_agents.specs.declared.row.Rule.{Rule}
use Rattle.ga_one_run.specs.Course.{HasRules, ReachesReport}
use Rattle.ga_one_run.specs.Told.{RulesAreTold}
use Rattle.ga_one_run.specs.Ends.{Ends, Finishes, HasReport}
use Rattle.ga_one_run.specs.Keeping.{FindsThere, KeepsSince, KeptSince}
use Rattle.ga_one_run.specs.Leaves.{Leaves, LeavesEither, LeavesKept, LeavesSides, SettlesBy, StaysIfRead}
use Rattle.ga_one_run.specs.Run.{AreRefused, HaveSetup, NothingWasRead, RunsOver, RunsWords}
use Rattle.ga_one_run.specs.Configured.{ConfIsTold, SayOver}
use Rattle.ga_one_run.specs.Outside.{Outside}
use Rattle.ga_one_run.specs.Printing.{but_errors, delivered, report_file}
use Rattle.ga_one_run.specs.Reports.{IsTextOf}
use Rattle.ga_one_run.specs.Setups.{IsLineSetup, setup_of}
use Rattle.ga_one_run.specs.declared.status.Status.{Status}
use Rattle.ga_one_run.specs.declared.status.Status.TheVariants.{Done, BadWords, BadConf, BadFormat, BadRules, FileFault, FileShort, DiskFault, DbDamaged, KeepDiffers, OutFault, CounterFull, NoMemory}
use Rattle.ga_one_run.proofs.Counting.{whole-fits}
use Rattle.ga_one_run.proofs.Telling.{kept-rules, seen-same, told-is}
use Rattle.ga_run.specs.Headline.{IsRunCount, HasRuns, Holds, IsAcknowledged, IsDone, Kept, RunCount, PrintsExactly, found_entries, found_outcomes, number_after, with_run}
use Rattle.ga_run.specs.History.{seen_of}
use Rattle.ga_run.specs.Parts.{AreToldApart, ArePartsOf, Part}
use Rattle.ga_run.specs.declared.history.World.{World}
use Rattle.ga_run.proofs.Counted.{parts-of}
use Rattle.ga_run.proofs.EachOnce.{Tracks, tracks-told}
use Rattle.ga_run.proofs.Words.{joined-over, one-over}
use Rattle.ga_run.proofs.Kept.{IsLastOf, Laws, begin-from, entries-with, number-with, outcomes-with, whole-sum}

-- the run is added to the kept runs
pub record Adds (words : List (List ℕ)) (status : Status) (old : World) (kept : Kept) (db : DbValue) (new : World) : Type 0 where
  pub s : Settings
  pub says : SayOver words (files_view old.files) (Ok s)
  pub line : LineSetup
  pub means : IsLineSetup s line
  pub persists : s.persist ≡ true
  pub run : RunCount
  pub ended : run.status ≡ status
  pub counts : IsRunCount line s old.files (found_entries s.restore kept.runs) run
  pub after : DbValue
  pub rises : IsLater db after
  pub has : HasRuns (with_run s.restore run kept.runs) after
  pub reads : DbOf (bytes_of (states new.disk)) (reads_as after)
  pub images : (image : Sides) → AreImages (states new.disk) image → DbOf image (reads_as after) ⊎ ((¬ IsAcknowledged status) × DbOf image (reads_as db))
  pub once : (parts : List Part) → AreToldApart old.files.contents (parts ++ run.parts) → Tracks old.files.contents parts (found_entries s.restore kept.runs) → Tracks old.files.contents (parts ++ run.parts) run.entries
  pub prints : status ≡ Done → PrintsExactly s (found_outcomes s.restore kept.runs ++ run.outcomes) (outs_view old.outs) (outs_view new.outs)

-- what a run made of them: an acknowledged one that persists is added
pub data Made (words : List (List ℕ)) (status : Status) (old : World) (kept : Kept) (db : DbValue) (new : World) : Type 0 where
  same : Holds kept db new → ((s : Settings) → SayOver words (files_view old.files) (Ok s) → s.persist ≡ true → IsAcknowledged status → ⊥) → Made words status old kept db new
  more : Adds words status old kept db new → Made words status old kept db new

some-same : {A : Type 0} {a b : A} → Some a ≡ Some b → a ≡ b
some-same e = cc

stored-same : {a b : DbValue} → reads_as a ≡ reads_as b → a ≡ b
stored-same e = cc

-- a run that isn't acknowledged, and left one database of two, left the old one alone where it reads so
settled-by : (status : Status) (stored after : DbValue) (old new : Outside) → ¬ IsAcknowledged status → SettlesBy status stored after old new → StaysIfRead stored old new
settled-by Done stored after old new not h = absurd (not tt)
settled-by (BadWords fault) stored after old new not h = h
settled-by (BadConf line) stored after old new not h = h
settled-by (BadFormat which fault) stored after old new not h = h
settled-by (BadRules at) stored after old new not h = h
settled-by (FileFault file) stored after old new not h = h
settled-by (FileShort file at) stored after old new not h = h
settled-by DiskFault stored after old new not h = h
settled-by (DbDamaged side at) stored after old new not h = h
settled-by (KeepDiffers number given) stored after old new not h = h
settled-by (OutFault to at) stored after old new not h = absurd (not tt)
settled-by (CounterFull which total) stored after old new not h = h
settled-by NoMemory stored after old new not h = h

-- the rules that were read are those that the file tells, and other files with the same contents tell them too
told-rules : (file : Option (List ℕ)) (a b c : FilesView) (rules : List Rule) → c.contents ≡ a.contents → a.contents ≢ None → HasRules file a b rules → RulesAreTold file c rules
told-rules None a b c rules alike some h = h.1
told-rules (Some name) a b c rules alike some (text, reads, gives) = (text.bytes, ap (told name) alike ∙ told-is name a b text some reads, gives)

pub some-contents : (w : World) → (files_view w.files).contents ≢ None
some-contents w e = cc

-- the files of a world after some were read: their contents are told as before
abbrev pub files-begun : World → FilesView → FilesView
files-begun old read = record (files_view old.files) { is_open = read.is_open; bytes = read.bytes; measured = read.measured; counts = read.counts }

-- what a run by settings sees of a world, once these files were read
abbrev pub begun-from : World → FilesView → Outside
begun-from old read = record (seen_of old) { files = files-begun old read }

module _ (laws : Laws) (kept : Kept) (db : DbValue) (old new : World) (held : Holds kept db old) (read : FilesView) where
  -- ---- what was found

  restores-uses : (s : Settings) → s.restore ≡ true → uses_database s ≡ true
  restores-uses s e = go s.persist s.restore e
    where
      go : (p r : Bool) → r ≡ true → (p || r) ≡ true
      go true r e = refl
      go false r e = e

  persists-uses : (s : Settings) → s.persist ≡ true → uses_database s ≡ true
  persists-uses s e = ap (λ (b : Bool). b || s.restore) e

  had-is : (stored : DbValue) → DbOf (bytes_of (states old.disk)) (reads_as stored) → stored ≡ db
  had-is stored has = stored-same (laws.database (bytes_of (states old.disk)) (reads_as stored) (reads_as db) has held.reads)

  found-is : (s : Settings) (found : DiskView) (stored : DbValue) → uses_database s ≡ true → FindsThere s (disk_view old.disk) found stored → stored ≡ db
  found-is s found stored uses (inl (used, h)) = had-is stored h.has
  found-is s found stored uses (inr (none, left, empty)) = absurd (false≢true (sym none ∙ uses))

  module _ (line : LineSetup) (s : Settings) (found : DiskView) (come : ReachesReport line s (files-begun old read) (files_view new.files) (disk_view old.disk) found) where
    found-if : s.restore ≡ true → come.stored ≡ db
    found-if e = found-is s found come.stored (restores-uses s e) come.finds

    -- the lines that the run counted
    told-logs : AreTold (follow_of s) (Some (only_these old.files.contents)) s.logs come.counted.entries come.counted.entries' come.counted.portions
    told-logs =
        subst (λ (c : Option Contents). AreTold (follow_of s) c s.logs come.counted.entries come.counted.entries' come.counted.portions) same-contents
        (laws.as_told (follow_of s) s.logs come.counted.entries come.counted.entries' come.mid (files_view new.files) come.counted.portions come.counted.read some-mid)
      where
        same-contents : come.mid.contents ≡ (files_view old.files).contents
        same-contents = kept-rules s.browsers_file (files-begun old read) come.mid come.rules come.has_rules

        some-mid : come.mid.contents ≢ None
        some-mid none = some-contents old (sym same-contents ∙ none)

    abbrev own-parts : (parts : List Part) × ArePartsOf (follow_of s) old.files.contents s.logs come.counted.portions parts
    own-parts = parts-of (follow_of s) old.files.contents s.logs come.counted.entries come.counted.entries' come.counted.portions told-logs

    abbrev own-run : Status → RunCount
    own-run status = record {
      outcomes = come.counted.counts.outcomes;
      parts = own-parts.0;
      entries = map entry_value come.counted.entries';
      keep = s.keep;
      status = status;
    }

    own-lines : (status : Status) → IsRunCount line s old.files (found_entries s.restore kept.runs) (own-run status)
    own-lines status = record {
      rules = come.rules;
      has_rules = told-rules s.browsers_file (files-begun old read) come.mid (files_view old.files) come.rules refl (some-contents old) come.has_rules;
      begun = come.counted.entries;
      begin = come.counted.begin ∙ begin-from laws db kept.runs held.has s.restore come.stored found-if;
      ended = come.counted.entries';
      portions = come.counted.portions;
      told = told-logs;
      parts = own-parts.1;
      have = come.counted.counts.have_outcomes;
      end = refl;
      keep_is = refl;
    }

    -- where entries track the logs before the run, they track them after it
    own-once : s.persist ≡ true → (parts : List Part) → AreToldApart old.files.contents (parts ++ own-parts.0) → Tracks old.files.contents parts (found_entries s.restore kept.runs)
        → Tracks old.files.contents (parts ++ own-parts.0) (map entry_value come.counted.entries')
    own-once persists parts apart tracks =
        tracks-told (follow_of s) (ap (λ (b : Bool). if b then ToLastLine else (if s.restore then ToEnd else Whole)) persists) old.files.contents s.logs parts come.counted.entries
        come.counted.entries' come.counted.portions told-logs apart
        (subst (λ (es : List EntryValue). Tracks old.files.contents parts es) (sym (come.counted.begin ∙ begin-from laws db kept.runs held.has s.restore come.stored found-if)) tracks)

    -- they fit behind what was found
    found-fits : s.restore ≡ true → passes (totals_plus db.summary.totals come.counted.run.totals) ≡ None
    found-fits e =
        let base-is : base_of s come.stored ≡ db = ap (λ (b : Bool). if b then come.stored else empty_db) e ∙ found-if e in
        let lines = counted_lines s.generate (start_of s come.stored).follow come.counted.portions in
        let good = subst (λ (v : SummaryValue). IsSummary v) (sym held.has.summary) (trimmed-summary (unwrap_or (number_after None kept.runs) 0) held.has.sum held.has.is_summary) in
        whole-fits (setup_of line s come.rules) db.summary lines come.counted.run good
        (subst (λ (d : DbValue). CountsLines (setup_of line s come.rules) d.summary.totals lines come.counted.run) base-is come.counted.counts)

    -- with what it found the whole is the last days of their sum
    all-sum : IsLastOf s.keep (found_outcomes s.restore kept.runs ++ come.counted.counts.outcomes) come.counted.whole
    all-sum =
        whole-sum laws db kept.runs held.has s.restore s.keep come.counted.counts.outcomes come.stored come.counted.run come.counted.whole found-if come.counted.counts.is_sum
        come.counted.is_summary found-fits (agrees-with s come.stored come.agrees) come.counted.is_whole

    -- a database after the run has it
    with-own : (status : Status) (after : DbValue) → IsAfter come.counted.whole come.counted.entries' s.keep after
        → HasRuns (with_run s.restore (own-run status) kept.runs) after
    with-own status after h =
        let run : RunCount = own-run status in
        let number = number-with s.restore run kept.runs in
        record {
          sum = all-sum.sum;
          is_sum = subst (λ (all : List Outcome). IsSumOf all all-sum.sum) (sym (outcomes-with s.restore run kept.runs)) all-sum.is_sum;
          is_summary = all-sum.is_summary;
          summary = h.summary ∙ all-sum.last ∙ ap (λ (o : Option ℕ). trimmed (unwrap_or o 0) all-sum.sum) (sym number);
          number = h.number ∙ sym number;
          entries = h.entries ∙ sym (entries-with s.restore run kept.runs);
        }

    prints-all : (text : List ℕ) → IsTextOf s come.counted.whole text
        → outs_view new.outs ≡ but_errors (outs_view new.outs) (delivered (report_file s.generate s.output.name) text (outs_view old.outs))
        → (outs_view new.outs).stderr ≡ (outs_view old.outs).stderr
        → PrintsExactly s (found_outcomes s.restore kept.runs ++ come.counted.counts.outcomes) (outs_view old.outs) (outs_view new.outs)
    prints-all text shown printed quiet = record {
      sum = all-sum.sum;
      is_sum = all-sum.is_sum;
      text = text;
      shown = subst (λ (v : SummaryValue). IsTextOf s v text) all-sum.last shown;
      printed = printed;
      quiet = quiet;
    }

  -- ---- no side was changed

  now-among : (P : Sides → Type 0) → LeavesOnly (disk_images old.disk) (disk_images new.disk) P → (image : Sides) → AreImages (states new.disk) image → P image
  now-among P h image now = h.each image (counts-now new.disk (length old.disk.changes) image h.later now)

  reads-same : Some (bytes_of (states new.disk)) ≡ Some (bytes_of (states old.disk)) → DbOf (bytes_of (states new.disk)) (reads_as db)
  reads-same e = subst (λ (sides : Sides). DbOf sides (reads_as db)) (sym (some-same e)) held.reads

  of-sides : LeavesSides (begun-from old read) (seen_of new) → Holds kept db new
  of-sides h = record {
    reads = reads-same h.seen;
    has = held.has;
    images = λ image now. held.images image (now-among (AreImages (states old.disk)) h.moments image now);
  }

  pub of-untouched : IsUntouched (disk_view old.disk) (disk_view new.disk) (disk_images old.disk) (disk_images new.disk) → Holds kept db new
  of-untouched h = record {
    reads = reads-same (ap (λ (d : DiskView). d.seen) h.view);
    has = held.has;
    images = λ image now. held.images image (h.now image now);
  }

  of-nothing : NothingWasRead (begun-from old read) (seen_of new) → Holds kept db new
  of-nothing h = of-untouched h.disk

  -- ---- the run was kept

  module _ (words conf : List (List ℕ)) (is_told : ConfIsTold words (files_view old.files) conf) (status : Status) (h : RunsWords conf words (begun-from old read) (seen_of new) status) where
    module _ (s : Settings) (line : LineSetup) (says : JoinedOf conf words (Ok s)) (means : IsLineSetup s line) (persists : s.persist ≡ true) where
      -- where a fault came after it was kept, it may be taken back
      of-kept : LeavesKept line s (begun-from old read) (seen_of new) status → ¬ IsAcknowledged status → Made words status old kept db new
      of-kept k not = by e.reads
        where
          e : LeavesEither (bytes_of (states old.disk)) k.come.stored k.after (begun-from old read) (seen_of new) status
          e = k.leaves

          is : k.come.stored ≡ db
          is = had-is k.come.stored e.had

          to-db : (image : Sides) → DbOf image (reads_as k.come.stored) → DbOf image (reads_as db)
          to-db image has = subst (λ (d : DbValue). DbOf image (reads_as d)) is has

          either : (image : Sides) → HasEither k.come.stored k.after image → DbOf image (reads_as k.after) ⊎ ((¬ IsAcknowledged status) × DbOf image (reads_as db))
          either image (inl old-one) = inr (not, to-db image old-one)
          either image (inr new-one) = inl new-one

          by : HasEither k.come.stored k.after (bytes_of (states new.disk)) → Made words status old kept db new
          by (inl reads) = same (record {
            reads = to-db _ reads;
            has = held.has;
            images = λ image now. inl (to-db image (settled-by status k.come.stored k.after (begun-from old read) (seen_of new) not e.settles refl reads image now));
          }) (λ t say p ack. not ack)
          by (inr reads) = more (record {
            s = s;
            says = (conf, is_told, says);
            line = line;
            means = means;
            persists = persists;
            run = own-run line s k.found k.come status;
            ended = refl;
            counts = own-lines line s k.found k.come status;
            after = k.after;
            rises = subst (λ (d : DbValue). IsLater d k.after) is e.rises;
            has = with-own line s k.found k.come status k.after k.is_after;
            reads = reads;
            images = λ image now. either image (e.either image now);
            once = own-once line s k.found k.come persists;
            prints = λ done. absurd (not (subst IsAcknowledged (sym done) tt));
          })

      -- where its report came, it is kept for good
      of-report : (has : HasReport line s (begun-from old read) (seen_of new))
          → (status ≡ Done → PrintsExactly s (found_outcomes s.restore kept.runs ++ has.come.counted.counts.outcomes) (outs_view old.outs) (outs_view new.outs))
          → Made words status old kept db new
      of-report has prints = by has.kept
        where
          is : has.come.stored ≡ db
          is = found-is s has.found has.come.stored (persists-uses s persists) has.come.finds

          by : KeptSince s has.come.stored has.come.counted.whole has.come.counted.entries' has.found (disk_view new.disk) (disk_images old.disk) (disk_images new.disk) → Made words status old kept db new
          by (inr (not, left)) = absurd (false≢true (sym not ∙ persists))
          by (inl (p, k)) =
              let keeps : KeepsSince has.come.stored k.new (disk_view new.disk) (disk_images old.disk) (disk_images new.disk) =
              subst (λ (o : Option Sides). IfSome o (λ seen. KeepsSince has.come.stored k.new (disk_view new.disk) (disk_images old.disk) (disk_images new.disk)))
              (seen-same s (disk_view old.disk) has.found has.come.stored has.come.finds) k.keeps in
              more (record {
                s = s;
                says = (conf, is_told, says);
                line = line;
                means = means;
                persists = persists;
                run = own-run line s has.found has.come status;
                ended = refl;
                counts = own-lines line s has.found has.come status;
                after = k.new;
                rises = subst (λ (d : DbValue). IsLater d k.new) is keeps.later;
                has = with-own line s has.found has.come status k.new k.after;
                reads = keeps.reads;
                images = λ image now. inl (keeps.all image now);
                once = own-once line s has.found has.come persists;
                prints = prints;
              })

      of-other : ¬ IsAcknowledged status → Leaves line s (begun-from old read) (seen_of new) status → Made words status old kept db new
      of-other not (inl sides) = same (of-sides sides) (λ t say p ack. not ack)
      of-other not (inr k) = of-kept k not

    -- ---- the words

    fed : IsAcknowledged status → status ≢ NoMemory
    fed ack e = subst (λ (x : Status). IsAcknowledged x) e ack

    refused-not : AreRefused conf words → IsAcknowledged status → ⊥
    refused-not (inl (fault, bad)) ack = subst (λ (x : Status). IsAcknowledged x) ((h.reads.bad_words fault).1 (bad, fed ack)) ack
    refused-not (inr (which, fault, bad)) ack = subst (λ (x : Status). IsAcknowledged x) ((h.reads.bad_format which fault).1 (bad, fed ack)) ack

    -- ---- by status

    module _ (s : Settings) (line : LineSetup) (says : JoinedOf conf words (Ok s)) (means : IsLineSetup s line) (over : RunsOver line s (begun-from old read) (seen_of new) status) where
      of-status : s.persist ≡ true → (st : Status) → status ≡ st → Ends line s (begun-from old read) (seen_of new) st → Made words status old kept db new
      of-status persists Done e ends =
          of-report s line says means persists ends.has
          (λ done. prints-all line s ends.has.found ends.has.come ends.has.text ends.has.report ends.printed (h.reports.quiet done))
      of-status persists (OutFault to at) e ends = of-report s line says means persists ends.has (λ done. cc)
      of-status persists (BadWords fault) e ends = absurd ends
      of-status persists (BadConf at) e ends = absurd ends
      of-status persists (BadFormat which fault) e ends = absurd ends
      of-status persists (BadRules at) e ends = of-other s line says means persists (λ ack. subst (λ (x : Status). IsAcknowledged x) e ack) over.leaves
      of-status persists (FileFault file) e ends = of-other s line says means persists (λ ack. subst (λ (x : Status). IsAcknowledged x) e ack) over.leaves
      of-status persists (FileShort file at) e ends = of-other s line says means persists (λ ack. subst (λ (x : Status). IsAcknowledged x) e ack) over.leaves
      of-status persists DiskFault e ends = of-other s line says means persists (λ ack. subst (λ (x : Status). IsAcknowledged x) e ack) over.leaves
      of-status persists (DbDamaged side at) e ends = of-other s line says means persists (λ ack. subst (λ (x : Status). IsAcknowledged x) e ack) over.leaves
      of-status persists (KeepDiffers number given) e ends = of-other s line says means persists (λ ack. subst (λ (x : Status). IsAcknowledged x) e ack) over.leaves
      of-status persists (CounterFull which total) e ends = of-other s line says means persists (λ ack. subst (λ (x : Status). IsAcknowledged x) e ack) over.leaves
      of-status persists NoMemory e ends = of-other s line says means persists (λ ack. subst (λ (x : Status). IsAcknowledged x) e ack) over.leaves

      of-setup : (b : Bool) → s.persist ≡ b → Made words status old kept db new
      of-setup true e = of-status e status refl over.ends
      of-setup false e = same (of-sides (over.unwritten e)) (λ t other persists ack. false≢true (sym e ∙ ap (λ (x : Settings). x.persist) (sym (one-over laws words (files_view old.files) s t (conf, is_told, says) other)) ∙ persists))

    pub made-of : Made words status old kept db new
    made-of = by h.reads.decided
      where
        by : AreRefused conf words ⊎ HaveSetup conf words ⊎ ((status ≡ NoMemory) × NothingWasRead (begun-from old read) (seen_of new)) → Made words status old kept db new
        by (inl refused) = same (of-nothing (h.reads.untouched refused)) (λ s says persists ack. refused-not refused ack)
        by (inr (inl (s, says, (line, means)))) = of-setup s line says means (h.runs s line says means) s.persist refl
        by (inr (inr (e, nothing))) = same (of-nothing nothing) (λ s says persists ack. fed ack e)

    -- a run that is done printed its report
    pub done-of : (s : Settings) → SayOver words (files_view old.files) (Ok s) → status ≡ Done → (line : LineSetup) × IsLineSetup s line × IsDone line s kept.runs old new
    done-of s says e = by h.reads.decided
      where
        acknowledged : IsAcknowledged status
        acknowledged = subst (λ (x : Status). IsAcknowledged x) (sym e) tt

        of-line : (line : LineSetup) → IsLineSetup s line → (line : LineSetup) × IsLineSetup s line × IsDone line s kept.runs old new
        of-line line means =
            let ends : Finishes line s (begun-from old read) (seen_of new) =
            subst (λ (x : Status). Ends line s (begun-from old read) (seen_of new) x) e (h.runs s line (joined-over laws words (files_view old.files) conf is_told s says) means).ends in (
              line,
              means,
              record {
                run = own-run line s ends.has.found ends.has.come status;
                counts = own-lines line s ends.has.found ends.has.come status;
                prints = prints-all line s ends.has.found ends.has.come ends.has.text ends.has.report ends.printed (h.reports.quiet e);
              },
            )

        by : AreRefused conf words ⊎ HaveSetup conf words ⊎ ((status ≡ NoMemory) × NothingWasRead (begun-from old read) (seen_of new))
            → (line : LineSetup) × IsLineSetup s line × IsDone line s kept.runs old new
        by (inl refused) = absurd (refused-not refused acknowledged)
        by (inr (inl (t, other, (line, means)))) = of-line line (subst (λ (x : Settings). IsLineSetup x line) (one-over laws words (files_view old.files) s t says (conf, is_told, other)) means)
        by (inr (inr (none, nothing))) = absurd (fed acknowledged none)
