-- Over told files and told sides a run has the answer that these have.
use Rattle.std.proofs.Common.{◌≡◌, ◌≢◌, ◌⊎◌, ℕ, ◌+◌, Bool, true, false, ◌&&◌, List, [], drop, refl, ap, sym, ◌∙◌, subst, inl, inr, Option, Some, None, IfSome}
use Rattle.std.proofs.lemmas.Bool.{false≢true}
use Rattle.std.specs.Option.{is_none}
use Rattle.ga_agents.specs.declared.row.Rule.{Rule}
use Rattle.ga_base.specs.declared.counts.Counter.{Counter}
use Rattle.ga_base.specs.declared.counts.Counter.TheVariants.{Generations}
use Rattle.ga_base.specs.declared.counts.TheConstants.{LIMIT}
use Rattle.ga_base.specs.declared.entry.Entry.{Entry}
use Rattle.ga_disk.specs.Disk.{DiskView}
use Rattle.ga_disk.specs.Images.{Images}
use Rattle.ga_disk.specs.Sides.{Sides}
use Rattle.ga_keep.specs.RunDatabase.{Finds, SidesHave, lacks_generation, mode_of, start_of}
use Rattle.ga_keep.specs.Faults.{HasDamage, Misses}
use Rattle.ga_line.specs.declared.setup.LineSetup.{LineSetup}
use Rattle.ga_logs.specs.Following.{AreSomeTold, AreTold, ReadsAll, ReadsPortion, ReadsSome}
use Rattle.ga_logs.specs.Portions.{IsPortionOf}
use Rattle.ga_resume.specs.declared.follow.Follow.{Follow}
use Rattle.ga_resume.specs.declared.follow.Follow.TheVariants.{Whole}
use Rattle.ga_logs.specs.declared.portion.Portion.{Portion}
use Rattle.ga_ports.specs.Files.{Contents, FilesView, content_of, told, is_absent}
use Rattle.ga_store.specs.Commit.{passes_generations}
use Rattle.ga_store.specs.Database.{DbOf, DbValue}
use Rattle.ga_store.specs.Database.Reading.{damaged, stored as reads_as}
use Rattle.ga_store.specs.declared.fault.StoreFault.TheVariants.{Damaged}
use Rattle.ga_summary.specs.SummaryRows.{SummaryValue}
use Rattle.ga_words.specs.declared.settings.Settings.{Settings}
use Rattle.ga_one_run.specs.Course.{HasCounted, HasRules}
use Rattle.ga_one_run.specs.Ends.{Ends, FillsCounter, FillsGenerations, FindsOther, Finishes, HasBadRule}
use Rattle.ga_one_run.specs.Keeping.{FindsThere, KeptSince}
use Rattle.ga_one_run.specs.Run.{IsTrouble, TellsSides}
use Rattle.ga_one_run.specs.Setups.{setup_of}
use Rattle.ga_one_run.specs.Told.{Answers, CountsTold, FillsTold, RulesAreTold, Yield}
use Rattle.ga_one_run.specs.Told.Answers.{answers_rules, answers_damage, answers_differs, answers_full, answers_generation, answers_done}
use Rattle.ga_one_run.specs.Outside.{Outside}
use Rattle.ga_one_run.specs.declared.status.Status.{Status}
use Rattle.ga_one_run.specs.declared.status.Status.TheVariants.{Done, BadWords, BadConf, BadFormat, BadRules, FileFault, FileShort, DiskFault, DbDamaged, KeepDiffers, OutFault, CounterFull, NoMemory}

-- what the law of told logs says
pub record ReadAsTold : Type 0 where
  pub all : (follow : Follow) (names : List (List ℕ)) (old new : List Entry) (files after : FilesView) (portions : List Portion) → ReadsAll follow names old new files after portions
      → files.contents ≢ None → AreTold follow files.contents names old new portions
  pub some : (follow : Follow) (names : List (List ℕ)) (old : List Entry) (files after : FilesView) (portions : List Portion) → ReadsSome follow names old files after portions
      → files.contents ≢ None → AreSomeTold follow files.contents names old portions

-- ---- files

-- what was read of a told file is what is told of it
pub told-is : (name : List ℕ) (files new : FilesView) (text : Portion) → files.contents ≢ None → ReadsPortion Whole [] name files new text → told name files.contents ≡ Some text.bytes
told-is name files new text some h = go files.contents some h.present h.told
  where
    by : (found : Option (List ℕ)) → is_none found ≡ false → IfSome found (λ log. IsPortionOf Whole [] log text) → found ≡ Some text.bytes
    by None there p = absurd (false≢true (sym there))
    by (Some log) there p = ap Some (sym (p.bytes ∙ ap (λ (n : ℕ). drop n log) p.begins.0))

    go : (contents : Option Contents) → contents ≢ None → is_absent name contents ≡ false → IfSome (told name contents) (λ log. IsPortionOf Whole [] log text) → told name contents ≡ Some text.bytes
    go None some there p = absurd (some refl)
    go (Some c) some there p = by (content_of name c) there p

-- reading changes no content
pub kept : (name : List ℕ) (a b : FilesView) (text : Portion) → ReadsPortion Whole [] name a b text → b.contents ≡ a.contents
kept name a b text h = ap (λ (v : FilesView). v.contents) h.asks.others

pub kept-rules : (file : Option (List ℕ)) (a b : FilesView) (rules : List Rule) → HasRules file a b rules → b.contents ≡ a.contents
kept-rules None a b rules h = ap (λ (v : FilesView). v.contents) h.0
kept-rules (Some name) a b rules (text, reads, gives) = kept name a b text reads

rules-told : (file : Option (List ℕ)) (a b : FilesView) (rules : List Rule) → a.contents ≢ None → HasRules file a b rules → RulesAreTold file a rules
rules-told None a b rules some h = h.1
rules-told (Some name) a b rules some (text, reads, gives) = (text.bytes, told-is name a b text some reads, gives)

-- ---- the disk

-- what was found of a disk was there
pub found-there : (s : Settings) (d d' : DiskView) (i i' : Images) (stored : DbValue) → Finds s d d' i i' stored → FindsThere s d d' stored
found-there s d d' i i' stored (inl (uses, r)) = inl (uses, record { view = r.looks.view; has = go d.seen refl; opened = r.opened; path = r.path; faults = r.faults; calls = r.calls })
  where
    go : (o : Option Sides) → d.seen ≡ o → IfSome o (λ sides. DbOf sides (reads_as stored))
    go None e = tt
    go (Some sides) e =
        let same : sides ≡ r.holds.sides = subst (λ (o : Option Sides). IfSome o (λ seen. seen ≡ r.holds.sides)) (ap (λ (v : DiskView). v.seen) r.looks.view ∙ e) r.holds.told in
        subst (λ (x : Sides). DbOf x (reads_as stored)) (sym same) r.holds.has
found-there s d d' i i' stored (inr (none, left, empty)) = inr (none, left.view, empty)

module _ (s : Settings) (d d' : DiskView) (stored : DbValue) where
  pub seen-same : FindsThere s d d' stored → d'.seen ≡ d.seen
  seen-same (inl (uses, h)) = ap (λ (v : DiskView). v.seen) h.view
  seen-same (inr (none, left, empty)) = ap (λ (v : DiskView). v.seen) left

  -- the database that was found is that of the sides
  pub there-in : FindsThere s d d' stored → IfSome d.seen (λ sides. SidesHave s sides stored)
  there-in (inl (uses, h)) = each d.seen h.has
    where
      each : (o : Option Sides) → IfSome o (λ sides. DbOf sides (reads_as stored)) → IfSome o (λ sides. SidesHave s sides stored)
      each None has = tt
      each (Some sides) has = inl (uses, has)
  there-in (inr (none, left, empty)) = each d.seen
    where
      each : (o : Option Sides) → IfSome o (λ sides. SidesHave s sides stored)
      each None = tt
      each (Some sides) = inr (none, empty)

  pub there-told : (sides : Sides) → TellsSides s d sides → FindsThere s d d' stored → SidesHave s sides stored
  there-told sides tells (inl (uses, h)) = subst (λ (o : Option Sides). IfSome o (λ x. SidesHave s x stored)) (tells uses) (there-in (inl (uses, h)))
  there-told sides tells (inr (none, left, empty)) = inr (none, empty)

-- damage that was found is that of the sides
damage-told : (s : Settings) (d d' : DiskView) (i i' : Images) (side at : ℕ) (sides : Sides) → TellsSides s d sides → Misses s d d' i i' (Damaged side at) → DbOf sides (damaged side at)
damage-told s d d' i i' side at sides tells h =
    let cause : HasDamage s d d' i' side at = h.cause in
    let seen : d'.seen ≡ Some sides = ap (λ (v : DiskView). v.seen) h.looks.view ∙ tells h.uses in
    let same : sides ≡ cause.damaged.sides = subst (λ (o : Option Sides). IfSome o (λ x. x ≡ cause.damaged.sides)) seen cause.damaged.told in
    subst (λ (x : Sides). DbOf x (damaged side at)) (sym same) cause.damaged.has

-- a run that was kept had room for its generation
left-right : (p b : Bool) → ((p ≡ true) × (b ≡ false)) ⊎ (p ≡ false) → (p && b) ≡ false
left-right false b h = refl
left-right true b (inl h) = h.1
left-right true b (inr h) = absurd (false≢true (sym h))

has-room : (s : Settings) (stored : DbValue) (whole : SummaryValue) (entries : List Entry) (d d' : DiskView) (i i' : Images) → KeptSince s stored whole entries d d' i i'
    → lacks_generation s stored ≡ false
has-room s stored whole entries d d' i i' (inl (persists, h)) = left-right s.persist (passes_generations (mode_of s) stored) (inl (persists, h.room))
has-room s stored whole entries d d' i i' (inr (not, h)) = left-right s.persist (passes_generations (mode_of s) stored) (inr not)

-- ---- the answer

module _ (law : ReadAsTold) (line : LineSetup) (s : Settings) where
  module _ (old new : Outside) (sides : Sides) (some : old.files.contents ≢ None) (tells : TellsSides s old.disk sides) where
    module _ (mid : FilesView) (rules : List Rule) (has : HasRules s.browsers_file old.files mid rules) where
      same-contents : mid.contents ≡ old.files.contents
      same-contents = kept-rules s.browsers_file old.files mid rules has

      some-later : mid.contents ≢ None
      some-later none = some (sym same-contents ∙ none)

      counted-told : (files' : FilesView) (stored : DbValue) (h : HasCounted (setup_of line s rules) s stored mid files') → CountsTold line s rules stored old.files h.whole h.entries'
      counted-told files' stored h = record {
        entries = h.entries;
        begin = h.begin;
        portions = h.portions;
        told =
            subst (λ (c : Option Contents). AreTold (start_of s stored).follow c s.logs h.entries h.entries' h.portions) same-contents
            (law.all (start_of s stored).follow s.logs h.entries h.entries' mid files' h.portions h.read some-later);
        run = h.run;
        counts = h.counts;
        is_whole = h.is_whole;
      }

  module _ (old new : Outside) (sides : Sides) (some : old.files.contents ≢ None) (tells : TellsSides s old.disk sides) where
    abbrev pub yield-of : Finishes line s old new → Yield
    yield-of h = record { text = h.has.text; whole = h.has.come.counted.whole; entries = h.has.come.counted.entries' }

    pub done-answers : (h : Finishes line s old new) → Answers line s old.files sides Done (Some (yield-of h))
    done-answers h =
        let come = h.has.come in
        answers_done come.rules come.stored (rules-told s.browsers_file old.files come.mid come.rules some come.has_rules)
        (there-told s old.disk h.has.found come.stored sides tells come.finds) come.agrees
        (counted-told old new sides some tells come.mid come.rules come.has_rules new.files come.stored come.counted)
        (has-room s come.stored come.counted.whole come.counted.entries' h.has.found new.disk old.images new.images h.has.kept) h.has.report

    bad-answers : (at : ℕ) → HasBadRule s old new at → Answers line s old.files sides (BadRules at) None
    bad-answers at h = answers_rules (record { name = h.name; named = h.named; text = h.text.bytes; told = told-is h.name old.files new.files h.text some h.read; bad = h.bad })

    fills-answers : (which : Counter) (total : ℕ) → FillsCounter line s old new which total → Answers line s old.files sides (CounterFull which total) None
    fills-answers which total h =
        let begun = h.begun in
        let same : h.mid.contents ≡ old.files.contents = kept-rules s.browsers_file old.files h.mid begun.rules begun.has_rules in
        let fills : FillsTold line s begun.rules begun.stored old.files which total = record {
          entries = begun.entries;
          begin = begun.begin;
          portions = h.portions;
          told =
              subst (λ (c : Option Contents). AreSomeTold (start_of s begun.stored).follow c s.logs begun.entries h.portions) same
              (law.some (start_of s begun.stored).follow s.logs begun.entries h.mid new.files h.portions h.read (λ none. some (sym same ∙ none)));
          fills = h.fills;
        } in
        answers_full begun.rules begun.stored (rules-told s.browsers_file old.files h.mid begun.rules some begun.has_rules)
        (there-told s old.disk new.disk begun.stored sides tells (found-there s old.disk new.disk old.images new.images begun.stored begun.finds)) begun.agrees fills

    lacks-answers : (which : Counter) (total : ℕ) → FillsGenerations line s old new which total → Answers line s old.files sides (CounterFull which total) None
    lacks-answers which total h =
        let come = h.come in
        let answers : Answers line s old.files sides (CounterFull Generations (LIMIT + 1)) None =
        answers_generation come.rules come.stored come.counted.whole come.counted.entries' (rules-told s.browsers_file old.files come.mid come.rules some come.has_rules)
        (there-told s old.disk new.disk come.stored sides tells come.finds) come.agrees
        (counted-told old new sides some tells come.mid come.rules come.has_rules new.files come.stored come.counted) h.lacks in
        subst (λ (w : Counter). Answers line s old.files sides (CounterFull w total) None) (sym h.counter)
        (subst (λ (n : ℕ). Answers line s old.files sides (CounterFull Generations n) None) (sym h.value) answers)

    differs-answers : (number given : ℕ) → FindsOther s old new number given → Answers line s old.files sides (KeepDiffers number given) None
    differs-answers number given h =
        subst (λ (n : ℕ). Answers line s old.files sides (KeepDiffers number n) None) (sym h.given_is)
        (answers_differs h.rules h.stored (rules-told s.browsers_file old.files new.files h.rules some h.has_rules)
        (there-told s old.disk new.disk h.stored sides tells (found-there s old.disk new.disk old.images new.images h.stored h.finds)) h.differs)

    pub answers : (status : Status) → Ends line s old new status → IsTrouble status ⊎ ((yield : Option Yield) × Answers line s old.files sides status yield)
    answers Done h = inr (Some (yield-of h), done-answers h)
    answers (BadWords fault) h = absurd h
    answers (BadConf at) h = absurd h
    answers (BadFormat which fault) h = absurd h
    answers (BadRules at) h = inr (None, bad-answers at h.0)
    answers (FileFault file) h = inl tt
    answers (FileShort file at) h = inl tt
    answers DiskFault h = inl tt
    answers (DbDamaged side at) h =
        let misses = h.0 in
        inr (
          None,
          answers_damage misses.rules (rules-told s.browsers_file old.files new.files misses.rules some misses.has_rules) misses.misses.uses
              (damage-told s old.disk new.disk old.images new.images side at sides tells misses.misses),
        )
    answers (KeepDiffers number given) h = inr (None, differs-answers number given h.0)
    answers (OutFault to at) h = inl tt
    answers (CounterFull which total) (inl h, quiet) = inr (None, fills-answers which total h)
    answers (CounterFull which total) (inr h, quiet) = inr (None, lacks-answers which total h)
    answers NoMemory h = inl tt
