-- Over told files and sides a run has one answer.
use Rattle.std.proofs.Common.{◌≡◌, ◌⊎◌, ℕ, ◌≤◌, Bool, true, false, List, [], ◌∷◌, ◌++◌, refl, ap, sym, ◌∙◌, subst, inl, inr, Option, Some, None, map, min, append_assoc}
use Rattle.std.proofs.Props.{props}
use Rattle.std.proofs.lemmas.Bool.{false≢true}
use Rattle.std.proofs.lemmas.List.Concat.{flat_map-append}
use Rattle.std.specs.List.{flat_map}
use Rattle.ga_agents.specs.RulesFile.{FileGives, IsBadLine}
use Rattle.ga_agents.specs.declared.row.Rule.{Rule}
use Rattle.ga_base.specs.declared.counts.Counter.{Counter}
use Rattle.ga_base.specs.declared.counts.Totals.{Totals}
use Rattle.ga_base.specs.declared.entry.Entry.{Entry}
use Rattle.ga_codec.specs.Values.{EntryValue, entry_value}
use Rattle.ga_disk.specs.Sides.{Sides}
use Rattle.ga_keep.specs.RunDatabase.{AreBase, SidesHave, differing, follow_of, lacks_generation, mode_of, start_of, uses_database}
use Rattle.ga_line.specs.Lines.{lines}
use Rattle.ga_line.specs.declared.setup.LineSetup.{LineSetup}
use Rattle.ga_outcomes.specs.LineOutcomes.{CountsLines, FillsAmong}
use Rattle.ga_logs.specs.Following.{AreSomeTold, AreTold}
use Rattle.ga_logs.specs.Following.AreSomeTold.{told_last, told_none, told_on}
use Rattle.ga_logs.specs.Following.AreTold.{told_then}
use Rattle.ga_logs.specs.Portions.{Follows, IsPortionOf, counted_lines, generated_lines}
use Rattle.ga_resume.specs.Following.{keeps}
use Rattle.ga_resume.specs.declared.follow.Follow.{Follow}
use Rattle.ga_logs.specs.declared.portion.Portion.{Portion}
use Rattle.ga_ports.specs.Files.{Contents, FilesView, told}
use Rattle.ga_store.specs.Commit.{MergesBy}
use Rattle.ga_store.specs.Database.{DbOf, DbValue, Reading}
use Rattle.ga_store.specs.Database.Reading.{damaged, stored as reads_as}
use Rattle.ga_store.specs.declared.mode.Mode.{Mode}
use Rattle.ga_store.specs.declared.mode.Mode.TheVariants.{Append, Overwrite}
use Rattle.ga_summary.specs.LastDays.{trimmed}
use Rattle.ga_summary.specs.SummaryRows.{SummaryValue}
use Rattle.ga_summary.proofs.Unique.{one_merged}
use Rattle.ga_words.specs.declared.settings.Settings.{Settings}
use Rattle.ga_one_run.specs.Reports.{IsTextOf}
use Rattle.ga_one_run.specs.Setups.{setup_of}
use Rattle.ga_one_run.specs.Told.{Answers, CountsTold, FillsTold, HasBadLine, RulesAreTold, Yield}
use Rattle.ga_one_run.specs.Told.Answers.{answers_rules, answers_damage, answers_differs, answers_full, answers_generation, answers_done}
use Rattle.ga_one_run.specs.declared.status.Status.{Status}
use Rattle.ga_one_run.specs.declared.status.Status.TheVariants.{BadRules, CounterFull, DbDamaged, KeepDiffers}
use Rattle.ga_one_run.proofs.OneCount.{fills-longer}

none-some : {A : Type 0} {a : A} → None ≡ Some a → ⊥
none-some e = cc

some-same : {A : Type 0} {a b : A} → Some a ≡ Some b → a ≡ b
some-same e = cc

-- ---- what the laws say

pub record OneReading : Type 0 where
  pub rules : (text : List ℕ) (one two : List Rule) → FileGives text one → FileGives text two → one ≡ two
  pub fault : (text : List ℕ) (one two : ℕ) → IsBadLine text one → IsBadLine text two → one ≡ two
  pub either : (text : List ℕ) (given : List Rule) (number : ℕ) → FileGives text given → ¬ IsBadLine text number

pub record OneCount (s : Settings) (line : LineSetup) : Type 0 where
  pub total : (rules : List Rule) (start : Totals) (all : List (List ℕ)) (a b : SummaryValue) → CountsLines (setup_of line s rules) start all a → CountsLines (setup_of line s rules) start all b → a ≡ b
  pub counter : (rules : List Rule) (start : Totals) (all : List (List ℕ)) (which which' : Counter) (total total' : ℕ) → FillsAmong (setup_of line s rules) start all which total
      → FillsAmong (setup_of line s rules) start all which' total' → (which ≡ which') × (total ≡ total')
  pub apart : (rules : List Rule) (start : Totals) (all : List (List ℕ)) (sum : SummaryValue) (which : Counter) (total : ℕ) → CountsLines (setup_of line s rules) start all sum
      → FillsAmong (setup_of line s rules) start all which total → ⊥

pub record OneCourse : Type 0 where
  pub portion : (follow : Follow) (entries : List Entry) (log : List ℕ) (a b : Portion) → IsPortionOf follow entries log a → IsPortionOf follow entries log b → a ≡ b
  pub following : (follow : Follow) (portion : Portion) (old a b : List Entry) → Follows follow portion old a → Follows follow portion old b → a ≡ b
  pub course : (follow : Follow) (contents : Option Contents) (names : List (List ℕ)) (old new other : List Entry) (a b : List Portion) → AreTold follow contents names old new a
      → AreTold follow contents names old other b → (a ≡ b) × (new ≡ other)

abbrev pub OneDatabase : Type 0
OneDatabase = (sides : Sides) (x y : Reading) → DbOf sides x → DbOf sides y → x ≡ y

abbrev pub OneText : Settings → Type 0
OneText s = (sum : SummaryValue) (a b : List ℕ) → IsTextOf s sum a → IsTextOf s sum b → a ≡ b

-- ---- rules

pub one-rules : OneReading → (file : Option (List ℕ)) (files : FilesView) (rules other : List Rule) → RulesAreTold file files rules → RulesAreTold file files other → rules ≡ other
one-rules one None files rules other h k = h ∙ sym k
one-rules one (Some name) files rules other (text, is, gives) (text', is', gives') =
    one.rules text rules other gives (subst (λ (t : List ℕ). FileGives t other) (some-same (sym is' ∙ is)) gives')

no-bad : OneReading → (s : Settings) (files : FilesView) (rules : List Rule) (at : ℕ) → RulesAreTold s.browsers_file files rules → HasBadLine s files at → ⊥
no-bad one s files rules at h bad =
    let (text, is, gives) = subst (λ (file : Option (List ℕ)). RulesAreTold file files rules) bad.named h in
    one.either text rules at gives (subst (λ (t : List ℕ). IsBadLine t at) (some-same (sym bad.told ∙ is)) bad.bad)

one-bad : OneReading → (s : Settings) (files : FilesView) (at other : ℕ) → HasBadLine s files at → HasBadLine s files other → at ≡ other
one-bad one s files at other h k =
    let name : h.name ≡ k.name = some-same (sym h.named ∙ k.named) in
    let text : h.text ≡ k.text = some-same (sym h.told ∙ ap (λ (n : List ℕ). told n files.contents) name ∙ k.told) in
    one.fault k.text at other (subst (λ (t : List ℕ). IsBadLine t at) text h.bad) k.bad

-- ---- the database

stored-same : {a b : DbValue} → reads_as a ≡ reads_as b → a ≡ b
stored-same e = cc

not-damaged : {a : DbValue} {side at : ℕ} → reads_as a ≡ damaged side at → ⊥
not-damaged e = cc

damage-same : {side other at place : ℕ} → damaged side at ≡ damaged other place → (side ≡ other) × (at ≡ place)
damage-same e = (cc, cc)

one-stored : OneDatabase → (s : Settings) (sides : Sides) (a b : DbValue) → SidesHave s sides a → SidesHave s sides b → a ≡ b
one-stored one s sides a b (inl (uses, h)) (inl (uses', k)) = stored-same (one sides (reads_as a) (reads_as b) h k)
one-stored one s sides a b (inl (uses, h)) (inr (none, empty)) = absurd (false≢true (sym none ∙ uses))
one-stored one s sides a b (inr (none, empty)) (inl (uses, h)) = absurd (false≢true (sym none ∙ uses))
one-stored one s sides a b (inr (none, empty)) (inr (none', empty')) = empty ∙ sym empty'

no-damage : OneDatabase → (s : Settings) (sides : Sides) (a : DbValue) (side at : ℕ) → uses_database s ≡ true → SidesHave s sides a → DbOf sides (damaged side at) → ⊥
no-damage one s sides a side at uses (inl (uses', h)) bad = not-damaged (one sides (reads_as a) (damaged side at) h bad)
no-damage one s sides a side at uses (inr (none, empty)) bad = false≢true (sym none ∙ uses)

-- ---- entries

-- what the type of an entry says of its numbers
abbrev IsGood : ℕ × List ℕ × ℕ → Type 0
IsGood (lead, digest, offset) = (lead ≡ min offset 4096) × (1 ≤ offset)

good-once : (fields : ℕ × List ℕ × ℕ) → IsProp (IsGood fields)
good-once (lead, digest, offset) = hlevel props

abbrev entry : (fields : ℕ × List ℕ × ℕ) → IsGood fields → Entry
entry (lead, digest, offset) good = record { lead = lead; digest = digest; offset = offset; leads = good.0; counted = good.1 }

entry-by : (f g : ℕ × List ℕ × ℕ) (x : IsGood f) (y : IsGood g) → f ≡ g → entry f x ≡ entry g y
entry-by f g x y same =
    subst (λ (h : ℕ × List ℕ × ℕ). (z : IsGood h) → entry f x ≡ entry h z) same (λ z. ap (λ (w : IsGood f). entry f w) (good-once f x z)) y

entry-same : (a b : Entry) → entry_value a ≡ entry_value b → a ≡ b
entry-same a b same =
    entry-by (a.lead, a.digest, a.offset) (b.lead, b.digest, b.offset) (a.leads, a.counted) (b.leads, b.counted)
    (ap (λ (v : EntryValue). (v.lead, v.digest, v.offset)) same)

entries-same : (a b : List Entry) → map entry_value a ≡ map entry_value b → a ≡ b
entries-same [] [] e = refl
entries-same [] (y ∷ b) e = absurd (cc e)
entries-same (x ∷ a) [] e = absurd (cc e)
entries-same (x ∷ a) (y ∷ b) e =
    let head : entry_value x ≡ entry_value y = cc in
    let tail : map entry_value a ≡ map entry_value b = cc in
    ap (λ (z : Entry). z ∷ a) (entry-same x y head) ∙ ap (λ (zs : List Entry). y ∷ zs) (entries-same a b tail)

one-base : (s : Settings) (stored : DbValue) (a b : List Entry) → AreBase s stored a → AreBase s stored b → a ≡ b
one-base s stored a b h k = entries-same a b (h ∙ sym k)

-- ---- sums

one-whole : (mode : Mode) (keep : ℕ) (old run x y : SummaryValue) → MergesBy mode keep old run x → MergesBy mode keep old run y → x ≡ y
one-whole Overwrite keep old run x y h k = h ∙ sym k
one-whole Append keep old run x y (both, merged, is) (both', merged', is') = is ∙ ap (trimmed keep) (one_merged old run both both' merged merged') ∙ sym is'

-- ---- told logs

abbrev lines-of : Follow → List Portion → List (List ℕ)
lines-of follow portions = flat_map (λ portion. lines portion.bytes (keeps follow)) portions

-- what is counted of more logs begins with what is counted of fewer
lines-longer : (n : Option ℕ) (follow : Follow) (portions more : List Portion) → counted_lines n follow (portions ++ more) ≡ counted_lines n follow portions ++ lines-of follow more
lines-longer n follow portions more =
    ap (λ (ls : List (List ℕ)). generated_lines n ++ ls) (flat_map-append (λ portion. lines portion.bytes (keeps follow)) portions more)
    ∙ sym (append_assoc (generated_lines n) (lines-of follow portions) (lines-of follow more))

-- of two fronts of the logs one is a front of the other
abbrev AreFronts : List Portion → List Portion → Type 0
AreFronts a b = ((x : List Portion) × (b ≡ a ++ x)) ⊎ ((x : List Portion) × (a ≡ b ++ x))

fronts-on : (p q : Portion) (a b : List Portion) → p ≡ q → AreFronts a b → AreFronts (p ∷ a) (q ∷ b)
fronts-on p q a b same (inl (x, is)) = inl (x, ap (λ (z : Portion). z ∷ b) (sym same) ∙ ap (λ (zs : List Portion). p ∷ zs) is)
fronts-on p q a b same (inr (x, is)) = inr (x, ap (λ (z : Portion). z ∷ a) same ∙ ap (λ (zs : List Portion). q ∷ zs) is)

module _ (one : OneCourse) (follow : Follow) (contents : Option Contents) where
  one-portion : (name : List ℕ) {log log' : List ℕ} {entries : List Entry} {p q : Portion} → told name contents ≡ Some log → told name contents ≡ Some log' → IsPortionOf follow entries log p
      → IsPortionOf follow entries log' q → p ≡ q
  one-portion name {log} {log'} {entries} {p} {q} t t' is is' =
      let text : log ≡ log' = some-same (sym t ∙ t') in
      one.portion follow entries log p q is (subst (λ (l : List ℕ). IsPortionOf follow entries l q) (sym text) is')

  fronts : (names : List (List ℕ)) (old : List Entry) (a b : List Portion) → AreSomeTold follow contents names old a → AreSomeTold follow contents names old b → AreFronts a b
  fronts names old a b told_none k = inl (b, refl)
  fronts names old a b h told_none = inr (a, refl)
  fronts (name ∷ names) old a b (told_last {portion = p} t is) (told_last {portion = q} t' is') = fronts-on p q [] [] (one-portion name t t' is is') (inl ([], refl))
  fronts (name ∷ names) old a b (told_last {portion = p} t is) (told_on {portion = q} {portions = qs} t' is' goes' more') = fronts-on p q [] qs (one-portion name t t' is is') (inl (qs, refl))
  fronts (name ∷ names) old a b (told_on {portion = p} {portions = ps} t is goes more) (told_last {portion = q} t' is') = fronts-on p q ps [] (one-portion name t t' is is') (inr (ps, refl))
  fronts (name ∷ names) old a b (told_on {mid = mid} {portion = p} {portions = ps} t is goes more) (told_on {mid = mid'} {portion = q} {portions = qs} t' is' goes' more') =
      let portion : p ≡ q = one-portion name t t' is is' in
      let entries : mid ≡ mid' = one.following follow p old mid mid' goes (subst (λ (z : Portion). Follows follow z old mid') (sym portion) goes') in
      fronts-on p q ps qs portion (fronts names mid ps qs more (subst (λ (es : List Entry). AreSomeTold follow contents names es qs) (sym entries) more'))

  -- all logs begin with some of them
  all-begins : (names : List (List ℕ)) (old new : List Entry) (a b : List Portion) → AreSomeTold follow contents names old a → AreTold follow contents names old new b
      → (x : List Portion) × (b ≡ a ++ x)
  all-begins names old new a b told_none k = (b, refl)
  all-begins (name ∷ names) old new a b (told_last {portion = p} t is) (told_then {portion = q} {portions = qs} t' is' goes' more') =
      (qs, ap (λ (z : Portion). z ∷ qs) (sym (one-portion name t t' is is')))
  all-begins (name ∷ names) old new a b (told_on {mid = mid} {portion = p} {portions = ps} t is goes more) (told_then {mid = mid'} {portion = q} {portions = qs} t' is' goes' more') =
      let portion : p ≡ q = one-portion name t t' is is' in
      let entries : mid ≡ mid' = one.following follow p old mid mid' goes (subst (λ (z : Portion). Follows follow z old mid') (sym portion) goes') in
      let (x, rest) = all-begins names mid new ps qs more (subst (λ (es : List Entry). AreTold follow contents names es new qs) (sym entries) more') in
      (x, ap (λ (z : Portion). z ∷ qs) (sym portion) ∙ ap (λ (zs : List Portion). p ∷ zs) rest)

-- ---- one answer

abbrev Same : Status → Status → Option Yield → Option Yield → Type 0
Same a b x y = (a ≡ b) × (x ≡ y)

yield-same : (a b : Yield) → a.text ≡ b.text → a.whole ≡ b.whole → a.entries ≡ b.entries → a ≡ b
yield-same a b text whole entries = λ i. record { text = text i; whole = whole i; entries = entries i }

module _ (reading : OneReading) (course : OneCourse) (database : OneDatabase) (s : Settings) (line : LineSetup) (count : OneCount s line) (one-text : OneText s) (files : FilesView) (sides : Sides) where
  module _ (rules : List Rule) (stored : DbValue) where
    -- the same logs have one whole and leave one list of entries
    one-counted : (whole other : SummaryValue) (entries entries' : List Entry) → CountsTold line s rules stored files whole entries → CountsTold line s rules stored files other entries'
        → (whole ≡ other) × (entries ≡ entries')
    one-counted whole other entries entries' h k =
        let base : h.entries ≡ k.entries = one-base s stored h.entries k.entries h.begin k.begin in
        let both = course.course (follow_of s) files.contents s.logs k.entries entries entries' h.portions k.portions
        (subst (λ (es : List Entry). AreTold (follow_of s) files.contents s.logs es entries h.portions) base h.told) k.told in
        let run : h.run ≡ k.run = count.total rules (start_of s stored).totals (counted_lines s.generate (follow_of s) k.portions) h.run k.run
        (subst (λ (ps : List Portion). CountsLines (setup_of line s rules) (start_of s stored).totals (counted_lines s.generate (follow_of s) ps) h.run) both.0 h.counts) k.counts in
        (one-whole (mode_of s) s.keep stored.summary k.run whole other (subst (λ (r : SummaryValue). MergesBy (mode_of s) s.keep stored.summary r whole) run h.is_whole) k.is_whole, both.1)

    fills-same : (which which' : Counter) (total total' : ℕ) → FillsTold line s rules stored files which total → FillsTold line s rules stored files which' total' → CounterFull which total ≡ CounterFull which' total'
    fills-same which which' total total' h k =
        by (fronts course (follow_of s) files.contents s.logs k.entries h.portions k.portions (subst (λ (es : List Entry). AreSomeTold (follow_of s) files.contents s.logs es h.portions) base h.told) k.told)
      where
        base : h.entries ≡ k.entries
        base = one-base s stored h.entries k.entries h.begin k.begin

        full-same : (which ≡ which') × (total ≡ total') → CounterFull which total ≡ CounterFull which' total'
        full-same e = let one : which ≡ which' = e.0 in let two : total ≡ total' = e.1 in cc

        by : AreFronts h.portions k.portions → CounterFull which total ≡ CounterFull which' total'
        by (inl (x, is)) =
            let all : counted_lines s.generate (follow_of s) k.portions ≡ counted_lines s.generate (follow_of s) h.portions ++ lines-of (follow_of s) x = ap (counted_lines s.generate (follow_of s)) is ∙ lines-longer s.generate (follow_of s) h.portions x in
            full-same (count.counter rules (start_of s stored).totals (counted_lines s.generate (follow_of s) k.portions) which which' total total'
            (subst (λ (ls : List (List ℕ)). FillsAmong (setup_of line s rules) (start_of s stored).totals ls which total) (sym all) (fills-longer (setup_of line s rules) (start_of s stored).totals (counted_lines s.generate (follow_of s) h.portions) (lines-of (follow_of s) x) which total h.fills))
            k.fills)
        by (inr (x, is)) =
            let all : counted_lines s.generate (follow_of s) h.portions ≡ counted_lines s.generate (follow_of s) k.portions ++ lines-of (follow_of s) x = ap (counted_lines s.generate (follow_of s)) is ∙ lines-longer s.generate (follow_of s) k.portions x in
            full-same (count.counter rules (start_of s stored).totals (counted_lines s.generate (follow_of s) h.portions) which which' total total' h.fills
            (subst (λ (ls : List (List ℕ)). FillsAmong (setup_of line s rules) (start_of s stored).totals ls which' total') (sym all) (fills-longer (setup_of line s rules) (start_of s stored).totals (counted_lines s.generate (follow_of s) k.portions) (lines-of (follow_of s) x) which' total' k.fills)))

    -- where all logs were counted, none of them fill a counter
    not-full : (whole : SummaryValue) (entries : List Entry) (which : Counter) (total : ℕ) → CountsTold line s rules stored files whole entries → FillsTold line s rules stored files which total → ⊥
    not-full whole entries which total h k =
        let base : h.entries ≡ k.entries = one-base s stored h.entries k.entries h.begin k.begin in
        let (x, is) = all-begins course (follow_of s) files.contents s.logs k.entries entries k.portions h.portions k.told
        (subst (λ (es : List Entry). AreTold (follow_of s) files.contents s.logs es entries h.portions) base h.told) in
        let all : counted_lines s.generate (follow_of s) h.portions ≡ counted_lines s.generate (follow_of s) k.portions ++ lines-of (follow_of s) x =
        ap (counted_lines s.generate (follow_of s)) is ∙ lines-longer s.generate (follow_of s) k.portions x in
        count.apart rules (start_of s stored).totals (counted_lines s.generate (follow_of s) h.portions) h.run which total h.counts
        (subst (λ (ls : List (List ℕ)). FillsAmong (setup_of line s rules) (start_of s stored).totals ls which total) (sym all)
        (fills-longer (setup_of line s rules) (start_of s stored).totals (counted_lines s.generate (follow_of s) k.portions) (lines-of (follow_of s) x) which total k.fills))

  abbrev Told : List Rule → Type 0
  Told rules = RulesAreTold s.browsers_file files rules

  -- the same rules and the same database
  module _ (rules other : List Rule) (stored stored' : DbValue) (told-rules : Told rules) (told-other : Told other) (has : SidesHave s sides stored) (has' : SidesHave s sides stored') where
    rules-are : other ≡ rules
    rules-are = one-rules reading s.browsers_file files other rules told-other told-rules

    stored-is : stored' ≡ stored
    stored-is = one-stored database s sides stored' stored has' has

    counts-as : (whole : SummaryValue) (entries : List Entry) → CountsTold line s other stored' files whole entries → CountsTold line s rules stored files whole entries
    counts-as whole entries k =
        subst (λ (d : DbValue). CountsTold line s rules d files whole entries) stored-is (subst (λ (r : List Rule). CountsTold line s r stored' files whole entries) rules-are k)

    fills-as : (which : Counter) (total : ℕ) → FillsTold line s other stored' files which total → FillsTold line s rules stored files which total
    fills-as which total k =
        subst (λ (d : DbValue). FillsTold line s rules d files which total) stored-is (subst (λ (r : List Rule). FillsTold line s r stored' files which total) rules-are k)

    differs-as : (o : Option ℕ) → differing s stored' ≡ o → differing s stored ≡ o
    differs-as o k = subst (λ (d : DbValue). differing s d ≡ o) stored-is k

    -- what is stored keeps one number of days
    not-other : {number : ℕ} → differing s stored ≡ None → differing s stored' ≡ Some number → ⊥
    not-other agrees differs = none-some (sym agrees ∙ differs-as _ differs)

    but-other : {number : ℕ} → differing s stored ≡ Some number → differing s stored' ≡ None → ⊥
    but-other differs agrees = none-some (sym (differs-as None agrees) ∙ differs)

    lacks-as : (b : Bool) → lacks_generation s stored' ≡ b → lacks_generation s stored ≡ b
    lacks-as b k = subst (λ (d : DbValue). lacks_generation s d ≡ b) stored-is k

  pub one-answer : (a b : Status) (x y : Option Yield) → Answers line s files sides a x → Answers line s files sides b y → Same a b x y
  one-answer a b x y (answers_rules h) (answers_rules k) = (ap BadRules (one-bad reading s files _ _ h k), refl)
  one-answer a b x y (answers_rules h) (answers_damage rules told uses k) = absurd (no-bad reading s files _ _ told h)
  one-answer a b x y (answers_rules h) (answers_differs rules stored told has k) = absurd (no-bad reading s files _ _ told h)
  one-answer a b x y (answers_rules h) (answers_full rules stored told has agrees k) = absurd (no-bad reading s files _ _ told h)
  one-answer a b x y (answers_rules h) (answers_generation rules stored whole entries told has agrees k lacks) = absurd (no-bad reading s files _ _ told h)
  one-answer a b x y (answers_rules h) (answers_done rules stored told has agrees k room is) = absurd (no-bad reading s files _ _ told h)
  one-answer a b x y (answers_damage rules told uses h) (answers_rules k) = absurd (no-bad reading s files _ _ told k)
  one-answer a b x y (answers_damage rules {side = side} {at = at} told uses h) (answers_damage rules' {side = side'} {at = at'} told' uses' k) =
      let same = damage-same (database sides (damaged side at) (damaged side' at') h k) in
      (ap (λ (n : ℕ). DbDamaged n at) same.0 ∙ ap (λ (n : ℕ). DbDamaged side' n) same.1, refl)
  one-answer a b x y (answers_damage rules told uses h) (answers_differs rules' stored' told' has k) = absurd (no-damage database s sides _ _ _ uses has h)
  one-answer a b x y (answers_damage rules told uses h) (answers_full rules' stored' told' has agrees' k) = absurd (no-damage database s sides _ _ _ uses has h)
  one-answer a b x y (answers_damage rules told uses h) (answers_generation rules' stored' whole' entries' told' has agrees' k lacks) = absurd (no-damage database s sides _ _ _ uses has h)
  one-answer a b x y (answers_damage rules told uses h) (answers_done rules' stored' told' has agrees' k room is) = absurd (no-damage database s sides _ _ _ uses has h)
  one-answer a b x y (answers_differs rules stored told has h) (answers_rules k) = absurd (no-bad reading s files _ _ told k)
  one-answer a b x y (answers_differs rules stored told has h) (answers_damage rules' told' uses k) = absurd (no-damage database s sides _ _ _ uses has k)
  one-answer a b x y (answers_differs rules stored told has h) (answers_differs rules' stored' told' has' k) =
      (ap (λ (n : ℕ). KeepDiffers n s.keep) (some-same (sym h ∙ differs-as rules rules' stored stored' told told' has has' _ k)), refl)
  one-answer a b x y (answers_differs rules stored told has h) (answers_full rules' stored' told' has' agrees k) = absurd (but-other rules rules' stored stored' told told' has has' h agrees)
  one-answer a b x y (answers_differs rules stored told has h) (answers_generation rules' stored' whole' entries' told' has' agrees k lacks) =
      absurd (but-other rules rules' stored stored' told told' has has' h agrees)
  one-answer a b x y (answers_differs rules stored told has h) (answers_done rules' stored' told' has' agrees k room is) = absurd (but-other rules rules' stored stored' told told' has has' h agrees)
  one-answer a b x y (answers_full rules stored told has agrees h) (answers_rules k) = absurd (no-bad reading s files _ _ told k)
  one-answer a b x y (answers_full rules stored told has agrees h) (answers_damage rules' told' uses k) = absurd (no-damage database s sides _ _ _ uses has k)
  one-answer a b x y (answers_full rules stored told has agrees h) (answers_differs rules' stored' told' has' k) = absurd (not-other rules rules' stored stored' told told' has has' agrees k)
  one-answer a b x y (answers_full rules stored told has agrees h) (answers_full rules' stored' told' has' agrees' k) =
      (fills-same rules stored _ _ _ _ h (fills-as rules rules' stored stored' told told' has has' _ _ k), refl)
  one-answer a b x y (answers_full rules stored told has agrees h) (answers_generation rules' stored' whole' entries' told' has' agrees' k lacks) =
      absurd (not-full rules stored _ _ _ _ (counts-as rules rules' stored stored' told told' has has' _ _ k) h)
  one-answer a b x y (answers_full rules stored told has agrees h) (answers_done rules' stored' told' has' agrees' k room is) =
      absurd (not-full rules stored _ _ _ _ (counts-as rules rules' stored stored' told told' has has' _ _ k) h)
  one-answer a b x y (answers_generation rules stored whole entries told has agrees h lacks) (answers_rules k) = absurd (no-bad reading s files _ _ told k)
  one-answer a b x y (answers_generation rules stored whole entries told has agrees h lacks) (answers_damage rules' told' uses k) = absurd (no-damage database s sides _ _ _ uses has k)
  one-answer a b x y (answers_generation rules stored whole entries told has agrees h lacks) (answers_differs rules' stored' told' has' k) =
      absurd (not-other rules rules' stored stored' told told' has has' agrees k)
  one-answer a b x y (answers_generation rules stored whole entries told has agrees h lacks) (answers_full rules' stored' told' has' agrees' k) =
      absurd (not-full rules stored _ _ _ _ h (fills-as rules rules' stored stored' told told' has has' _ _ k))
  one-answer a b x y (answers_generation rules stored whole entries told has agrees h lacks) (answers_generation rules' stored' whole' entries' told' has' agrees' k lacks') = (refl, refl)
  one-answer a b x y (answers_generation rules stored whole entries told has agrees h lacks) (answers_done rules' stored' told' has' agrees' k room is) =
      absurd (false≢true (sym (lacks-as rules rules' stored stored' told told' has has' false room) ∙ lacks))
  one-answer a b x y (answers_done rules stored told has agrees h room is) (answers_rules k) = absurd (no-bad reading s files _ _ told k)
  one-answer a b x y (answers_done rules stored told has agrees h room is) (answers_damage rules' told' uses k) = absurd (no-damage database s sides _ _ _ uses has k)
  one-answer a b x y (answers_done rules stored told has agrees h room is) (answers_differs rules' stored' told' has' k) = absurd (not-other rules rules' stored stored' told told' has has' agrees k)
  one-answer a b x y (answers_done rules stored told has agrees h room is) (answers_full rules' stored' told' has' agrees' k) =
      absurd (not-full rules stored _ _ _ _ h (fills-as rules rules' stored stored' told told' has has' _ _ k))
  one-answer a b x y (answers_done rules stored told has agrees h room is) (answers_generation rules' stored' whole' entries' told' has' agrees' k lacks) =
      absurd (false≢true (sym room ∙ lacks-as rules rules' stored stored' told told' has has' true lacks))
  one-answer a b x y (answers_done rules stored {yield = yield} told has agrees h room is) (answers_done rules' stored' {yield = other} told' has' agrees' k room' is') =
      let both = one-counted rules stored yield.whole other.whole yield.entries other.entries h (counts-as rules rules' stored stored' told told' has has' other.whole other.entries k) in
      let text = one-text yield.whole yield.text other.text is (subst (λ (w : SummaryValue). IsTextOf s w other.text) (sym both.0) is') in
      (refl, ap Some (yield-same yield other text both.0 both.1))
