-- Told logs have portions, and leave entries.
use Rattle.std.proofs.Common.{◌≡◌, ◌≢◌, ◌⊎◌, ℕ, zero, suc, ◌+◌, ◌<◌, ◌≤◌, List, [], ◌∷◌, ◌++◌, refl, ap, subst, inl, inr, Option, Some, None, arith, length, take, drop, min, length-take}
use Rattle.std.proofs.lemmas.Bool.{cases_eq, cases_lt}
use Rattle.std.specs.List.{AllByRecursion, Contains}
use Rattle.ga_base.specs.declared.entry.Entry.{Entry}
use Rattle.ga_base.specs.declared.limits.TheConstants.{FRONT, LINE_FEED}
use Rattle.ga_base.specs.Lines.{AreEnded, IsEnded}
use Rattle.ga_logs.specs.Following.{AreSomeTold, AreTold}
use Rattle.ga_logs.specs.Following.AreSomeTold.{told_none, told_on}
use Rattle.ga_logs.specs.Following.AreTold.{told_all, told_then}
use Rattle.ga_logs.specs.Portions.{Follows, IsPortionOf}
use Rattle.ga_logs.specs.declared.portion.Portion.{Portion}
use Rattle.ga_ports.specs.Files.{Contents, told}
use Rattle.ga_resume.specs.Entries.{IsAdvanced, IsChoice, IsEntryOf, with_entry}
use Rattle.ga_resume.specs.Segment.{IsSegment}
use Rattle.ga_resume.specs.declared.follow.Follow.{Follow}
use Rattle.ga_resume.specs.declared.follow.Follow.TheVariants.{Whole, ToEnd, ToLastLine}

-- ---- the ended lines of a text

abbrev HasEnd : List ℕ → Type 0
HasEnd text = (count : ℕ) × AreEnded text count

-- a line ends in the rest, and so it does in the whole
ends-later : (b : ℕ) (text : List ℕ) (count : ℕ) → AreEnded text count → (front : List ℕ) → take count text ≡ front ++ LINE_FEED ∷ [] → HasEnd (b ∷ text)
ends-later b text count a front is =
    (suc count, record { within = omega (arith, a.within); ended = inr (b ∷ front, ap (λ (l : List ℕ). b ∷ l) is); last = a.last })

-- no line ends in the rest: the first byte ends one, or none is ended
ends-first : (b : ℕ) (text : List ℕ) → ¬ Contains text LINE_FEED → (b ≡ LINE_FEED) ⊎ (b ≡ LINE_FEED → ⊥) → HasEnd (b ∷ text)
ends-first b text none (inl ends) = (1, record { within = omega arith; ended = inr ([], ap (λ (x : ℕ). x ∷ []) ends); last = none })
ends-first b text none (inr other) = (0, record { within = omega arith; ended = inl refl; last = nowhere })
  where
    nowhere : Contains (b ∷ text) LINE_FEED → ⊥
    nowhere (zero, below, is) = other is
    nowhere (suc k, below, is) = none (k, omega (arith, below), is)

some-end : (text : List ℕ) → HasEnd text
some-end [] = (0, record { within = omega arith; ended = inl refl; last = λ there. omega (arith, there.1) })
some-end (b ∷ text) = let (count, a) = some-end text in by count a a.ended
  where
    by : (count : ℕ) → AreEnded text count → IsEnded (take count text) → HasEnd (b ∷ text)
    by count a (inr (front, is)) = ends-later b text count a front is
    by count a (inl none) =
        let start : count ≡ 0 = omega (arith, length-take count text, ap length none, a.within) in
        ends-first b text (subst (λ (n : ℕ). ¬ Contains (drop n text) LINE_FEED) start a.last) (cases_eq b LINE_FEED)

-- ---- the entries after a log

-- its digest is the one that the definition names
some-entry : (front : List ℕ) (offset : ℕ) → 0 < offset → (entry : Entry) × IsEntryOf front offset entry
some-entry front offset some =
    (record { lead = min offset FRONT; digest = _; offset = offset; leads = refl; counted = some }, record { offset = refl; digest = refl })

some-advance : (front : List ℕ) (place : Option ℕ) (offset : ℕ) (old : List Entry) → (new : List Entry) × IsAdvanced front place offset old new
some-advance front place offset old = by (cases_lt 0 offset)
  where
    by : (0 < offset) ⊎ (offset ≤ 0) → (new : List Entry) × IsAdvanced front place offset old new
    by (inr none) = (old, record { nothing = λ _. refl; counted = λ some. absurd (some (omega (arith, none))) })
    by (inl some) =
        let (entry, is) = some-entry front offset some in
        (with_entry place entry old, record { nothing = λ none. absurd (omega (arith, some, none)); counted = λ _. (entry, is, refl) })

some-following : (follow : Follow) (p : Portion) (old : List Entry) → (new : List Entry) × Follows follow p old new
some-following Whole p old = (old, refl)
some-following ToEnd p old =
    let (new, advanced) = some-advance p.segment.front p.segment.entry p.segment.end old in
    (new, (p.segment.end, refl, advanced))
some-following ToLastLine p old =
    let (count, ended) = some-end p.bytes in
    let (new, advanced) = some-advance p.segment.front p.segment.entry (p.segment.from + count) old in
    (new, (p.segment.from + count, (count, ended, refl), advanced))

-- ---- the portions of logs

-- what the law of choices says
abbrev pub SomeChoice : Type 0
SomeChoice = (entries : List Entry) (front : List ℕ) (end : ℕ) → (place : Option ℕ) × (from : ℕ) × IsChoice entries front end place from

module _ (choice : SomeChoice) where
  -- the portion of a log that continues the entry that is chosen
  abbrev chosen : List Entry → List ℕ → Portion
  chosen entries log = let is = choice entries (take FRONT log) (length log) in
      record { segment = record { from = is.1; end = length log; entry = is.0; front = take FRONT log }; bytes = drop is.1 log }

  chosen-begins : (entries : List Entry) (log : List ℕ) → IsSegment entries (chosen entries log).segment
  chosen-begins entries log = record { long = omega (arith, length-take FRONT log); choice = (choice entries (take FRONT log) (length log)).2 }

  some-portion : (follow : Follow) (entries : List Entry) (log : List ℕ) → (p : Portion) × IsPortionOf follow entries log p
  some-portion Whole entries log = (
    record { segment = record { from = 0; end = length log; entry = None; front = [] }; bytes = log },
    record { begins = (refl, refl, refl); front = refl; end = refl; bytes = refl },
  )
  some-portion ToEnd entries log = (chosen entries log, record { begins = chosen-begins entries log; front = refl; end = refl; bytes = refl })
  some-portion ToLastLine entries log = (chosen entries log, record { begins = chosen-begins entries log; front = refl; end = refl; bytes = refl })

  module _ (follow : Follow) (contents : Option Contents) where
    abbrev HasCourse : List (List ℕ) → List Entry → Type 0
    HasCourse names old = (new : List Entry) × (portions : List Portion) × AreTold follow contents names old new portions

    pub some-course : (names : List (List ℕ)) (old : List Entry) → AllByRecursion (λ name. told name contents ≢ None) names → HasCourse names old
    some-course [] old all = (old, [], told_all)
    some-course (name ∷ names) old all = by (λ mid. some-course names mid all.1) (told name contents) refl
      where
        by : ((mid : List Entry) → HasCourse names mid) → (log : Option (List ℕ)) → told name contents ≡ log → HasCourse (name ∷ names) old
        by later None is = absurd (all.0 is)
        by later (Some log) is =
            let (p, portion) = some-portion follow old log in
            let (mid, follows) = some-following follow p old in
            let (new, portions, more) = later mid in
            (new, p ∷ portions, told_then is portion follows more)

-- all logs are some of them
pub all-are-some : (follow : Follow) (contents : Option Contents) (names : List (List ℕ)) (old new : List Entry) (portions : List Portion)
    → AreTold follow contents names old new portions → AreSomeTold follow contents names old portions
all-are-some follow contents [] old new portions told_all = told_none
all-are-some follow contents (name ∷ names) old new portions (told_then {mid = mid} {portions = more} is portion follows rest) =
    told_on is portion follows (all-are-some follow contents names mid new more rest)
