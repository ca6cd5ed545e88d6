-- That a log has one portion, and leaves one list of entries.
use Rattle.std.proofs.Common.{◌≡◌, ◌≢◌, ◌⊎◌, ℕ, ◌+◌, ◌-◌, ◌<◌, ◌≤◌, List, [], ◌∷◌, refl, ap, sym, ◌∙◌, subst, inl, inr, Option, Some, arith, length, take, drop, get_or, min, length-append, length-take, length-drop}
use Rattle.std.proofs.Props.{props}
use Rattle.std.proofs.lemmas.Bool.{cases_lt}
use Rattle.std.proofs.lemmas.List.{get_or-take, get_or-drop, get_or_at}
use Rattle.ga_base.specs.declared.entry.Entry.{Entry}
use Rattle.ga_base.specs.declared.limits.TheConstants.{LINE_FEED}
use Rattle.ga_base.specs.Lines.{IsEnded, AreEnded}
use Rattle.ga_ports.specs.Files.{Contents}
use Rattle.ga_resume.specs.Entries.{IsAdvanced, IsChoice, IsEntryOf, with_entry}
use Rattle.ga_resume.specs.declared.segment.Segment.{Segment}
use Rattle.ga_logs.specs.Following.{AreTold}
use Rattle.ga_logs.specs.Following.AreTold.{told_all, told_then}
use Rattle.ga_logs.specs.Portions.{Begins, Follows, IsCountedTo, IsPortionOf}
use Rattle.ga_resume.specs.declared.follow.Follow.{Follow}
use Rattle.ga_resume.specs.declared.follow.Follow.TheVariants.{Whole, ToEnd, ToLastLine}
use Rattle.ga_logs.specs.declared.portion.Portion.{Portion}

-- a log continues one entry of a list, or none
abbrev pub OneChoice : Type 0
OneChoice = (entries : List Entry) (front : List ℕ) (end : ℕ) (place other : Option ℕ) (from begin : ℕ)
    → IsChoice entries front end place from → IsChoice entries front end other begin → (place ≡ other) × (from ≡ begin)

abbrev segment : ℕ → ℕ → Option ℕ → List ℕ → Segment
segment from end entry front = record { from = from; end = end; entry = entry; front = front }

segment-same : (a b : Segment) → a.from ≡ b.from → a.end ≡ b.end → a.entry ≡ b.entry → a.front ≡ b.front → a ≡ b
segment-same a b from end entry front =
    ap (λ (x : ℕ). segment x a.end a.entry a.front) from ∙ ap (λ (x : ℕ). segment b.from x a.entry a.front) end
    ∙ ap (λ (x : Option ℕ). segment b.from b.end x a.front) entry ∙ ap (λ (x : List ℕ). segment b.from b.end b.entry x) front

abbrev portion : Segment → List ℕ → Portion
portion segment bytes = record { segment = segment; bytes = bytes }

portion-same : (a b : Portion) → a.segment ≡ b.segment → a.bytes ≡ b.bytes → a ≡ b
portion-same a b segment bytes = ap (λ (x : Segment). portion x a.bytes) segment ∙ ap (λ (x : List ℕ). portion b.segment x) bytes

one-begin : (one : OneChoice) (follow : Follow) (es : List Entry) (a b : Segment) → a.end ≡ b.end → a.front ≡ b.front → Begins follow es a → Begins follow es b
    → (a.entry ≡ b.entry) × (a.from ≡ b.from)
one-begin one Whole es a b end front (from, none, entry) (from', none', entry') = (entry ∙ sym entry', from ∙ sym from')
one-begin one ToEnd es a b end front x y =
    one es a.front a.end a.entry b.entry a.from b.from x.choice (rw (end, front) y.choice)
one-begin one ToLastLine es a b end front x y =
    one es a.front a.end a.entry b.entry a.from b.from x.choice (rw (end, front) y.choice)

pub one-portion : OneChoice → (follow : Follow) (es : List Entry) (log : List ℕ) (a b : Portion) → IsPortionOf follow es log a → IsPortionOf follow es log b → a ≡ b
one-portion one follow es log a b x y =
    let end = x.end ∙ sym y.end in
    let front = x.front ∙ sym y.front in
    let begin = one-begin one follow es a.segment b.segment end front x.begins y.begins in
    portion-same a b (segment-same a.segment b.segment begin.1 end begin.0 front) (x.bytes ∙ ap (λ (n : ℕ). drop n log) begin.1 ∙ sym y.bytes)

-- a line feed at the end of a longer front follows a shorter one
not-less : (bytes : List ℕ) (m n : ℕ) → AreEnded bytes m → AreEnded bytes n → m < n → ⊥
not-less bytes m n a b less = by-end b.ended
  where
    by-end : IsEnded (take n bytes) → ⊥
    by-end (inl none) = absurd (omega (arith, length-take n bytes, ap length none, b.within, less))
    by-end (inr (front, is)) =
        let long : length front + 1 ≡ n = omega (arith, length-take n bytes, ap length is, length-append front (LINE_FEED ∷ []), b.within) in
        let at : get_or bytes (length front) LINE_FEED ≡ LINE_FEED =
        sym (get_or-take n bytes (length front) LINE_FEED (omega (arith, long))) ∙ ap (λ (l : List ℕ). get_or l (length front) LINE_FEED) is ∙ get_or_at front LINE_FEED [] LINE_FEED (length front) refl in
        let place : m + (length front - m) ≡ length front = omega (arith, long, less) in
        a.last (
          length front - m,
          omega (arith, length-drop m bytes, long, b.within, less),
          get_or-drop m bytes (length front - m) LINE_FEED ∙ ap (λ (k : ℕ). get_or bytes k LINE_FEED) place ∙ at,
        )

one-end : (bytes : List ℕ) (m n : ℕ) → AreEnded bytes m → AreEnded bytes n → m ≡ n
one-end bytes m n a b = by-less (cases_lt m n)
  where
    by-less : (m < n) ⊎ (n ≤ m) → m ≡ n
    by-less (inl less) = absurd (not-less bytes m n a b less)
    by-less (inr more) = by-more (cases_lt n m)
      where
        by-more : (n < m) ⊎ (m ≤ n) → m ≡ n
        by-more (inl less) = absurd (not-less bytes n m b a less)
        by-more (inr le) = omega (arith, more, le)

one-offset : (follow : Follow) (p : Portion) (m n : ℕ) → IsCountedTo follow p m → IsCountedTo follow p n → m ≡ n
one-offset Whole p m n x y = x ∙ sym y
one-offset ToEnd p m n x y = x ∙ sym y
one-offset ToLastLine p m n (j, a, x) (k, b, y) = x ∙ ap (λ (i : ℕ). p.segment.from + i) (one-end p.bytes j k a b) ∙ sym y

-- what the type of an entry says of its numbers
abbrev IsGood : ℕ × List ℕ × ℕ → Type 0
IsGood (lead, digest, offset) = (lead ≡ min offset 4096) × (1 ≤ offset)

good-once : (fields : ℕ × List ℕ × ℕ) → IsProp (IsGood fields)
good-once (lead, digest, offset) = hlevel props

abbrev entry : (fields : ℕ × List ℕ × ℕ) → IsGood fields → Entry
entry (lead, digest, offset) good = record { lead = lead; digest = digest; offset = offset; leads = good.0; counted = good.1 }

entry-by : (f g : ℕ × List ℕ × ℕ) (x : IsGood f) (y : IsGood g) → f ≡ g → entry f x ≡ entry g y
entry-by f g x y same =
    subst (λ (h : ℕ × List ℕ × ℕ). (z : IsGood h) → entry f x ≡ entry h z) same (λ z. ap (λ (w : IsGood f). entry f w) (good-once f x z)) y

entry-same : (a b : Entry) → a.lead ≡ b.lead → a.digest ≡ b.digest → a.offset ≡ b.offset → a ≡ b
entry-same a b lead digest offset =
    let fields : (a.lead, a.digest, a.offset) ≡ (b.lead, b.digest, b.offset) =
    ap (λ (x : ℕ). (x, a.digest, a.offset)) lead ∙ ap (λ (x : List ℕ). (b.lead, x, a.offset)) digest ∙ ap (λ (x : ℕ). (b.lead, b.digest, x)) offset in
    entry-by (a.lead, a.digest, a.offset) (b.lead, b.digest, b.offset) (a.leads, a.counted) (b.leads, b.counted) fields

one-entry : (front : List ℕ) (offset : ℕ) (a b : Entry) → IsEntryOf front offset a → IsEntryOf front offset b → a ≡ b
one-entry front offset a b x y =
    let same = x.offset ∙ sym y.offset in
    entry-same a b (a.leads ∙ ap (λ (n : ℕ). min n 4096) same ∙ sym b.leads) (x.digest ∙ sym y.digest) same

one-advance : (front : List ℕ) (place : Option ℕ) (offset : ℕ) (old a b : List Entry) → IsAdvanced front place offset old a → IsAdvanced front place offset old b → a ≡ b
one-advance front place offset old a b x y = by-offset (cases_lt 0 offset)
  where
    both : (e : Entry) × IsEntryOf front offset e × (a ≡ with_entry place e old) → (e : Entry) × IsEntryOf front offset e × (b ≡ with_entry place e old) → a ≡ b
    both (e, is, made) (f, is', made') = made ∙ ap (λ (g : Entry). with_entry place g old) (one-entry front offset e f is is') ∙ sym made'

    by-offset : (0 < offset) ⊎ (offset ≤ 0) → a ≡ b
    by-offset (inr le) =
        let none : offset ≡ 0 = omega (arith, le) in
        x.nothing none ∙ sym (y.nothing none)
    by-offset (inl some) =
        let counted : offset ≢ 0 = λ e. omega (arith, e, some) in
        both (x.counted counted) (y.counted counted)

pub one-following : (follow : Follow) (p : Portion) (old a b : List Entry) → Follows follow p old a → Follows follow p old b → a ≡ b
one-following Whole p old a b x y = x ∙ sym y
one-following ToEnd p old a b (m, counted, x) (n, counted', y) =
    one-advance p.segment.front p.segment.entry m old a b x (subst (λ (i : ℕ). IsAdvanced p.segment.front p.segment.entry i old b) (sym (one-offset ToEnd p m n counted counted')) y)
one-following ToLastLine p old a b (m, counted, x) (n, counted', y) =
    one-advance p.segment.front p.segment.entry m old a b x (subst (λ (i : ℕ). IsAdvanced p.segment.front p.segment.entry i old b) (sym (one-offset ToLastLine p m n counted counted')) y)

some-same : {A : Type 0} (a b : A) → Some a ≡ Some b → a ≡ b
some-same a b e = cc

-- a log has one portion, and a portion leaves one list of entries
abbrev pub OnePortion : Type 0
OnePortion = (follow : Follow) (entries : List Entry) (log : List ℕ) (a b : Portion) → IsPortionOf follow entries log a → IsPortionOf follow entries log b → a ≡ b

abbrev pub OneFollowing : Type 0
OneFollowing = (follow : Follow) (portion : Portion) (old a b : List Entry) → Follows follow portion old a → Follows follow portion old b → a ≡ b

pub one-course : OnePortion → OneFollowing → (follow : Follow) (contents : Option Contents) (names : List (List ℕ)) (old new other : List Entry) (a b : List Portion)
    → AreTold follow contents names old new a → AreTold follow contents names old other b → (a ≡ b) × (new ≡ other)
one-course one next follow contents [] old new other a b told_all told_all = (refl, refl)
one-course one next follow contents (name ∷ names) old new other a b (told_then {log = log} {mid = mid} {portion = p} {portions = ps} t is goes more) (told_then {log = log'} {mid = mid'} {portion = q} {portions = qs} t' is' goes' more') =
    let text : log ≡ log' = some-same log log' (sym t ∙ t') in
    let portion : p ≡ q = one follow old log p q is (rw text is') in
    let entries : mid ≡ mid' = next follow p old mid mid' goes (rw portion goes') in
    let rest = one-course one next follow contents names mid new other ps qs more (rw entries more') in
    (ap (λ (x : Portion). x ∷ ps) portion ∙ ap (λ (xs : List Portion). q ∷ xs) rest.0, rest.1)
