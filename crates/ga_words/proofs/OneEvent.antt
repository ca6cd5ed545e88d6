-- A value sets one thing, and one thing is at the front of words.
use Rattle.std.proofs.Common.{◌≡◌, ◌≢◌, ◌+◌, ◌<◌, ℕ, suc, Option, Some, None, List, [], ◌∷◌, ◌++◌, length, codes, refl, sym, ap, ◌∙◌, subst, inl, inr, arith, length-append, append_assoc}
use Rattle.std.specs.Map.{lookup}
use Rattle.std.specs.Str.{bytes_eq}
use Rattle.ga_base.specs.declared.panel.Panel.{Panel}
use Rattle.ga_hosts.specs.Ranges.{SpellsRange}
use Rattle.ga_hosts.specs.declared.range.Range.{Range}
use Rattle.ga_words.specs.declared.settings.Settings.{Settings}
use Rattle.ga_words.specs.declared.settings.Output.{Output}
use Rattle.ga_words.specs.declared.fault.WordFault.TheVariants.{BadValue}
use Rattle.ga_words.specs.Values.{NamesOutput, panel_named}
use Rattle.ga_words.specs.Options.{Takes, Sets}
use Rattle.ga_words.specs.Options.Takes.{Flag, Format, Name, Number, Status, Target, Addresses, OfPanel, OneOf}
use Rattle.ga_words.specs.Units.{WordUnit, AreNamed}
use Rattle.ga_words.specs.Units.WordUnit.{Separate, Joined}
use Rattle.ga_words.proofs.ClassLemmas.{Class, class_of}
use Rattle.ga_words.proofs.ClassLemmas.Class.{Nameless, Tail, LogName, OptionName, WithValue, NoOption}
use Rattle.ga_words.proofs.EventLemmas.{Event, flag_of, HasValue, HasOption, HasTail, Has, HasEvent}
use Rattle.ga_words.proofs.EventLemmas.Event.{Reads, Faults}

-- each text spells one range at most
abbrev pub OneRange : Type 0
OneRange = (text : List ℕ) (range other : Range) → SpellsRange text range → SpellsRange text other → range ≡ other

no-bytes : (bytes : List ℕ) → length bytes ≡ 0 → bytes ≡ []
no-bytes [] e = refl
no-bytes (b ∷ bs) e = absurd (omega (arith, e))

not-short : (text name front ending : List ℕ) → text ≡ name → text ≡ front ++ ending → front ≢ [] → length name < length ending + 1 → ⊥
not-short text name front ending named split some short =
    some (no-bytes front (omega (arith, ap length named, ap length split, length-append front ending)))

pub same-last : (xs ys : List ℕ) (a b : ℕ) → xs ++ a ∷ [] ≡ ys ++ b ∷ [] → a ≡ b
same-last [] [] a b e = cc
same-last [] (y ∷ ys) a b e = absurd (omega (arith, ap length e, length-append ys (b ∷ [])))
same-last (x ∷ xs) [] a b e = absurd (omega (arith, ap length e, length-append xs (a ∷ [])))
same-last (x ∷ xs) (y ∷ ys) a b e = let tails : xs ++ a ∷ [] ≡ ys ++ b ∷ [] = cc in same-last xs ys a b tails

not-both : (text front other : List ℕ) → text ≡ front ++ codes ".json" → text ≡ other ++ codes ".csv" → ⊥
not-both text front other e k =
    let same : (front ++ codes ".jso") ++ codes "n" ≡ (other ++ codes ".cs") ++ codes "v" =
    append_assoc front (codes ".jso") (codes "n") ∙ sym e ∙ k ∙ sym (append_assoc other (codes ".cs") (codes "v")) in
    let letters : 110 ≡ 118 = same-last (front ++ codes ".jso") (other ++ codes ".cs") 110 118 same in absurd (omega (arith, letters))

one-output : (text : List ℕ) (a b : Output) → NamesOutput text a → NamesOutput text b → a ≡ b
one-output text a b (inl h) (inl k) = h.is ∙ sym k.is
one-output text a b (inl h) (inr (inl k)) = absurd (let e : codes "json" ≡ codes "csv" = sym h.spelled ∙ k.spelled in cc)
one-output text a b (inl h) (inr (inr (inl k))) = absurd (not-short text (codes "json") k.front (codes ".json") h.spelled k.spelled k.some (omega arith))
one-output text a b (inl h) (inr (inr (inr k))) = absurd (not-short text (codes "json") k.front (codes ".csv") h.spelled k.spelled k.some (omega arith))
one-output text a b (inr (inl h)) (inl k) = absurd (let e : codes "json" ≡ codes "csv" = sym k.spelled ∙ h.spelled in cc)
one-output text a b (inr (inl h)) (inr (inl k)) = h.is ∙ sym k.is
one-output text a b (inr (inl h)) (inr (inr (inl k))) = absurd (not-short text (codes "csv") k.front (codes ".json") h.spelled k.spelled k.some (omega arith))
one-output text a b (inr (inl h)) (inr (inr (inr k))) = absurd (not-short text (codes "csv") k.front (codes ".csv") h.spelled k.spelled k.some (omega arith))
one-output text a b (inr (inr (inl h))) (inl k) = absurd (not-short text (codes "json") h.front (codes ".json") k.spelled h.spelled h.some (omega arith))
one-output text a b (inr (inr (inl h))) (inr (inl k)) = absurd (not-short text (codes "csv") h.front (codes ".json") k.spelled h.spelled h.some (omega arith))
one-output text a b (inr (inr (inl h))) (inr (inr (inl k))) = h.is ∙ sym k.is
one-output text a b (inr (inr (inl h))) (inr (inr (inr k))) = absurd (not-both text h.front k.front h.spelled k.spelled)
one-output text a b (inr (inr (inr h))) (inl k) = absurd (not-short text (codes "json") h.front (codes ".csv") k.spelled h.spelled h.some (omega arith))
one-output text a b (inr (inr (inr h))) (inr (inl k)) = absurd (not-short text (codes "csv") h.front (codes ".csv") k.spelled h.spelled h.some (omega arith))
one-output text a b (inr (inr (inr h))) (inr (inr (inl k))) = absurd (not-both text k.front h.front k.spelled h.spelled)
one-output text a b (inr (inr (inr h))) (inr (inr (inr k))) = h.is ∙ sym k.is

one-setting : (found : Option (Settings → Settings)) (a b : Settings → Settings) → found ≡ Some a → found ≡ Some b → a ≡ b
one-setting found a b e k = let same : Some a ≡ Some b = sym e ∙ k in cc

one-panel : (found : Option Panel) (a b : Panel) → found ≡ Some a → found ≡ Some b → a ≡ b
one-panel found a b e k = let same : Some a ≡ Some b = sym e ∙ k in cc

named-whole : (named more : List (List ℕ)) → AreNamed (named ++ [] ∷ more) → ⊥
named-whole [] more h = h.0 refl
named-whole (x ∷ named) more h = named-whole named more h.1

one-named : (named other more rest : List (List ℕ)) → AreNamed named → AreNamed other → named ++ [] ∷ more ≡ other ++ [] ∷ rest → length named ≡ length other
one-named [] [] more rest h k e = refl
one-named [] (y ∷ other) more rest h k e = absurd (let same : [] ≡ y = cc in k.0 (sym same))
one-named (x ∷ named) [] more rest h k e = absurd (let same : x ≡ [] = cc in h.0 same)
one-named (x ∷ named) (y ∷ other) more rest h k e =
    let tails : named ++ [] ∷ more ≡ other ++ [] ∷ rest = cc in ap suc (one-named named other more rest h.1 k.1 tails)

tails-of : (after : List (List ℕ)) (named more : List (List ℕ)) → codes "--" ∷ after ≡ codes "--" ∷ (named ++ [] ∷ more) → after ≡ named ++ [] ∷ more
tails-of after named more e = cc

one-tail : (after : List (List ℕ)) (at : ℕ) (a b : Event) → HasTail after at a → HasTail after at b → a ≡ b
one-tail after at a b (inl h) (inl k) = h.0 ∙ sym k.0
one-tail after at a b (inl h) (inr k) =
    let bad = k.2 in absurd (named-whole bad.named bad.more (subst AreNamed (tails-of after bad.named bad.more bad.words_are) h.1))
one-tail after at a b (inr h) (inl k) =
    let bad = h.2 in absurd (named-whole bad.named bad.more (subst AreNamed (tails-of after bad.named bad.more bad.words_are) k.1))
one-tail after at a b (inr h) (inr k) =
    let p = h.2 in let q = k.2 in
    let same = one-named p.named q.named p.more q.more p.are_named q.are_named (sym (tails-of after p.named p.more p.words_are) ∙ tails-of after q.named q.more q.words_are) in
    h.1 ∙ ap (λ (n : ℕ). Faults (BadValue (at + 1 + n))) (p.count ∙ same ∙ sym q.count) ∙ sym k.1

module _ (one_range : OneRange) where
  one-sets : (takes : Takes) (value : List ℕ) (old a b : Settings) → Sets takes value old a → Sets takes value old b → a ≡ b
  one-sets (Flag set) value old a b h k = absurd h
  one-sets (Format set) value old a b h k = h ∙ sym k
  one-sets (Name set) value old a b h k = h.1 ∙ sym k.1
  one-sets (Number low high set) value old a b h k = h.2 ∙ ap (λ (n : ℕ). set n old) (h.1.value ∙ sym k.1.value) ∙ sym k.2
  one-sets (Status set) value old a b h k = h.2 ∙ ap (λ (n : ℕ). set n old) (h.1.value ∙ sym k.1.value) ∙ sym k.2
  one-sets (Target set) value old a b h k = h.2 ∙ ap (λ (o : Output). set o old) (one-output value h.0 k.0 h.1 k.1) ∙ sym k.2
  one-sets (Addresses set) value old a b h k = h.2 ∙ ap (λ (r : Range). set r old) (one_range value h.0 k.0 h.1 k.1) ∙ sym k.2
  one-sets (OfPanel set) value old a b h k = h.2 ∙ ap (λ (p : Panel). set p old) (one-panel (panel_named value) h.0 k.0 h.1 k.1) ∙ sym k.2
  one-sets (OneOf words) value old a b h k =
      h.2 ∙ ap (λ (set : Settings → Settings). set old) (one-setting (lookup (λ word. bytes_eq word value) words) h.0 k.0 h.1 k.1) ∙ sym k.2

  one-value : (unit : WordUnit) (rest : List (List ℕ)) (at : ℕ) (takes : Takes) (value : List ℕ) (old : Settings) (a b : Event) → HasValue unit rest at takes value old a → HasValue unit rest at takes value old b → a ≡ b
  one-value unit rest at takes value old a b (inl h) (inl k) = h.2 ∙ ap (Reads unit rest) (one-sets takes value old h.0 k.0 h.1 k.1) ∙ sym k.2
  one-value unit rest at takes value old a b (inl h) (inr k) = absurd (k.0 old h.0 h.1)
  one-value unit rest at takes value old a b (inr h) (inl k) = absurd (h.0 old k.0 k.1)
  one-value unit rest at takes value old a b (inr h) (inr k) = h.1 ∙ sym k.1

  one-option : (flag : Option (Settings → Settings)) (takes : Takes) (word : List ℕ) (after : List (List ℕ)) (at : ℕ) (old : Settings) (a b : Event) → HasOption flag takes word after at old a → HasOption flag takes word after at old b → a ≡ b
  one-option (Some set) takes word after at old a b h k = h ∙ sym k
  one-option None takes word [] at old a b h k = h ∙ sym k
  one-option None takes word (value ∷ more) at old a b h k = one-value (Separate word value) more (at + 1) takes value old a b h k

  one-has : (class : Class) (word : List ℕ) (after : List (List ℕ)) (at : ℕ) (old : Settings) (a b : Event) → Has class word after at old a → Has class word after at old b → a ≡ b
  one-has Nameless word after at old a b h k = h ∙ sym k
  one-has Tail word after at old a b h k = one-tail after at a b h k
  one-has LogName word after at old a b h k = h ∙ sym k
  one-has (OptionName takes) word after at old a b h k = one-option (flag_of takes) takes word after at old a b h k
  one-has (WithValue name takes value) word after at old a b h k = one-value (Joined name value) after at takes value old a b h k
  one-has NoOption word after at old a b h k = h ∙ sym k

  pub one-event : (at : ℕ) (words : List (List ℕ)) (old : Settings) (a b : Event) → HasEvent at words old a → HasEvent at words old b → a ≡ b
  one-event at [] old a b h k = absurd h
  one-event at (word ∷ after) old a b h k = one-has (class_of word) word after at old a b h k
