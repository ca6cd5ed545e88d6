-- A list of words has one answer.
use Rattle.std.proofs.Common.{◌≡◌, ◌+◌, ◌<◌, ℕ, Option, Some, None, List, [], ◌∷◌, ◌++◌, length, codes, refl, sym, ap, ◌∙◌, subst, inl, inr, arith, length-append, append_assoc, Result, Ok, Err}
use Rattle.ga_words.specs.declared.settings.Settings.{Settings}
use Rattle.ga_words.specs.declared.fault.WordFault.{WordFault}
use Rattle.ga_words.specs.declared.fault.WordFault.TheVariants.{UnknownOption, MissingValue, BadValue, NoFormat, NoInput, Conflict, NoMemory}
use Rattle.ga_words.specs.Defaults.{defaults}
use Rattle.ga_words.specs.Units.{WordUnit, written, spelled, Makes, RowMakes, AreNamed, tail_words, tail_logs}
use Rattle.ga_words.specs.WordsOf.{AreUnits, BeginsWithFault, HasFault, IsSettingsFault, rank_of, AreAccepted, AreRefused, WordsOf, IsSame}
use Rattle.ga_words.proofs.EventLemmas.{Event, HasEvent, unit-event, fault-event, tail-event}
use Rattle.ga_words.proofs.EventLemmas.Event.{Reads, Faults, Ends}
use Rattle.ga_words.proofs.OneEvent.{OneRange, one-event, same-last}

-- how words end after their units: at the end, perhaps with `--` and logs, or at a fault
data End : Type 0 where
  Whole : Option (List (List ℕ)) → Settings → End
  Broken : WordFault → End

abbrev EndsSo : ℕ → List (List ℕ) → Settings → End → Type 0
EndsSo at words s (Whole tail before) = (before ≡ s) × (words ≡ tail_words tail) × AreNamed (tail_logs tail)
EndsSo at words s (Broken fault) = BeginsWithFault at words fault

-- the words are these units, one after the other, and then end so
abbrev Trace : ℕ → List (List ℕ) → Settings → List WordUnit → End → Type 0
Trace at words s [] end = EndsSo at words s end
Trace at words s (unit ∷ units) end = (rest : List (List ℕ)) × (next : Settings) × (words ≡ written unit ++ rest) × Makes unit s next × Trace (at + length (written unit)) rest next units end

first-event : (at : ℕ) (words rest : List (List ℕ)) (unit : WordUnit) (s next : Settings) → words ≡ written unit ++ rest → Makes unit s next → HasEvent at words s (Reads unit rest next)
first-event at words rest unit s next e makes = subst (λ (w : List (List ℕ)). HasEvent at w s (Reads unit rest next)) (sym e) (unit-event at unit rest s next makes)

last-event : (at : ℕ) (words logs : List (List ℕ)) (s : Settings) → words ≡ codes "--" ∷ logs → AreNamed logs → HasEvent at words s (Ends logs)
last-event at words logs s e named = subst (λ (w : List (List ℕ)). HasEvent at w s (Ends logs)) (sym e) (tail-event at logs s named)

nothing : (at : ℕ) (words : List (List ℕ)) (s : Settings) (event : Event) → words ≡ [] → HasEvent at words s event → ⊥
nothing at words s event e h = let none : HasEvent at [] s event = subst (λ (w : List (List ℕ)). HasEvent at w s event) e h in none

end-at : (at place : ℕ) (words rest : List (List ℕ)) (s t : Settings) (end : End) → place ≡ at → words ≡ rest → s ≡ t → EndsSo place rest s end → EndsSo at words t end
end-at at place words rest s t end same split moved h =
    subst (λ (x : Settings). EndsSo at words x end) moved (subst (λ (w : List (List ℕ)). EndsSo at w s end) (sym split) (subst (λ (n : ℕ). EndsSo n rest s end) same h))

-- a row of units is a trace
row-trace : (units : List WordUnit) (at : ℕ) (words rest : List (List ℕ)) (old before : Settings) (end : End) → RowMakes units old before → words ≡ spelled units ++ rest
    → EndsSo (at + length (spelled units)) rest before end → Trace at words old units end
row-trace [] at words rest old before end row split h = end-at at (at + 0) words rest before old end (omega arith) split row h
row-trace (unit ∷ units) at words rest old before end (between, makes, row) split h =
    let more = row-trace units (at + length (written unit)) (spelled units ++ rest) rest between before end row refl
    (subst (λ (n : ℕ). EndsSo n rest before end) (omega (arith, length-append (written unit) (spelled units))) h) in
    (spelled units ++ rest, between, split ∙ append_assoc (written unit) (spelled units) rest, makes, more)

units-trace : (words : List (List ℕ)) (units : List WordUnit) (s : Settings) (h : AreUnits words units s) → Trace 0 words defaults units (Whole h.tail h.before)
units-trace words units s h = row-trace units 0 words (tail_words h.tail) defaults h.before (Whole h.tail h.before) h.row h.spells (refl, refl, h.named)

fault-trace : (words : List (List ℕ)) (fault : WordFault) (h : HasFault words fault) → Trace 0 words defaults h.units (Broken fault)
fault-trace words fault h =
    row-trace h.units 0 words h.rest defaults h.before (Broken fault) h.row h.spells (subst (λ (n : ℕ). BeginsWithFault n h.rest fault) (omega arith) h.stands)

one-amiss : (units : List WordUnit) (s : Settings) (fault other : WordFault) → IsSettingsFault units s fault → IsSettingsFault units s other → ¬ (rank_of other < rank_of fault) → ¬ (rank_of fault < rank_of other) → fault ≡ other
one-amiss units s (UnknownOption at) other h k low high = absurd h
one-amiss units s (MissingValue at) other h k low high = absurd h
one-amiss units s (BadValue at) other h k low high = absurd h
one-amiss units s NoMemory other h k low high = absurd h
one-amiss units s NoFormat (UnknownOption at) h k low high = absurd k
one-amiss units s NoFormat (MissingValue at) h k low high = absurd k
one-amiss units s NoFormat (BadValue at) h k low high = absurd k
one-amiss units s NoFormat NoMemory h k low high = absurd k
one-amiss units s NoFormat NoFormat h k low high = refl
one-amiss units s NoFormat NoInput h k low high = absurd (high (omega arith))
one-amiss units s NoFormat (Conflict at) h k low high = absurd (high (omega arith))
one-amiss units s NoInput (UnknownOption at) h k low high = absurd k
one-amiss units s NoInput (MissingValue at) h k low high = absurd k
one-amiss units s NoInput (BadValue at) h k low high = absurd k
one-amiss units s NoInput NoMemory h k low high = absurd k
one-amiss units s NoInput NoFormat h k low high = absurd (low (omega arith))
one-amiss units s NoInput NoInput h k low high = refl
one-amiss units s NoInput (Conflict at) h k low high = absurd (high (omega arith))
one-amiss units s (Conflict at) (UnknownOption place) h k low high = absurd k
one-amiss units s (Conflict at) (MissingValue place) h k low high = absurd k
one-amiss units s (Conflict at) (BadValue place) h k low high = absurd k
one-amiss units s (Conflict at) NoMemory h k low high = absurd k
one-amiss units s (Conflict at) NoFormat h k low high = absurd (low (omega arith))
one-amiss units s (Conflict at) NoInput h k low high = absurd (low (omega arith))
one-amiss units s (Conflict at) (Conflict place) h k low high = ap Conflict (same-last h.0.0 k.0.0 at place (sym h.0.1 ∙ k.0.1))

module _ (one_range : OneRange) where
  unit-end : (at : ℕ) (words rest : List (List ℕ)) (unit : WordUnit) (s next : Settings) (end : End) → words ≡ written unit ++ rest → Makes unit s next → EndsSo at words s end → ⊥
  unit-end at words rest unit s next (Whole None before) e makes h = nothing at words s (Reads unit rest next) h.1 (first-event at words rest unit s next e makes)
  unit-end at words rest unit s next (Whole (Some logs) before) e makes h =
      let same = one-event one_range at words s (Reads unit rest next) (Ends logs) (first-event at words rest unit s next e makes) (last-event at words logs s h.1 h.2) in cc
  unit-end at words rest unit s next (Broken fault) e makes h =
      let same = one-event one_range at words s (Reads unit rest next) (Faults fault) (first-event at words rest unit s next e makes) (fault-event at words fault s h) in cc

  one-end : (at : ℕ) (words : List (List ℕ)) (s : Settings) (end other : End) → EndsSo at words s end → EndsSo at words s other → end ≡ other
  one-end at words s (Whole None a) (Whole None b) h k = ap (Whole None) (h.0 ∙ sym k.0)
  one-end at words s (Whole None a) (Whole (Some logs) b) h k = absurd (let e : [] ≡ codes "--" ∷ logs = sym h.1 ∙ k.1 in cc)
  one-end at words s (Whole None a) (Broken fault) h k = absurd (nothing at words s (Faults fault) h.1 (fault-event at words fault s k))
  one-end at words s (Whole (Some logs) a) (Whole None b) h k = absurd (let e : [] ≡ codes "--" ∷ logs = sym k.1 ∙ h.1 in cc)
  one-end at words s (Whole (Some logs) a) (Whole (Some more) b) h k =
      let e : codes "--" ∷ logs ≡ codes "--" ∷ more = sym h.1 ∙ k.1 in
      let same : logs ≡ more = cc in
      let before : a ≡ b = h.0 ∙ sym k.0 in cc
  one-end at words s (Whole (Some logs) a) (Broken fault) h k =
      let same = one-event one_range at words s (Ends logs) (Faults fault) (last-event at words logs s h.1 h.2) (fault-event at words fault s k) in cc
  one-end at words s (Broken fault) (Whole None b) h k = absurd (nothing at words s (Faults fault) k.1 (fault-event at words fault s h))
  one-end at words s (Broken fault) (Whole (Some logs) b) h k =
      let same = one-event one_range at words s (Ends logs) (Faults fault) (last-event at words logs s k.1 k.2) (fault-event at words fault s h) in cc
  one-end at words s (Broken fault) (Broken other) h k =
      let same = one-event one_range at words s (Faults fault) (Faults other) (fault-event at words fault s h) (fault-event at words other s k) in
      let faults : fault ≡ other = cc in ap Broken faults

  one-trace : (at : ℕ) (words : List (List ℕ)) (s : Settings) (units others : List WordUnit) (end other : End) → Trace at words s units end → Trace at words s others other → (units ≡ others) × (end ≡ other)
  one-trace at words s [] [] end other h k = (refl, one-end at words s end other h k)
  one-trace at words s [] (unit ∷ units) end other h (rest, next, e, makes, more) = absurd (unit-end at words rest unit s next end e makes h)
  one-trace at words s (unit ∷ units) [] end other (rest, next, e, makes, more) k = absurd (unit-end at words rest unit s next other e makes k)
  one-trace at words s (unit ∷ units) (first ∷ others) end other (rest, next, e, makes, more) (left, then, k, sets, others_more) =
      let same = one-event one_range at words s (Reads unit rest next) (Reads first left then) (first-event at words rest unit s next e makes) (first-event at words left first s then k sets) in
      let unit_is : first ≡ unit = cc in
      let rest_is : left ≡ rest = cc in
      let next_is : then ≡ next = cc in
      let moved : Trace (at + length (written unit)) rest next others other =
      subst (λ (n : Settings). Trace (at + length (written unit)) rest n others other) next_is
      (subst (λ (r : List (List ℕ)). Trace (at + length (written unit)) r then others other) rest_is
      (subst (λ (u : WordUnit). Trace (at + length (written u)) left then others other) unit_is others_more)) in
      let both = one-trace (at + length (written unit)) rest next units others end other more moved in
      (λ i. sym unit_is i ∷ both.0 i, both.1)

  pub same-units : (words : List (List ℕ)) (units others : List WordUnit) (s t : Settings) → AreUnits words units s → AreUnits words others t → (units ≡ others) × (s ≡ t)
  same-units words units others s t h k =
      let both = one-trace 0 words defaults units others (Whole h.tail h.before) (Whole k.tail k.before) (units-trace words units s h) (units-trace words others t k) in
      let ends = both.1 in
      let tail_is : h.tail ≡ k.tail = cc in
      let before_is : h.before ≡ k.before = cc in
      (both.0, h.makes ∙ (λ i. record (before_is i) { logs = (before_is i).logs ++ tail_logs (tail_is i) }) ∙ sym k.makes)

  pub no-fault : (words : List (List ℕ)) (units : List WordUnit) (s : Settings) (fault : WordFault) → AreUnits words units s → HasFault words fault → ⊥
  no-fault words units s fault h k =
      let ends = (one-trace 0 words defaults units k.units (Whole h.tail h.before) (Broken fault) (units-trace words units s h) (fault-trace words fault k)).1 in cc

  pub same-fault : (words : List (List ℕ)) (fault other : WordFault) → HasFault words fault → HasFault words other → fault ≡ other
  same-fault words fault other h k =
      let ends = (one-trace 0 words defaults h.units k.units (Broken fault) (Broken other) (fault-trace words fault h) (fault-trace words other k)).1 in cc

  not-amiss : (words : List (List ℕ)) (s : Settings) (fault : WordFault) → AreAccepted words s → AreRefused words fault → ⊥
  not-amiss words s fault h k =
      let same = same-units words h.units k.units s k.settings h.are_units k.are_units in
      h.faultless fault (subst (λ (u : List WordUnit). IsSettingsFault u s fault) (sym same.0) (subst (λ (x : Settings). IsSettingsFault k.units x fault) (sym same.1) k.stands))

  same-refused : (words : List (List ℕ)) (fault other : WordFault) → AreRefused words fault → AreRefused words other → fault ≡ other
  same-refused words fault other h k =
      let same = same-units words h.units k.units h.settings k.settings h.are_units k.are_units in
      let here : IsSettingsFault h.units h.settings other = subst (λ (u : List WordUnit). IsSettingsFault u h.settings other) (sym same.0) (subst (λ (x : Settings). IsSettingsFault k.units x other) (sym same.1) k.stands) in
      let there : IsSettingsFault k.units k.settings fault = subst (λ (u : List WordUnit). IsSettingsFault u k.settings fault) same.0 (subst (λ (x : Settings). IsSettingsFault h.units x fault) same.1 h.stands) in
      one-amiss h.units h.settings fault other h.stands here (h.first other here) (k.first fault there)

  pub one-reading : (words : List (List ℕ)) (answer other : Result Settings WordFault) → WordsOf words answer → WordsOf words other → IsSame answer other
  one-reading words (Ok s) (Ok t) h k = (same-units words h.units k.units s t h.are_units k.are_units).1
  one-reading words (Ok s) (Err fault) h (inl k) = no-fault words h.units s fault h.are_units k
  one-reading words (Ok s) (Err fault) h (inr k) = not-amiss words s fault h k
  one-reading words (Err fault) (Ok t) (inl h) k = no-fault words k.units t fault k.are_units h
  one-reading words (Err fault) (Ok t) (inr h) k = not-amiss words t fault k h
  one-reading words (Err fault) (Err other) (inl h) (inl k) = same-fault words fault other h k
  one-reading words (Err fault) (Err other) (inl h) (inr k) = absurd (no-fault words k.units k.settings fault k.are_units h)
  one-reading words (Err fault) (Err other) (inr h) (inl k) = absurd (no-fault words h.units h.settings other h.are_units k)
  one-reading words (Err fault) (Err other) (inr h) (inr k) = same-refused words fault other h k
