-- What all words mean where their units are read, with `--` and logs after them or not.
use Rattle.std.proofs.Common.{◌≡◌, ◌+◌, ◌-◌, ℕ, Some, None, List, [], ◌∷◌, ◌++◌, length, codes, refl, sym, ap, ◌∙◌, subst, inl, inr, ◌⊎◌, arith, append-nil, length-append, Result, Ok, Err, IfOk, IfErr}
use Rattle.ga_words.specs.declared.settings.Settings.{Settings}
use Rattle.ga_words.specs.declared.fault.WordFault.{WordFault}
use Rattle.ga_words.specs.declared.fault.WordFault.TheVariants.{NoMemory}
use Rattle.ga_words.specs.declared.words_reading.Reading.{Reading}
use Rattle.ga_words.specs.Units.{spelled, AddsLogs, AreNamed}
use Rattle.ga_words.specs.WordsOf.{AreUnits, BeginsWithFault, HasFault, IsBadTail, WordsOf, IsSame}
use Rattle.ga_words.specs.Steps.Words.{HasRead, HasReadAll, IsTail, IsWholly, IsNameless}

-- after the units stands `--` where anything is there
tail-of : (rest : List (List ℕ)) (first : List ℕ) (logs : List (List ℕ)) → IsTail rest → rest ≡ first ∷ logs → rest ≡ codes "--" ∷ logs
tail-of rest first logs (inl none) e = absurd (let both : first ∷ logs ≡ [] = sym e ∙ none in cc)
tail-of rest first logs (inr (own, is)) e = is ∙ ap (λ (x : List (List ℕ)). codes "--" ∷ x) (let both : codes "--" ∷ own ≡ first ∷ logs = sym is ∙ e in cc)

module _ (words rest : List (List ℕ)) (reading : Reading) (read : HasRead words rest reading) where
  whole-units : rest ≡ [] → AreUnits words read.units reading.settings
  whole-units none = record {
    tail = None;
    spells = read.spells ∙ ap (λ (x : List (List ℕ)). spelled read.units ++ x) none;
    before = reading.settings;
    row = read.row;
    named = tt;
    makes = ap (λ (l : List (List ℕ)). record reading.settings { logs = l }) (sym (append-nil reading.settings.logs));
  }

  tail-units : (first : List ℕ) (logs : List (List ℕ)) (s : Settings) → IsTail rest → rest ≡ first ∷ logs → AreNamed logs → AddsLogs logs reading.settings s → AreUnits words read.units s
  tail-units first logs s tail split named adds = record {
    tail = Some logs;
    spells = read.spells ∙ ap (λ (x : List (List ℕ)). spelled read.units ++ x) (tail-of rest first logs tail split);
    before = reading.settings;
    row = read.row;
    named = named;
    makes = adds;
  }

  pub whole-read : rest ≡ [] → HasReadAll words reading
  whole-read none = record { units = read.units; are_units = whole-units none; last = read.last }

  pub tail-read : (first : List ℕ) (logs : List (List ℕ)) (s : Settings) → IsTail rest → rest ≡ first ∷ logs → AreNamed logs → AddsLogs logs reading.settings s
      → HasReadAll words (record reading { settings = s })
  tail-read first logs s tail split named adds =
      record { units = read.units; are_units = tail-units first logs s tail split named adds; last = read.last }

  tail-place : (logs : List (List ℕ)) (k : ℕ) → rest ≡ codes "--" ∷ logs → length words - length logs + k ≡ length (spelled read.units) + 1 + k
  tail-place logs k is = omega (arith, ap length read.spells, ap length is, length-append (spelled read.units) rest)

  pub nameless-fault : (first : List ℕ) (logs : List (List ℕ)) (fault : WordFault) → IsTail rest → rest ≡ first ∷ logs
      → IsNameless (length words - length logs) logs fault → HasFault words fault
  nameless-fault first logs fault tail split nameless =
      let is = tail-of rest first logs tail split in
      let at = length (spelled read.units) in
      let bad : IsBadTail (codes "--" ∷ logs) (length nameless.named) =
      record { named = nameless.named; more = nameless.more; words_are = ap (λ (x : List (List ℕ)). codes "--" ∷ x) nameless.logs_are; are_named = nameless.are_named; count = refl } in
      record {
        units = read.units;
        rest = codes "--" ∷ logs;
        spells = read.spells ∙ ap (λ (x : List (List ℕ)). spelled read.units ++ x) is;
        before = reading.settings;
        row = read.row;
        stands =
            subst (BeginsWithFault at (codes "--" ∷ logs)) (sym nameless.fault_is)
            (inr (inr (inr (length nameless.named, tail-place logs (length nameless.named) is, bad))));
      }

  pub tail-fault : (first : List ℕ) (logs : List (List ℕ)) (fault : WordFault) → IsTail rest → rest ≡ first ∷ logs
      → (fault ≡ NoMemory) ⊎ IsNameless (length words - length logs) logs fault → (fault ≡ NoMemory) ⊎ HasFault words fault
  tail-fault first logs fault tail split (inl memory) = inl memory
  tail-fault first logs fault tail split (inr nameless) = inr (nameless-fault first logs fault tail split nameless)

module _ (words : List (List ℕ)) (reading : Reading) (read : HasReadAll words reading) where
  pub accepted : IsWholly read.units reading.settings None → WordsOf words (Ok reading.settings)
  accepted none = record { units = read.units; are_units = read.are_units; faultless = none }

  pub refusal : (fault : WordFault) → IsWholly read.units reading.settings (Some fault) → WordsOf words (Err fault)
  refusal fault amiss =
      inr record { units = read.units; settings = reading.settings; are_units = read.are_units; stands = amiss.stands; first = amiss.first }

  pub refused : (fault : WordFault) → IsWholly read.units reading.settings (Some fault) → (fault ≡ NoMemory) ⊎ WordsOf words (Err fault)
  refused fault amiss = inr (refusal fault amiss)

-- where words have one answer, what is answered is it, unless memory runs out
pub only-answer : (words : List (List ℕ)) (result : Result Settings WordFault)
    → ((words : List (List ℕ)) (answer other : Result Settings WordFault) → WordsOf words answer → WordsOf words other → IsSame answer other)
    → IfOk result (λ s. WordsOf words (Ok s)) → IfErr result (λ f. (f ≡ NoMemory) ⊎ WordsOf words (Err f))
    → (answer : Result Settings WordFault) → WordsOf words answer → (result ≡ Err NoMemory) ⊎ IsSame result answer
only-answer words (Ok s) one ok fault answer h = inr (one words (Ok s) answer ok h)
only-answer words (Err f) one ok (inl memory) answer h = inl (ap Err memory)
only-answer words (Err f) one ok (inr is) answer h = inr (one words (Err f) answer is h)
