-- What is read of a row of units, a unit at a time.
use Rattle.std.proofs.Common.{◌≡◌, ◌+◌, ◌-◌, ℕ, Bool, true, false, if◌then◌else◌, Option, Some, List, [], ◌∷◌, ◌++◌, length, refl, sym, ap, ◌∙◌, subst, inl, inr, ◌⊎◌, arith, append_assoc, append-nil, length-append}
use Rattle.ga_words.specs.declared.settings.Settings.{Settings}
use Rattle.ga_words.specs.declared.fault.WordFault.{WordFault}
use Rattle.ga_words.specs.declared.fault.WordFault.TheVariants.{NoMemory}
use Rattle.ga_words.specs.declared.words_reading.Reading.{Reading}
use Rattle.ga_words.specs.Defaults.{defaults}
use Rattle.ga_words.specs.Units.{WordUnit, written, spelled, Makes, RowMakes, names_generate, generate_places}
use Rattle.ga_words.specs.WordsOf.{BeginsWithFault, HasFault}
use Rattle.ga_words.specs.Steps.Words.{TakesUnit, IsUnitFault, HasRead, IsLast}

pub row-more : (units : List WordUnit) (unit : WordUnit) (old between new : Settings) → RowMakes units old between → Makes unit between new → RowMakes (units ++ unit ∷ []) old new
row-more [] unit old between new row makes = (new, subst (λ (s : Settings). Makes unit s new) row makes, refl)
row-more (first ∷ units) unit old between new (next, here, row) makes = (next, here, row-more units unit next between new row makes)

spelled-more : (units : List WordUnit) (unit : WordUnit) → spelled (units ++ unit ∷ []) ≡ spelled units ++ written unit
spelled-more [] unit = append-nil (written unit)
spelled-more (first ∷ units) unit = ap (λ (x : List (List ℕ)). written first ++ x) (spelled-more units unit) ∙ sym (append_assoc (written first) (spelled units) (written unit))

abbrev place_of : ℕ → WordUnit → List ℕ
place_of at unit = if names_generate unit then at ∷ [] else []

places-more : (at : ℕ) (units : List WordUnit) (unit : WordUnit) → generate_places at (units ++ unit ∷ []) ≡ generate_places at units ++ place_of (at + length (spelled units)) unit
places-more at [] unit = append-nil (place_of at unit) ∙ ap (λ (n : ℕ). place_of n unit) (omega arith)
places-more at (first ∷ units) unit =
    let more = places-more (at + length (written first)) units unit in
    let same : at + length (written first) + length (spelled units) ≡ at + length (written first ++ spelled units) = omega (arith, length-append (written first) (spelled units)) in
    ap (λ (x : List ℕ). place_of at first ++ x) (more ∙ ap (λ (n : ℕ). generate_places (at + length (written first)) units ++ place_of n unit) same)
    ∙ sym (append_assoc (place_of at first) (generate_places (at + length (written first)) units) (place_of (at + length (written first ++ spelled units)) unit))

last-more : (places : List ℕ) (at place : ℕ) (old new : Option ℕ) (named : Bool) → IsLast places old → place ≡ at → new ≡ (if named then Some at else old)
    → IsLast (places ++ (if named then place ∷ [] else [])) new
last-more places at place old new true h same is = subst (IsLast (places ++ place ∷ [])) (sym is) (places, ap (λ (n : ℕ). places ++ n ∷ []) same)
last-more places at place old new false h same is = subst (IsLast (places ++ [])) (sym is) (subst (λ (l : List ℕ). IsLast l old) (sym (append-nil places)) h)

-- the place of the words that are left
place-is : (words rest front : List (List ℕ)) → words ≡ front ++ rest → length words - length rest ≡ length front
place-is words rest front split = omega (arith, ap length split, length-append front rest)

module _ (words rest : List (List ℕ)) (first : List ℕ) (after : List (List ℕ)) (old : Reading) (read : HasRead words rest old) (split : rest ≡ first ∷ after) where
  pub read-more : (more : List (List ℕ)) (new : Reading) → TakesUnit (first ∷ after) more (length words - length rest) old new → HasRead words more new
  read-more more new takes =
      let front = spelled read.units in
      let here = place-is words rest front read.spells in
      record {
        units = read.units ++ takes.unit ∷ [];
        spells =
            read.spells ∙ ap (λ (x : List (List ℕ)). front ++ x) (split ∙ takes.spells) ∙ sym (append_assoc front (written takes.unit) more)
            ∙ ap (λ (x : List (List ℕ)). x ++ more) (sym (spelled-more read.units takes.unit));
        row = row-more read.units takes.unit defaults old.settings new.settings read.row takes.makes;
        last =
            subst (λ (l : List ℕ). IsLast l new.generate_at) (sym (places-more 0 read.units takes.unit))
            (last-more (generate_places 0 read.units) (length words - length rest) (0 + length front) old.generate_at new.generate_at (names_generate takes.unit) read.last
            (omega (arith, here)) takes.place);
      }

  pub fault-next : (fault : WordFault) → BeginsWithFault (length words - length rest) (first ∷ after) fault → HasFault words fault
  fault-next fault begins =
      record {
        units = read.units;
        rest = first ∷ after;
        spells = read.spells ∙ ap (λ (x : List (List ℕ)). spelled read.units ++ x) split;
        before = old.settings;
        row = read.row;
        stands = subst (λ (n : ℕ). BeginsWithFault n (first ∷ after) fault) (place-is words rest (spelled read.units) read.spells) begins;
      }

  pub read-fault : (fault : WordFault) → IsUnitFault (length words - length rest) (first ∷ after) fault → (fault ≡ NoMemory) ⊎ HasFault words fault
  read-fault fault (inl memory) = inl memory
  read-fault fault (inr begins) = inr (fault-next fault begins)

pub no-words : (words : List (List ℕ)) → length words ≡ 0 → words ≡ []
no-words [] e = refl
no-words (word ∷ words) e = absurd (omega (arith, e))
