-- The words of a file are units of the command line, which set something of any settings.
use Rattle.std.proofs.Common.{◌≡◌, ◌⊎◌, ℕ, true, false, List, [], ◌∷◌, ◌++◌, Option, Some, None, MatchOption, refl, sym, ap, ◌∙◌, subst, append_assoc, append-nil, inl, inr, ⊎_elim}
use Rattle.std.specs.Prelude.{codes, ◌||◌}
use Rattle.std.specs.List.{AllByRecursion}
use Rattle.std.specs.Str.{bytes_eq}
use Rattle.std.specs.Str.Lines.{lines}
use Rattle.std.proofs.lemmas.Bool.{cond-true, cases_Bool}
use Rattle.std.proofs.lemmas.Slice.Eq.{bytes_eq-Decides}
use Rattle.ga_words.specs.Defaults.{defaults}
use Rattle.ga_words.specs.Joined.{AreConfWords, IsConfUnit}
use Rattle.ga_words.specs.Options.{IsLong, IsOutside, IsTaken, Sets, Takes}
use Rattle.ga_words.specs.Units.{Makes, RowMakes, WordUnit, spelled, written}
use Rattle.ga_words.specs.declared.settings.Settings.{Settings}
use Rattle.ga_words.specs.Units.WordUnit.{Alone, Joined}
use Rattle.ga_conf.specs.ConfFile.{ConfGives, LineGives, LinesGive, IsOtherName, OptionGives, option_of, takes_in_file}
use Rattle.ga_conf.proofs.SettingLemmas.{in_table}

-- what is known of values
abbrev pub AreJudged : Type 0
AreJudged = (takes : Takes) (value : List ℕ) (old : Settings) → ((new : Settings) × Sets takes value old new) ⊎ IsOutside takes value

-- words that are such units, whatever is set before them
pub record AddUnits (words : List (List ℕ)) : Type 0 where
  pub units : List WordUnit
  pub spells : words ≡ spelled units
  pub are : AllByRecursion IsConfUnit units
  pub row : (old : Settings) → (new : Settings) × RowMakes units old new

no_units : (words : List (List ℕ)) → words ≡ [] → AddUnits words
no_units words none = record { units = []; spells = none; are = tt; row = λ old. (old, refl) }

one_unit : (words : List (List ℕ)) (unit : WordUnit) → words ≡ written unit → IsConfUnit unit → ((old : Settings) → (new : Settings) × Makes unit old new) → AddUnits words
one_unit words unit is conf makes = record {
  units = unit ∷ [];
  spells = is ∙ sym (append-nil (written unit));
  are = (conf, tt);
  row = λ old. let next = makes old in (next.0, (next.0, next.1, refl));
}

spelled-append : (units more : List WordUnit) → spelled (units ++ more) ≡ spelled units ++ spelled more
spelled-append [] more = refl
spelled-append (unit ∷ units) more = ap (λ (x : List (List ℕ)). written unit ++ x) (spelled-append units more) ∙ sym (append_assoc (written unit) (spelled units) (spelled more))

are-append : (units more : List WordUnit) → AllByRecursion IsConfUnit units → AllByRecursion IsConfUnit more → AllByRecursion IsConfUnit (units ++ more)
are-append [] more a b = b
are-append (unit ∷ units) more a b = (a.0, are-append units more a.1 b)

row-append : (units more : List WordUnit) (old between new : Settings) → RowMakes units old between → RowMakes more between new → RowMakes (units ++ more) old new
row-append [] more old between new here row = subst (λ (s : Settings). RowMakes more s new) here row
row-append (unit ∷ units) more old between new here row = (here.0, here.1, row-append units more here.0 between new here.2 row)

units-append : (words more all : List (List ℕ)) → AddUnits words → AddUnits more → all ≡ words ++ more → AddUnits all
units-append words more all first later is = record {
  units = first.units ++ later.units;
  spells = is ∙ ap (λ (x : List (List ℕ)). x ++ more) first.spells ∙ ap (λ (x : List (List ℕ)). spelled first.units ++ x) later.spells ∙ sym (spelled-append first.units later.units);
  are = are-append first.units later.units first.are later.are;
  row = λ old.
      let here = first.row old in
      let next = later.row here.0 in (next.0, row-append first.units later.units old here.0 next.0 here.1 next.1);
}

-- an option of a file isn't that of generated lines, nor the short one
not_generate : (name : List ℕ) (takes : Takes) → takes_in_file name ≡ Some takes → bytes_eq (option_of name) (codes "--generate") ≡ false
not_generate name takes is = ⊎_elim
    (λ same.
    let whole : codes "--" ++ name ≡ codes "--generate" = (bytes_eq-Decides (option_of name) (codes "--generate")).0 same in
    let short : name ≡ codes "generate" = cc in
    let left : (bytes_eq name (codes "generate") || bytes_eq name (codes "config-file")) ≡ true =
    ap (λ b. b || bytes_eq name (codes "config-file")) ((bytes_eq-Decides name (codes "generate")).1 short) in
    absurd (let clash : None ≡ Some takes = sym (cond-true _ _ _ left) ∙ is in cc))
    (λ other. other)
    (cases_Bool (bytes_eq (option_of name) (codes "--generate")))

is_long : (name : List ℕ) → IsLong (option_of name)
is_long name same = let clash : codes "--" ++ name ≡ codes "-o" = same in cc

module _ (judged : AreJudged) where
  sets_all : (takes : Takes) (value : List ℕ) → IsTaken takes value → (old : Settings) → (new : Settings) × Sets takes value old new
  sets_all takes value taken old = ⊎_elim (λ sets. sets) (λ outside. absurd (outside taken.0 taken.1 taken.2)) (judged takes value old)

  option_units : (name value : List ℕ) (takes : Takes) (words : List (List ℕ)) → takes_in_file name ≡ Some takes → OptionGives takes (option_of name) value words → AddUnits words
  option_units name value takes words is (inl (flag, inl (on, given))) =
      let set = flag.0 in
      one_unit words (Alone (option_of name)) given refl (λ old. (set old, (set, in_table name takes is ∙ ap Some flag.1, refl)))
  option_units name value takes words is (inl (flag, inr (off, given))) = no_units words given
  option_units name value takes words is (inr (taken, given)) =
      one_unit words (Joined (option_of name) value) given (not_generate name takes is)
      (λ old. let sets = sets_all takes value taken old in (sets.0, (takes, in_table name takes is, is_long name, sets.1)))

  setting_units : (name value : List ℕ) (words : List (List ℕ)) (found : Option Takes) → takes_in_file name ≡ found
      → MatchOption found (IsOtherName name × (words ≡ [])) (λ takes. OptionGives takes (option_of name) value words) → AddUnits words
  setting_units name value words None is gives = no_units words gives.1
  setting_units name value words (Some takes) is gives = option_units name value takes words is gives

  line_units : (line : List ℕ) (words : List (List ℕ)) → LineGives line words → AddUnits words
  line_units line words (readable, inl over) = no_units words over.1
  line_units line words (readable, inr (lives, (name, value, is, gives))) = setting_units name value words (takes_in_file name) refl gives

  lines_units : (ls : List (List ℕ)) (words : List (List ℕ)) → LinesGive ls words → AddUnits words
  lines_units [] words gives = no_units words gives
  lines_units (line ∷ more) words gives = units-append gives.0 gives.1 words (line_units line gives.0 gives.2) (lines_units more gives.1 gives.3) gives.4

  -- the words of a file are those of a configuration file
  pub conf_words : (bytes : List ℕ) (words : List (List ℕ)) → ConfGives bytes words → AreConfWords words
  conf_words bytes words gives =
      let add = lines_units (lines bytes) words gives in
      let row = add.row defaults in
      record { units = add.units; spells = add.spells; settings = row.0; row = row.1; are = add.are }
