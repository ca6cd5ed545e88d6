-- Each file gives words, or has a first bad line.
use Rattle.std.proofs.Common.{◌≡◌, ◌≢◌, ◌⊎◌, ℕ, ◌+◌, true, false, List, [], ◌∷◌, ◌++◌, length, Option, Some, None, MatchOption, refl, sym, ap, ◌∙◌, subst, arith, inl, inr, ⊎_elim}
use Rattle.std.specs.Prelude.{codes, ◌==◌}
use Rattle.std.specs.List.{list_all}
use Rattle.std.specs.Str.{bytes_eq, is_utf8}
use Rattle.std.specs.Str.Lines.{lines}
use Rattle.std.proofs.lemmas.Bool.{cases_Bool, cases_lt, eqb-true}
use Rattle.std.proofs.lemmas.Slice.Eq.{bytes_eq-Decides}
use Rattle.std.proofs.lemmas.Str.{IsUtf8-from_is_utf8, is_utf8-from_IsUtf8}
use Rattle.ga_words.specs.Defaults.{defaults}
use Rattle.ga_words.specs.declared.settings.Settings.{Settings}
use Rattle.ga_words.specs.Options.{IsFlag, Sets, Takes, TakesValue}
use Rattle.ga_conf.specs.declared.conf_line.TheConstants.{MAX_CONF_LINE}
use Rattle.ga_conf.specs.ConfFile.{IsAnswered, IsOtherName, IsPassedOver, IsReadable, IsSetting, LineGives, LinesGive, OptionGives, SettingGives, is_blank, is_name_byte, number_sign, option_of, takes_in_file}
use Rattle.ga_conf.specs.Steps.{BeginsNothing, DropsBlanks, IsCutAtBlank, SkipsBlanks}
use Rattle.ga_conf.proofs.LineLemmas.{lives, one_setting, passes_over, setting_found, trimmed}
use Rattle.ga_conf.proofs.UnitLemmas.{AreJudged}

-- ---- each line is a setting, or passed over

some_skips : (text : List ℕ) → (rest : List ℕ) × SkipsBlanks text rest
some_skips [] = ([], record { blanks = []; split = refl; are = tt; bare = λ b rest e. cc })
some_skips (b ∷ text) = ⊎_elim
    (λ blank. let more = some_skips text in
    (more.0, record { blanks = b ∷ more.1.blanks; split = ap (λ t. b ∷ t) more.1.split; are = (blank, more.1.are); bare = more.1.bare }))
    (λ bare. (b ∷ text, record { blanks = []; split = refl; are = tt; bare = λ c rest e. let here : b ≡ c = cc in subst (λ x. is_blank x ≡ false) here bare }))
    (cases_Bool (is_blank b))

no_end : (front : List ℕ) (b : ℕ) → [] ≡ front ++ b ∷ [] → ⊥
no_end [] b e = cc
no_end (x ∷ front) b e = cc

drops_more : (b : ℕ) (text front : List ℕ) → DropsBlanks text front → (kept : List ℕ) × DropsBlanks (b ∷ text) kept
drops_more b text [] drops = ⊎_elim
    (λ blank. ([], record { blanks = b ∷ drops.blanks; split = ap (λ t. b ∷ t) drops.split; are = (blank, drops.are); bare = drops.bare }))
    (λ bare. (b ∷ [], record { blanks = drops.blanks; split = ap (λ t. b ∷ t) drops.split; are = drops.are; bare = alone b bare }))
    (cases_Bool (is_blank b))
  where
    alone : (b : ℕ) → is_blank b ≡ false → (c : ℕ) (fore : List ℕ) → b ∷ [] ≡ fore ++ c ∷ [] → is_blank c ≡ false
    alone b bare c [] e = let here : b ≡ c = cc in subst (λ x. is_blank x ≡ false) here bare
    alone b bare c (x ∷ fore) e = let rest : [] ≡ fore ++ c ∷ [] = cc in absurd (no_end fore c rest)
drops_more b text (x ∷ front) drops =
    (b ∷ x ∷ front, record { blanks = drops.blanks; split = ap (λ t. b ∷ t) drops.split; are = drops.are; bare = later b x front drops.bare })
  where
    later : (b x : ℕ) (front : List ℕ) → ((c : ℕ) (fore : List ℕ) → x ∷ front ≡ fore ++ c ∷ [] → is_blank c ≡ false)
        → (c : ℕ) (fore : List ℕ) → b ∷ x ∷ front ≡ fore ++ c ∷ [] → is_blank c ≡ false
    later b x front bare c [] e = absurd (let rest : x ∷ front ≡ [] = cc in cc)
    later b x front bare c (y ∷ fore) e = let rest : x ∷ front ≡ fore ++ c ∷ [] = cc in bare c fore rest

some_drops : (text : List ℕ) → (front : List ℕ) × DropsBlanks text front
some_drops [] = ([], record { blanks = []; split = refl; are = tt; bare = λ b front e. absurd (no_end front b e) })
some_drops (b ∷ text) = let more = some_drops text in drops_more b text more.0 more.1

some_cut : (text : List ℕ) → (front : List ℕ) × (back : List ℕ) × IsCutAtBlank text front back
some_cut [] = ([], [], record { split = refl; free = tt; blank = λ b rest e. cc })
some_cut (b ∷ text) = ⊎_elim
    (λ blank. ([], b ∷ text, record { split = refl; free = tt; blank = λ c rest e. let here : b ≡ c = cc in subst (λ x. is_blank x ≡ true) here blank }))
    (λ bare. let more = some_cut text in
    (b ∷ more.0, more.1, record { split = ap (λ t. b ∷ t) more.2.split; free = (bare, more.2.free); blank = more.2.blank }))
    (cases_Bool (is_blank b))

begins : (text : List ℕ) → BeginsNothing text ⊎ ¬ BeginsNothing text
begins [] = inl (inl refl)
begins (b ∷ rest) = ⊎_elim
    (λ sign. let here : b ≡ number_sign = eqb-true b number_sign sign in inl (inr (rest, ap (λ x. x ∷ rest) here)))
    (λ other. inr (neither other))
    (cases_Bool (b == number_sign))
  where
    neither : (b == number_sign) ≡ false → ¬ BeginsNothing (b ∷ rest)
    neither other (inl none) = let clash : b ∷ rest ≡ [] = none in cc
    neither other (inr (comment, is)) =
        let here : b ≡ number_sign = cc in
        let test : (b == number_sign) ≡ true = ap (λ x. x == number_sign) here in
        let clash : true ≡ false = sym test ∙ other in cc

line_says : (line : List ℕ) → IsPassedOver line ⊎ (¬ IsPassedOver line × ((name : List ℕ) × (value : List ℕ) × IsSetting line name value))
line_says line =
    let left = some_skips line in
    let text = some_drops left.0 in
    let trim = trimmed line left.0 text.0 left.1 text.1 in
    let cut = some_cut text.0 in
    let value = some_skips cut.1 in
    ⊎_elim
    (λ nothing. inl (passes_over line text.0 trim nothing))
    (λ something. inr (
      lives line text.0 trim (λ nothing. absurd (something nothing)),
      (cut.0, value.0, setting_found line text.0 cut.0 cut.1 value.0 trim (λ empty. something (inl empty)) cut.2 value.1),
    ))
    (begins text.0)

-- ---- each setting gives words or none

text_is : (text other : List ℕ) → (text ≡ other) ⊎ (text ≢ other)
text_is text other = ⊎_elim
    (λ same. inl ((bytes_eq-Decides text other).0 same))
    (λ differs. inr (λ same. let test = (bytes_eq-Decides text other).1 same in let clash : true ≡ false = sym test ∙ differs in cc))
    (cases_Bool (bytes_eq text other))

other_name : (name : List ℕ) → IsOtherName name ⊎ ¬ IsOtherName name
other_name name = ⊎_elim
    (λ bytes. ⊎_elim (λ generate. inr (λ h. h.not_generate generate))
    (λ not_generate. ⊎_elim (λ log. inr (λ h. h.not_log log)) (λ not_log. inl record { bytes = bytes; not_generate = not_generate; not_log = not_log }) (text_is name (codes "log-file")))
    (text_is name (codes "generate")))
    (λ bad. inr (λ h. let clash : true ≡ false = sym h.bytes ∙ bad in cc))
    (cases_Bool (list_all is_name_byte name))

module _ (judged : AreJudged) (form : (takes : Takes) → IsFlag takes ⊎ TakesValue takes) where
  abbrev Judges : (List (List ℕ) → Type 0) → Type 0
  Judges Gives = ((words : List (List ℕ)) × Gives words) ⊎ ((words : List (List ℕ)) → ¬ Gives words)

  flag_gives : (takes : Takes) (option value : List ℕ) → IsFlag takes → ((words : List (List ℕ)) → OptionGives takes option value words → (value ≡ codes "true") ⊎ (value ≡ codes "false"))
      → Judges (OptionGives takes option value)
  flag_gives takes option value flag only = ⊎_elim
      (λ on. inl (option ∷ [], inl (flag, inl (on, refl))))
      (λ not_on. ⊎_elim (λ off. inl ([], inl (flag, inr (off, refl)))) (λ not_off. inr (λ words gives. ⊎_elim not_on not_off (only words gives))) (text_is value (codes "false")))
      (text_is value (codes "true"))

  option_gives : (takes : Takes) (option value : List ℕ) → Judges (OptionGives takes option value)
  option_gives takes option value = ⊎_elim
      (λ sets. inl ((option ++ codes "=" ++ value) ∷ [], inr ((defaults, sets.0, sets.1), refl)))
      (λ outside. ⊎_elim
      (λ flag. flag_gives takes option value flag (only outside))
      (λ with_value. inr (none outside with_value))
      (form takes))
      (judged takes value defaults)
    where
      only : ((old new : Settings) → ¬ Sets takes value old new) → (words : List (List ℕ)) → OptionGives takes option value words → (value ≡ codes "true") ⊎ (value ≡ codes "false")
      only outside words (inl (flag, inl (on, is))) = inl on
      only outside words (inl (flag, inr (off, is))) = inr off
      only outside words (inr (taken, is)) = absurd (outside taken.0 taken.1 taken.2)

      none : ((old new : Settings) → ¬ Sets takes value old new) → TakesValue takes → (words : List (List ℕ)) → ¬ OptionGives takes option value words
      none outside with_value words (inl (flag, gives)) = with_value flag.0 flag.1
      none outside with_value words (inr (taken, is)) = outside taken.0 taken.1 taken.2

  found_gives : (name value : List ℕ) (found : Option Takes)
      → Judges (λ words. MatchOption found (IsOtherName name × (words ≡ [])) (λ takes. OptionGives takes (option_of name) value words))
  found_gives name value None = ⊎_elim (λ is. inl ([], (is, refl))) (λ bad. inr (λ words gives. bad gives.0)) (other_name name)
  found_gives name value (Some takes) = option_gives takes (option_of name) value

  -- ---- each line gives words or none

  readable : (line : List ℕ) → IsReadable line ⊎ ¬ IsReadable line
  readable line = ⊎_elim
      (λ long. inr (λ h. absurd (omega (arith, long, h.short))))
      (λ short. ⊎_elim
      (λ utf8. inl record { short = short; utf8 = IsUtf8-from_is_utf8 line utf8 })
      (λ bad. inr (λ h. let clash : true ≡ false = sym (is_utf8-from_IsUtf8 line h.utf8) ∙ bad in cc))
      (cases_Bool (is_utf8 line)))
      (cases_lt MAX_CONF_LINE (length line))

  setting_line : (line name value : List ℕ) → IsReadable line → ¬ IsPassedOver line → IsSetting line name value → Judges (SettingGives name value) → Judges (LineGives line)
  setting_line line name value read alive is (inl (words, gives)) = inl (words, (read, inr (alive, (name, value, is, gives))))
  setting_line line name value read alive is (inr none) = inr bad
    where
      bad : (words : List (List ℕ)) → ¬ LineGives line words
      bad words (read', inl over) = alive over.0
      bad words (read', inr (alive', (n, v, is', gives))) =
          let same = one_setting line n v name value is' is in
          none words (subst (λ m. SettingGives m value words) same.0 (subst (λ w. SettingGives n w words) same.1 gives))

  line_gives : (line : List ℕ) → Judges (LineGives line)
  line_gives line = ⊎_elim
      (λ read. ⊎_elim
      (λ over. inl ([], (read, inl (over, refl))))
      (λ says. let (alive, (name, value, is)) = says in setting_line line name value read alive is (found_gives name value (takes_in_file name)))
      (line_says line))
      (λ bad. inr (λ words gives. bad gives.0))
      (readable line)

  -- ---- the lines of a file

  -- the first line that gives no words
  record FirstBad (ls : List (List ℕ)) : Type 0 where
    before : List (List ℕ)
    line : List ℕ
    after : List (List ℕ)
    split : ls ≡ before ++ line ∷ after
    fine : (words : List (List ℕ)) × LinesGive before words
    bad : (words : List (List ℕ)) → ¬ LineGives line words

  lines_give : (ls : List (List ℕ)) → ((words : List (List ℕ)) × LinesGive ls words) ⊎ FirstBad ls
  lines_give [] = inl ([], refl)
  lines_give (line ∷ more) = ⊎_elim
      (λ first. ⊎_elim
      (λ later. inl (first.0 ++ later.0, (first.0, later.0, first.1, later.1, refl)))
      (λ bad. inr record {
        before = line ∷ bad.before;
        line = bad.line;
        after = bad.after;
        split = ap (λ ls. line ∷ ls) bad.split;
        fine = (first.0 ++ bad.fine.0, (first.0, bad.fine.0, first.1, bad.fine.1, refl));
        bad = bad.bad;
      })
      (lines_give more))
      (λ none. inr record { before = []; line = line; after = more; split = refl; fine = ([], refl); bad = none })
      (line_gives line)

  pub some_conf : (bytes : List ℕ) → IsAnswered bytes
  some_conf bytes = ⊎_elim
      (λ words. inl words)
      (λ bad. inr (length bad.before + 1, record { before = bad.before; line = bad.line; after = bad.after; split = bad.split; fine = bad.fine; bad = bad.bad; place = refl }))
      (lines_give (lines bytes))
