-- What the steps promise to one another: the words of functions that only this crate calls.
use Rattle.std.specs.Prelude.{◌≡◌, ℕ, ◌<◌, ◌⊎◌, length, Bool, true, not, ◌==◌, Option, Some, None, MatchOption, List, [], ◌∷◌, ◌++◌, codes}
use Rattle.std.specs.Str.Lines.{lines}
use Rattle.ga_base.specs.declared.limits.TheConstants.{LINE_FEED}
use Rattle.ga_conf.specs.ConfFile.{AreBlanks, BeginsBare, EndsBare, FlagGives, HasNoBlank, IsPassedOver, IsSetting, LineGives, SettingGives, is_blank, number_sign}
use Rattle.ga_words.specs.Forms.{Accepts}
use Rattle.ga_conf.specs.declared.conf_line.ConfLine.{ConfLine}
use Rattle.ga_conf.specs.declared.conf_line.ConfLine.TheVariants as L
use Rattle.ga_conf.specs.declared.fault.ConfFault.{ConfFault}
use Rattle.ga_conf.specs.declared.fault.ConfFault.TheVariants.{BadConf, NoMemory}
use Rattle.ga_conf.specs.declared.setting.Setting.{Setting}
use Rattle.ga_conf.specs.declared.setting.Setting.TheVariants as S

-- ---- blanks

-- the byte is no blank
abbrev pub is_other : ℕ → Bool
is_other b = not (is_blank b)

-- the text is blanks and then this, which begins with none
pub record SkipsBlanks (text rest : List ℕ) : Type 0 where
  pub blanks : List ℕ
  pub split : text ≡ blanks ++ rest
  pub are : AreBlanks blanks
  pub bare : BeginsBare rest

-- the text is this, which ends with no blank, and then blanks
pub record DropsBlanks (text front : List ℕ) : Type 0 where
  pub blanks : List ℕ
  pub split : text ≡ front ++ blanks
  pub are : AreBlanks blanks
  pub bare : EndsBare front

-- the text is empty, or begins with a blank
abbrev pub BeginsBlank : List ℕ → Type 0
BeginsBlank text = (b : ℕ) (rest : List ℕ) → text ≡ b ∷ rest → is_blank b ≡ true

-- the text is cut before its first blank, or at its end
pub record IsCutAtBlank (text front back : List ℕ) : Type 0 where
  pub split : text ≡ front ++ back
  pub free : HasNoBlank front
  pub blank : BeginsBlank back

-- ---- lines

-- the text is empty or a comment
abbrev pub BeginsNothing : List ℕ → Type 0
BeginsNothing text = (text ≡ []) ⊎ ((comment : List ℕ) × (text ≡ number_sign ∷ comment))

-- what a line says
abbrev pub SaysLine : List ℕ → ConfLine → Type 0
SaysLine line L.PassedOver = IsPassedOver line
SaysLine line (L.Setting name value) = (¬ IsPassedOver line) × IsSetting line name.now value.now

abbrev pub is_feed : ℕ → Bool
is_feed b = b == LINE_FEED

-- the text's first line, and the text of those after it
pub record IsFirstLine (text line after : List ℕ) : Type 0 where
  pub is : lines text ≡ line ∷ lines after
  pub shorter : length after < length text

-- why a line with this number adds nothing: it gives no words, or memory ran out
abbrev pub IsLineFault : List ℕ → ℕ → ConfFault → Type 0
IsLineFault line number (BadConf place) = (place ≡ number) × ((words : List (List ℕ)) → ¬ LineGives line words)
IsLineFault line number NoMemory = Unit {0}

-- ---- settings

-- the words that a setting came to, where it is none that is refused
abbrev pub words_of : Setting → Option (List (List ℕ))
words_of S.PassedOver = Some []
words_of (S.Word word) = Some (word ∷ [])
words_of S.Refused = None

-- the words are these, where there are words that this holds of
abbrev pub IsAs : (List (List ℕ) → Type 0) → Setting → Type 0
IsAs Gives setting = MatchOption (words_of setting) ((words : List (List ℕ)) → ¬ Gives words) Gives

abbrev pub GivesAs : List ℕ → List ℕ → Setting → Type 0
GivesAs name value setting = IsAs (SettingGives name value) setting

abbrev pub GivesFlag : List ℕ → List ℕ → Setting → Type 0
GivesFlag option value setting = IsAs (FlagGives option value) setting

abbrev pub GivesValue : List ℕ → List ℕ → Setting → Type 0
GivesValue option value setting = IsAs (λ words. Accepts option value × (words ≡ (option ++ codes "=" ++ value) ∷ [])) setting
