-- A list of words is a row of units: flags, options with their values, and logs. After `--` every word is a log.
use Rattle.std.specs.Prelude.{◌≡◌, ◌≢◌, ℕ, ◌+◌, Bool, false, if◌then◌else◌, Option, Some, None, List, [], ◌∷◌, ◌++◌, length, codes}
use Rattle.std.specs.List.{flat_map, AllByRecursion}
use Rattle.std.specs.Str.{bytes_eq}
use Rattle.ga_words.specs.declared.settings.Settings.{Settings}
use Rattle.ga_words.specs.Options.{Takes, takes_of, IsLong, Sets}
use Rattle.ga_words.specs.Options.Takes.{Flag}

-- a unit of the command line, as the user writes it
pub data WordUnit : Type 0 where
  Alone : List ℕ → WordUnit  -- a flag of this name
  Joined : List ℕ → List ℕ → WordUnit  -- an option of this name, `=` and its value, in one word
  Separate : List ℕ → List ℕ → WordUnit  -- an option of this name and its value, in two words
  Log : List ℕ → WordUnit  -- a log of this name

-- the words of a unit, and of a row of them
abbrev pub written : WordUnit → List (List ℕ)
written (Alone name) = name ∷ []
written (Joined name value) = (name ++ codes "=" ++ value) ∷ []
written (Separate name value) = name ∷ value ∷ []
written (Log name) = name ∷ []

abbrev pub spelled : List WordUnit → List (List ℕ)
spelled units = flat_map written units

-- the word begins with the byte of an option, a dash
abbrev pub BeginsWithDash : List ℕ → Type 0
BeginsWithDash word = (rest : List ℕ) × (word ≡ codes "-" ++ rest)

-- the settings `new` are `old` with these logs after the others
abbrev pub AddsLogs : List (List ℕ) → Settings → Settings → Type 0
AddsLogs names old new = new ≡ record old { logs = old.logs ++ names }

-- what a unit makes of the settings
abbrev pub Makes : WordUnit → Settings → Settings → Type 0
Makes (Alone name) old new = (set : Settings → Settings) × (takes_of name ≡ Some (Flag set)) × (new ≡ set old)
Makes (Joined name value) old new = (takes : Takes) × (takes_of name ≡ Some takes) × IsLong name × Sets takes value old new
Makes (Separate name value) old new = (takes : Takes) × (takes_of name ≡ Some takes) × Sets takes value old new
Makes (Log name) old new = (name ≢ []) × ¬ BeginsWithDash name × AddsLogs (name ∷ []) old new

-- what a row of units makes of them, one after the other
abbrev pub RowMakes : List WordUnit → Settings → Settings → Type 0
RowMakes [] old new = new ≡ old
RowMakes (unit ∷ units) old new = (between : Settings) × Makes unit old between × RowMakes units between new

-- `--` and the logs after it, where it stands
abbrev pub tail_words : Option (List (List ℕ)) → List (List ℕ)
tail_words None = []
tail_words (Some logs) = codes "--" ∷ logs

abbrev pub tail_logs : Option (List (List ℕ)) → List (List ℕ)
tail_logs None = []
tail_logs (Some logs) = logs

abbrev pub AreNamed : List (List ℕ) → Type 0
AreNamed logs = AllByRecursion (λ log. log ≢ []) logs

-- a unit that names the option `--generate`
abbrev pub names_generate : WordUnit → Bool
names_generate (Alone name) = false
names_generate (Joined name value) = bytes_eq name (codes "--generate")
names_generate (Separate name value) = bytes_eq name (codes "--generate")
names_generate (Log name) = false

-- the places of the words that name it, where the row begins at this place
abbrev pub generate_places : ℕ → List WordUnit → List ℕ
generate_places at [] = []
generate_places at (unit ∷ units) =
    (if names_generate unit then at ∷ [] else []) ++ generate_places (at + length (written unit)) units
