-- The form of keys, and their layers: of each panel the keys that have a parent or none, and data or none.
use Rattle.std.specs.Prelude.{◌≡◌, ◌≢◌, ◌↔◌, ◌⊎◌, ℕ, Bool, true, false, ◌&&◌, List, [], ◌∷◌, ◌++◌, length}
use Rattle.std.specs.Str.{all_ascii_digits}
use Rattle.ga_base.specs.declared.key.Key.{Key}
use Rattle.ga_base.specs.declared.panel.Panel.{Panel}
use Rattle.ga_base.specs.declared.panel.Panel.TheVariants.{Visitors, Requests, RequestsStatic, NotFound, Os, Browsers, StatusCodes, MimeType}
use Rattle.ga_base.specs.Days.{HasEightDigits, eight_digits}
use Rattle.ga_base.specs.Panels.{is_same_panel}

-- the panels whose entries are in groups
abbrev pub has_groups : Panel → Bool
has_groups Os = true
has_groups Browsers = true
has_groups StatusCodes = true
has_groups MimeType = true
has_groups _ = false

-- the panels of requests, whose keys have the method and the protocol
abbrev pub has_requests : Panel → Bool
has_requests Requests = true
has_requests RequestsStatic = true
has_requests NotFound = true
has_requests _ = false

abbrev pub is_empty : List ℕ → Bool
is_empty [] = true
is_empty (byte ∷ bytes) = false

-- ---- VISITORS: days, and parts of a day

-- the data of a part of a day: the day's eight digits and two more, or four
pub record IsPartOfDay (date : ℕ) (label : List ℕ) : Type 0 where
  pub more : List ℕ
  pub spelled : label ≡ eight_digits date ++ more
  pub digits : all_ascii_digits more ≡ true
  pub many : (length more ≡ 2) ⊎ (length more ≡ 4)

-- a day has no parent, and a part of a day has the day's eight digits
abbrev pub IsDayOrPart : ℕ → List ℕ → List ℕ → Type 0
IsDayOrPart date parent label =
    ((parent ≡ []) × (label ≡ eight_digits date)) ⊎ ((parent ≡ eight_digits date) × IsPartOfDay date label)

-- the key of VISITORS for a day
abbrev pub day_key : ℕ → Key
day_key date = record { panel = Visitors; date = date; parent = []; label = eight_digits date; method = []; protocol = [] }

-- whether a key is a day's
abbrev pub is_day : Key → Bool
is_day key = is_same_panel key.panel Visitors && is_empty key.parent

-- ---- all panels

-- the form of a key
pub record HasForm (key : Key) : Type 0 where
  pub date : HasEightDigits key.date
  -- a key of VISITORS is a day's, or that of a part of it
  pub visit : key.panel ≡ Visitors → IsDayOrPart key.date key.parent key.label
  -- elsewhere the parent is empty exactly where the panel has no groups
  pub parent : key.panel ≢ Visitors → (key.parent ≡ []) ↔ (has_groups key.panel ≡ false)
  pub request : has_requests key.panel ≡ false → (key.method ≡ []) × (key.protocol ≡ [])

-- a layer: the keys of a panel with the same two answers, whether the parent is empty and whether the data is. In a panel
-- with groups these are the groups and their entries, in VISITORS the days and the parts of days
pub record Layer : Type 0 where
  pub panel : Panel
  pub no_parent : Bool
  pub no_label : Bool

abbrev pub is_flag : Bool → Bool → Bool
is_flag true b = b
is_flag false true = false
is_flag false false = true

abbrev pub in_layer : Layer → Key → Bool
in_layer layer key =
    is_same_panel key.panel layer.panel && (is_flag layer.no_parent (is_empty key.parent) && is_flag layer.no_label (is_empty key.label))

-- the layer of a key
abbrev pub layer_of : Key → Layer
layer_of key = record { panel = key.panel; no_parent = is_empty key.parent; no_label = is_empty key.label }
