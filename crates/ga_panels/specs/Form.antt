-- What holds of the keys of every record of a day.
use Rattle.std.specs.Prelude.{◌≡◌, ℕ, ◌≤◌, List, All, Contains, count_by}
use Rattle.std.specs.List.Sorted.{IsStrictlySortedBy}
use Rattle.ga_base.specs.Layers.{HasForm, Layer, in_layer, day_key}
use Rattle.ga_base.specs.Orders.{key_cmp}
use Rattle.ga_base.specs.declared.key.Key.{Key}

-- keys of a record of this day: they rise, each has the day and its panel's form, VISITORS has its key, and no layer has two
pub record AreKeysOfDay (date : ℕ) (keys : List Key) : Type 0 where
  pub rising : IsStrictlySortedBy key_cmp keys
  pub dated : All (λ key. key.date ≡ date) keys
  pub formed : All HasForm keys
  pub day : Contains keys (day_key date)
  pub layers : (layer : Layer) → count_by (in_layer layer) keys ≤ 1
