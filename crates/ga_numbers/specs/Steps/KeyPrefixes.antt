-- Keys as prefixes and rows. The prefix of a key is a key without a label, on day 0.
use Rattle.std.specs.Prelude.{◌≡◌, Bool, List, [], map, slice_index_or}
use Rattle.ga_base.specs.contracts.key.KeyPartialEq.TheImpl.{ghosts as keys}
use Rattle.ga_base.specs.declared.key.Key.{Key}
use Rattle.ga_base.specs.declared.panel.Panel.TheVariants.{Visitors}
use Rattle.ga_numbers.specs.declared.shard_row.ShardRow.{ShardRow}
use Rattle.ga_panels.specs.declared.key_ref.KeyRef.{KeyRef}

-- two prefixes are the same, as a dictionary tests
abbrev pub is_same_prefix : Key → Key → Bool
is_same_prefix a b = keys.eq a b

-- a key that is a prefix
abbrev pub IsKeyPrefix : Key → Type 0
IsKeyPrefix k = (k.date ≡ 0) × (k.label ≡ [])

-- the prefix of a borrowed key
abbrev pub prefix_of : KeyRef → Key
prefix_of k = record { panel = k.panel; date = 0; parent = k.parent.now; label = []; method = k.method.now; protocol = k.protocol.now }

-- the key of a prefix and a row
abbrev pub key_at : Key → ShardRow → Key
key_at prefix row = record {
  panel = prefix.panel;
  date = row.date;
  parent = prefix.parent;
  label = row.text;
  method = prefix.method;
  protocol = prefix.protocol;
}

-- what is read where a row has no prefix, which no row is without
abbrev pub no_key_prefix : Key
no_key_prefix = record { panel = Visitors; date = 0; parent = []; label = []; method = []; protocol = [] }

-- the keys of these prefixes and rows
abbrev pub keys_in : List Key → List ShardRow → List Key
keys_in prefixes rows = map (λ (row : ShardRow). key_at (slice_index_or prefixes row.prefix no_key_prefix) row) rows
