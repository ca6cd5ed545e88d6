-- How dictionaries hash, and a cheap hash of texts beside it.
use Rattle.std.specs.Prelude.{ℕ, List, fold}
use Rattle.std.specs.Hash.{u64}
use Rattle.std.specs.Hash.DefaultHasher.{finish, initial, write}
use Rattle.std.specs.Hash.FoldHasher as cheap
use Rattle.ga_shards.specs.declared.keyed.Keyed.{Keyed}

-- hashers that have read these two words
abbrev pub keyed_with : ℕ → ℕ → Keyed
keyed_with first second = record { begun = fold write (fold write initial (u64 first)) (u64 second) }

-- what hashers make of nothing, after the words that they begin with
abbrev pub hash_of_nothing : Keyed → ℕ
hash_of_nothing keyed = finish keyed.begun

-- a cheap hash of a text
abbrev pub text_hash : List ℕ → ℕ
text_hash text = cheap.finish (cheap.write cheap.initial text)
