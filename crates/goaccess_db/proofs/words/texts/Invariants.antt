use Rattle.std.proofs.Common.{◌≡◌, ◌++◌, length, map}
use Rattle.std.specs.Prelude.{string_bytes}
use Rattle.std.specs.Vec.Iter.{into_iter_items, into_iter_len}
use Rattle.goaccess_db.proofs.words.texts.Given as goal

-- the strings so far are in the list
abbrev pub invariant-loop-string : goal.invariant-loop-string
invariant-loop-string l = (l.yielded ++ into_iter_items l.string-iterator ≡ into_iter_items l.initial.string-iterator)
    × (into_iter_len l.string-iterator ≡ length (into_iter_items l.string-iterator))
    × (l.texts ≡ map string_bytes l.yielded)
