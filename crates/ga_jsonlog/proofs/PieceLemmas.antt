-- The pieces of a line: which text a value has, that a line has one list of them, and some list.
use Rattle.std.proofs.Common.{◌≡◌, ℕ, List, length, map, Bool, true, false, refl, sym, ◌∙◌, ap, inl, inr, ◌⊎◌, Option, Some, None}
use Rattle.std.specs.Prelude.{is_some, if◌then◌else◌}
use Rattle.std.proofs.lemmas.List.{length-map}
use Rattle.serde_json.specs.Data.{Num, unsigned, negative, float, Data, null, boolean, number, string, array, object, Members}
use Rattle.serde_json.specs.Find.{as_str}
use Rattle.serde_json.specs.Written.{compact_text, has_float}
use Rattle.ga_jsonlog.specs.declared.leaf.JsonLeaf.{JsonLeaf}
use Rattle.ga_jsonlog.specs.declared.pieces.Pieces.{Pieces}
use Rattle.ga_jsonlog.specs.declared.pieces.Pieces.TheVariants.{NoObject, Leaves}
use Rattle.ga_jsonlog.specs.Objects.{IsObject}
use Rattle.ga_jsonlog.specs.Pieces.{PiecesOf, is_written, piece_at, piece_of}
use Rattle.ga_jsonlog.proofs.Leaves.{object-or-not, one-object}

-- a text is its own piece
pub text-piece : (value : Data) (text : List ℕ) → as_str value ≡ Some text → piece_of value ≡ Some text
text-piece null text e = cc
text-piece (boolean b) text e = cc
text-piece (number n) text e = cc
text-piece (string s) text e = e
text-piece (array items) text e = cc
text-piece (object ms) text e = cc

-- what is written has no float, and its text as its piece
pub written-piece : (value : Data) → is_written value ≡ true → (has_float value ≡ false) × (piece_of value ≡ Some (compact_text value))
written-piece null e = absurd (no e)
  where
    no : false ≡ true → ⊥
    no f = cc
written-piece (boolean b) e = (refl, refl)
written-piece (number (unsigned n)) e = (refl, refl)
written-piece (number (negative z)) e = (refl, refl)
written-piece (number (float x)) e = absurd (no e)
  where
    no : false ≡ true → ⊥
    no f = cc
written-piece (string s) e = absurd (no e)
  where
    no : false ≡ true → ⊥
    no f = cc
written-piece (array items) e = absurd (no e)
  where
    no : false ≡ true → ⊥
    no f = cc
written-piece (object ms) e = absurd (no e)
  where
    no : false ≡ true → ⊥
    no f = cc

-- any other value has none
pub no-piece : (value : Data) → as_str value ≡ None → is_written value ≡ false → piece_of value ≡ None
no-piece null e f = refl
no-piece (boolean b) e f = cc
no-piece (number (unsigned n)) e f = cc
no-piece (number (negative z)) e f = cc
no-piece (number (float x)) e f = refl
no-piece (string s) e f = cc
no-piece (array items) e f = refl
no-piece (object ms) e f = refl

-- one list of texts at the leaves of a line, and as many as there are leaves
pub one-texts : (leaves : List JsonLeaf) (line : List ℕ) (ps qs : List (Option (List ℕ))) → PiecesOf leaves line (Leaves ps) → PiecesOf leaves line (Leaves qs) → ps ≡ qs
one-texts leaves line ps qs (ms, is, are) (ms', is', are') =
    are ∙ (ap (λ (ms : Members). map (piece_at (object ms)) leaves) (one-object line ms ms' is is') ∙ sym are')

pub many-texts : (leaves : List JsonLeaf) (line : List ℕ) (ps : List (Option (List ℕ))) → PiecesOf leaves line (Leaves ps) → length ps ≡ length leaves
many-texts leaves line ps (ms, is, are) = ap length are ∙ length-map leaves (piece_at (object ms))

pub one-pieces : (leaves : List JsonLeaf) (line : List ℕ) (a b : Pieces) → PiecesOf leaves line a → PiecesOf leaves line b → a ≡ b
one-pieces leaves line NoObject NoObject h k = refl
one-pieces leaves line NoObject (Leaves pieces) h (ms, is, are) = absurd (h ms is)
one-pieces leaves line (Leaves pieces) NoObject (ms, is, are) k = absurd (k ms is)
one-pieces leaves line (Leaves pieces) (Leaves others) (ms, is, are) (ms', is', are') =
    ap Leaves (one-texts leaves line pieces others (ms, is, are) (ms', is', are'))

pub every-pieces : (leaves : List JsonLeaf) (line : List ℕ) → (pieces : Pieces) × PiecesOf leaves line pieces
every-pieces leaves line = elim (object-or-not line) [
  | inl (ms, is) ↦ (Leaves (map (piece_at (object ms)) leaves), (ms, is, refl))
  | inr none ↦ (NoObject, none)
]
