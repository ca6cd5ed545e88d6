-- What is before the summary of a snapshot or of a run record, as what it is made of.
use Rattle.std.proofs.Common.{◌≡◌, ℕ, ◌^◌, ◌<◌, Bool, true, false, List, [], ◌∷◌, ◌++◌, length, get_or, Option, None, Some, IfSome, refl, sym, ap, ◌∙◌, arith}
use Rattle.std.specs.Prelude.{is_some}
use Rattle.std.specs.Int.{w32, w64}
use Rattle.ga_codec.specs.declared.snapshot_start.Start.{Start}
use Rattle.ga_codec.specs.Steps.Grammar.{bytes_of_version, generation, keep_bytes, keep_of, number, snapshot_start, snapshot_version, version}
use Rattle.ga_codec.specs.Steps.Parts.{Part, followed_by}
use Rattle.ga_codec.specs.Steps.Pieces.{start}
use Rattle.ga_codec.proofs.PartLaws.{IsPart, IsMade, made_is_part, followed_is_part}
use Rattle.ga_codec.proofs.Numbers.{wide32, wide64, number_is_part}

-- ---- versions and generations

pub version_is_part : IsPart version
version_is_part = record { one = λ a b x y f g e. refl; some = (tt, tt) }

-- the two versions of a snapshot differ in their one byte
one_version : (a b : Bool) (x y : List ℕ) → bytes_of_version a ++ x ≡ bytes_of_version b ++ y → a ≡ b
one_version false false x y e = refl
one_version true true x y e = refl
one_version false true x y e = absurd (omega (arith, ap (λ (t : List ℕ). get_or t 0 0) e))
one_version true false x y e = absurd (omega (arith, ap (λ (t : List ℕ). get_or t 0 0) e))

pub snapshot_version_is_part : IsPart snapshot_version
snapshot_version_is_part = record { one = λ a b x y f g e. one_version a b x y e; some = (false, tt) }

pub some_byte : (has_keep : Bool) → 0 < length (bytes_of_version has_keep)
some_byte false = omega arith
some_byte true = omega arith

pub is_its_byte : (has_keep : Bool) (byte : ℕ) → get_or (bytes_of_version has_keep) 0 0 ≡ byte → bytes_of_version has_keep ≡ byte ∷ []
is_its_byte false byte e = ap (λ (b : ℕ). b ∷ []) e
is_its_byte true byte e = ap (λ (b : ℕ). b ∷ []) e

pub generation_is_part : IsPart generation
generation_is_part = record {
  one = λ a b x y f g e. (number_is_part w64 wide64).one a b x y (omega (arith, f.last)) (omega (arith, g.last)) e;
  some = (1, record { first = omega arith; last = omega arith });
}

-- ---- how many days are kept

one_keep : (a b : Option ℕ) (x y : List ℕ) → is_some a ≡ is_some b → IfSome a (λ n. n < 2 ^ 32) → IfSome b (λ n. n < 2 ^ 32)
    → keep_bytes a ++ x ≡ keep_bytes b ++ y → a ≡ b
one_keep None None x y same f g e = refl
one_keep None (Some n) x y same f g e = absurd cc
one_keep (Some m) None x y same f g e = absurd cc
one_keep (Some m) (Some n) x y same f g e = ap Some ((number_is_part w32 wide32).one m n x y f g e)

some_keep : (has_keep : Bool) → (keep : Option ℕ) × (keep_of has_keep).fits keep
some_keep false = (None, (refl, tt))
some_keep true = (Some 0, (refl, omega arith))

pub keep_is_part : (has_keep : Bool) → IsPart (keep_of has_keep)
keep_is_part has_keep = record { one = λ a b x y f g e. one_keep a b x y (f.0 ∙ sym g.0) f.1 g.1 e; some = some_keep has_keep }

-- where the version says it, it is a number
pub keep_made : IsMade (keep_of true) (number w32) Some
keep_made = record { completes = λ n f. ((refl, f), refl); comes = comes }
  where
    comes : (keep : Option ℕ) → (is_some keep ≡ true) × IfSome keep (λ n. n < 2 ^ 32) → (n : ℕ) × (n < 2 ^ 32) × (keep ≡ Some n)
    comes None f = absurd cc
    comes (Some n) f = (n, f.1, refl)

-- ---- starts

abbrev pub start_2 : Bool → Part (ℕ × Option ℕ)
start_2 has_keep = followed_by generation (λ _. keep_of has_keep)

abbrev pub start_inner : Part (Bool × (ℕ × Option ℕ))
start_inner = followed_by snapshot_version start_2

abbrev pub start_from : Bool × (ℕ × Option ℕ) → Start
start_from v = record { generation = v.1.0; keep = v.1.1 }

pub is_start_2 : (has_keep : Bool) → IsPart (start_2 has_keep)
is_start_2 has_keep = followed_is_part generation (λ _. keep_of has_keep) generation_is_part (λ _ _. keep_is_part has_keep)

pub start_made : IsMade snapshot_start start_inner start_from
unfolding followed_by
start_made = record {
  completes = λ v f. ((f.1.0, f.1.1.1), spelled v.0 v.1.0 v.1.1 f.1.1.0);
  comes = λ s f. ((is_some s.keep, (s.generation, s.keep)), (tt, (f.0, (refl, f.1))), refl);
}
  where
    spelled : (has_keep : Bool) (g : ℕ) (keep : Option ℕ) → is_some keep ≡ has_keep
        → snapshot_start.spell (record { generation = g; keep = keep }) ≡ bytes_of_version has_keep ++ (generation.spell g ++ keep_bytes keep)
    spelled false g None e = refl
    spelled true g (Some n) e = refl
    spelled true g None e = absurd cc
    spelled false g (Some n) e = absurd cc

pub snapshot_start_is_part : IsPart snapshot_start
snapshot_start_is_part = made_is_part snapshot_start start_inner start_from start_made
    (followed_is_part snapshot_version start_2 snapshot_version_is_part (λ b _. is_start_2 b))

-- a run record's is its version
abbrev pub no_start : Start
no_start = record { generation = 0; keep = None }

pub delta_start_made : IsMade (start false) version (λ _. no_start)
delta_start_made = record {
  completes = λ v f. ((refl, refl), refl);
  comes = λ s f. (tt, tt, λ i. record { generation = f.0 i; keep = f.1 i });
}

pub start_is_part : (is_snapshot : Bool) → IsPart (start is_snapshot)
start_is_part true = snapshot_start_is_part
start_is_part false = made_is_part (start false) version (λ _. no_start) delta_start_made version_is_part
