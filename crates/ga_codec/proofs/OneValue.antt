-- Bytes are the spelling of one value, or of none from one place on.
use Rattle.std.proofs.Common.{◌≡◌, ℕ, List, [], ◌++◌, sym, ap, ◌∙◌, subst, arith}
use Rattle.std.proofs.lemmas.List.{append_cancel_left}
use Rattle.ga_codec.specs.Values.{SnapshotValue, DeltaValue}
use Rattle.ga_codec.specs.Spelling.{snapshot_bytes, delta_bytes}
use Rattle.ga_codec.specs.Shapes.{IsLongest, FitsSnapshot, FitsDelta, SpellSnapshot, SpellDelta}
use Rattle.ga_codec.specs.Steps.Parts.{Part}
use Rattle.ga_codec.specs.Steps.Grammar.{snapshot, delta}
use Rattle.ga_codec.proofs.PartLaws.{IsPart}
use Rattle.ga_codec.proofs.Fields.{snapshot_is_part, delta_is_part}

both_same : {A : Type 0} (part : Part A) → IsPart part → (a b : A) (x y : List ℕ) → part.fits a → part.fits b → part.spell a ++ x ≡ part.spell b ++ y → (a ≡ b) × (x ≡ y)
both_same {A = A} part p a b x y f g e =
    let same = p.one a b x y f g e in
    (same, append_cancel_left (part.spell a) x y (subst (λ (v : A). part.spell a ++ x ≡ part.spell v ++ y) (sym same) e))

pub one_snapshot_law : (a b : SnapshotValue) (x y : List ℕ) → FitsSnapshot a → FitsSnapshot b → snapshot_bytes a ++ x ≡ snapshot_bytes b ++ y → (a ≡ b) × (x ≡ y)
one_snapshot_law a b x y f g e = both_same snapshot snapshot_is_part a b x y f g e

pub one_delta_law : (a b : DeltaValue) (x y : List ℕ) → FitsDelta a → FitsDelta b → delta_bytes a ++ x ≡ delta_bytes b ++ y → (a ≡ b) × (x ≡ y)
one_delta_law a b x y f g e = both_same delta delta_is_part a b x y f g e

pub one_snapshot_value : (bytes : List ℕ) (a b : SnapshotValue) → SpellSnapshot bytes a → SpellSnapshot bytes b → a ≡ b
one_snapshot_value bytes a b h k = snapshot_is_part.one a b [] [] h.fits k.fits (ap (λ (t : List ℕ). t ++ []) (sym h.spelled ∙ k.spelled))

pub one_delta_value : (bytes : List ℕ) (a b : DeltaValue) → SpellDelta bytes a → SpellDelta bytes b → a ≡ b
one_delta_value bytes a b h k = delta_is_part.one a b [] [] h.fits k.fits (ap (λ (t : List ℕ). t ++ []) (sym h.spelled ∙ k.spelled))

pub one_longest : (IsOne : List ℕ → Type 0) (bytes : List ℕ) (m n : ℕ) → IsLongest IsOne bytes m → IsLongest IsOne bytes n → m ≡ n
one_longest IsOne bytes m n h k =
    let a = k.longest m h.within h.begins in
    let b = h.longest n k.within k.begins in
    omega arith
