-- No bytes are neither the spelling of a value nor of none from one place on.
use Rattle.std.proofs.Common.{◌≡◌, ℕ, zero, suc, ◌≤◌, List, [], length, take, refl, subst, inl, inr, arith}
use Rattle.std.proofs.lemmas.Bool.{cases_lt}
use Rattle.ga_codec.specs.Values.{SnapshotValue, DeltaValue}
use Rattle.ga_codec.specs.Spelling.{snapshot_bytes, delta_bytes}
use Rattle.ga_codec.specs.Shapes.{Begins, IsLongest, IsSnapshotShape, IsDeltaShape, SpellSnapshot, SpellDelta, IsNoSnapshot, IsNoDelta}
use Rattle.ga_codec.proofs.Fields.{snapshot_is_part, delta_is_part}

-- of the fronts up to a length one is the longest that begins one of the kind
longest_up_to : (IsOne : List ℕ → Type 0) (bytes : List ℕ) → Begins IsOne [] → ((at : ℕ) → IsLongest IsOne bytes at → ⊥)
    → (most : ℕ) → most ≤ length bytes → ((n : ℕ) → n ≤ length bytes → Begins IsOne (take n bytes) → n ≤ most) → ⊥
longest_up_to IsOne bytes begins none zero le within = none 0 (record { within = omega arith; begins = begins; longest = within })
longest_up_to IsOne bytes begins none (suc most) le within =
    let not_here = λ (b : Begins IsOne (take (suc most) bytes)). none (suc most) (record { within = le; begins = b; longest = within }) in
    longest_up_to IsOne bytes begins none most (omega arith) (λ n below b. elim (cases_lt n (suc most)) [
      | inl lt ↦ omega arith
      | inr ge ↦
          let same : n ≡ suc most = omega (arith, within n below b) in
          absurd (not_here (subst (λ (k : ℕ). Begins IsOne (take k bytes)) same b))
    ])

some_longest : (IsOne : List ℕ → Type 0) (bytes : List ℕ) → Begins IsOne [] → ((at : ℕ) → IsLongest IsOne bytes at → ⊥) → ⊥
some_longest IsOne bytes begins none = longest_up_to IsOne bytes begins none (length bytes) (omega arith) (λ n le b. le)

pub some_snapshot : (bytes : List ℕ) → ((s : SnapshotValue) → SpellSnapshot bytes s → ⊥) → ((at : ℕ) → IsNoSnapshot bytes at → ⊥) → ⊥
some_snapshot bytes no_value no_place =
    let some = snapshot_is_part.some in
    some_longest IsSnapshotShape bytes (snapshot_bytes some.0, (some.0, some.1, refl)) (λ at place. no_place at (record { none = no_value; place = place }))

pub some_delta : (bytes : List ℕ) → ((d : DeltaValue) → SpellDelta bytes d → ⊥) → ((at : ℕ) → IsNoDelta bytes at → ⊥) → ⊥
some_delta bytes no_value no_place =
    let some = delta_is_part.some in
    some_longest IsDeltaShape bytes (delta_bytes some.0, (some.0, some.1, refl)) (λ at place. no_place at (record { none = no_value; place = place }))
