-- What is taken of a part in front of its body and after it.
use Rattle.std.specs.Prelude.{◌≡◌, ◌↔◌, ℕ, ◌+◌, ◌<◌, ◌≤◌, ◌^◌, Bool, true, List, [], ◌∷◌, ◌++◌, length, Option, Some, None}
use Rattle.sha2.specs.Hashers.{Holds256}
use Rattle.sha2.specs.Sha256.{sha256}
use Rattle.sha2.specs.declared.Sha256.{Sha256}
use Rattle.ga_codec.specs.Spelling.{eight_bytes}
use Rattle.ga_store.specs.SideParts.{IsPartAt, is_open_at}
use Rattle.ga_store.specs.Steps.Stream.{IsRest, StreamView, left}
use Rattle.ga_store.specs.declared.body_digest.BodyDigest.{BodyDigest}

-- whether the gate that comes next is open; nothing was taken
pub record SaysGate (s : StreamView) (is_open : Bool) (taken : List ℕ) : Type 0 where
  pub none : taken ≡ []
  pub says : (rest : List ℕ) → IsRest s rest → is_open_at rest 0 ≡ is_open
  pub window : is_open ≡ true → 1 ≤ length s.window

-- the byte of a gate and the size of a body were taken, for which and for a digest the side has room
pub record HasSize (s : StreamView) (size : ℕ) (taken : List ℕ) : Type 0 where
  pub gate : ℕ
  pub is : taken ≡ gate ∷ eight_bytes size
  pub fits : size < 2 ^ 64
  pub room : size + 32 ≤ left s

abbrev pub SaysSize : StreamView → Option ℕ → List ℕ → Type 0
SaysSize s None taken = (rest : List ℕ) → IsRest s rest → (body : List ℕ) → IsPartAt (taken ++ rest) 1 body → ⊥
SaysSize s (Some size) taken = HasSize s size taken

-- a digest was taken, and this is whether it is that of what was digested
pub record SaysDigest (hasher : Sha256) (same : Bool) (taken : List ℕ) : Type 0 where
  pub long : length taken ≡ 32
  pub says : (message : List ℕ) → Holds256 hasher message → (same ≡ true) ↔ (taken ≡ sha256 message)

-- these bytes were read of a body: they were digested but for the last, which wait for it
pub record HoldsBytes (held : BodyDigest) (bytes : List ℕ) : Type 0 where
  pub digested : List ℕ
  pub holds : Holds256 held.hasher digested
  pub is : bytes ≡ digested ++ held.waiting.items

-- all bytes that were read are digested
abbrev pub DigestsAll : BodyDigest → BodyDigest → Type 0
DigestsAll old new = (bytes : List ℕ) → HoldsBytes old bytes → Holds256 new.hasher bytes

-- the rest of a body was taken, and a digest, and this is whether it is that of what was read and the rest
pub record SaysRest (held : BodyDigest) (rest : List ℕ) (same : Bool) (taken : List ℕ) : Type 0 where
  pub digest : List ℕ
  pub is : taken ≡ rest ++ digest
  pub long : length digest ≡ 32
  pub says : (bytes : List ℕ) → HoldsBytes held bytes → (same ≡ true) ↔ (digest ≡ sha256 (bytes ++ rest))
