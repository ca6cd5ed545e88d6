-- One part is at a place, and one snapshot at the start of a side.
use Rattle.std.proofs.Common.{◌≡◌, ℕ, ◌+◌, ◌≤◌, List, ◌++◌, length, take, drop, refl, sym, ◌∙◌, ap, subst, arith, length-append}
use Rattle.std.specs.Int.{w64, from_be_bytes}
use Rattle.std.proofs.lemmas.List.{append_assoc, take-take, take_at}
use Rattle.std.proofs.lemmas.Nat.{from_be_bytes-to_be_bytes_8}
use Rattle.sha2.specs.Sha256.{sha256}
use Rattle.ga_codec.specs.Spelling.{eight_bytes}
use Rattle.ga_codec.specs.Values.{SnapshotValue}
use Rattle.ga_codec.proofs.OneValue.{one_snapshot_value}
use Rattle.ga_codec.specs.Shapes.{SpellSnapshot}
use Rattle.ga_store.specs.SideParts.{IsPartAt, part_bytes}
use Rattle.ga_store.specs.Database.{HasSnapshot}

part-size : (body : List ℕ) → 8 + length body ≤ length (part_bytes body)
part-size body =
    let number : length (eight_bytes (length body)) ≡ 8 = refl in
    omega (arith, number, length-append (eight_bytes (length body)) body, length-append (eight_bytes (length body) ++ body) (sha256 body))

-- the front of a part is read off the side
front-of : (side body : List ℕ) (at n : ℕ) → IsPartAt side at body → n ≤ length (part_bytes body) → take n (drop at side) ≡ take n (part_bytes body)
front-of side body at n part le =
    sym (take-take n (length (part_bytes body)) (drop at side) le) ∙ ap (λ (b : List ℕ). take n b) part.stands.same

number-of : (side body : List ℕ) (at : ℕ) → IsPartAt side at body → take 8 (drop at side) ≡ eight_bytes (length body)
number-of side body at part =
    let size = part-size body in
    front-of side body at 8 part (omega arith)
    ∙ ap (λ (b : List ℕ). take 8 b) (append_assoc (eight_bytes (length body)) body (sha256 body))
    ∙ take_at (eight_bytes (length body)) (body ++ sha256 body) 8 refl

body-of : (side body : List ℕ) (at : ℕ) → IsPartAt side at body → take (8 + length body) (drop at side) ≡ eight_bytes (length body) ++ body
body-of side body at part =
    front-of side body at (8 + length body) part (part-size body)
    ∙ take_at (eight_bytes (length body) ++ body) (sha256 body) (8 + length body) (length-append (eight_bytes (length body)) body)

pub one-part : (side a b : List ℕ) (at : ℕ) → IsPartAt side at a → IsPartAt side at b → a ≡ b
one-part side a b at p q =
    let numbers : eight_bytes (length a) ≡ eight_bytes (length b) = sym (number-of side a at p) ∙ number-of side b at q in
    let same : length a ≡ length b =
    sym (from_be_bytes-to_be_bytes_8 (length a) p.size) ∙ ap (λ (t : List ℕ). from_be_bytes w64 t) numbers ∙ from_be_bytes-to_be_bytes_8 (length b) q.size in
    let bodies : eight_bytes (length a) ++ a ≡ eight_bytes (length b) ++ b =
    sym (body-of side a at p) ∙ ap (λ (n : ℕ). take (8 + n) (drop at side)) same ∙ body-of side b at q in
    ap (λ (t : List ℕ). drop 8 t) bodies

pub one-snapshot : {side : List ℕ} {a b : SnapshotValue} {m n : ℕ} → HasSnapshot side a m → HasSnapshot side b n → a ≡ b
one-snapshot {side} {a} {b} p q =
    let body = one-part side p.body q.body 1 p.part q.part in
    one_snapshot_value p.body a b p.spells (subst (λ (t : List ℕ). SpellSnapshot t b) (sym body) q.spells)
