use Rattle.std.proofs.Common.{◌<◌, ◌%◌, ℕ, List, Bool, length, arith, ap}
use Rattle.std.specs.Prelude.{fold}
use Rattle.std.specs.Hash.FoldHasher as hashes
use Rattle.std.proofs.lemmas.Nat.{mod_below}
use Rattle.ga_shards.specs.Steps.{AreParts, shard_at}
use Rattle.ga_shards.proofs.Shifting.{all-known, numbered}
use Rattle.ga_shards.proofs.shards.shards_are_a_numbering.Goals as goal

-- an item is in a shard that is there
within : {T : Type 0} (eq : T → T → Bool) (input : T → List (List ℕ)) (shards : ℕ) (lists parts : List (List T)) → AreParts eq (shard_at input shards) shards lists parts → (x : T) → shard_at input shards x < length parts
within eq input shards lists parts h x =
    let below = mod_below (hashes.finish (fold hashes.write hashes.initial (input x))) shards (omega (arith, h.some)) in
    omega (arith, below, h.many)

pub returns : goal.returns
returns g c =
    let eq = g.T.PartialEq.eq in
    let input = g.T.Hash.hash_input in
    record {
      known = λ shards lists parts h. all-known eq g.met.T.Eq.laws (shard_at input shards)
          (λ x y e. ap (λ (i : List (List ℕ)). hashes.finish (fold hashes.write hashes.initial i) % shards) (g.met.T.Hash.respects_eq x y e)) lists parts
          (λ s lt. h.each s (omega (arith, lt, h.many))) (within eq input shards lists parts h);
      numbered = λ shards lists parts h. numbered eq g.met.T.Eq.laws (shard_at input shards)
          (λ x y e. ap (λ (i : List (List ℕ)). hashes.finish (fold hashes.write hashes.initial i) % shards) (g.met.T.Hash.respects_eq x y e)) lists parts
          (λ s lt. h.each s (omega (arith, lt, h.many))) (within eq input shards lists parts h);
    }
