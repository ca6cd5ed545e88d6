-- How many hashes are in each bucket, counted a hash at a time.
use Rattle.std.proofs.Common.{◌≡◌, ℕ, ◌+◌, ◌<◌, ◌==◌, min, Bool, true, false, cond, List, [], ◌∷◌, ◌++◌, length, get_or, take, refl, sym, ap, ◌∙◌, subst, arith}
use Rattle.std.specs.Prelude.{count_by}
use Rattle.std.proofs.lemmas.Bool.{false≢true}
use Rattle.std.proofs.lemmas.Bool.Decides.{Decides-eqb}
use Rattle.std.proofs.lemmas.List.{get_or-set_same, get_or-set_other, length-set}
use Rattle.std.proofs.lemmas.List.Sums.{sum_by_push}
use Rattle.ga_report.specs.Steps.Alone.{AreBuckets, bucket_at, noted_bucket}
use Rattle.ga_report.proofs.Lists.{take-get}

-- there are as many
pub noted-long : (counts : List ℕ) (bucket : ℕ) → length (noted_bucket counts bucket) ≡ length counts
noted-long counts bucket = length-set counts bucket (min 2 (get_or counts bucket 0 + 1))

module _ (hashes : List ℕ) (hash : ℕ) (counts : List ℕ) where
  abbrev n : ℕ
  n = length counts

  abbrev m : ℕ
  m = bucket_at n hash

  abbrev has : ℕ → ℕ → Bool
  has bucket h = bucket_at n h == bucket

  count-more : (bucket : ℕ) (b : Bool) → (m == bucket) ≡ b → count_by (has bucket) (hashes ++ hash ∷ []) ≡ count_by (has bucket) hashes + cond b 1 0
  count-more bucket b e = sum_by_push (λ h. cond (has bucket h) 1 0) hashes hash ∙ ap {B = ℕ} (λ (v : Bool). count_by (has bucket) hashes + cond v 1 0) e

  -- one hash more in its bucket
  more-each : AreBuckets hashes counts → (bucket : ℕ) → bucket < n → get_or (noted_bucket counts m) bucket 0 ≡ min 2 (count_by (has bucket) (hashes ++ hash ∷ []))
  more-each are bucket less = elim (m == bucket) as (λ b. (m == bucket) ≡ b → get_or (noted_bucket counts m) bucket 0 ≡ min 2 (count_by (has bucket) (hashes ++ hash ∷ []))) [
    | true ↦ λ e.
        let here : bucket ≡ m = sym ((Decides-eqb m bucket).0 e) in
        let value = min 2 (get_or counts m 0 + 1) in
        let got : get_or (noted_bucket counts m) bucket 0 ≡ value = ap (λ (k : ℕ). get_or (noted_bucket counts m) k 0) here ∙ get_or-set_same counts m value 0 (subst (λ (k : ℕ). k < n) here less) in
        let before : get_or counts m 0 ≡ min 2 (count_by (has bucket) hashes) = ap (λ (k : ℕ). get_or counts k 0) (sym here) ∙ are.each bucket less in
        omega (arith, got, before, count-more bucket true e)
    | false ↦ λ e.
        let other : bucket ≡ m → ⊥ = λ same. false≢true (sym e ∙ (Decides-eqb m bucket).1 (sym same)) in
        let got = get_or-set_other counts m bucket (min 2 (get_or counts m 0 + 1)) 0 other in
        omega (arith, got, are.each bucket less, count-more bucket false e)
  ] refl

  pub marked-behind : AreBuckets hashes counts → AreBuckets (hashes ++ hash ∷ []) (noted_bucket counts m)
  marked-behind are =
      let long : length (noted_bucket counts m) ≡ n = noted-long counts m in
      record {
        some = omega (arith, are.some, long);
        each = λ bucket less. more-each are bucket (omega (arith, less, long)) ∙ ap (λ (k : ℕ). min 2 (count_by (λ h. bucket_at k h == bucket) (hashes ++ hash ∷ []))) (sym long);
      }

-- a hash more of those that are read
pub marked-more : (hashes counts : List ℕ) (n hash : ℕ) → get_or hashes n 0 ≡ hash → n < length hashes → AreBuckets (take n hashes) counts
    → AreBuckets (take (n + 1) hashes) (noted_bucket counts (bucket_at (length counts) hash))
marked-more hashes counts n hash e less are =
    subst (λ (xs : List ℕ). AreBuckets xs (noted_bucket counts (bucket_at (length counts) hash)))
    (sym (take-get n hashes 0 less ∙ ap (λ (h : ℕ). take n hashes ++ h ∷ []) e)) (marked-behind (take n hashes) hash counts are)
