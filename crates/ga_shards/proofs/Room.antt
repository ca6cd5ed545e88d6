-- The shards together have no more items than the lists.
use Rattle.std.proofs.Common.{◌≡◌, ℕ, zero, suc, ◌+◌, ◌<◌, ◌≤◌, Bool, true, false, nat_lt, List, [], ◌∷◌, length, take, get_or, refl, sym, ap, ◌∙◌, subst, arith, take_all, ⊎_elim}
use Rattle.std.specs.Prelude.{◌==◌, filter, sum_by}
use Rattle.std.proofs.lemmas.Bool.{cases_Bool, cases_lt, cond-true, cond-false, eq-eqb, lt-ltb, le-ltb, ne_eqb}
use Rattle.std.proofs.lemmas.List.Concat.{length-flat_map}
use Rattle.std.proofs.lemmas.List.Sums.{sum_by_more}
use Rattle.ga_shards.specs.Steps.{all_noted, all_of, those_of, start_of}
use Rattle.ga_shards.proofs.Noting.{no-longer}

keeps-one : {T : Type 0} (p : T → Bool) (x : T) (xs : List T) → p x ≡ true → length (filter p (x ∷ xs)) ≡ length (filter p xs) + 1
keeps-one p x xs on = ap (λ (l : List _). length l) (cond-true _ _ _ on) ∙ omega arith

drops-one : {T : Type 0} (p : T → Bool) (x : T) (xs : List T) → p x ≡ false → length (filter p (x ∷ xs)) ≡ length (filter p xs)
drops-one p x xs off = ap (λ (l : List _). length l) (cond-false _ _ _ off)

pub filter-short : {T : Type 0} (p : T → Bool) (xs : List T) → length (filter p xs) ≤ length xs
filter-short p [] = omega arith
filter-short p (x ∷ xs) =
    let rest = filter-short p xs in
    ⊎_elim (λ yes. let e = keeps-one p x xs yes in omega arith) (λ off. let e = drops-one p x xs off in omega arith) (cases_Bool (p x))

module _ {T : Type 0} (eq : T → T → Bool) (shard : T → ℕ) where
  -- below s + 1 are those below s and those at s
  split : (s : ℕ) (xs : List T) → length (filter (λ x. nat_lt (shard x) (s + 1)) xs) ≡ length (filter (λ x. nat_lt (shard x) s) xs) + length (filter (λ x. shard x == s) xs)
  split s [] = refl
  split s (x ∷ xs) =
      let rest = split s xs in
      ⊎_elim
      (λ below.
      let a = keeps-one (λ x. nat_lt (shard x) (s + 1)) x xs (lt-ltb (shard x) (s + 1) (omega arith)) in
      let b = keeps-one (λ x. nat_lt (shard x) s) x xs (lt-ltb (shard x) s below) in
      let c = drops-one (λ x. shard x == s) x xs (ne_eqb (shard x) s (λ same. absurd (omega arith))) in
      omega arith)
      (λ above.
      let b = drops-one (λ x. nat_lt (shard x) s) x xs (le-ltb (shard x) s above) in
      ⊎_elim
      (λ more.
      let a = drops-one (λ x. nat_lt (shard x) (s + 1)) x xs (le-ltb (shard x) (s + 1) (omega arith)) in
      let c = drops-one (λ x. shard x == s) x xs (ne_eqb (shard x) s (λ same. absurd (omega arith))) in
      omega arith)
      (λ less.
      let a = keeps-one (λ x. nat_lt (shard x) (s + 1)) x xs (lt-ltb (shard x) (s + 1) (omega arith)) in
      let same : shard x ≡ s = omega arith in
      let c = keeps-one (λ x. shard x == s) x xs (eq-eqb (shard x) s same) in
      omega arith)
      (cases_lt s (shard x)))
      (cases_lt (shard x) s)

  module _ (lists shards : List (List T)) (each : (s : ℕ) → s < length shards → get_or shards s [] ≡ all_noted eq [] (those_of shard s (all_of lists))) where
    starts-low : (s : ℕ) → s ≤ length shards → start_of shards s ≤ length (filter (λ x. nat_lt (shard x) s) (all_of lists))
    starts-low zero within = omega arith
    starts-low (suc s) within =
        let before = starts-low s (omega arith) in
        let more = sum_by_more (λ (l : List T). length l) shards s [] (omega arith) in
        let here : length (get_or shards s []) ≤ length (those_of shard s (all_of lists)) =
        subst (λ l. length l ≤ length (those_of shard s (all_of lists))) (sym (each s (omega arith))) (let n = no-longer eq (those_of shard s (all_of lists)) [] in omega arith) in
        let next : s + 1 ≡ suc s = omega arith in
        let both = subst (λ n. length (filter (λ x. nat_lt (shard x) n) (all_of lists)) ≡ length (filter (λ x. nat_lt (shard x) s) (all_of lists)) + length (those_of shard s (all_of lists))) next
        (split s (all_of lists)) in
        let after = subst (λ n. start_of shards n ≡ start_of shards s + length (get_or shards s [])) next more in
        omega (arith, before, after, here, both)

    pub fits : sum_by (λ l. length l) shards ≤ sum_by (λ l. length l) lists
    fits =
        let low = starts-low (length shards) (omega arith) in
        let all : take (length shards) shards ≡ shards = take_all (length shards) shards (omega arith) in
        let whole : start_of shards (length shards) ≡ sum_by (λ l. length l) shards = ap (λ (ls : List (List T)). sum_by (λ l. length l) ls) all in
        let short = filter-short (λ x. nat_lt (shard x) (length shards)) (all_of lists) in
        let long : length (all_of lists) ≡ sum_by (λ l. length l) lists = length-flat_map (λ l. l) lists in
        omega arith
