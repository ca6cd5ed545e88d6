-- The parts in which the keys are counted, one after the other.
use Rattle.std.proofs.Common.{◌≡◌, ℕ, zero, suc, ◌+◌, ◌<◌, eqb, List, [], ◌∷◌, ◌++◌, length, get_or, Ok, length-append, refl, sym, ap, ◌∙◌, subst, arith}
use Rattle.std.specs.Prelude.{Result}
use Rattle.std.specs.Borrow.{MutBor}
use Rattle.std.specs.Fn.{Shared}
use Rattle.std.specs.Set.{distinct_count}
use Rattle.ga_base.specs.declared.no_memory.NoMemory.{NoMemory}
use Rattle.ga_base.specs.Parts.{ChangesPart, ChangesParts}
use Rattle.ga_base.proofs.InParts.{whole-parts}
use Rattle.ga_tallies.specs.Tallies.{pairs_in}
use Rattle.ga_totals.specs.Steps.KeyRows.{visitors_at}
use Rattle.ga_totals.specs.Steps.Sources.{AreVisits}
use Rattle.ga_totals.specs.Steps.Visits.{counts_of}
use Rattle.ga_totals.proofs.Visiting.{visitors-of-rows}

-- the counts of keys, and after them those of more
pub counts-behind : (rows : List (List ℕ)) (first many more n : ℕ) → n ≡ many + more → counts_of rows first n ≡ counts_of rows first many ++ counts_of rows (first + many) more
counts-behind rows first zero more n e = ap (λ k. counts_of rows first k) (omega (arith, e)) ∙ ap (λ k. counts_of rows k more) (omega arith)
counts-behind rows first (suc many) more n e =
    let one : n ≡ suc (many + more) = omega (arith, e) in
    let there : first + 1 + many ≡ first + suc many = omega arith in
    ap (λ k. counts_of rows first k) one
    ∙ ap (λ (l : List ℕ). distinct_count eqb (visitors_at rows first) ∷ l)
    (counts-behind rows (first + 1) many more (many + more) refl ∙ ap (λ k. counts_of rows (first + 1) many ++ counts_of rows k more) there)

-- the counts of one key more
pub counts-more : (rows : List (List ℕ)) (first many : ℕ)
    → counts_of rows first (many + 1) ≡ counts_of rows first many ++ distinct_count eqb (visitors_at rows (first + many)) ∷ []
counts-more rows first many = counts-behind rows first many 1 (many + 1) refl

-- the counts of parts, each of which has those of its keys
pub counts-parts : {F : Type 0} (g : Shared F (ℕ × (MutBor (List ℕ) × Unit {0})) (Result (Unit {0}) NoMemory × (MutBor (List ℕ) × Unit {0}))) (f : F) (rows : List (List ℕ))
    → ((first : ℕ) (xs ys : List ℕ) → ChangesPart g f first xs (Ok tt) ys → ys ≡ counts_of rows first (length xs)) → {first : ℕ} {xs ys : List ℕ} → ChangesParts g f first xs ys
    → ys ≡ counts_of rows first (length xs)
counts-parts g f rows each changes =
    whole-parts g f (λ first xs ys. ys ≡ counts_of rows first (length xs)) each
    (λ first low high front back same one two. (λ i. one i ++ two i) ∙ sym (counts-behind rows first (length low) (length high) (length (low ++ high)) (length-append low high))) changes

length-counts : (rows : List (List ℕ)) (first many : ℕ) → length (counts_of rows first many) ≡ many
length-counts rows first zero = refl
length-counts rows first (suc many) = ap suc (length-counts rows (first + 1) many)

count-at : (rows : List (List ℕ)) (first many place number : ℕ) → place < many → number ≡ first + place → get_or (counts_of rows first many) place 0 ≡ distinct_count eqb (visitors_at rows number)
count-at rows first zero place number less at = absurd (omega (arith, less))
count-at rows first (suc many) zero number less at = ap (λ k. distinct_count eqb (visitors_at rows k)) (omega (arith, at))
count-at rows first (suc many) (suc place) number less at = count-at rows (first + 1) many place number (omega (arith, less)) (omega (arith, at))

-- the counts of all keys are how many visitors each has
pub are-visits : (rows : List (List ℕ)) (keys : ℕ) (visits : List ℕ) → visits ≡ counts_of rows 0 keys → AreVisits keys (pairs_in rows) visits
are-visits rows keys visits is = subst (AreVisits keys (pairs_in rows)) (sym is) (record {
  many = length-counts rows 0 keys;
  each = λ number less.
      count-at rows 0 keys number number less (omega arith) ∙ ap (λ (l : List ℕ). distinct_count eqb l) (sym (visitors-of-rows rows number));
})
