use Rattle.std.proofs.Common.{◌≡◌, ◌∙◌, ◌∷◌, ◌++◌, [], ℕ, zero, suc, List, get_or, length, refl, ap, arith, length-append}
use Rattle.ga_numbers.proofs.sharded_rows.vacant_shards.Goals as goal

-- one vacant list more after others
vacant-more : {T : Type 0} (xs : List (List T)) → ((s : ℕ) → get_or xs s [] ≡ []) → (s : ℕ) → get_or (xs ++ [] ∷ []) s [] ≡ []
vacant-more [] each zero = refl
vacant-more [] each (suc s) = refl
vacant-more (x ∷ xs) each zero = each 0
vacant-more (x ∷ xs) each (suc s) = vacant-more xs (λ k. each (suc k)) s

pub loop-preserved : goal.loop-preserved
loop-preserved c =
    let pushed = c.in_ok-push.ensures.items ∙ ap (λ (x : List _). c.loop.shards.items ++ x ∷ []) c.keyed.ensures in
    record {
      many = omega (arith, ap length pushed, length-append c.loop.shards.items ([] ∷ []), c.loop.invariant.many);
      each = λ s. ap (λ (xs : List (List _)). get_or xs s []) pushed ∙ vacant-more c.loop.shards.items c.loop.invariant.each s;
    }
