-- What holds place by place of three lists.
use Rattle.std.proofs.Common.{◌≡◌, ℕ, suc, List, [], ◌∷◌, ◌++◌, ◌∙◌, length, get_or, sym, ap, subst, arith, length-append, ⊎_elim}
use Rattle.std.proofs.lemmas.Bool.{cases_lt}
use Rattle.std.proofs.lemmas.List.{get_or_append_left}
use Rattle.std.proofs.Math.Seq.{get_or-append_seam}
use Rattle.ga_numbers.specs.Steps.Three.{AllThree}

-- the last of more
last-of : {A : Type 0} (xs : List A) (x d : A) (k : ℕ) → k ≡ length xs → get_or (xs ++ x ∷ []) k d ≡ x
last-of xs x d k end = ap (λ n. get_or (xs ++ x ∷ []) n d) end ∙ get_or-append_seam xs x [] d

module _ {A B C : Type 0} (R : A → B → C → Type 0) where
  pub three-more : (xs : List A) (ys : List B) (zs : List C) (x : A) (y : B) (z : C) → AllThree R xs ys zs → R x y z → AllThree R (xs ++ x ∷ []) (ys ++ y ∷ []) (zs ++ z ∷ [])
  three-more xs ys zs x y z all one = record {
    second = omega (arith, length-append xs (x ∷ []), length-append ys (y ∷ []), all.second);
    third = omega (arith, length-append xs (x ∷ []), length-append zs (z ∷ []), all.third);
    each = λ k a b c within. ⊎_elim
        (λ before. subst (λ r. R r (get_or (ys ++ y ∷ []) k b) (get_or (zs ++ z ∷ []) k c)) (sym (get_or_append_left xs (x ∷ []) a k before))
        (subst (λ r. R (get_or xs k a) r (get_or (zs ++ z ∷ []) k c)) (sym (get_or_append_left ys (y ∷ []) b k (omega (arith, before, all.second))))
        (subst (λ r. R (get_or xs k a) (get_or ys k b) r) (sym (get_or_append_left zs (z ∷ []) c k (omega (arith, before, all.third)))) (all.each k a b c before))))
        (λ past.
        let end : k ≡ length xs = omega (arith, past, within, length-append xs (x ∷ [])) in
        subst (λ r. R r (get_or (ys ++ y ∷ []) k b) (get_or (zs ++ z ∷ []) k c)) (sym (last-of xs x a k end))
        (subst (λ r. R x r (get_or (zs ++ z ∷ []) k c)) (sym (last-of ys y b k (omega (arith, end, all.second))))
        (subst (λ r. R x y r) (sym (last-of zs z c k (omega (arith, end, all.third)))) one)))
        (cases_lt k (length xs));
  }

  pub three-head : (xs : List A) (ys : List B) (zs : List C) (x : A) (y : B) (z : C) → AllThree R (x ∷ xs) (y ∷ ys) (z ∷ zs) → R x y z
  three-head xs ys zs x y z all = all.each 0 x y z (omega arith)

  pub three-tail : (xs : List A) (ys : List B) (zs : List C) (x : A) (y : B) (z : C) → AllThree R (x ∷ xs) (y ∷ ys) (z ∷ zs) → AllThree R xs ys zs
  three-tail xs ys zs x y z all = record {
    second = omega (arith, all.second);
    third = omega (arith, all.third);
    each = λ k a b c within. all.each (suc k) a b c (omega (arith, within));
  }
