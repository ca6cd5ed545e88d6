-- Runs of bytes that pass a test: the longest one at the front of a text, which is one.
use Rattle.std.proofs.Common.{◌≡◌, ℕ, suc, Bool, true, false, List, [], ◌∷◌, ◌++◌, refl, sym, ap, ◌∙◌, arith}
use Rattle.std.proofs.lemmas.Bool.{false≢true}
use Rattle.std.specs.Prelude.{⊤}
use Rattle.std.specs.List.{AllPass}
use Rattle.std.proofs.lemmas.List.Sums.{AllPass-from_list_all, list_all-from_AllPass}

cons-head : (x y : ℕ) (xs ys : List ℕ) → x ∷ xs ≡ y ∷ ys → x ≡ y
cons-head x y xs ys e = cc

cons-tail : (x y : ℕ) (xs ys : List ℕ) → x ∷ xs ≡ y ∷ ys → xs ≡ ys
cons-tail x y xs ys e = cc

cons-same : (x y : ℕ) (xs ys : List ℕ) → x ≡ y → xs ≡ ys → x ∷ xs ≡ y ∷ ys
cons-same x y xs ys e f = cc

-- the text is empty, or begins with a byte that doesn't pass
abbrev pub Stops : (ℕ → Bool) → List ℕ → Type 0
Stops p [] = ⊤
Stops p (b ∷ text) = p b ≡ false

-- the longest run at the front of a text, and what follows it
pub record IsRun (p : ℕ → Bool) (text run after : List ℕ) : Type 0 where
  pub split : text ≡ run ++ after
  pub all : AllPass p run
  pub stops : Stops p after

pub none-passes : (p : ℕ → Bool) → AllPass p []
none-passes p = AllPass-from_list_all p [] refl

pub one-more-passes : (p : ℕ → Bool) (b : ℕ) (run : List ℕ) → p b ≡ true → AllPass p run → AllPass p (b ∷ run)
one-more-passes p b run e all = AllPass-from_list_all p (b ∷ run) (rw e (list_all-from_AllPass p run all))

pub first-passes : (p : ℕ → Bool) (b : ℕ) (run : List ℕ) → AllPass p (b ∷ run) → p b ≡ true
first-passes p b run all = all 0 0 (omega arith)

pub rest-passes : (p : ℕ → Bool) (b : ℕ) (run : List ℕ) → AllPass p (b ∷ run) → AllPass p run
rest-passes p b run all = λ k d lt. all (suc k) d (omega arith)

-- each text has one
pub run-of : (p : ℕ → Bool) (text : List ℕ) → (run after : List ℕ) × IsRun p text run after
run-of p [] = ([], [], record { split = refl; all = none-passes p; stops = tt })
run-of p (b ∷ text) = one (p b) refl (run-of p text)
  where
    one : (t : Bool) → p b ≡ t → (run after : List ℕ) × IsRun p text run after → (run after : List ℕ) × IsRun p (b ∷ text) run after
    one true e (run, after, is) =
        (b ∷ run, after, record { split = ap (λ (r : List ℕ). b ∷ r) is.split; all = one-more-passes p b run e is.all; stops = is.stops })
    one false e (run, after, is) = ([], b ∷ text, record { split = refl; all = none-passes p; stops = e })

module _ (p : ℕ → Bool) where
  longest : (run after after' : List ℕ) → AllPass p run → Stops p after' → after' ≡ run ++ after → (run ≡ []) × (after' ≡ after)
  longest [] after after' all stops e = (refl, e)
  longest (b ∷ run) after [] all stops e = absurd (no-byte b (run ++ after) e)
    where
      no-byte : (b : ℕ) (xs : List ℕ) → [] ≡ b ∷ xs → ⊥
      no-byte b xs e = cc
  longest (b ∷ run) after (c ∷ after') all stops e =
      absurd (false≢true (sym stops ∙ ap p (cons-head _ _ _ _ e) ∙ first-passes p b run all))

  pub run-unique : (run run' after after' : List ℕ) → run ++ after ≡ run' ++ after' → AllPass p run → AllPass p run' → Stops p after → Stops p after'
      → (run ≡ run') × (after ≡ after')
  run-unique [] run' after after' e all all' stops stops' = let l = longest run' after' after all' stops e in (sym l.0, l.1)
  run-unique (b ∷ run) [] after after' e all all' stops stops' = let l = longest (b ∷ run) after after' all stops' (sym e) in (l.0, sym l.1)
  run-unique (b ∷ run) (c ∷ run') after after' e all all' stops stops' =
      let r = run-unique run run' after after' (cons-tail _ _ _ _ e) (rest-passes p b run all) (rest-passes p c run' all') stops stops' in
      (cons-same _ _ _ _ (cons-head _ _ _ _ e) r.0, r.1)
