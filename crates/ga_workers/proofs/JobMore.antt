-- Work at a list of jobs, one job more at a time.
use denote.Param.Members.{Shared}
use Rattle.std.proofs.Common.{◌≡◌, zero, suc, ◌<◌, List, [], ◌∷◌, Vec, Global, Result, Ok, Err, IfOk, length, get_or, remove, refl, sym, ap, subst, arith}
use Rattle.std.specs.Fn.{FnReturns}
use Rattle.std.specs.Fork.{GivesJobs}

-- a list is its first item and the rest
pub first-and-rest : {X : Type 0} (xs : List X) (x : X) → 0 < length xs → x ≡ get_or xs 0 x → xs ≡ x ∷ remove xs 0
first-and-rest [] x some is = absurd (omega (arith, some))
first-and-rest (y ∷ xs) x some is = ap (λ z. z ∷ xs) (sym is)

module _ {F J R : Type 0} (g : Shared F (J × Unit {0}) R) (f : F) where
  -- what each job gives, with a job before them
  pub gives-more : (js : List J) (rs : List R) (j : J) (r : R) → FnReturns g f (j, tt) r → GivesJobs g f js rs → GivesJobs g f (j ∷ js) (r ∷ rs)
  gives-more js rs j r call each zero d within = (refl, record { job = j; job_read = refl; job_is = λ _. refl; call = call })
  gives-more js rs j r call each (suc i) d within =
      let one = (each i d (omega (arith, within))).1 in
      (refl, record { job = one.job; job_read = one.job_read; job_is = one.job_is; call = one.call })

  -- and so where the results may want memory
  pub done-more : {E : Type 0} (js : List J) (j : J) (r : R) (others all : Result (Vec R Global) E) → FnReturns g f (j, tt) r → IfOk others (λ v. GivesJobs g f js v.items)
      → IfOk all (λ v. (rest : Vec R Global) × (others ≡ Ok rest) × (v.items ≡ r ∷ rest.items)) → IfOk all (λ v. GivesJobs g f (j ∷ js) v.items)
  done-more js j r others (Err e) call gave told = tt
  done-more {E} js j r others (Ok v) call gave (rest, is, items) =
      subst (GivesJobs g f (j ∷ js)) (sym items) (gives-more js rest.items j r call (subst (λ (x : Result (Vec R Global) E). IfOk x (λ w. GivesJobs g f js w.items)) is gave))
