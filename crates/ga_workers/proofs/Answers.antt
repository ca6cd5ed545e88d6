-- Clauses on an answer that may be none.
use Rattle.std.proofs.Common.{◌≡◌, Option, Some, None, Result, Ok, Err, IfOk, IfSome, subst}

-- what two clauses say of a value, together
pub both-some : {V E : Type 0} (r : Result (Option V) E) (P Q R : V → Type 0) → ((v : V) → P v → Q v → R v) → IfOk r (λ answer. IfSome answer P) → IfOk r (λ answer. IfSome answer Q)
    → IfOk r (λ answer. IfSome answer R)
both-some (Err e) P Q R f p q = tt
both-some (Ok None) P Q R f p q = tt
both-some (Ok (Some v)) P Q R f p q = f v p q

-- what a clause says of the value there is, where another result has it
pub same-some : {V E D : Type 0} (r : Result (Option V) E) (out : Result V D) (P : V → Type 0) → IfOk r (λ answer. IfSome answer P) → IfOk out (λ v. r ≡ Ok (Some v)) → IfOk out P
same-some r (Err e) P p same = tt
same-some {V} {E} r (Ok v) P p same = subst (λ (x : Result (Option V) E). IfOk x (λ answer. IfSome answer P)) same p

-- what a clause says of the value that a result has
pub told-ok : {V E : Type 0} (r : Result V E) (v : V) (P : V → Type 0) → r ≡ Ok v → IfOk r P → P v
told-ok {V} {E} r v P is told = subst (λ (x : Result V E). IfOk x P) is told
