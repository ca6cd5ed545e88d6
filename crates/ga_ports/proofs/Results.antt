-- What holds holds on each side of a result, and of the value in an option.
use Rattle.std.proofs.Common.{◌≡◌, Result, Ok, Err, OnErr, Option, Some, None, IfSome, subst, Bool, true, false, cond}
use Rattle.std.specs.Option.{unwrap_or}

pub on_err : {A E P : Type 0} → (r : Result A E) → P → OnErr r P
on_err (Ok x) p = tt
on_err (Err e) p = p

pub if_some-along : {A : Type 0} (P : A → Type 0) → (o : Option A) (x : A) → IfSome o (λ y. x ≡ y) → P x → IfSome o P
if_some-along P None x e p = tt
if_some-along P (Some y) x e p = subst P e p

pub if_some-all : {A : Type 0} (P : A → Type 0) → (o : Option A) → ((x : A) → P x) → IfSome o P
if_some-all P None all = tt
if_some-all P (Some x) all = all x

pub if_some-map : {A : Type 0} (P Q : A → Type 0) → (o : Option A) → ((x : A) → P x → Q x) → IfSome o P → IfSome o Q
if_some-map P Q None step p = tt
if_some-map P Q (Some x) step p = step x p

pub if_some-both : {A : Type 0} (P Q R : A → Type 0) → (o : Option A) → ((x : A) → P x → Q x → R x) → IfSome o P → IfSome o Q → IfSome o R
if_some-both P Q R None step p q = tt
if_some-both P Q R (Some x) step p q = step x p q

pub if_some-unwrap : {A : Type 0} (P : A → Type 0) → (o : Option A) (d x : A) → x ≡ unwrap_or o d → P x → IfSome o P
if_some-unwrap P None d x e p = tt
if_some-unwrap P (Some y) d x e p = subst P e p

pub if_some-cond : {A : Type 0} (P : A → Type 0) → (b : Bool) (x : A) → P x → IfSome (cond b (Some x) None) P
if_some-cond P true x p = p
if_some-cond P false x p = tt
