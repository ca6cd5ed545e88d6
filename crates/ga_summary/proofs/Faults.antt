-- A fault says the same beside whatever an Ok would hold.
use Rattle.std.proofs.Common.{◌≡◌, ℕ, Err, IsErrOf, ap}
use Rattle.ga_base.specs.declared.counts.Counter.{Counter}
use Rattle.ga_summary.specs.declared.fault.MergeFault.{MergeFault}
use Rattle.ga_summary.specs.declared.fault.MergeFault.TheVariants.{CounterFull}

err_inj : {T E : Type 0} (e f : E) → IsErrOf {T = T} (Err e) f → e ≡ f
err_inj e f h = cc

pub full_either : {T U : Type 0} (fault : MergeFault) (P : Counter → ℕ → Type 0)
    → ((which : Counter) (total : ℕ) → (IsErrOf {T = T} (Err fault) (CounterFull which total) → P which total) × (P which total → IsErrOf {T = T} (Err fault) (CounterFull which total)))
    → (which : Counter) (total : ℕ) → (IsErrOf {T = U} (Err fault) (CounterFull which total) → P which total) × (P which total → IsErrOf {T = U} (Err fault) (CounterFull which total))
full_either {T = T} {U = U} fault P full which total = (λ e. (full which total).0 (ap Err (err_inj {T = U} fault _ e)), λ p. ap Err (err_inj {T = T} fault _ ((full which total).1 p)))
