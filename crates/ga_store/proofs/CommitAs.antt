-- What was said of a side, a gate and a tail holds of equal ones.
use Rattle.std.proofs.Common.{◌≡◌, ℕ, Bool, List, length, Option, Result, subst, sym}
use Rattle.ga_counters.specs.declared.failed.Failed.{Failed}
use Rattle.ga_disk.specs.Disk.{DiskView, Reaches, TornAt, Writes}
use Rattle.ga_disk.specs.Images.{Images, LeavesSteps, LeavesSynced}
use Rattle.ga_disk.specs.Sides.{Sides}
use Rattle.ga_store.specs.Steps.Committing.{Closes, Ends, Sets}
use Rattle.ga_store.specs.declared.fault.StoreFault.{StoreFault}

pub writes-as : {v0 v1 : DiskView} {n n' at at' : ℕ} {tail tail' : List ℕ} {r : Result (Unit {0}) Failed} → n ≡ n' → at ≡ at' → tail ≡ tail' → Writes n at tail v0 v1 r
    → Writes n' at' tail' v0 v1 r
writes-as {v0} {v1} {n} {n'} {at} {at'} {tail} {tail'} {r} en ea et writes =
    let a = subst (λ (m : ℕ). Writes m at tail v0 v1 r) en writes in
    let b = subst (λ (m : ℕ). Writes n' m tail v0 v1 r) ea a in
    subst (λ (t : List ℕ). Writes n' at' t v0 v1 r) et b

pub torn-as : {i0 i1 : Images} {n n' at at' : ℕ} {tail tail' : List ℕ} {steady : Bool} {r : Result (Unit {0}) Failed} → n ≡ n' → at ≡ at' → tail ≡ tail'
    → LeavesSteps n (TornAt at (length tail)) steady i0 i1 r → LeavesSteps n' (TornAt at' (length tail')) steady i0 i1 r
torn-as {i0} {i1} {n} {n'} {at} {at'} {tail} {tail'} {steady} {r} en ea et leaves =
    let a = subst (λ (m : ℕ). LeavesSteps m (TornAt at (length tail)) steady i0 i1 r) en leaves in
    let b = subst (λ (m : ℕ). LeavesSteps n' (TornAt m (length tail)) steady i0 i1 r) ea a in
    subst (λ (t : List ℕ). LeavesSteps n' (TornAt at' (length t)) steady i0 i1 r) et b

pub ends-as : {v0 v1 : DiskView} {i0 i1 : Images} {n n' len len' : ℕ} {cuts cuts' : Bool} {r : Result (Unit {0}) StoreFault} → n ≡ n' → len ≡ len' → cuts ≡ cuts'
    → Ends n len cuts v0 v1 i0 i1 r → Ends n' len' cuts' v0 v1 i0 i1 r
ends-as {v0} {v1} {i0} {i1} {n} {n'} {len} {len'} {cuts} {cuts'} {r} en el ec ends =
    let a = subst (λ (m : ℕ). Ends m len cuts v0 v1 i0 i1 r) en ends in
    let b = subst (λ (m : ℕ). Ends n' m cuts v0 v1 i0 i1 r) el a in
    subst (λ (c : Bool). Ends n' len' c v0 v1 i0 i1 r) ec b

pub synced-as : {i0 i1 : Images} {n n' : ℕ} {seen : Option Sides} {r : Result (Unit {0}) Failed} → n ≡ n' → LeavesSynced n seen i0 i1 r → LeavesSynced n' seen i0 i1 r
synced-as {i0} {i1} {n} {n'} {seen} {r} en synced = subst (λ (m : ℕ). LeavesSynced m seen i0 i1 r) en synced

pub closes-as : {v0 v1 : DiskView} {i0 i1 : Images} {n n' gate gate' : ℕ} {r : Result (Unit {0}) StoreFault} → n ≡ n' → gate ≡ gate' → Closes n gate v0 v1 i0 i1 r
    → Closes n' gate' v0 v1 i0 i1 r
closes-as {v0} {v1} {i0} {i1} {n} {n'} {gate} {gate'} {r} en eg closes =
    let a = subst (λ (m : ℕ). Closes m gate v0 v1 i0 i1 r) en closes in
    subst (λ (m : ℕ). Closes n' m v0 v1 i0 i1 r) eg a

pub sets-as : {v0 v1 : DiskView} {i0 i1 : Images} {n n' gate gate' byte : ℕ} {r : Result (Unit {0}) StoreFault} → n ≡ n' → gate ≡ gate' → Sets n gate byte v0 v1 i0 i1 r
    → Sets n' gate' byte v0 v1 i0 i1 r
sets-as {v0} {v1} {i0} {i1} {n} {n'} {gate} {gate'} {byte} {r} en eg sets =
    let a = subst (λ (m : ℕ). Sets m gate byte v0 v1 i0 i1 r) en sets in
    subst (λ (m : ℕ). Sets n' m byte v0 v1 i0 i1 r) eg a

pub reaches-as : (n n' gate gate' : ℕ) (seen : Option Sides) → n ≡ n' → gate ≡ gate' → Reaches n' gate' seen → Reaches n gate seen
reaches-as n n' gate gate' seen en eg reaches =
    let a = subst (λ (m : ℕ). Reaches m gate' seen) (sym en) reaches in
    subst (λ (m : ℕ). Reaches n m seen) (sym eg) a
