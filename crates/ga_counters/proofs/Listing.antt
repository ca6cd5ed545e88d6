-- Calls that are listed to fail: one is due where its number is in the list.
use Rattle.std.proofs.Common.{◌≡◌, ℕ, ◌<◌, ◌≤◌, refl, Bool, ◌==◌, true, List, Option, Some, IfSome, ◌∙◌, arith, false, subst, get_or, eq-eqb, eqb-true}
use Rattle.std.specs.List.{Contains}
use Rattle.std.proofs.lemmas.List.Folds.{Any-from_list_any, list_any_at}
use Rattle.ga_counters.specs.Counts.{HasListed, raised, is_due, NoneDue}

pub due-contains : (listed : List ℕ) (calls : ℕ) → is_due listed calls ≡ true → Contains listed (raised calls 1)
due-contains listed calls due =
    let found = Any-from_list_any (λ call. call == raised calls 1) listed due in
    let same : found.1 ≡ raised calls 1 = eqb-true found.1 (raised calls 1) found.4 in
    subst (λ q. Contains listed q) same (found.0, found.2, found.3)

pub contains-due : (listed : List ℕ) (calls call : ℕ) → Contains listed call → call ≡ raised calls 1 → is_due listed calls ≡ true
contains-due listed calls call has is =
    list_any_at (λ c. c == raised calls 1) listed has.0 call has.1 (eq-eqb (get_or listed has.0 call) (raised calls 1) (has.2 ∙ is))

not-due : (listed : List ℕ) (calls later : ℕ) → ((call : ℕ) → Contains listed call → call < raised calls 1) → calls ≤ later → (due : Bool)
    → is_due listed later ≡ due → is_due listed later ≡ false
not-due listed calls later made le true is =
    let before : raised later 1 < raised calls 1 = made (raised later 1) (due-contains listed later is) in
    absurd (omega arith)
not-due listed calls later made le false is = is

pub none-due : (listed : List ℕ) (calls : ℕ) → ((call : ℕ) → Contains listed call → call < raised calls 1) → NoneDue (Some listed) calls
none-due listed calls made = λ later le. not-due listed calls later made le (is_due listed later) refl

pub listed-wider : (listed : List ℕ) (a b c d : ℕ) → a ≤ b → c ≤ d → HasListed listed b c → HasListed listed a d
listed-wider listed a b c d below above h = record { call = h.call; is_listed = h.is_listed; later = omega (arith, h.later); within = omega (arith, h.within) }

pub told-at : {A : Type 0} (P : A → Type 0) (o : Option A) (x : A) → o ≡ Some x → IfSome o P → P x
told-at P o x e h = subst (λ (o : Option _). IfSome o P) e h
