-- Histories grow at their end.
use Rattle.std.proofs.Common.{◌≡◌, ◌<◌, ◌+◌, ℕ, zero, suc, List, [], ◌∷◌, ◌++◌, length, take, get_or, refl, ap, sym, ◌∙◌, subst, inl, inr, arith, Option, Some, None, Ok, Err, Result, OnErr}
use Rattle.std.proofs.lemmas.List.{take_more}
use Rattle.std.specs.Prelude.{slice_get}
use Rattle.ga_run.specs.History.{History, IsChange, Steps, StopsAtChange, and_status, then_status}
use Rattle.ga_run.specs.History.History.{no_step, step_then}
use Rattle.ga_run.specs.declared.history.Step.{Step}
use Rattle.ga_run.specs.declared.history.World.{World}
use Rattle.ga_one_run.specs.declared.status.Status.{Status}

in-front : (first last : Option Status) (statuses : List Status) → and_status first (then_status statuses last) ≡ then_status (and_status first statuses) last
in-front None last statuses = refl
in-front (Some status) None statuses = refl
in-front (Some status) (Some other) statuses = refl

one : (status : Option Status) → and_status status [] ≡ then_status [] status
one None = refl
one (Some status) = refl

pub history-then : {steps : List Step} {statuses : List Status} {old mid new : World} (step : Step) (status : Option Status) → History steps statuses old mid → Steps step status mid new
    → History (steps ++ step ∷ []) (then_status statuses status) old new
history-then {old = old} {new = new} step status no_step h = subst (λ (all : List Status). History (step ∷ []) all old new) (one status) (step_then status h no_step)
history-then {steps = first ∷ rest} {old = old} {new = new} step status (step_then {statuses = statuses} begun s more) h =
    subst (λ (all : List Status). History (first ∷ (rest ++ step ∷ [])) all old new) (in-front begun status statuses) (step_then begun s (history-then step status more h))

-- the step at a place is the next one
there-is : (steps : List Step) (i : ℕ) (step : Step) → i < length steps → step ≡ get_or steps i step → slice_get steps i ≡ Some step
there-is [] i step less e = absurd (omega arith)
there-is (first ∷ steps) zero step less e = ap Some (sym e)
there-is (first ∷ steps) (suc i) step less e = there-is steps i step (omega arith) e

pub taken-more : (steps : List Step) (i : ℕ) (step : Step) (statuses all : List Status) (status : Option Status) (old mid new : World) → i < length steps → step ≡ get_or steps i step
    → all ≡ then_status statuses status → History (take i steps) statuses old mid → Steps step status mid new → History (take (i + 1) steps) all old new
taken-more steps i step statuses all status old mid new less e noted made next =
    subst (λ (s : List Status). History (take (i + 1) steps) s old new) (sym noted)
    (subst (λ (front : List Step). History front (then_status statuses status) old new)
    (ap (λ (s : Step). take i steps ++ s ∷ []) e ∙ sym (take_more steps i step less)) (history-then step status made next))

-- a step that changes a log wasn't made
pub stops-here : (steps : List Step) (i : ℕ) (step : Step) (statuses : List Status) (old mid new : World) → i < length steps → step ≡ get_or steps i step
    → History (take i steps) statuses old mid → new ≡ mid → IsChange step → StopsAtChange steps old new
stops-here steps i step statuses old mid new less e made same change = record {
  made = i;
  statuses = statuses;
  history = subst (λ (w : World). History (take i steps) statuses old w) (sym same) made;
  stopped = inr (step, there-is steps i step less e, change);
}

pub stops-first : (steps : List Step) (world : World) → StopsAtChange steps world world
stops-first steps world = record { made = 0; statuses = []; history = no_step; stopped = inl refl }

pub on-err : {A E : Type 0} (result : Result A E) {P : Type 0} → P → OnErr result P
on-err (Ok x) p = tt
on-err (Err e) p = p
