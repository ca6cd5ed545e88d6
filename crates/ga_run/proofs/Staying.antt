-- Acknowledged runs stay among the kept ones.
use Rattle.std.proofs.Common.{◌≡◌, ◌⊎◌, ◌<◌, ℕ, zero, suc, Bool, true, false, List, [], ◌∷◌, length, refl, ap, sym, subst, inl, inr, arith, Option}
use Rattle.std.proofs.lemmas.List.Elements.{Contains-append_cases, Contains-append_left}
use Rattle.std.specs.List.{Contains, slice_index_or}
use Rattle.ga_store.specs.Database.{DbValue}
use Rattle.ga_one_run.specs.declared.status.Status.{Status}
use Rattle.ga_run.specs.Headline.{AcknowledgedStay, Changes, IsAcknowledged, Kept, Overwrites, RunCount, with_run}
use Rattle.ga_run.specs.Headline.Changes.{adds, falls, stays}
use Rattle.ga_run.specs.declared.history.Step.{Step}
use Rattle.ga_run.specs.declared.history.World.{World}

only-one : (x run : RunCount) (k : ℕ) → k < length (x ∷ []) → slice_index_or (x ∷ []) k run ≡ run → x ≡ run
only-one x run zero less e = e
only-one x run (suc k) less e = absurd (omega arith)

-- a run that isn't acknowledged is the only one that may go
less-one : (b : Bool) (last : RunCount) (before : List RunCount) → ¬ IsAcknowledged last.status → (run : RunCount) → Contains (with_run b last before) run → IsAcknowledged run.status → Contains before run
less-one true last before unsure run in-all ack = go (Contains-append_cases before (last ∷ []) run in-all)
  where
    go : Contains before run ⊎ Contains (last ∷ []) run → Contains before run
    go (inl h) = h
    go (inr h) = absurd (unsure (subst (λ (r : RunCount). IsAcknowledged r.status) (sym (only-one last run h.0 h.1 h.2)) ack))
less-one false last before unsure run h ack = absurd (unsure (subst (λ (r : RunCount). IsAcknowledged r.status) (sym (only-one last run h.0 h.1 h.2)) ack))

pub stay : (step : Step) (status : Option Status) (old : World) (db db' : DbValue) (kept kept' : Kept) → Changes step status old db db' kept kept' → AcknowledgedStay step old.files kept.runs kept'.runs
stay step status old db db' kept kept' (adds words s own later is-run ended kept-as) run in-all ack = go s.restore refl
  where
    go : (b : Bool) → s.restore ≡ b → Contains (with_run s.restore own kept.runs) run ⊎ Overwrites step old.files (with_run s.restore own kept.runs)
    go true e = inl (subst (λ (b : Bool). Contains (with_run b own kept.runs) run) (sym e) (Contains-append_left kept.runs (own ∷ []) run in-all))
    go false e = inr (words, s, own, is-run, kept-as.says, kept-as.persists, e, ap (λ (b : Bool). with_run b own kept.runs) e)
stay step status old db db' kept kept' (stays same more) run in-all ack = inl in-all
stay step status old db db' kept kept' (falls restores last before earlier sooner unsure) run in-all ack = inl (less-one restores last before unsure run in-all ack)
