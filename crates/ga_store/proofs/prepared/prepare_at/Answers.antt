use Rattle.std.proofs.Common.{◌≡◌, ◌+◌, Bool, true, subst}
use Rattle.std.specs.Prelude.{◌↔◌, IsErrOf}
use Rattle.ga_base.specs.declared.counts.TheConstants.{LIMIT}
use Rattle.ga_base.specs.declared.counts.Counter.TheVariants.{Generations}
use Rattle.ga_store.specs.declared.fault.StoreFault.TheVariants.{CounterFull}
use Rattle.ga_store.proofs.CommitMakes.{if_ok-map, makes-after, passes-at, work-at}
use Rattle.ga_store.proofs.prepared.prepare_at.Goals as goal

pub returns-clause-work : goal.returns-clause-work
returns-clause-work c = if_ok-map c.work_of.result (λ work is. λ db stands. work-at c.args.keep db _ _ _ work c.args.position stands c.args.mode is) c.work_of.ensures.work

pub returns-clause-makes : goal.returns-clause-makes
returns-clause-makes c =
    if_ok-map c.work_of.result
    (λ work is. λ db stands agrees merges.
    makes-after work c.args.keep db _ _ _ c.summary_is_sound.ensures c.args.mode agrees merges (work-at c.args.keep db _ _ _ work c.args.position stands c.args.mode is))
    c.work_of.ensures.work

pub returns-clause-full : goal.returns-clause-full
returns-clause-full c = λ db stands.
    subst (λ (b : Bool). IsErrOf c.work_of.result (CounterFull Generations (LIMIT + 1)) ↔ (b ≡ true)) (passes-at c.args.mode db c.args.position stands) c.work_of.ensures.full
