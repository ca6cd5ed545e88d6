use Rattle.std.proofs.Common.{◌≤◌, ℕ, List, length, Ok, Err, ◌∙◌, sym, ap, subst}
use Rattle.ga_words.specs.Steps.Joined.{alone}
use Rattle.ga_words.proofs.JoinLemmas.{after-conf, only-joined, told-joined, told-unplaced}
use Rattle.ga_words.proofs.joined_words.join_words.Goals as goal

pub fault_alone-requires : goal.fault_alone-requires
fault_alone-requires c = λ at is.
    subst (λ (l : List (List ℕ)). length l ≤ at) (sym c.items.ensures)
    (after-conf c.args.conf.now c.args.words.now c.in-Err.fault c.in-Err.fault c.in-Err.ensures.fault
    (λ place h. c.joined_words.ensures.place c.args.conf.now c.args.words.now c.requires.words.0 place c.requires.conf c.requires.words.1 h) at is)

pub returns-in-Err-clause-fault : goal.returns-in-Err-clause-fault
returns-in-Err-clause-fault c =
    told-joined c.args.conf.now c.args.words.now c.in-Err.fault c.fault_alone.result c.in-Err.ensures.fault
    (after-conf c.args.conf.now c.args.words.now c.in-Err.fault c.in-Err.fault c.in-Err.ensures.fault
    (λ place h. c.joined_words.ensures.place c.args.conf.now c.args.words.now c.requires.words.0 place c.requires.conf c.requires.words.1 h))
    (c.fault_alone.ensures ∙ ap (λ (l : List (List ℕ)). alone (length l) c.in-Err.fault) c.items.ensures)

pub returns-in-Err-clause-whole : goal.returns-in-Err-clause-whole
returns-in-Err-clause-whole c =
    told-unplaced c.args.conf.now c.args.words.now c.in-Err.fault c.fault_alone.result c.in-Err.ensures.fault
    (λ f h. c.joined_words.ensures.whole c.args.conf.now c.args.words.now c.requires.words.0 f c.requires.conf c.requires.words.1 h)
    (c.fault_alone.ensures ∙ ap (λ (l : List (List ℕ)). alone (length l) c.in-Err.fault) c.items.ensures)

pub returns-in-Ok-clause-only : goal.returns-in-Ok-clause-only
returns-in-Ok-clause-only c =
    only-joined c.args.conf.now c.args.words.now (Ok c.in-Ok.settings) (c.joined_words.ensures.one c.args.conf.now c.args.words.now) c.in-Ok.ensures.ok tt

pub returns-in-Err-clause-only : goal.returns-in-Err-clause-only
returns-in-Err-clause-only c =
    only-joined c.args.conf.now c.args.words.now (Err c.fault_alone.result) (c.joined_words.ensures.one c.args.conf.now c.args.words.now) tt
    (told-joined c.args.conf.now c.args.words.now c.in-Err.fault c.fault_alone.result c.in-Err.ensures.fault
    (after-conf c.args.conf.now c.args.words.now c.in-Err.fault c.in-Err.fault c.in-Err.ensures.fault
    (λ place h. c.joined_words.ensures.place c.args.conf.now c.args.words.now c.requires.words.0 place c.requires.conf c.requires.words.1 h))
    (c.fault_alone.ensures ∙ ap (λ (l : List (List ℕ)). alone (length l) c.in-Err.fault) c.items.ensures))
