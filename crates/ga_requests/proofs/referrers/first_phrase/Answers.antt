use Rattle.std.proofs.Common.{◌≡◌, List, ℕ, [], ◌∷◌, sym, subst, Some, None}
use Rattle.form_urlencoded.specs.Parse.{raw_pairs_left}
use Rattle.ga_requests.specs.Referrers.{PhraseIs}
use Rattle.ga_requests.specs.Steps.{text_of}
use Rattle.ga_requests.proofs.PhraseLemmas.{texts, passed, found-first, none-first, none-left}
use Rattle.ga_requests.proofs.referrers.first_phrase.Goals as goal

pub returns-clause-phrase : goal.returns-clause-phrase
returns-clause-phrase c = c.loop-name.invariant.0 None (subst (λ raw. PhraseIs (texts raw) None) (sym c.in-None.ensures.steps.0) none-left)

pub returns-in-Some-2-clause-phrase : goal.returns-in-Some-2-clause-phrase
returns-in-Some-2-clause-phrase c =
    let pair : List ℕ × List ℕ = (text_of c.in-Some.name.now, text_of c.in-Some.value.now) in
    let phrase = c.in-Some-2.phrase in
    let found = found-first pair (texts (raw_pairs_left c.next.new.self)) phrase (subst (λ answer. PhraseIs (pair ∷ []) answer) c.in-Some-2.is c.in_ok-phrase.ensures) in
    c.loop-name.invariant.0 (Some phrase) (subst (λ raw. PhraseIs (texts raw) (Some phrase)) (sym c.in-Some.ensures.steps) found)

pub loop-name-preserved : goal.loop-name-preserved
loop-name-preserved c =
    let pair : List ℕ × List ℕ = (text_of c.in-Some.name.now, text_of c.in-Some.value.now) in
    let none = none-first pair (subst (λ answer. PhraseIs (pair ∷ []) answer) c.in_default.is c.in_ok-phrase.ensures) in (
      λ answer later.
          c.loop-name.invariant.0 answer (subst (λ raw. PhraseIs (texts raw) answer) (sym c.in-Some.ensures.steps) (passed pair.0 pair.1 (texts (raw_pairs_left c.next.new.self)) none answer later)),
      λ no-pairs. (let left = subst (λ raw. texts raw ≡ []) c.in-Some.ensures.steps (c.loop-name.invariant.1 no-pairs) in cc),
    )
