use Rattle.std.proofs.Common.{◌≡◌, List, [], ℕ, Option}
use Rattle.form_urlencoded.specs.Parse.{raw_pairs_left}
use Rattle.ga_requests.specs.Referrers.{pairs_of, PhraseIs}
use Rattle.ga_requests.proofs.PhraseLemmas.{texts}
use Rattle.ga_requests.proofs.referrers.first_phrase.Given as goal

-- what the pairs that are left say holds of all, and none are left where there are none
abbrev pub invariant-loop-name : goal.invariant-loop-name
invariant-loop-name l =
    ((answer : Option (List ℕ)) → PhraseIs (texts (raw_pairs_left l.name-iterator)) answer → PhraseIs (pairs_of l.query) answer)
    × (pairs_of l.query ≡ [] → texts (raw_pairs_left l.name-iterator) ≡ [])
