use Rattle.std.proofs.Common.{◌≡◌, [], rules, sym, ◌∙◌, arith}
use Rattle.std.specs.Prelude.{codes}
use Rattle.std.proofs.lemmas.Grind.{common_steps}
use Rattle.ga_requests.specs.Steps.{text_of}
use Rattle.ga_requests.proofs.PhraseLemmas.{phrase-itself}
use Rattle.ga_requests.proofs.referrers.phrase_in.Goals as goal

pub returns : goal.returns
returns c =
    let named : c.as_str.result.now ≡ codes "q" = search rules in
    let name-is : text_of c.args.name.now ≡ codes "q" = sym c.in_ok-decode.ensures.value.2 ∙ sym c.as_str.ensures.value ∙ named in
    let phrase-is : c.in_ok-from_string.field-0 ≡ text_of c.args.value.now = c.in_ok-from_string.ensures ∙ c.in_ok-into_owned.ensures.ok ∙ c.in_ok-phrase.ensures.value.2 in
    let value-is : ¬ (text_of c.args.value.now ≡ []) = λ none. grind (arith, common_steps, sym c.in_ok-phrase.ensures.value.2) in
    phrase-itself (text_of c.args.name.now) (text_of c.args.value.now) c.in_ok-from_string.field-0 name-is value-is phrase-is
