use Rattle.std.proofs.Common.{◌≡◌, ◌+◌, ◌++◌, length, take, drop, refl, subst, inl}
use Rattle.std.specs.List.{before_first}
use Rattle.ga_agents.specs.Classes.{IsBrowserText, is_delimiter}
use Rattle.ga_agents.specs.Tables.{rule}
use Rattle.ga_agents.proofs.classes.browser_in.Goals as goal

pub returns-in-Some : goal.returns-in-Some
returns-in-Some c =
    let found = c.in-Some.found in
    let agent = c.args.agent.now in
    let text : IsBrowserText found.token.now agent c.browser_text.result.now =
    record {
      front = take found.at agent;
      rest = drop (found.at + length found.token.now) agent;
      stands = c.in-Some.ensures.place.stands;
      text = subst (λ a. c.browser_text.result.now ≡ found.token.now ++ before_first is_delimiter (drop (found.at + length found.token.now) a)) c.as_str.ensures c.browser_text.ensures;
    } in
    inl (rule found.token.now found.category.now, c.in-Some.ensures.first, text, refl)
