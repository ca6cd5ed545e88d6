use Rattle.std.proofs.Common.{List, Option, Some, IfSome, sym, subst}
use Rattle.std.proofs.lemmas.List.Elements.{All-set}
use Rattle.ga_agents.specs.declared.row.Rule.{Rule}
use Rattle.ga_tallies.specs.Agents.{AreAgents, IsTold}
use Rattle.ga_tallies.specs.declared.agents.KnownAgent.{KnownAgent}
use Rattle.ga_tallies.proofs.MadePlaces.{still-all}
use Rattle.ga_tallies.proofs.agents.Agents.put.Goals as goal

abbrev told : List Rule → Option KnownAgent → Type 0
told rules place = IfSome place (λ known. IsTold rules known.text known.agent)

pub returns-in_err-make_places : goal.returns-in_err-make_places
returns-in_err-make_places c = λ rules is are. still-all (told rules) tt c.in_err-make_places.ensures (subst (AreAgents rules) (sym c.self.view_is) are)

pub returns : goal.returns
returns c = λ rules is are.
    let made = still-all (told rules) tt c.in_ok-make_places.ensures (subst (AreAgents rules) (sym c.self.view_is) are) in
    subst (AreAgents rules) (sym c.put_at.ensures) (All-set (told rules) c.make_places.new.places.items c.place_of-place.result (Some c.args.known) is made)
