use Rattle.std.proofs.Common.{rules}
use Rattle.ga_hosts.proofs.AddressLemmas.{Numbered, numbered-answers, answers-found, answers-none}
use Rattle.ga_hosts.proofs.address.address_of.Goals as goal

pub returns-clause-found : goal.returns-clause-found
returns-clause-found c =
    let has : Numbered c.parse_ascii.result c.map.result = search rules in
    answers-found c.args.text.now c.map.result (numbered-answers c.args.text.now c.parse_ascii.result c.map.result c.parse_ascii.ensures has)

pub returns-clause-none : goal.returns-clause-none
returns-clause-none c =
    let has : Numbered c.parse_ascii.result c.map.result = search rules in
    answers-none c.args.text.now c.map.result (numbered-answers c.args.text.now c.parse_ascii.result c.map.result c.parse_ascii.ensures has)
