use Rattle.std.proofs.Common.{List, ℕ, Option, sym, subst}
use Rattle.std.specs.Option.{IfSome, IfNone, option_copied}
use Rattle.std.proofs.lemmas.Option.{IfSome_then}
use Rattle.ga_base.specs.declared.formats.FormatItem.{FormatItem}
use Rattle.ga_line.specs.Steps.Forwarding.{Forwards}
use Rattle.ga_line.proofs.DecimalLemmas.{none-then}
use Rattle.ga_line.proofs.ForwardLemmas.{forwards-last, last-forwards}
use Rattle.ga_line.proofs.forwarded.forwarded_in.Goals as goal

pub returns-in-Some-clause-found : goal.returns-in-Some-clause-found
returns-in-Some-clause-found c =
    subst (λ (n : Option FormatItem). IfSome c.forwarded_before.result (λ f. Forwards n c.args.separators.now c.args.rest.now (option_copied f.host) (option_copied f.after)))
    (sym c.in-Some.ensures.found) c.forwarded_before.ensures.found

pub returns-in-Some-clause-none : goal.returns-in-Some-clause-none
returns-in-Some-clause-none c =
    subst (λ (n : Option FormatItem). IfNone c.forwarded_before.result ((host after : Option (List ℕ)) → ¬ Forwards n c.args.separators.now c.args.rest.now host after))
    (sym c.in-Some.ensures.found) c.forwarded_before.ensures.none

pub returns-in-None-clause-found : goal.returns-in-None-clause-found
returns-in-None-clause-found c =
    IfSome_then c.last_forwarded.result c.last_forwarded.ensures.found
    (λ f is. last-forwards (option_copied c.args.next) c.in-None.ensures.none c.args.separators.now c.args.rest.now (option_copied f.host) (option_copied f.after) is)

pub returns-in-None-clause-none : goal.returns-in-None-clause-none
returns-in-None-clause-none c =
    none-then c.last_forwarded.result
    (λ none host after is. none host after (forwards-last (option_copied c.args.next) c.in-None.ensures.none c.args.separators.now c.args.rest.now host after is)) c.last_forwarded.ensures.none
