use Rattle.std.proofs.Common.{◌∙◌, ap, sym, refl, subst, length, List, Option, ℕ}
use Rattle.std.specs.Option.{IfSome}
use Rattle.ga_resume.specs.Entries.{IsChosen}
use Rattle.ga_resume.specs.declared.choosing.Candidate.{Candidate}
use Rattle.ga_resume.proofs.placing.segment.Goals as goal

pub returns-in-Some-clause-is : goal.returns-in-Some-clause-is
returns-in-Some-clause-is c =
    let some = subst (λ (o : Option Candidate). IfSome o (λ x. IsChosen c.args.entries.now c.deref.result.now c.args.end x.place x.entry)) c.in-Some.is c.in_ok-candidate.ensures.some in
    record {
      long = ap length c.from.ensures ∙ c.requires;
      choice = (c.in-Some.candidate.entry, subst (λ (front : List ℕ). IsChosen c.args.entries.now front c.args.end c.in-Some.candidate.place c.in-Some.candidate.entry) (c.deref.ensures.value ∙ sym c.from.ensures) some, refl);
    }
