use Rattle.std.proofs.Common.{◌∙◌, ap, sym, subst, List, Option, ℕ}
use Rattle.ga_resume.specs.Entries.{IsEntryOf, with_entry}
use Rattle.ga_resume.proofs.following.advance.Goals as goal

pub returns-in-Some-clause-ok : goal.returns-in-Some-clause-ok
returns-in-Some-clause-ok c = record {
  nothing = λ zero. absurd (c.if-offset-eq0.false zero);
  counted = λ some. (
    c.entry_of-entry.result,
    subst (λ (front : List ℕ). IsEntryOf front c.args.offset c.entry_of-entry.result) c.bytes.ensures c.entry_of-entry.ensures,
    c.replace_at.ensures ∙ ap (λ (place : Option ℕ). with_entry place c.entry_of-entry.result c.args.entries.now) (sym c.in-Some.is),
  );
}

pub returns-in_ok-push-in-None-clause-ok : goal.returns-in_ok-push-in-None-clause-ok
returns-in_ok-push-in-None-clause-ok c = record {
  nothing = λ zero. absurd (c.if-offset-eq0.false zero);
  counted = λ some. (
    c.entry_of-entry.result,
    subst (λ (front : List ℕ). IsEntryOf front c.args.offset c.entry_of-entry.result) c.bytes.ensures c.entry_of-entry.ensures,
    c.in_ok-push-in-None.ensures.ok ∙ ap (λ (place : Option ℕ). with_entry place c.entry_of-entry.result c.args.entries.now) (sym c.in-None.is),
  );
}
