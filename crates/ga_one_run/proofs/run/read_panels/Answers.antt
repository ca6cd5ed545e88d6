use Rattle.std.proofs.Common.{◌≢◌, ℕ, List, Option, refl, inl, inr, subst}
use Rattle.std.proofs.lemmas.Result.{err_from_is_err_and}
use Rattle.ga_logs.specs.Following.{CanServe}
use Rattle.ga_resume.specs.declared.fault.PlaceFault.TheVariants.{FileFault as PlaceFailed}
use Rattle.ga_one_run.specs.Course.{HasRules}
use Rattle.ga_one_run.specs.Inputs.{rules_file}
use Rattle.ga_one_run.specs.Steps.Rules.{StopsNamed}
use Rattle.ga_one_run.specs.declared.rules.RulesFault.TheVariants.{Unread}
use Rattle.ga_one_run.proofs.run.read_panels.Goals as goal

pub returns-in_err-rules-clause-stops : goal.returns-in_err-rules-clause-stops
returns-in_err-rules-clause-stops g c =
    let s = c.args.settings.now in
    let before = g.F.Files.view c.args.files.now in
    let after = g.F.Files.view c.rules_of.new.files in
    let fault = c.in_err-rules.field-0.0 in
    let stops : StopsNamed s.browsers_file before after fault =
    subst (λ (file : Option (List ℕ)). StopsNamed file before after fault) c.as_ref.ensures.value c.in_err-rules.ensures.stops in
    let sure : CanServe (rules_file s.browsers_file) before → fault ≢ Unread PlaceFailed =
    subst (λ (file : Option (List ℕ)). CanServe (rules_file file) before → fault ≢ Unread PlaceFailed) c.as_ref.ensures.value c.in_err-rules.ensures.sure in
    let p = err_from_is_err_and c.from_residual.result c.from_residual.ensures.1 in
    rw (p.1, p.2) (inl (record { fault = fault; status_is = refl; stops = stops; sure = sure }))

pub returns-in_err-panels-clause-stops : goal.returns-in_err-panels-clause-stops
returns-in_err-panels-clause-stops g c =
    let s = c.args.settings.now in
    let before = g.F.Files.view c.args.files.now in
    let after = g.F.Files.view c.rules_of.new.files in
    let has : HasRules s.browsers_file before after c.in_ok-rules.rules =
    subst (λ (file : Option (List ℕ)). HasRules file before after c.in_ok-rules.rules) c.as_ref.ensures.value c.in_ok-rules.ensures.ok in
    let p = err_from_is_err_and c.from_residual-in_err-panels.result c.from_residual-in_err-panels.ensures.1 in
    rw (p.1, p.2) (inr (refl, c.in_ok-rules.rules, has))

pub returns-clause-ok : goal.returns-clause-ok
returns-clause-ok g c =
    let s = c.args.settings.now in
    let before = g.F.Files.view c.args.files.now in
    let after = g.F.Files.view c.rules_of.new.files in
    let has : HasRules s.browsers_file before after c.in_ok-rules.rules =
    subst (λ (file : Option (List ℕ)). HasRules file before after c.in_ok-rules.rules) c.as_ref.ensures.value c.in_ok-rules.ensures.ok in
    record { rules = c.in_ok-rules.rules; has_rules = has; is = c.in_ok-panels.ensures }
