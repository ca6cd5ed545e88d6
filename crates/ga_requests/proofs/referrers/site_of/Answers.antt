use Rattle.std.proofs.Common.{ap, length, sym, subst, ◌∙◌, None}
use Rattle.std.specs.Option.{IfNone}
use Rattle.std.specs.Prelude.{codes}
use Rattle.std.proofs.lemmas.Bool.{eqb-true, eq-eqb, both_ways}
use Rattle.std.proofs.lemmas.List.{nil_from_length}
use Rattle.ga_requests.specs.Referrers.{SiteIs}
use Rattle.ga_requests.proofs.SiteLemmas.{no-mark, empty-site, follows-split}
use Rattle.ga_requests.proofs.referrers.site_of.Goals as goal

pub returns-in_err-rest-clause-none : goal.returns-in_err-rest-clause-none
returns-in_err-rest-clause-none c = subst (λ r. IfNone r (SiteIs c.args.referrer.now None)) (sym c.from_residual.ensures) (no-mark c.args.referrer.now c.in_err-rest.ensures.cases)

pub returns-then-is_empty-clause-none : goal.returns-then-is_empty-clause-none
returns-then-is_empty-clause-none c =
    let follows = follows-split (codes "://") c.args.referrer.now c.in_ok-rest.field-0-0.now c.in_ok-rest.rest.now c.in_ok-rest.ensures.cases in
    let none = nil_from_length c.site_in_front-site.result.now (eqb-true _ _ (sym c.is_empty.ensures ∙ c.if-is_empty.true)) in
    empty-site c.args.referrer.now c.site_in_front-site.result.now (c.in_ok-rest.rest.now, follows, c.site_in_front-site.ensures) none

pub returns-else-is_empty-clause-some : goal.returns-else-is_empty-clause-some
returns-else-is_empty-clause-some c =
    let follows = follows-split (codes "://") c.args.referrer.now c.in_ok-rest.field-0-0.now c.in_ok-rest.rest.now c.in_ok-rest.ensures.cases in (
      (c.in_ok-rest.rest.now, follows, c.site_in_front-site.ensures),
      λ none. both_ways _ c.if-is_empty.false (c.is_empty.ensures ∙ eq-eqb _ _ (ap length none)),
    )
