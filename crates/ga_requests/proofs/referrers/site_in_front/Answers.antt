use Rattle.std.proofs.Common.{◌≡◌, ◌-◌, ◌∙◌, take, arith, ap, subst, Some, None}
use Rattle.memchr.specs.Find.{IsFirstByte}
use Rattle.ga_requests.specs.Referrers.{ends_site}
use Rattle.ga_requests.proofs.PlaceLemmas.{before_some, before_none}
use Rattle.ga_requests.proofs.referrers.site_in_front.Goals as goal

pub returns-in-Some : goal.returns-in-Some
returns-in-Some c =
    let first = subst (λ text. IsFirstByte ends_site text (Some c.in-Some.end)) c.as_bytes.ensures.value c.in-Some.ensures in
    let all : c.in-Some.end - 0 ≡ c.in-Some.end = omega arith in
    c.range.ensures.value ∙ ap (λ n. take n c.args.rest.now) all ∙ before_some ends_site c.args.rest.now c.in-Some.end first

pub returns-in-None : goal.returns-in-None
returns-in-None c =
    before_none ends_site c.args.rest.now (subst (λ text. IsFirstByte ends_site text None) c.as_bytes.ensures.value c.in-None.ensures)
