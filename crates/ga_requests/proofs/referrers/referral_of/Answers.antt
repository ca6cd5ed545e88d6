use Rattle.std.proofs.lemmas.Bool.{both_ways}
use Rattle.ga_requests.proofs.SiteLemmas.{google-none, google-some, google-wants}
use Rattle.ga_requests.proofs.PhraseLemmas.{keyphrase-is}
use Rattle.ga_requests.proofs.referrers.referral_of.Goals as goal

pub returns-in_default-clause-phrase : goal.returns-in_default-clause-phrase
returns-in_default-clause-phrase c = λ google. absurd (google-none c.args.referrer.now c.in_default.ensures.none google)

pub returns-then-not-contains-clause-phrase : goal.returns-then-not-contains-clause-phrase
returns-then-not-contains-clause-phrase c =
    let is = google-some c.args.referrer.now c.in-Some.site.now c.contains.result c.in-Some.ensures.some c.contains.ensures.cases in
    λ google. absurd (both_ways _ c.if-not-contains.true (is.1 google))

pub returns-in_err-phrase-clause-no_memory_site : goal.returns-in_err-phrase-clause-no_memory_site
returns-in_err-phrase-clause-no_memory_site c =
    let is = google-some c.args.referrer.now c.in-Some.site.now c.contains.result c.in-Some.ensures.some c.contains.ensures.cases in
    google-wants c.args.referrer.now _ (is.0 c.if-not-contains.false)

pub returns-clause-phrase : goal.returns-clause-phrase
returns-clause-phrase c =
    let is = google-some c.args.referrer.now c.in-Some.site.now c.contains.result c.in-Some.ensures.some c.contains.ensures.cases in
    keyphrase-is c.args.referrer.now c.query_in.result.now (is.0 c.if-not-contains.false) (rw c.as_bytes.ensures.value at c.query_in.ensures) c.in_ok-phrase.phrase c.in_ok-phrase.ensures.phrase
