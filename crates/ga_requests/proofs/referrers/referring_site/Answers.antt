use Rattle.ga_requests.proofs.referrers.referring_site.Goals as goal

pub returns-in-None : goal.returns-in-None
returns-in-None c = rw c.as_str.ensures at c.in-None.ensures.none
