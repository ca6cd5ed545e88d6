use Rattle.std.proofs.lemmas.Result.{err_from_is_err_and}
use Rattle.ga_requests.specs.Referrers.{IsGoogle}
use Rattle.ga_requests.proofs.referrers.keyphrase.Goals as goal

pub returns-in_err-phrase-clause-no_memory_site : goal.returns-in_err-phrase-clause-no_memory_site
returns-in_err-phrase-clause-no_memory_site c =
    let google : IsGoogle c.args.referrer.now = rw c.as_str.ensures at c.in_err-phrase.ensures.no_memory_site in
    let failed = err_from_is_err_and c.from_residual.result c.from_residual.ensures.1 in
    rw failed.1 google
