use Rattle.std.proofs.Common.{◌∙◌, sym, ap, ◌==◌}
use Rattle.std.specs.List.{before_first}
use Rattle.memchr.specs.Find.{is_byte}
use Rattle.ga_requests.specs.Urls.{question_mark}
use Rattle.ga_requests.specs.Referrers.{number_sign}
use Rattle.ga_requests.proofs.PlaceLemmas.{after_some, after_none}
use Rattle.ga_requests.proofs.referrers.query_in.Goals as goal

pub returns-in-Some : goal.returns-in-Some
returns-in-Some c =
    c.before_byte.ensures ∙ ap (λ rest. before_first (λ b. b == number_sign) rest) (after_some (is_byte question_mark) c.args.referrer.now c.in-Some.at c.in-Some.ensures)

pub returns-in-None : goal.returns-in-None
returns-in-None c = sym (ap (λ rest. before_first (λ b. b == number_sign) rest) (after_none (is_byte question_mark) c.args.referrer.now c.in-None.ensures))
