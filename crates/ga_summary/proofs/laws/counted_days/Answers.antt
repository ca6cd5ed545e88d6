use Rattle.std.proofs.Common.{◌∙◌, sym}
use Rattle.ga_base.specs.Layers.{day_key}
use Rattle.ga_summary.specs.Outcomes.{has_key, hits_of}
use Rattle.ga_summary.proofs.Bars.{has-some, some-has}
use Rattle.ga_summary.proofs.laws.counted_days.Goals as goal

pub returns : goal.returns
returns c = λ xs s sum date. (
  (λ has. has-some (has_key (day_key date)) (hits_of xs) (sym (sum.present (day_key date)) ∙ has)),
  (λ o. sum.present (day_key date) ∙ some-has (has_key (day_key date)) (hits_of xs) o.0 o.1 o.2),
)
