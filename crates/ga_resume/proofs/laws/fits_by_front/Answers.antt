use Rattle.std.proofs.Common.{ap, sym, ◌∙◌}
use Rattle.sha2.specs.Sha256.{sha256}
use Rattle.ga_resume.proofs.Choices.{same-prefix}
use Rattle.ga_resume.proofs.laws.fits_by_front.Goals as goal

pub returns : goal.returns
returns c = λ log end entry. (
  λ fits. record { within = fits.within; same = fits.same ∙ ap sha256 (same-prefix log entry) },
  λ fits. record { within = fits.within; same = fits.same ∙ ap sha256 (sym (same-prefix log entry)) },
)
