use Rattle.ga_words.proofs.JoinLemmas.{one-scan, some-scan}
use Rattle.ga_words.proofs.laws.one_scan.Goals as goal

pub returns : goal.returns
returns c = record { some = some-scan c.one_address.ensures; one = one-scan c.one_range.ensures }
