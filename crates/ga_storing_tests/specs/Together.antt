-- What a run counted, after what is stored where it is added to that.
use Rattle.std.specs.Prelude.{◌≡◌}
use Rattle.ga_store.specs.declared.mode.Mode.{Mode}
use Rattle.ga_store.specs.declared.mode.Mode.TheVariants.{Append, Overwrite}
use Rattle.ga_summary.specs.SummaryRows.{SummaryValue}
use Rattle.ga_summary.specs.Sums.{IsMerged}

abbrev pub IsTogether : Mode → SummaryValue → SummaryValue → SummaryValue → Type 0
IsTogether Overwrite stored run all = all ≡ run
IsTogether Append stored run all = IsMerged stored run all
