-- The whole summary of a run, by how it is kept.
use Rattle.std.proofs.Common.{◌≡◌, ℕ, ap, ◌∙◌}
use Rattle.ga_store.specs.Commit.{Agrees, MergesBy}
use Rattle.ga_store.specs.Database.{DbValue}
use Rattle.ga_store.specs.declared.mode.Mode.{Mode}
use Rattle.ga_store.specs.declared.mode.Mode.TheVariants.{Append, Overwrite}
use Rattle.ga_storing_tests.specs.Together.{IsTogether}
use Rattle.ga_summary.specs.LastDays.{trimmed}
use Rattle.ga_summary.specs.SummaryRows.{SummaryValue}

pub merges : (mode : Mode) (keep : ℕ) (stored run all whole : SummaryValue) → IsTogether mode stored run all → whole ≡ trimmed keep all → MergesBy mode keep stored run whole
merges Overwrite keep stored run all whole same last = last ∙ ap (λ (s : SummaryValue). trimmed keep s) same
merges Append keep stored run all whole merged last = (all, merged, last)

pub agrees : (mode : Mode) (keep : ℕ) (db : DbValue) → Agrees Append keep db → Agrees mode keep db
agrees Overwrite keep db h = tt
agrees Append keep db h = h
