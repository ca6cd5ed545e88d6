use Rattle.std.proofs.Common.{◌∙◌, ℕ, ap}
use Rattle.ga_summary.specs.LastDays.{trimmed}
use Rattle.ga_summary.specs.SummaryRows.{SummaryValue}
use Rattle.ga_store.specs.Database.{DbValue}
use Rattle.ga_store.specs.Store.{db_value}
use Rattle.ga_store.proofs.db.Db.keep_last_days.Goals as goal

pub returns : goal.returns
returns c =
    let old : DbValue = db_value c.args.self.now in
    ap (λ (s : SummaryValue). let db : DbValue = record old { summary = s } in db)
    (c.trim.ensures ∙ ap (λ (n : ℕ). trimmed n old.summary) c.unwrap_or.ensures)
