use Rattle.ga_panels.proofs.Excluded.{told_excluded}
use Rattle.ga_panels.proofs.record_facts.RecordFacts.is_excluded.Goals as goal

pub returns : goal.returns
returns c = λ setup rec are. told_excluded c.crawlers_are_told.ensures setup rec c.args.self.now c.is_excluded_where.result are c.is_excluded_where.ensures
