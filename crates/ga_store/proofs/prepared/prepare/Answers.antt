use Rattle.std.proofs.Common.{sym}
use Rattle.ga_store.proofs.CommitMakes.{if_ok-map}
use Rattle.ga_store.specs.Store.{db_value}
use Rattle.ga_store.proofs.prepared.prepare.Goals as goal

pub returns-clause-work : goal.returns-clause-work
returns-clause-work c = if_ok-map c.prepare_at.result (λ work is. is (db_value c.args.db.now) (sym c.position.ensures)) c.prepare_at.ensures.work

pub returns-clause-makes : goal.returns-clause-makes
returns-clause-makes c = if_ok-map c.prepare_at.result (λ work makes. makes (db_value c.args.db.now) (sym c.position.ensures) c.requires.agrees c.requires.merged) c.prepare_at.ensures.makes

pub returns-clause-full : goal.returns-clause-full
returns-clause-full c = c.prepare_at.ensures.full (db_value c.args.db.now) (sym c.position.ensures)
