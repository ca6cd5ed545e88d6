use Rattle.std.proofs.Common.{◌∙◌, ap, sym}
use Rattle.std.proofs.lemmas.List.{length-map}
use Rattle.std.proofs.lemmas.Result.{err_from_is_err_and}
use Rattle.ga_codec.specs.Values.{entry_value}
use Rattle.ga_store.specs.Store.{db_value}
use Rattle.ga_dbtool.specs.Outside.{disk_of}
use Rattle.ga_dbtool.specs.Texts.{facts_text}
use Rattle.ga_dbtool.proofs.Tasks.{opened-misses}
use Rattle.ga_dbtool.proofs.run.facts_at.Goals as goal

pub returns-in_err-text-clause-misses : goal.returns-in_err-text-clause-misses
returns-in_err-text-clause-misses g c =
    let old = disk_of (g.D.Disk.view c.args.disk.now) (g.D.Disk.images c.args.disk.now) in
    let new = disk_of (g.D.Disk.view c.open_db.new.disk) (g.D.Disk.images c.open_db.new.disk) in
    let p = err_from_is_err_and c.from_residual-in_err-text.result c.from_residual-in_err-text.ensures.1 in
    rw (p.1, p.2) (opened-misses c.args.dir.now old new (db_value c.in_ok-db.db) c.in_ok-db.ensures.found)

pub returns-clause-found : goal.returns-clause-found
returns-clause-found g c =
    let db = c.in_ok-db.db in (
      db_value db,
      c.in_ok-db.ensures.found,
      c.in_ok-text.ensures ∙ ap (facts_text db.generation db.records db.summary) (sym (length-map db.entries entry_value)),
    )
