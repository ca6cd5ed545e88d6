use Rattle.std.proofs.Common.{sym}
use Rattle.std.proofs.lemmas.Result.{err_from_is_err_and}
use Rattle.ga_ports.specs.Trace.{no_files_call}
use Rattle.ga_store.specs.Store.{db_value}
use Rattle.ga_one_run.proofs.Counting.{differs-unread, stops-differs, stops-on}
use Rattle.ga_one_run.proofs.run.count.Goals as goal

pub returns-in_err-stored-clause-files_trace : goal.returns-in_err-stored-clause-files_trace
returns-in_err-stored-clause-files_trace g c = no_files_call

pub returns-in_err-agree-clause-stops : goal.returns-in_err-agree-clause-stops
returns-in_err-agree-clause-stops g c =
    let stored = db_value c.in_ok-stored.stored in
    let p = err_from_is_err_and c.from_residual-in_err-agree.result c.from_residual-in_err-agree.ensures.1 in
    rw (p.1, p.2) (stops-differs c.args.setup.now c.args.context.now.settings.now _ _ _ _ _ stored c.in_ok-stored.ensures.ok _ c.in_err-agree.ensures.differs)

pub returns-in_err-agree-clause-sure : goal.returns-in_err-agree-clause-sure
returns-in_err-agree-clause-sure g c = λ _.
    let stored = db_value c.in_ok-stored.stored in
    let p = err_from_is_err_and c.from_residual-in_err-agree.result c.from_residual-in_err-agree.ensures.1 in
    rw (p.1, p.2) (differs-unread c.args.context.now.settings.now stored _ c.in_err-agree.ensures.differs)

pub returns-in_err-agree-clause-files_trace : goal.returns-in_err-agree-clause-files_trace
returns-in_err-agree-clause-files_trace g c = no_files_call

pub returns-in_err-run-clause-stops : goal.returns-in_err-run-clause-stops
returns-in_err-run-clause-stops g c =
    let stored = db_value c.in_ok-stored.stored in
    let p = err_from_is_err_and c.from_residual-in_err-run.result c.from_residual-in_err-run.ensures.1 in
    rw (p.1, p.2) (stops-on c.args.setup.now c.args.context.now.settings.now _ _ _ _ _ _ stored c.in_ok-stored.ensures.ok c.in_ok-agree.ensures.agrees _ (c.in_err-run.ensures.stops stored c.base_of-base.ensures.base))

pub returns-clause-ok : goal.returns-clause-ok
returns-clause-ok g c =
    let stored = db_value c.in_ok-stored.stored in
    let on = c.in_ok-run.ensures.ok stored c.base_of-base.ensures.base in
    record {
      stored = stored;
      stands = sym c.base_of-base.ensures.position;
      finds = c.in_ok-stored.ensures.ok;
      agrees = c.in_ok-agree.ensures.agrees;
      has = on.has;
      is_whole = on.is_whole;
      whole_is = on.whole_is;
      entries_are = on.entries_are;
    }
