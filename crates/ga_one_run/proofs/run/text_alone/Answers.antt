use Rattle.std.proofs.lemmas.Result.{err_from_is_err_and}
use Rattle.ga_keep.specs.RunDatabase.{start_of}
use Rattle.ga_store.specs.Database.{empty_db}
use Rattle.ga_summary.specs.LastDays.{trimmed}
use Rattle.ga_one_run.proofs.Counting.{countable-total, counted-here, empty-base, empty-fits, hungry-here, overwrites, stops-here, sum-sound}
use Rattle.ga_one_run.proofs.run.text_alone.Goals as goal

pub returns-in_err-total-clause-stops : goal.returns-in_err-total-clause-stops
returns-in_err-total-clause-stops g c =
    let s = c.args.context.now.settings.now in
    let p = err_from_is_err_and c.from_residual.result c.from_residual.ensures.1 in
    rw (p.1, p.2) (stops-here c.args.setup.now s _ _ empty_db c.args.base.now (empty-base s c.args.base.now c.requires.empty) c.start-start.result c.start-start.ensures.start _ c.in_err-total.ensures.stops)

pub text_of_total-requires : goal.text_of_total-requires
text_of_total-requires g c = (c.type_bounds.sync-R, countable-total _ _ _ _ c.in_ok-total.ensures.ok.counts)

pub returns-in_err-text-clause-stops : goal.returns-in_err-text-clause-stops
returns-in_err-text-clause-stops g c =
    let s = c.args.context.now.settings.now in
    let p = err_from_is_err_and c.from_residual-in_err-text.result c.from_residual-in_err-text.ensures.1 in
    rw (p.1, p.2) (hungry-here c.args.setup.now s _ _ empty_db c.args.base.now (empty-base s c.args.base.now c.requires.empty) c.start-start.result c.start-start.ensures.start c.count_from.new.entries
    c.in_ok-total.total c.in_ok-total.ensures.ok)

pub returns-clause-ok : goal.returns-clause-ok
returns-clause-ok g c =
    let s = c.args.context.now.settings.now in
    let before = g.F.Files.view c.args.files.now in
    let after = g.F.Files.view c.count_from.new.files in
    let counted = counted-here c.args.setup.now s before after empty_db c.args.base.now (empty-base s c.args.base.now c.requires.empty) c.start-start.result c.start-start.ensures.start c.count_from.new.entries
    c.in_ok-total.total c.in_ok-total.ensures.ok in
    let counts = counted.counts in
    let text = c.in_ok-text.ensures.of counts.counts.outcomes counts.counts.tally counts.counts.countable in
    record {
      has = record {
        entries = counted.entries;
        begin = counted.begin;
        entries' = c.count_from.new.entries;
        portions = counts.portions;
        read = counts.read;
        run = text.sum;
        is_summary = sum-sound (start_of s empty_db).totals counts.counts.outcomes text.sum counts.counts.countable counts.counts.fits (empty-fits s) text.is_sum;
        counts = record { outcomes = counts.counts.outcomes; have_outcomes = counts.counts.have_outcomes; is_sum = text.is_sum; fits = counts.counts.fits };
        whole = trimmed s.keep text.sum;
        is_whole = overwrites s empty_db text.sum c.requires.alone;
      };
      is_text = text.is_text;
    }
