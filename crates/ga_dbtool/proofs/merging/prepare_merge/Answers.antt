use Rattle.std.proofs.Common.{◌∙◌, ◌+◌, ◌++◌, ◌<◌, ◌≤◌, List, Err, ap, map, subst, sym}
use Rattle.std.specs.Prelude.{if◌then◌else◌}
use Rattle.std.proofs.lemmas.Result.{err_from_is_err_and}
use Rattle.ga_base.specs.declared.entry.Entry.{Entry}
use Rattle.ga_base.specs.declared.counts.TheConstants.{LIMIT}
use Rattle.ga_codec.specs.Values.{entry_value}
use Rattle.ga_store.specs.Commit.{adds_record, most_records, passes_generations}
use Rattle.ga_store.specs.Store.{db_value}
use Rattle.ga_store.specs.declared.position.Position.{Position}
use Rattle.ga_store.specs.declared.mode.Mode.TheVariants.{Append}
use Rattle.ga_dbtool.proofs.Kept.{agrees-as}
use Rattle.ga_dbtool.proofs.Prepared.{has-room, joined-values, not-full, prepared, record-room, sum-stops, work-stops}
use Rattle.ga_dbtool.proofs.merging.prepare_merge.Goals as goal

pub returns-in_err-whole-clause-stops : goal.returns-in_err-whole-clause-stops
returns-in_err-whole-clause-stops c =
    let p = err_from_is_err_and c.from_residual-in_err-whole.result c.from_residual-in_err-whole.ensures.1 in
    rw (p.1, p.2) (sum-stops (db_value c.args.pair.left) (db_value c.args.pair.right) _ c.in_err-whole.ensures.stops)

pub returns-in-Err-clause-stops : goal.returns-in-Err-clause-stops
returns-in-Err-clause-stops c =
    let left = db_value c.args.pair.left in
    rw c.of_store.ensures (work-stops left (db_value c.args.pair.right) c.in-Err.fault c.in_ok-whole.ensures.fits c.in-Err.ensures.causes
    (λ e. (c.in-Err.ensures.full left (sym c.position-position.ensures)).0 (ap Err e)))

pub after-generation-requires-clause-generation : goal.after-generation-requires-clause-generation
after-generation-requires-clause-generation c = subst (λ (p : Position). p.generation ≤ LIMIT) (sym c.position-position.ensures) c.args.pair.left.numbered

pub after-generation-requires-clause-records : goal.after-generation-requires-clause-records
after-generation-requires-clause-records c = λ kind.
    let left = db_value c.args.pair.left in
    subst (λ (p : Position). p.records < most_records) (sym c.position-position.ensures)
    (record-room (adds_record Append left) c.keep_of-keep.result left c.args.pair.right.summary c.in_ok-whole.whole (map entry_value c.append.new.entries) c.in-Ok.work (has-room left)
    (c.in-Ok.ensures.work left (sym c.position-position.ensures)) (sym c.is_new.ensures ∙ kind))

pub returns-clause-ok : goal.returns-clause-ok
returns-clause-ok c =
    let left = db_value c.args.pair.left in
    let right = db_value c.args.pair.right in
    let stands = sym c.position-position.ensures in
    let both = c.in_ok-whole.ensures.ok in
    let makes = c.in-Ok.ensures.makes left stands (agrees-as left right c.keep_of-keep.result c.keep_of-keep.ensures) both in
    prepared left right c.keep_of-keep.result c.in_ok-whole.whole c.append.new.entries c.in-Ok.work c.in_ok-text.text c.keep_of-keep.ensures both c.in_ok-whole.ensures.fits
    (joined-values c.args.pair.left.entries c.args.pair.right.entries c.append.new.entries (c.in_ok-append.ensures ∙ ap (λ (es : List Entry). c.args.pair.left.entries ++ es) c.items.ensures))
    (not-full (passes_generations Append left) (λ passes. absurd (cc ((c.in-Ok.ensures.full left stands).1 passes)))) (c.in-Ok.ensures.work left stands) makes c.after-generation.result.0 c.after-generation.result.1
    (c.after-generation.ensures.generation ∙ (λ i. if c.is_new.ensures i then (c.position-position.ensures i).generation + 1 else (c.position-position.ensures i).generation))
    (c.after-generation.ensures.records ∙ (λ i. if c.is_new.ensures i then 0 else (c.position-position.ensures i).records + 1)) c.in_ok-text.ensures
