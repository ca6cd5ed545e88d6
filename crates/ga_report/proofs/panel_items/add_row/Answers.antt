use Rattle.std.proofs.Common.{ltb-false, ltb-true, sym}
use Rattle.ga_report.proofs.RowsAdded.{added-at, added-behind, names-more}
use Rattle.ga_report.proofs.panel_items.add_row.Goals as goal

pub returns-in-Some-clause-items : goal.returns-in-Some-clause-items
returns-in-Some-clause-items c =
    added-at c.args.row.now c.args.items.now.items c.args.names.now c.name.result c.in_ok-place.field-0 c.in-Some.item.now c.add.new.self c.requires.names c.name.ensures
    c.in_ok-place.ensures.value (ltb-true c.in_ok-place.field-0 _ (sym c.in-Some.ensures.item.0)) c.in-Some.ensures.value c.add.ensures

pub returns-in-Some-clause-names : goal.returns-in-Some-clause-names
returns-in-Some-clause-names c =
    names-more c.args.row.now c.args.items.now.items _ c.args.names.now c.note.new.self c.name.result c.requires.names c.name.ensures
    (returns-in-Some-clause-items c) c.in_ok-place.ensures.noted

pub returns-in_ok-push-in-None-clause-items : goal.returns-in_ok-push-in-None-clause-items
returns-in_ok-push-in-None-clause-items c =
    added-behind c.args.row.now c.copy.result c.args.items.now.items _ c.args.names.now c.name.result c.in_ok-place.field-0 c.requires.names c.name.ensures
    c.in_ok-place.ensures.value (ltb-false c.in_ok-place.field-0 _ (sym c.in-None.ensures.item.0)) c.copy.ensures c.in_ok-push-in-None.ensures.items

pub returns-in_ok-push-in-None-clause-names : goal.returns-in_ok-push-in-None-clause-names
returns-in_ok-push-in-None-clause-names c =
    names-more c.args.row.now c.args.items.now.items _ c.args.names.now c.note.new.self c.name.result c.requires.names c.name.ensures
    (returns-in_ok-push-in-None-clause-items c) c.in_ok-place.ensures.noted
