use Rattle.std.proofs.Common.{◌++◌, ◌∙◌, List, ap, append-nil, sym}
use Rattle.std.proofs.lemmas.List.{take_all}
use Rattle.ga_base.specs.declared.entry.Entry.{Entry}
use Rattle.ga_dbtool.proofs.Prepared.{added-more}
use Rattle.ga_dbtool.proofs.Sharing.{item-at}
use Rattle.ga_dbtool.proofs.merging.append.Goals as goal

pub loop-entry-init : goal.loop-entry-init
loop-entry-init c = sym (append-nil c.args.entries.now)

pub loop-entry-preserved : goal.loop-entry-preserved
loop-entry-preserved c =
    let x = c.entry-item.result in
    added-more c.args.entries.now c.args.more.now c.loop-entry.entries _ c.loop-entry.entry-index x (item-at c.args.more.now c.loop-entry.entry-index x c.loop-entry-test.true c.entry-item.is) c.loop-entry.invariant
    c.in_ok-push.ensures.ok

pub returns : goal.returns
returns c = c.loop-entry.invariant ∙ ap (λ (es : List Entry). c.args.entries.now ++ es) (take_all c.loop-entry.entry-index c.args.more.now c.loop-entry-test.false)
