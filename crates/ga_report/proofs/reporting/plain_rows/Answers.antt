use Rattle.std.proofs.Common.{◌≡◌, List, false, subst, sym}
use Rattle.ga_base.specs.Layers.{has_groups}
use Rattle.ga_report.specs.declared.report.Item.{Item}
use Rattle.ga_report.specs.Reports.{AreChildren, IsRow}
use Rattle.ga_report.specs.Steps.Summed.{undate}
use Rattle.ga_report.specs.Source.{SourceRow}
use Rattle.ga_report.proofs.Lists.{all-read}
use Rattle.ga_report.proofs.Pairs.{no-children, rows-push}
use Rattle.ga_report.proofs.reporting.plain_rows.Goals as goal

pub loop-top-preserved : goal.loop-top-preserved
loop-top-preserved c = λ most source.
    let top = c.top-item.result in
    let general = c.args.general.now in
    let plain = all-read (λ (top : SourceRow). has_groups top.key.panel ≡ false) c.args.tops.now c.loop-top.top-index top c.loop-top-test.true c.top-item.is c.requires.plain in
    let none = subst (λ (children : List Item). AreChildren general most source (undate top) children) (sym c.new-children.ensures) (no-children general most source top plain) in
    rows-push (IsRow general most source) c.args.tops.now c.loop-top.top-index top c.loop-top.rows c.push.new.self
    (record { item = c.in_ok-item.item; children = c.new-children.result }) c.loop-top-test.true c.top-item.is c.in_ok-push.ensures.ok
    (c.loop-top.invariant most source) (record { is_item = c.in_ok-item.ensures; children = none })
