use Rattle.std.proofs.Common.{◌≡◌, ap, length, arith}
use Rattle.ga_summary.specs.SummaryRows.{SummaryRow}
use Rattle.ga_summary.specs.Steps.Entries.{entry_names}
use Rattle.ga_summary.proofs.entry.Entry.reserve.Goals as goal

pub returns-clause-row : goal.returns-clause-row
returns-clause-row c = rw c.reserve.ensures.items c.open_names.ensures.row

pub returns-clause-ok : goal.returns-clause-ok
returns-clause-ok c =
    let size = c.open_names.new.self.work.ok.0 in
    let count = ap length c.items-count.ensures in
    let enough = c.in_ok-reserve.ensures.ok in
    rw (c.reserve.ensures.items, c.open_names.ensures.names) (omega (arith, size, count, enough))

pub returns-clause-capacity : goal.returns-clause-capacity
returns-clause-capacity c =
    let size = c.open_names.new.self.work.ok.0 in
    let names : entry_names c.open_names.new.self ≡ entry_names c.args.self.now = ap (λ (r : SummaryRow). r.names) c.open_names.ensures.row in
    let same = ap length names in
    let moved = ap length c.open_names.ensures.names in
    let all = ap length c.names.ensures in
    omega (arith, size, same, moved, all, c.in_ok-reserve.ensures.ok, c.capacity.ensures, c.if-all-capacity.false)
