use Rattle.std.proofs.Common.{rules, ◌∙◌, take}
use Rattle.std.proofs.lemmas.List.Sorted.{IsPartitionPoint-from_clause}
use Rattle.ga_report.proofs.GroupSlices.{up-to, before, up-to-partition, before-partition, sorted-take, cut-end, cut-all}
use Rattle.ga_report.proofs.arranging.slice_of_group.Goals as goal

pub returns : goal.returns
returns c =
    let front = take c.partition_point-end.result c.args.items.now in
    let end = IsPartitionPoint-from_clause (up-to c.args.group.now) c.args.items.now c.partition_point-end.result c.partition_point-end.ensures.partitioned
    (up-to-partition c.args.group.now c.args.items.now c.requires) (λ a r q k. search rules) in
    let start = IsPartitionPoint-from_clause (before c.args.group.now) front c.partition_point-start.result c.partition_point-start.ensures.partitioned
    (before-partition c.args.group.now front (sorted-take c.partition_point-end.result c.args.items.now c.requires)) (λ a r q k. search rules) in
    cut-all c.args.group.now front c.partition_point-start.result start ∙ cut-end c.args.group.now c.args.items.now c.partition_point-end.result end
