use Rattle.std.proofs.Common.{Some, ap, ◌∙◌}
use Rattle.ga_numbers.specs.Steps.ShardRows.{is_same_row, row_in}
use Rattle.ga_numbers.proofs.NotedSo.{stands-so}
use Rattle.ga_numbers.proofs.Same.{row-laws}
use Rattle.ga_numbers.proofs.sharded_rows.ShardedRows.has_at.Goals as goal

pub returns-then-number-len : goal.returns-then-number-len
returns-then-number-len c = λ is.
    stands-so is_same_row row-laws (row_in c.args.row.now) c.args.number c.args.self.now c.len.ensures.distinct (c.row.ensures ∙ ap Some (c.is.ensures.0 is))
