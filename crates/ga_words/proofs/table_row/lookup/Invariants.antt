use Rattle.std.proofs.Common.{◌≡◌, map, drop}
use Rattle.std.specs.Map.{lookup}
use Rattle.std.specs.Str.{bytes_eq}
use Rattle.ga_words.proofs.table_row.lookup.Given as goal

abbrev pub invariant-loop-row : goal.invariant-loop-row
invariant-loop-row g l = lookup (λ own. bytes_eq own l.name) (map (λ row. (row.0.now, row.1)) l.rows) ≡ lookup (λ own. bytes_eq own l.name) (map (λ row. (row.0.now, row.1)) (drop l.row-index l.rows))
