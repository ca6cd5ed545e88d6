-- What tallies have, kind by kind.
use Rattle.std.specs.Prelude.{◌≡◌, List, map}
use Rattle.std.specs.List.{AllZip}
use Rattle.ga_pool.specs.declared.table_inputs.TableInputs.{TableInputs}
use Rattle.ga_pool.specs.declared.table_inputs.TableRows.{TableRows}
use Rattle.ga_tallies.specs.Tallies.{TallySeen, pair_of}

-- the rows are those of a tally
pub record AreRowsOf (t : TallySeen) (rows : TableRows) : Type 0 where
  pub totals : rows.totals ≡ t.totals
  pub sums : rows.sums.items ≡ t.sums
  pub pairs : map pair_of rows.pairs.items ≡ t.pairs

pub record AreParts (ts : List TallySeen) (parts : TableInputs) : Type 0 where
  pub keys : parts.keys.items ≡ map (λ t. t.keys) ts
  pub visitors : parts.visitors.items ≡ map (λ t. t.visitors) ts
  pub rows : AllZip AreRowsOf ts parts.rows.items
