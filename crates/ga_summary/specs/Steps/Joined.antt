-- Two rows of a key joined, and rows put among rows.
use Rattle.std.specs.Prelude.{List}
use Rattle.ga_base.specs.declared.name.Name.{Name}
use Rattle.ga_base.specs.Orders.{key_cmp, name_cmp}
use Rattle.ga_summary.specs.Steps.Places.{put, put_all}
use Rattle.ga_summary.specs.SummaryRows.{SummaryRow, SummaryValue, sums_plus}
use Rattle.ga_base.specs.Totals.{totals_plus}

-- a name in its place among names, unless it is there
abbrev pub put_name : Name → List Name → List Name
put_name name names = put name_cmp (λ n. n) (λ n _. n) name names

abbrev pub put_names : List Name → List Name → List Name
put_names more names = put_all name_cmp (λ n. n) (λ n _. n) more names

-- a key's row with what another row of the key has
abbrev pub joined : SummaryRow → SummaryRow → SummaryRow
joined row more = record { key = row.key; sums = sums_plus row.sums more.sums; names = put_names more.names row.names }

abbrev pub put_row : SummaryRow → List SummaryRow → List SummaryRow
put_row row rows = put key_cmp (λ r. r.key) joined row rows

abbrev pub put_rows : List SummaryRow → List SummaryRow → List SummaryRow
put_rows more rows = put_all key_cmp (λ r. r.key) joined more rows

-- a summary with what another has
abbrev pub merged_value : SummaryValue → SummaryValue → SummaryValue
merged_value a b = record { totals = totals_plus a.totals b.totals; rows = put_rows b.rows a.rows }
