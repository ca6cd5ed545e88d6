-- The rows that a summary's entries are seen as.
use Rattle.std.specs.Prelude.{◌≡◌, List, [], ◌∷◌, map, All}
use Rattle.std.specs.declared.boxed.Box.{Box}
use Rattle.ga_base.specs.declared.name.Name.{Name}
use Rattle.ga_summary.specs.declared.entry.Entry.{Entry}
use Rattle.ga_summary.specs.SummaryRows.{SummaryRow}

-- the names at work where there are some, and else those that are kept
abbrev pub names_beside : List Name → List Name → List Name
names_beside kept [] = kept
names_beside kept (name ∷ work) = name ∷ work

abbrev pub entry_names : Entry → List Name
entry_names entry = names_beside entry.names entry.work.items

abbrev pub row_of : Entry → SummaryRow
row_of entry = record { key = entry.key; sums = entry.sums; names = entry_names entry }

abbrev pub rows_of : {A : Type 0} → List (Box Entry A) → List SummaryRow
rows_of entries = map (λ boxed. row_of boxed.value) entries

-- no name is at work
abbrev pub IsClosed : Entry → Type 0
IsClosed entry = entry.work.items ≡ []

abbrev pub AllClosed : {A : Type 0} → List (Box Entry A) → Type 0
AllClosed entries = All (λ boxed. IsClosed boxed.value) entries
