-- What a search among a summary's entries finds, by their rows.
use Rattle.std.proofs.Common.{◌≡◌, ℕ, List, Some, None, get_or, ap, ◌∙◌, Box, arith}
use Rattle.std.proofs.lemmas.List.{length-map}
use Rattle.ga_base.specs.declared.key.Key.{Key}
use Rattle.ga_summary.specs.declared.entry.Entry.{Entry}
use Rattle.ga_base.specs.Orders.{key_cmp}
use Rattle.ga_summary.specs.SummaryRows.{SummaryRow, row_at}
use Rattle.ga_summary.specs.Steps.Entries.{rows_of, row_of}
use Rattle.ga_summary.specs.Steps.Places.{Rises, StandsAt, GoesTo}
use Rattle.ga_summary.proofs.Put.{find_stands, find_goes, read_map}
use Rattle.ga_base.proofs.OrderLemmas.{key_cmp_total}

module _ {A : Type 0} (entries : List (Box Entry A)) (key : Key) (i : ℕ) where
  pub row_found : (boxed : Box Entry A) → StandsAt key_cmp (λ (row : SummaryRow). row.key) key (rows_of entries) i → boxed ≡ get_or entries i boxed → row_at (rows_of entries) key ≡ Some (row_of boxed.value)
  row_found boxed h e =
      find_stands key_cmp key_cmp_total (λ (row : SummaryRow). row.key) key (rows_of entries) i (row_of boxed.value) h
      ∙ ap Some (read_map key_cmp (λ (row : SummaryRow). row.key) (λ (b : Box Entry A). row_of b.value) entries i boxed (omega (arith, h.within, length-map entries (λ (b : Box Entry A). row_of b.value))) e)

  pub row_missing : Rises key_cmp (λ (row : SummaryRow). row.key) (rows_of entries) → GoesTo key_cmp (λ (row : SummaryRow). row.key) key (rows_of entries) i → row_at (rows_of entries) key ≡ None
  row_missing s h = find_goes key_cmp key_cmp_total (λ (row : SummaryRow). row.key) key (rows_of entries) i s h
