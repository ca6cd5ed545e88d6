-- What the rows of all workers add under the number of a key: the key's sums over all that was counted.
use Rattle.std.proofs.Common.{◌≡◌, ℕ, ◌+◌, ◌*◌, ◌<◌, max, List, [], ◌∷◌, Some, sym, ap, ◌∙◌, arith}
use Rattle.std.specs.Prelude.{slice_get}
use Rattle.std.specs.List.{AllZip}
use Rattle.ga_base.specs.declared.key.Key.{Key}
use Rattle.ga_base.specs.declared.key.Visitor.{Visitor}
use Rattle.ga_pool.specs.Steps.Filling.{added_at, adds, at_place, at_word, max_from, numbers_at, raised_to, raises, sum_from}
use Rattle.ga_pool.specs.Steps.TableInputs.{AreRowsOf}
use Rattle.ga_pool.specs.declared.table_inputs.TableRows.{TableRows}
use Rattle.ga_workers.proofs.DrawnPieces.{together-cons}
use Rattle.ga_pool.proofs.OneWorker.{HasNumbers, at-none, at-place-none, at-place-plus, at-plus, worker-adds, worker-raises}
use Rattle.ga_summary.specs.Outcomes.{Outcome, sums_of}
use Rattle.ga_summary.proofs.Appends.{sums_of-append}
use Rattle.ga_tallies.specs.Tallies.{AreTalliesOf, TallySeen, together}

-- each worker, from this one on, has the numbers of its tally's items
abbrev pub HaveNumbers : {T : Type 0} → (TallySeen → List T) → List T → List (List ℕ) → ℕ → List TallySeen → Type 0
HaveNumbers own items numbers worker [] = Unit {0}
HaveNumbers own items numbers worker (t ∷ ts) = HasNumbers items (numbers_at numbers worker) (own t) × HaveNumbers own items numbers (worker + 1) ts

abbrev pub keys_in : TallySeen → List Key
keys_in t = t.keys

abbrev pub visitors_in : TallySeen → List Visitor
visitors_in t = t.visitors

module _ (items : List Key) (numbers : List (List ℕ)) (k : ℕ) (key : Key) (at : slice_get items k ≡ Some key) where
  pub all-add : (word j : ℕ) → word ≡ 3 * k + j → j < 3 → (worker : ℕ) (parts : List (List Outcome)) (ts : List TallySeen) (rows : List TableRows) → AreTalliesOf parts ts → AllZip AreRowsOf ts rows
      → HaveNumbers keys_in items numbers worker ts → sum_from (adds numbers word) worker rows ≡ at_word word k (sums_of key (together parts))
  all-add word j w lt worker [] [] [] are mine have = sym (at-none word k)
  all-add word j w lt worker [] [] (r ∷ rows) are mine have = absurd mine
  all-add word j w lt worker [] (t ∷ ts) rows are mine have = absurd are
  all-add word j w lt worker (p ∷ parts) [] rows are mine have = absurd are
  all-add word j w lt worker (p ∷ parts) (t ∷ ts) [] are mine have = absurd mine
  all-add word j w lt worker (p ∷ parts) (t ∷ ts) (r ∷ rows) are mine have =
      let here : added_at word (numbers_at numbers worker) r.sums.items ≡ at_word word k (sums_of key p) =
      ap (added_at word (numbers_at numbers worker)) mine.0.sums ∙ worker-adds items (numbers_at numbers worker) p t are.0 have.0 k key at word j w lt in
      let rest = all-add word j w lt (worker + 1) parts ts rows are.1 mine.1 have.1 in
      let whole : at_word word k (sums_of key (together (p ∷ parts))) ≡ at_word word k (sums_of key p) + at_word word k (sums_of key (together parts)) =
      ap (λ (os : List Outcome). at_word word k (sums_of key os)) (together-cons p parts) ∙ ap (at_word word k) (sums_of-append key p (together parts)) ∙ at-plus word k (sums_of key p) (sums_of key (together parts)) in
      omega (arith, here, rest, whole)

  pub all-raise : (worker : ℕ) (parts : List (List Outcome)) (ts : List TallySeen) (rows : List TableRows) → AreTalliesOf parts ts → AllZip AreRowsOf ts rows
      → HaveNumbers keys_in items numbers worker ts → max_from (raises numbers k) worker rows ≡ at_place k k (sums_of key (together parts))
  all-raise worker [] [] [] are mine have = sym (at-place-none k k)
  all-raise worker [] [] (r ∷ rows) are mine have = absurd mine
  all-raise worker [] (t ∷ ts) rows are mine have = absurd are
  all-raise worker (p ∷ parts) [] rows are mine have = absurd are
  all-raise worker (p ∷ parts) (t ∷ ts) [] are mine have = absurd mine
  all-raise worker (p ∷ parts) (t ∷ ts) (r ∷ rows) are mine have =
      let here : raised_to k (numbers_at numbers worker) r.sums.items ≡ at_place k k (sums_of key p) =
      ap (raised_to k (numbers_at numbers worker)) mine.0.sums ∙ worker-raises items (numbers_at numbers worker) p t are.0 have.0 k key at in
      let rest = all-raise (worker + 1) parts ts rows are.1 mine.1 have.1 in
      let whole : at_place k k (sums_of key (together (p ∷ parts))) ≡ max (at_place k k (sums_of key p)) (at_place k k (sums_of key (together parts))) =
      ap (λ (os : List Outcome). at_place k k (sums_of key os)) (together-cons p parts) ∙ ap (at_place k k) (sums_of-append key p (together parts)) ∙ at-place-plus k k (sums_of key p) (sums_of key (together parts)) in
      omega (arith, here, rest, whole)
