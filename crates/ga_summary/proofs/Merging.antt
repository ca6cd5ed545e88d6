-- Two summaries merged: what is found at each key, and that the merged summary is sound.
use Rattle.std.proofs.Common.{◌≡◌, ℕ, ◌+◌, ◌≤◌, Bool, true, false, cond, ◌||◌, ◌&&◌, ◌==◌, List, [], ◌∷◌, Option, Some, None, is_some, length, filter, sum_by, refl, sym, ap, ◌∙◌, subst, arith, zero-add, Less, Equal, Greater}
use Rattle.std.specs.Ordering.{match_ordering}
use Rattle.std.specs.Option.{option_map_or}
use Rattle.std.specs.List.{AllByRecursion, find, All}
use Rattle.std.specs.List.Sorted.{IsStrictlySortedBy}
use Rattle.std.proofs.lemmas.List.Sums.{sum_by-cons}
use Rattle.std.proofs.lemmas.List.Elements.{All-from_recursion, recursion_from_All}
use Rattle.ga_base.specs.declared.key.Key.{Key}
use Rattle.ga_base.specs.declared.key.Visitor.{Visitor}
use Rattle.ga_base.specs.declared.counts.Sums.{Sums}
use Rattle.ga_base.specs.declared.name.Name.{Name}
use Rattle.ga_base.specs.Orders.{key_cmp, name_cmp, name_of, is_same_name, is_same_key}
use Rattle.ga_summary.specs.SummaryRows.{SummaryRow, IsInOrder, row_at, sums_at, names_at, has_name, has_pair, no_sums, sums_plus}
use Rattle.ga_summary.specs.Steps.Joined.{joined, put_row, put_rows, put_name, put_names}
use Rattle.ga_summary.proofs.Put.{both_at, Some≢None, find_put_all, rises_put_all, sum_by-put_all}
use Rattle.ga_summary.proofs.NameLists.{any-find, rising_put_names, names_rise}
use Rattle.ga_base.proofs.OrderLemmas.{key_cmp_total, key_cmp_exact, name_cmp_total}

-- a list made of two names' lists has the names of both
pub has_name-put_names : (more names : List Name) (name : Name) → IsStrictlySortedBy name_cmp more → IsStrictlySortedBy name_cmp names → has_name (put_names more names) name ≡ (has_name names name || has_name more name)
has_name-put_names more names name s t =
    any-find (λ n. is_same_name name n) (put_names more names)
    ∙ ap is_some (find_put_all name_cmp name_cmp_total (λ n. n) (λ n _. n) (λ _ _. refl) name more names (names_rise more s) (names_rise names t))
    ∙ some_of_both (find (λ n. is_same_name name n) names) (find (λ n. is_same_name name n) more)
    ∙ ap (λ (b : Bool). b || is_some (find (λ n. is_same_name name n) more)) (sym (any-find (λ n. is_same_name name n) names))
    ∙ ap (λ (b : Bool). has_name names name || b) (sym (any-find (λ n. is_same_name name n) more))
  where
    some_of_both : (x y : Option Name) → is_some (both_at (λ n _. n) x y) ≡ (is_some x || is_some y)
    some_of_both None y = refl
    some_of_both (Some x) None = refl
    some_of_both (Some x) (Some y) = refl

-- names put among names are at most as many as both
pub length-put_names : (more names : List Name) → length (put_names more names) ≤ length names + length more
length-put_names [] names = omega arith
length-put_names (name ∷ more) names = omega (arith, length-put_names more (put_name name names), length-put_name name names)
  where
    length-put_name : (name : Name) (names : List Name) → length (put_name name names) ≤ length names + 1
    length-put_name name [] = omega arith
    length-put_name name (other ∷ names) =
        let rest = length-put_name name names in
        elim (name_cmp name other) as (λ v. length (match_ordering v (name ∷ other ∷ names) (other ∷ names) (other ∷ put_name name names)) ≤ length (other ∷ names) + 1) [
          | Less ↦ omega arith
          | Equal ↦ omega arith
          | Greater ↦ omega arith
        ]

-- sums of rows that pass a test
pub sum_by-filter : {X : Type 0} (f : X → ℕ) (test : X → Bool) (xs : List X) → sum_by f (filter test xs) ≡ sum_by (λ x. cond (test x) (f x) 0) xs
sum_by-filter f test [] = refl
sum_by-filter f test (x ∷ xs) =
    sym (sum_by-cons (λ x. cond (test x) (f x) 0) x xs ∙ split (test x) (sum_by-filter f test xs))
  where
    split : (b : Bool) → sum_by f (filter test xs) ≡ sum_by (λ x. cond (test x) (f x) 0) xs → cond b (f x) 0 + sum_by (λ x. cond (test x) (f x) 0) xs ≡ sum_by f (cond b (x ∷ filter test xs) (filter test xs))
    split true e = rw (sum_by-cons f x (filter test xs), e)
    split false e = rw e (zero-add _)

or_false : (v : Bool) → (v || false) ≡ v
or_false true = refl
or_false false = refl

and_or : (d x y : Bool) → (d && (x || y)) ≡ ((d && x) || (d && y))
and_or true x y = refl
and_or false x y = refl

pub some_inj : {X : Type 0} {x y : X} → Some x ≡ Some y → x ≡ y
some_inj e = cc

pub same_sums : (a b : Sums) → a.hits ≡ b.hits → a.bytes ≡ b.bytes → a.micros ≡ b.micros → a.max_micros ≡ b.max_micros → a ≡ b
same_sums a b h y m x = λ i. record { hits = h i; bytes = y i; micros = m i; max_micros = x i }

pub none-sums_plus : (s : Sums) → sums_plus no_sums s ≡ s
none-sums_plus s = same_sums _ _ (omega arith) (omega arith) (omega arith) (omega arith)

pub sums_plus-none : (s : Sums) → sums_plus s no_sums ≡ s
sums_plus-none s = same_sums _ _ (omega arith) (omega arith) (omega arith) (omega arith)

-- what holds of the rows and survives a join holds of the rows put together
module _ (P : SummaryRow → Type 0) (joins : (x y : SummaryRow) → P x → P y → P (joined x y)) where
  all-put_row : (y : SummaryRow) (xs : List SummaryRow) → P y → AllByRecursion P xs → AllByRecursion P (put_row y xs)
  all-put_row y [] p h = (p, tt)
  all-put_row y (x ∷ xs) p h =
      elim (key_cmp y.key x.key) as (λ v. AllByRecursion P (match_ordering v (y ∷ x ∷ xs) (joined x y ∷ xs) (x ∷ put_row y xs))) [
        | Less ↦ (p, h)
        | Equal ↦ (joins x y h.0 p, h.1)
        | Greater ↦ (h.0, all-put_row y xs p h.1)
      ]

  all-put_rows : (ys xs : List SummaryRow) → AllByRecursion P ys → AllByRecursion P xs → AllByRecursion P (put_rows ys xs)
  all-put_rows [] xs g h = h
  all-put_rows (y ∷ ys) xs g h = all-put_rows ys (put_row y xs) g.1 (all-put_row y xs g.0 h)

-- what holds of all rows holds of the one that is found
pub all-row_at : (P : SummaryRow → Type 0) (rows : List SummaryRow) (key : Key) (row : SummaryRow) → All P rows → row_at rows key ≡ Some row → P row
all-row_at P rows key row all found = go rows (recursion_from_All P rows all) found
  where
    go : (rows : List SummaryRow) → AllByRecursion P rows → row_at rows key ≡ Some row → P row
    go [] h e = absurd (Some≢None (sym e))
    go (x ∷ rows) h e = elim (is_same_key key x.key) as (λ v. cond v (Some x) (row_at rows key) ≡ Some row → P row) [
      | true ↦ λ here. subst P (some_inj here) h.0
      | false ↦ λ rest. go rows h.1 rest
    ] e

module _ (a b : List SummaryRow) (s : IsInOrder a) (t : IsInOrder b) where
  pub IsInOrder-put_rows : IsInOrder (put_rows b a)
  IsInOrder-put_rows = record {
    keys = rises_put_all key_cmp key_cmp_total (λ (row : SummaryRow). row.key) joined (λ _ _. refl) b a s.keys;
    names = All-from_recursion _ _ (all-put_rows (λ (row : SummaryRow). IsStrictlySortedBy name_cmp row.names) (λ x y p q. rising_put_names x.names p y.names) b a (recursion_from_All _ b t.names) (recursion_from_All _ a s.names));
  }

  -- the row at each key
  pub row_at-put_rows : (key : Key) → row_at (put_rows b a) key ≡ both_at joined (row_at a key) (row_at b key)
  row_at-put_rows key = find_put_all key_cmp key_cmp_total (λ (row : SummaryRow). row.key) joined (λ _ _. refl) key b a t.keys s.keys

  pub present-put_rows : (key : Key) → is_some (row_at (put_rows b a) key) ≡ (is_some (row_at a key) || is_some (row_at b key))
  present-put_rows key = ap is_some (row_at-put_rows key) ∙ split (row_at a key) (row_at b key)
    where
      split : (x y : Option SummaryRow) → is_some (both_at joined x y) ≡ (is_some x || is_some y)
      split None y = refl
      split (Some x) None = refl
      split (Some x) (Some y) = refl

  pub sums_at-put_rows : (key : Key) → sums_at (put_rows b a) key ≡ sums_plus (sums_at a key) (sums_at b key)
  sums_at-put_rows key = ap sums_of_row (row_at-put_rows key) ∙ split (row_at a key) (row_at b key)
    where
      sums_of_row : Option SummaryRow → Sums
      sums_of_row o = option_map_or (λ (row : SummaryRow). row.sums) o no_sums

      split : (x y : Option SummaryRow) → sums_of_row (both_at joined x y) ≡ sums_plus (sums_of_row x) (sums_of_row y)
      split None None = refl
      split None (Some y) = sym (none-sums_plus y.sums)
      split (Some x) None = sym (sums_plus-none x.sums)
      split (Some x) (Some y) = refl

  names_rise_at : (rows : List SummaryRow) → IsInOrder rows → (key : Key) (row : SummaryRow) → row_at rows key ≡ Some row → IsStrictlySortedBy name_cmp row.names
  names_rise_at rows o key row found = all-row_at (λ (r : SummaryRow). IsStrictlySortedBy name_cmp r.names) rows key row o.names found

  pub has_name-put_rows : (key : Key) (name : Name) → has_name (names_at (put_rows b a) key) name ≡ (has_name (names_at a key) name || has_name (names_at b key) name)
  has_name-put_rows key name = ap (λ (o : Option SummaryRow). has_name (names_of_row o) name) (row_at-put_rows key) ∙ split (row_at a key) (row_at b key) refl refl
    where
      names_of_row : Option SummaryRow → List Name
      names_of_row o = option_map_or (λ (row : SummaryRow). row.names) o []

      split : (x y : Option SummaryRow) → row_at a key ≡ x → row_at b key ≡ y → has_name (names_of_row (both_at joined x y)) name ≡ (has_name (names_of_row x) name || has_name (names_of_row y) name)
      split None y e f = refl
      split (Some x) None e f = sym (or_false (has_name x.names name))
      split (Some x) (Some y) e f = has_name-put_names y.names x.names name (names_rise_at b t key y f) (names_rise_at a s key x e)

  pub has_pair-put_rows : (key : Key) (visitor : Visitor) → has_pair (put_rows b a) key visitor ≡ (has_pair a key visitor || has_pair b key visitor)
  has_pair-put_rows key visitor = ap (λ (v : Bool). (visitor.date == key.date) && v) (has_name-put_rows key (name_of visitor)) ∙ and_or (visitor.date == key.date) _ _

  pub length-names_at-put_rows : (key : Key) → length (names_at (put_rows b a) key) ≤ length (names_at a key) + length (names_at b key)
  length-names_at-put_rows key = rw (row_at-put_rows key) (split (row_at a key) (row_at b key))
    where
      names_of_row : Option SummaryRow → List Name
      names_of_row o = option_map_or (λ (row : SummaryRow). row.names) o []

      split : (x y : Option SummaryRow) → length (names_of_row (both_at joined x y)) ≤ length (names_of_row x) + length (names_of_row y)
      split None None = omega arith
      split None (Some y) = omega arith
      split (Some x) None = omega arith
      split (Some x) (Some y) = length-put_names y.names x.names

  -- a sum over the rows whose keys pass a test, of what joins add up
  pub sum_by-filter-put_rows : (f : SummaryRow → ℕ) → ((x y : SummaryRow) → f (joined x y) ≡ f x + f y) → (test : Key → Bool) → sum_by f (filter (λ (row : SummaryRow). test row.key) (put_rows b a)) ≡ sum_by f (filter (λ (row : SummaryRow). test row.key) a) + sum_by f (filter (λ (row : SummaryRow). test row.key) b)
  sum_by-filter-put_rows f adds test =
      let w = λ (row : SummaryRow). cond (test row.key) (f row) 0 in
      let by_key = λ (row : SummaryRow). test row.key in
      sum_by-filter f by_key (put_rows b a)
      ∙ sum_by-put_all key_cmp key_cmp_total (λ (row : SummaryRow). row.key) joined (λ _ _. refl) w (λ x y same. adds_at x y same) b a
      ∙ ap (λ (n : ℕ). n + sum_by w b) (sym (sum_by-filter f by_key a))
      ∙ ap (λ (n : ℕ). sum_by f (filter by_key a) + n) (sym (sum_by-filter f by_key b))
    where
      split : (v : Bool) (m n k : ℕ) → k ≡ m + n → cond v k 0 ≡ cond v m 0 + cond v n 0
      split true m n k e = e
      split false m n k e = refl

      adds_at : (x y : SummaryRow) → key_cmp y.key x.key ≡ Equal → cond (test x.key) (f (joined x y)) 0 ≡ cond (test x.key) (f x) 0 + cond (test y.key) (f y) 0
      adds_at x y same = rw (ap test (key_cmp_exact y.key x.key same)) (split (test x.key) (f x) (f y) (f (joined x y)) (adds x y))
