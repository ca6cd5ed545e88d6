-- Rows that are an item by themselves, beside the items of the others.
use Rattle.std.proofs.Common.{◌≡◌, ℕ, ◌+◌, ◌-◌, ◌<◌, ◌≤◌, ◌&&◌, ◌==◌, Bool, true, false, cond, List, [], ◌∷◌, ◌++◌, Some, length, get_or, map, filter, sum_by, take, inl, inr, refl, sym, ap, ◌∙◌, subst, arith, All}
use Rattle.std.specs.Hash.FoldHasher as hashes
use Rattle.std.specs.Prelude.{count_by, not, slice_get}
use Rattle.std.specs.List.{filter_map}
use Rattle.std.proofs.lemmas.Bool.{false≢true}
use Rattle.std.proofs.lemmas.Bool.Decides.{Decides-eqb}
use Rattle.std.proofs.lemmas.List.Elements.{All-append, All-from_recursion, recursion_from_All}
use Rattle.std.proofs.lemmas.List.Sums.{sum_by-append, sum_by-cons}
use Rattle.std.proofs.lemmas.Map.Views.{any-filter_same}
use Rattle.std.proofs.lemmas.Nat.{and_le_r}
use Rattle.ga_base.specs.declared.date_spec.DateSpec.{DateSpec}
use Rattle.ga_base.specs.declared.key.Key.{Key}
use Rattle.ga_base.specs.declared.panel.Panel.{Panel}
use Rattle.ga_base.specs.Panels.{is_same_panel}
use Rattle.ga_report.specs.Items.{has_item, is_of, is_shown, item_of, of_item, shown_rows, together, undated}
use Rattle.ga_report.specs.SoundRows.{AreSound}
use Rattle.ga_report.specs.declared.row_index.RowIndex.{RowIndex}
use Rattle.ga_report.specs.Steps.Alone.{IsAlonePartition, AreBuckets, IsPartition, is_alone, bucket_at}
use Rattle.ga_report.specs.Steps.RowPlaces.{AreAt, AreIndexes, label_hash, rows_at, index_at}
use Rattle.ga_report.specs.Steps.Summed.{AreAddable, AreSummed, CanAddUp, FitTogether, panel_rows, undate, with_row}
use Rattle.ga_report.specs.Source.{SourceRow}
use Rattle.ga_report.proofs.ItemSums.{count-cons, onto-nothing, own-item, same-item, together-cons}
use Rattle.ga_report.proofs.Lists.{In, all-in, at-all, all-weaker, in-filter, sum-among, sum-room, take-more}
use Rattle.ga_shards.specs.Keys.{text_hash}
use Rattle.ga_report.proofs.OneArrangement.{in-count}
use Rattle.ga_report.proofs.RowsAdded.{counted, not-counted, summed-behind}
use Rattle.ga_report.proofs.Shares.{item-fits}
use Rattle.ga_report.proofs.PanelIndexes.{are-indexes, indexes-rows}

-- ---- items of some rows and of the others are items of all, where rows of one item are among the same

-- rows with keys that pass a test
abbrev those : (Key → Bool) → List SourceRow → List SourceRow
those P rows = filter (λ row. P row.key) rows

module _ (P : Key → Bool) (undates : (key : Key) → P (undated key) ≡ P key) (rows : List SourceRow) where
  -- rows of a key's item pass where the key does
  with-key : (key : Key) (x : SourceRow) → is_of key x ≡ true → P x.key ≡ P key
  with-key key x e = sym (undates x.key) ∙ ap P (same-item key x e) ∙ undates key

  pub has-there : (key : Key) (b : Bool) → P key ≡ b → has_item key (those P rows) ≡ (b && has_item key rows)
  has-there key b e = any-filter_same (is_of key) (λ row. P row.key) b (λ x own. with-key key x own ∙ e) rows

  pub all-there : (key : Key) → P key ≡ true → (xs : List SourceRow) → of_item key (those P xs) ≡ of_item key xs
  all-there key e [] = refl
  all-there key e (x ∷ xs) = elim (is_of key x) as (λ b. is_of key x ≡ b → of_item key (those P (x ∷ xs)) ≡ cond b (x ∷ of_item key xs) (of_item key xs)) [
    | true ↦ λ own. rw (with-key key x own ∙ e, own) (ap (λ (r : List SourceRow). x ∷ r) (all-there key e xs))
    | false ↦ λ other. passed (P x.key) other (all-there key e xs)
  ] refl
    where
      passed : (b : Bool) → is_of key x ≡ false → of_item key (those P xs) ≡ of_item key xs → of_item key (cond b (x ∷ those P xs) (those P xs)) ≡ of_item key xs
      passed true other rest = rw other rest
      passed false other rest = rest

  pub none-there : (key : Key) → P key ≡ false → (xs : List SourceRow) → of_item key (those P xs) ≡ []
  none-there key e [] = refl
  none-there key e (x ∷ xs) = elim (P x.key) as (λ b. P x.key ≡ b → of_item key (cond b (x ∷ those P xs) (those P xs)) ≡ []) [
    | true ↦ λ pass. other pass (is_of key x) refl (none-there key e xs)
    | false ↦ λ fail. none-there key e xs
  ] refl
    where
      other : P x.key ≡ true → (b : Bool) → is_of key x ≡ b → of_item key (those P xs) ≡ [] → cond b (x ∷ of_item key (those P xs)) (of_item key (those P xs)) ≡ []
      other pass true own rest = absurd (false≢true (sym e ∙ sym (with-key key x own) ∙ pass))
      other pass false own rest = rest

  passes : (b : Bool) (n : ℕ) → n ≡ cond b 1 0 → 1 ≤ n → b ≡ true
  passes true n e some = refl
  passes false n e some = absurd (omega (arith, e, some))

  both : (b c : Bool) → (b && c) ≡ true → b ≡ true
  both true c e = refl
  both false c e = e

  -- items of those have all that their rows have
  sums-there : (items : List SourceRow) → AreSummed (those P rows) items → All (λ item. undate item ≡ item_of item.key rows) items
  sums-there items are = All-from_recursion (λ item. undate item ≡ item_of item.key rows) items (all-in (λ item. undate item ≡ item_of item.key rows) items own)
    where
      sum : (x : SourceRow) → In x items → undate x ≡ item_of x.key (those P rows)
      sum x there = at-all (λ item. undate item ≡ item_of item.key (those P rows)) x items (recursion_from_All _ items are.sums) there

      own : (x : SourceRow) → In x items → undate x ≡ item_of x.key rows
      own x there =
          let has = passes (has_item x.key (those P rows)) (count_by (is_of x.key) items) (are.once x.key) (in-count (is_of x.key) x items (own-item x) there) in
          let mine = both (P x.key) (has_item x.key rows) (sym (has-there x.key (P x.key) refl) ∙ has) in
          sum x there ∙ ap (together x.key) (all-there x.key mine rows)

module _ (P : Key → Bool) (undates : (key : Key) → P (undated key) ≡ P key) (rows : List SourceRow) where
  abbrev Q : Key → Bool
  Q key = not (P key)

  one-side : (b c : Bool) → cond (b && c) 1 0 + cond (not b && c) 1 0 ≡ cond c 1 0
  one-side true true = refl
  one-side true false = refl
  one-side false true = refl
  one-side false false = refl

  pub summed-both : (xs ys : List SourceRow) → AreSummed (those P rows) xs → AreSummed (those Q rows) ys → AreSummed rows (xs ++ ys)
  summed-both xs ys some others = record {
    once = λ key.
        let here = some.once key ∙ ap {B = ℕ} (λ (b : Bool). cond b 1 0) (has-there P undates rows key (P key) refl) in
        let there = others.once key ∙ ap {B = ℕ} (λ (b : Bool). cond b 1 0) (has-there Q (λ k. ap not (undates k)) rows key (Q key) refl) in
        sum_by-append (λ (x : SourceRow). cond (is_of key x) 1 0) xs ys ∙ (λ i. here i + there i) ∙ one-side (P key) (has_item key rows);
    sums = All-append (λ item. undate item ≡ item_of item.key rows) xs ys (sums-there P undates rows xs some) (sums-there Q (λ k. ap not (undates k)) rows ys others);
  }

-- ---- rows that are alone in their buckets are items

-- of rows that pass one test at most as many pass another that asks for more
fewer : (p q : SourceRow → Bool) → ((x : SourceRow) → p x ≡ true → q x ≡ true) → (xs : List SourceRow) → count_by p xs ≤ count_by q xs
fewer p q h [] = omega arith
fewer p q h (x ∷ xs) = omega (arith, count-cons p x xs, count-cons q x xs, one (p x) (q x) (h x), fewer p q h xs)
  where
    one : (b c : Bool) → (b ≡ true → c ≡ true) → cond b 1 0 ≤ cond c 1 0
    one true c h = rw (h refl) (omega arith)
    one false c h = omega arith

fewer-among : (p t : SourceRow → Bool) (xs : List SourceRow) → count_by p (filter t xs) ≤ count_by p xs
fewer-among p t [] = omega arith
fewer-among p t (x ∷ xs) = elim (t x) as (λ b. count_by p (cond b (x ∷ filter t xs) (filter t xs)) ≤ count_by p (x ∷ xs)) [
  | true ↦ omega (arith, count-cons p x (filter t xs), count-cons p x xs, fewer-among p t xs)
  | false ↦ omega (arith, count-cons p x xs, fewer-among p t xs)
]

no-more : (q : SourceRow → Bool) (xs : List SourceRow) → count_by q xs ≤ 0 → filter q xs ≡ []
no-more q [] none = refl
no-more q (x ∷ xs) none = elim (q x) as (λ b. q x ≡ b → cond b (x ∷ filter q xs) (filter q xs) ≡ []) [
  | true ↦ λ e. absurd (omega (arith, none, count-cons q x xs, ap {B = ℕ} (λ (b : Bool). cond b 1 0) e))
  | false ↦ λ e. no-more q xs (omega (arith, none, count-cons q x xs))
] refl

-- the only one that passes
only : (q : SourceRow → Bool) (x : SourceRow) (xs : List SourceRow) → q x ≡ true → count_by q xs ≤ 1 → In x xs → filter q xs ≡ x ∷ []
only q x [] pass one there = absurd there
only q x (y ∷ ys) pass one (inl e) =
    let own : q y ≡ true = ap q (sym e) ∙ pass in
    let here : cond (q y) 1 0 ≡ 1 = ap {B = ℕ} (λ (b : Bool). cond b 1 0) own in
    let rest = no-more q ys (omega (arith, one, here, count-cons q y ys)) in
    rw own (λ i. sym e i ∷ rest i)
only q x (y ∷ ys) pass one (inr there) = elim (q y) as (λ b. q y ≡ b → cond b (y ∷ filter q ys) (filter q ys) ≡ x ∷ []) [
  | true ↦ λ own. absurd (omega (arith, one, count-cons q y ys, ap {B = ℕ} (λ (b : Bool). cond b 1 0) own, in-count q x ys pass there))
  | false ↦ λ other. only q x ys pass (omega (arith, one, count-cons q y ys)) there
] refl

count-mapped : (p : ℕ → Bool) (f : SourceRow → ℕ) (xs : List SourceRow) → count_by p (map f xs) ≡ count_by (λ x. p (f x)) xs
count-mapped p f [] = refl
count-mapped p f (x ∷ xs) = omega (arith, sum_by-cons (λ (n : ℕ). cond (p n) 1 0) (f x) (map f xs), count-cons (λ y. p (f y)) x xs, count-mapped p f xs)

module _ (rows : List SourceRow) (counts : List ℕ) (are : AreBuckets (map label_hash rows) counts) where
  -- whether rows of a key's item are alone in their bucket
  abbrev is_key_alone : Key → Bool
  is_key_alone key = is_alone counts (text_hash key.label)

  abbrev alone : List SourceRow
  alone = those is_key_alone rows

  abbrev bucket_of : Key → ℕ
  bucket_of key = bucket_at (length counts) (text_hash key.label)

  abbrev has_bucket : ℕ → SourceRow → Bool
  has_bucket bucket row = bucket_of row.key == bucket

  same-bucket : (key : Key) (x : SourceRow) → is_of key x ≡ true → has_bucket (bucket_of key) x ≡ true
  same-bucket key x e = (Decides-eqb _ _).1 (ap bucket_of (same-item key x e))

  bucket-within : (key : Key) → bucket_of key < length counts
  bucket-within key = omega (arith, are.some, and_le_r (hashes.finish (hashes.write hashes.initial key.label)) (length counts - 1))

  -- an item of the rows that are alone has one
  one-row : (key : Key) → is_key_alone key ≡ true → count_by (is_of key) alone ≤ 1
  one-row key e =
      let bucket = bucket_of key in
      let count : get_or counts bucket 0 ≡ 1 = (Decides-eqb _ _).0 e in
      let marked = count-mapped (λ hash. bucket_at (length counts) hash == bucket) label_hash rows in
      omega (arith, count, are.each bucket (bucket-within key), marked, fewer (is_of key) (has_bucket bucket) (same-bucket key) rows, fewer-among (is_of key) (λ row. is_key_alone row.key) rows)

  once-alone : (key : Key) (b : Bool) → is_key_alone key ≡ b → (c : Bool) → has_item key alone ≡ c → count_by (is_of key) alone ≡ cond c 1 0
  once-alone key b e false f = not-counted key alone f
  once-alone key true e true f = omega (arith, one-row key e, counted key alone f)
  once-alone key false e true f = absurd (false≢true (sym (has-there is_key_alone (λ _. refl) rows key false e) ∙ f))

  sum-alone : (x : SourceRow) → In x alone → undate x ≡ item_of x.key alone
  sum-alone x there =
      let mine = (in-filter (λ row. is_key_alone row.key) x rows there).0 in
      sym (ap (together x.key) (only (is_of x.key) x alone (own-item x) (one-row x.key mine) there) ∙ together-cons x.key x [] ∙ onto-nothing x)

  summed-alone : AreSummed alone alone
  summed-alone = record {
    once = λ key. once-alone key (is_key_alone key) refl (has_item key alone) refl;
    sums = All-from_recursion (λ item. undate item ≡ item_of item.key alone) alone (all-in (λ item. undate item ≡ item_of item.key alone) alone sum-alone);
  }

  -- with the items of the others they are the items
  summed-beside : (items : List SourceRow) → AreSummed (filter (λ row. not (is_alone counts (label_hash row))) rows) items → AreSummed rows (alone ++ items)
  summed-beside items others = summed-both is_key_alone (λ _. refl) rows alone items summed-alone others

-- the items are the rows of which each item has one, and the items of the others
pub summed-apart : (rows those : List SourceRow) (alone others : List RowIndex) (items more all : List SourceRow) → IsAlonePartition rows those alone others
    → items ≡ rows_at rows alone → AreSummed (rows_at rows others) more → all ≡ items ++ more → AreSummed those all
summed-apart rows those alone others items more all apart is are e =
    let own = is ∙ indexes-rows rows alone _ apart.partition.passing in
    let rest = subst (λ (xs : List SourceRow). AreSummed xs more) (indexes-rows rows others _ apart.partition.failing) are in
    subst (λ (xs : List SourceRow). AreSummed those xs) (sym (e ∙ ap (λ (xs : List SourceRow). xs ++ more) own)) (summed-beside those apart.counts apart.are_buckets more rest)

-- items of halves of the rows by their hashes are items of all
pub summed-halves : (rows those : List SourceRow) (passes : ℕ → Bool) (some others : List RowIndex) (items more all : List SourceRow) → IsPartition rows passes those some others
    → AreSummed (rows_at rows some) items → AreSummed (rows_at rows others) more → all ≡ items ++ more → AreSummed those all
summed-halves rows those passes some others items more all partition are are' e =
    let first = subst (λ (xs : List SourceRow). AreSummed xs items) (indexes-rows rows some _ partition.passing) are in
    let rest = subst (λ (xs : List SourceRow). AreSummed xs more) (indexes-rows rows others _ partition.failing) are' in
    subst (λ (xs : List SourceRow). AreSummed those xs) (sym e) (summed-both (λ key. passes (text_hash key.label)) (λ _. refl) those items more first rest)

-- ---- rows of an item fit together

addable-among : (t : SourceRow → Bool) (rows : List SourceRow) → AreAddable rows → AreAddable (filter t rows)
addable-among t rows fit key =
    let all = fit key in
    record {
      hits = omega (arith, all.hits, sum-among (λ r. r.sums.hits) (is_of key) t rows);
      visitors = omega (arith, all.visitors, sum-among (λ r. r.visitors) (is_of key) t rows);
      bytes = omega (arith, all.bytes, sum-among (λ r. r.sums.bytes) (is_of key) t rows);
      micros = omega (arith, all.micros, sum-among (λ r. r.sums.micros) (is_of key) t rows);
    }

-- those of a part can be added
can-add-part : (rows those : List SourceRow) (t : SourceRow → Bool) (indexes : List RowIndex) → AreIndexes rows indexes (filter t those) → AreAddable those → CanAddUp rows indexes
can-add-part rows those t indexes are fit =
    let same = sym (indexes-rows rows indexes (filter t those) are) in
    record {
      there = subst (AreIndexes rows indexes) same are;
      fit = subst AreAddable same (addable-among t those fit);
    }

pub can-add-some : (rows those : List SourceRow) (passes : ℕ → Bool) (some others : List RowIndex) → IsPartition rows passes those some others → AreAddable those → CanAddUp rows some
can-add-some rows those passes some others partition fit = can-add-part rows those (λ row. passes (label_hash row)) some partition.passing fit

pub can-add-others : (rows those : List SourceRow) (passes : ℕ → Bool) (some others : List RowIndex) → IsPartition rows passes those some others → AreAddable those → CanAddUp rows others
can-add-others rows those passes some others partition fit = can-add-part rows those (λ row. not (passes (label_hash row))) others partition.failing fit

-- those of a panel that are shown can be added
pub addable-shown : (panel : Panel) (spec : DateSpec) (rows : List SourceRow) → AreSound rows → AreAddable (panel_rows panel (shown_rows spec rows))
addable-shown panel spec rows sound =
    addable-among (λ row. is_same_panel row.key.panel panel) (shown_rows spec rows) (addable-among (λ row. is_shown spec row.key) rows (item-fits rows sound))

module _ (those items : List SourceRow) (n : ℕ) (row : SourceRow) (at : slice_get those n ≡ Some row) (are : AreSummed (take n those) items) where
  -- a row and its item fit together
  pub fits-more : AreAddable those → All (λ item. is_of item.key row ≡ true → FitTogether item row) items
  fits-more addable =
      All-from_recursion (λ item. is_of item.key row ≡ true → FitTogether item row) items
      (all-weaker (λ item. undate item ≡ item_of item.key (take n those)) (λ item. is_of item.key row ≡ true → FitTogether item row) fit items (recursion_from_All _ items are.sums))
    where
      room : (f : SourceRow → ℕ) (key : Key) → is_of key row ≡ true → sum_by f (of_item key (take n those)) + f row ≤ sum_by f (of_item key those)
      room f key own = sum-room f (is_of key) those n row at own

      fit : (item : SourceRow) → undate item ≡ item_of item.key (take n those) → is_of item.key row ≡ true → FitTogether item row
      fit item sums own =
          let fits = addable item.key in
          record {
            hits = omega (arith, ap (λ (r : SourceRow). r.sums.hits) sums, room (λ r. r.sums.hits) item.key own, fits.hits);
            bytes = omega (arith, ap (λ (r : SourceRow). r.sums.bytes) sums, room (λ r. r.sums.bytes) item.key own, fits.bytes);
            micros = omega (arith, ap (λ (r : SourceRow). r.sums.micros) sums, room (λ r. r.sums.micros) item.key own, fits.micros);
            visitors = omega (arith, ap (λ (r : SourceRow). r.visitors) sums, room (λ r. r.visitors) item.key own, fits.visitors);
          }

  -- a row more
  pub summed-more : (items' : List SourceRow) → items' ≡ with_row row items → AreSummed (take (n + 1) those) items'
  summed-more items' e =
      subst (λ (xs : List SourceRow). AreSummed xs items') (sym (take-more n those row at))
      (subst (λ (xs : List SourceRow). AreSummed (take n those ++ row ∷ []) xs) (sym e) (summed-behind (take n those) row items are))

-- rows that can be added can be added up by their row indexes
pub can-add-at : (rows some : List SourceRow) (places : List ℕ) → AreAddable some → AreAt rows places some → CanAddUp rows (filter_map (index_at rows) places)
can-add-at rows some places fit at =
    let indexes = filter_map (index_at rows) places in
    let are = are-indexes rows places some at in
    let same = sym (indexes-rows rows indexes some are) in
    record {
      there = subst (λ (xs : List SourceRow). AreIndexes rows indexes xs) same are;
      fit = subst AreAddable same fit;
    }

pub summed-at : (rows some : List SourceRow) (places : List ℕ) (items : List SourceRow) → AreAt rows places some → AreSummed (rows_at rows (filter_map (index_at rows) places)) items → AreSummed some items
summed-at rows some places items at summed =
    subst (λ (xs : List SourceRow). AreSummed xs items) (indexes-rows rows (filter_map (index_at rows) places) some (are-indexes rows places some at)) summed
