-- Items of prefixes and rows: how rows that are noted number the items for which they stand.
use Rattle.std.proofs.Common.{◌≡◌, ℕ, ◌<◌, Bool, true, List, [], ◌∷◌, ◌++◌, length, get_or, map, Some, refl, sym, ap, ◌∙◌, subst, arith}
use Rattle.std.specs.Prelude.{slice_get}
use Rattle.std.specs.Cmp.{IsEquivalence, both_ways}
use Rattle.std.specs.List.{All, IsDistinct}
use Rattle.std.proofs.lemmas.List.{get_or_append_left, get_or-map, length-map}
use Rattle.std.proofs.lemmas.List.Elements.{All-head, All-tail}
use Rattle.std.proofs.lemmas.Option.{slice_get-get_or, slice_get_within, get_or_from_slice_get}
use Rattle.ga_numbers.specs.NotedNumbers.{AreNoted, IsNumbered, places_of}
use Rattle.ga_numbers.specs.Steps.ShardRows.{HavePrefixes, is_same_row, remapped_by}
use Rattle.ga_numbers.specs.declared.shard_row.ShardRow.{ShardRow}
use Rattle.ga_numbers.proofs.AllNoted.{has-number, placed}
use Rattle.ga_numbers.proofs.Prefixing.{all-noted-along, distinct-along, noted-along, place-along, place-told, places-along}
use Rattle.ga_numbers.proofs.Noted.{grows, noted-cases}
use Rattle.ga_numbers.proofs.Same.{row-itself, row-laws, same-row}
use Rattle.ga_shards.specs.Numbers.{noted, place_of}
use Rattle.ga_shards.specs.Steps.{all_noted}
use Rattle.ga_shards.proofs.Noting.{from-all}

-- how prefixes and rows make items
pub record Makes {F T : Type 0} (eqF : F → F → Bool) (eqT : T → T → Bool) (IsPlain : F → Type 0) (made : F → ShardRow → T) : Type 0 where
  pub laws : IsEquivalence eqF
  pub exact : (f g : F) → eqF f g ≡ true → f ≡ g
  pub itself : (x : T) → eqT x x ≡ true
  pub exact-items : (x y : T) → eqT x y ≡ true → x ≡ y
  -- the item says its prefix, its day and its text, and nothing else
  pub says : (f g : F) (r q : ShardRow) → IsPlain f → IsPlain g → made f r ≡ made g q → (f ≡ g) × (r.date ≡ q.date) × (r.text ≡ q.text)
  pub only : (f : F) (r q : ShardRow) → r.date ≡ q.date → r.text ≡ q.text → made f r ≡ made f q

map-same : {A B : Type 0} (f g : A → B) (xs : List A) → All (λ x. f x ≡ g x) xs → map f xs ≡ map g xs
map-same f g [] same = refl
map-same {A} f g (x ∷ xs) same = λ i. All-head (λ (x : A). f x ≡ g x) x xs same i ∷ map-same f g xs (All-tail (λ (x : A). f x ≡ g x) x xs same) i

map-map : {A B C : Type 0} (f : B → C) (g : A → B) (xs : List A) → map f (map g xs) ≡ map (λ x. f (g x)) xs
map-map f g [] = refl
map-map f g (x ∷ xs) = ap (λ l. f (g x) ∷ l) (map-map f g xs)

pub get-mapped : {A B : Type 0} (f : A → B) (xs : List A) (n : ℕ) (x : A) → slice_get xs n ≡ Some x → slice_get (map f xs) n ≡ Some (f x)
get-mapped f xs n x at =
    let within : n < length xs = slice_get_within xs n x at in
    slice_get-get_or (map f xs) n (f x) (omega (arith, within, length-map xs f))
    ∙ ap Some (get_or-map f xs n x (f x) within ∙ ap f (get_or_from_slice_get xs n x x at))

module _ {F T : Type 0} (none : F) (eqF : F → F → Bool) (eqT : T → T → Bool) (IsPlain : F → Type 0) (made : F → ShardRow → T) (m : Makes eqF eqT IsPlain made) where
  abbrev pub item_at : List F → ShardRow → T
  item_at prefixes row = made (get_or prefixes row.prefix none) row

  abbrev pub items_in : List F → List ShardRow → List T
  items_in prefixes rows = map (item_at prefixes) rows

  abbrev Within : List F → ShardRow → Type 0
  Within prefixes row = row.prefix < length prefixes

  row-made : (a b : ShardRow) → a.prefix ≡ b.prefix → a.date ≡ b.date → a.text ≡ b.text → a ≡ b
  row-made a b prefix date text = λ i. record { prefix = prefix i; date = date i; text = text i }

  agree : (prefixes : List F) → IsDistinct eqF prefixes → All IsPlain prefixes → (a b : ShardRow) → Within prefixes a → Within prefixes b → is_same_row a b ≡ eqT (item_at prefixes a) (item_at prefixes b)
  agree prefixes different plain a b in-a in-b =
      both_ways (is_same_row a b) (eqT (item_at prefixes a) (item_at prefixes b))
      (λ e. subst (λ (x : ShardRow). eqT (item_at prefixes a) (item_at prefixes x) ≡ true) (same-row a b e) (m.itself (item_at prefixes a)))
      (λ e.
      let says = m.says (get_or prefixes a.prefix none) (get_or prefixes b.prefix none) a b (plain a.prefix none in-a) (plain b.prefix none in-b) (m.exact-items _ _ e) in
      let prefix = place-told eqF m.laws prefixes different a.prefix b.prefix none in-a in-b says.0 in
      subst (λ (x : ShardRow). is_same_row a x ≡ true) (row-made a b prefix says.1 says.2) (row-itself a))

  -- prefixes that come after change no item
  kept : (prefixes more : List F) (rows : List ShardRow) → HavePrefixes prefixes rows → items_in (prefixes ++ more) rows ≡ items_in prefixes rows
  kept prefixes more rows prefixed =
      map-same (item_at (prefixes ++ more)) (item_at prefixes) rows
      (λ k d within. ap (λ f. made f (get_or rows k d)) (get_or_append_left prefixes more none (get_or rows k d).prefix (prefixed k d within)))

  pub extended : (prefixes : List F) (f : F) (rows : List ShardRow) → HavePrefixes prefixes rows → items_in (noted eqF prefixes f) rows ≡ items_in prefixes rows
  extended prefixes f rows prefixed = noted-cases eqF (λ l. items_in l rows ≡ items_in prefixes rows) prefixes f (λ _. refl) (λ _. kept prefixes (f ∷ []) rows prefixed)

  prefixed-more : (prefixes : List F) (f : F) (rows : List ShardRow) → HavePrefixes prefixes rows → HavePrefixes (noted eqF prefixes f) rows
  prefixed-more prefixes f rows prefixed k d within = omega (arith, prefixed k d within, grows eqF prefixes f)

  all-extended : (more prefixes : List F) (rows : List ShardRow) → HavePrefixes prefixes rows → items_in (all_noted eqF prefixes more) rows ≡ items_in prefixes rows
  all-extended [] prefixes rows prefixed = refl
  all-extended (f ∷ more) prefixes rows prefixed = all-extended more (noted eqF prefixes f) rows (prefixed-more prefixes f rows prefixed) ∙ extended prefixes f rows prefixed

  all-prefixed : (more prefixes : List F) (rows : List ShardRow) → HavePrefixes prefixes rows → HavePrefixes (all_noted eqF prefixes more) rows
  all-prefixed [] prefixes rows prefixed = prefixed
  all-prefixed (f ∷ more) prefixes rows prefixed = all-prefixed more (noted eqF prefixes f) rows (prefixed-more prefixes f rows prefixed)

  -- a prefix and a row of it were noted: so was the item
  pub numbered : (f : F) (row : ShardRow) (n : ℕ) (prefixes prefixes-new : List F) (rows rows-new : List ShardRow) → IsNumbered eqF f row.prefix prefixes prefixes-new → IsDistinct eqF prefixes-new → All IsPlain prefixes-new
      → HavePrefixes prefixes rows → IsNumbered is_same_row row n rows rows-new → IsNumbered eqT (made f row) n (items_in prefixes rows) (items_in prefixes-new rows-new)
  numbered f row n prefixes prefixes-new rows rows-new prefix different plain prefixed one = record {
    place = one.place ∙ place-along (item_at prefixes-new) is_same_row eqT (Within prefixes-new) (agree prefixes-new different plain) rows row fine here ∙ (λ i. place_of eqT (same i) (is i));
    items =
        ap (items_in prefixes-new) one.items ∙ noted-along (item_at prefixes-new) is_same_row eqT (Within prefixes-new) (agree prefixes-new different plain) rows row fine here
        ∙ (λ i. noted eqT (same i) (is i));
    stands = get-mapped (item_at prefixes-new) rows-new n row one.stands ∙ ap Some is;
  }
    where
      same : items_in prefixes-new rows ≡ items_in prefixes rows
      same = ap (λ l. items_in l rows) prefix.items ∙ extended prefixes f rows prefixed

      fine : HavePrefixes prefixes-new rows
      fine = subst (λ l. HavePrefixes l rows) (sym prefix.items) (prefixed-more prefixes f rows prefixed)

      here : Within prefixes-new row
      here = slice_get_within prefixes-new row.prefix f prefix.stands

      is : item_at prefixes-new row ≡ made f row
      is = ap (λ g. made g row) (get_or_from_slice_get prefixes-new row.prefix f none prefix.stands)

  -- other prefixes and rows of them were noted: so were the items
  pub absorbed : (prefixes more prefixes-new : List F) (rows more-rows rows-new : List ShardRow) (numbers places : List ℕ) → HavePrefixes prefixes rows → HavePrefixes more more-rows → IsDistinct eqF prefixes-new → All IsPlain prefixes-new
      → numbers ≡ places_of eqF prefixes more → prefixes-new ≡ all_noted eqF prefixes more → AreNoted is_same_row (map (remapped_by numbers) more-rows) places rows rows-new
      → AreNoted eqT (items_in more more-rows) places (items_in prefixes rows) (items_in prefixes-new rows-new) × HavePrefixes prefixes-new rows-new
  absorbed prefixes more prefixes-new rows more-rows rows-new numbers places prefixed prefixed-too different plain are known noted-rows = (
    record {
      places =
          noted-rows.places ∙ places-along (item_at prefixes-new) is_same_row eqT (Within prefixes-new) (agree prefixes-new different plain) remapped rows fine fine-too
          ∙ (λ i. places_of eqT (same i) (alike i));
      known =
          ap (items_in prefixes-new) noted-rows.known ∙ all-noted-along (item_at prefixes-new) is_same_row eqT (Within prefixes-new) (agree prefixes-new different plain) remapped rows fine fine-too
          ∙ (λ i. all_noted eqT (same i) (alike i));
    },
    subst (HavePrefixes prefixes-new) (sym noted-rows.known) (from-all is_same_row row-laws (Within prefixes-new) remapped rows fine fine-too),
  )
    where
      remapped : List ShardRow
      remapped = map (remapped_by numbers) more-rows

      same : items_in prefixes-new rows ≡ items_in prefixes rows
      same = ap (λ l. items_in l rows) known ∙ all-extended more prefixes rows prefixed

      fine : HavePrefixes prefixes-new rows
      fine = subst (λ l. HavePrefixes l rows) (sym known) (all-prefixed more prefixes rows prefixed)

      -- where a prefix of the others stands now
      stands : (k : ℕ) → k < length more → slice_get prefixes-new (get_or numbers k 0) ≡ Some (get_or more k none)
      stands k within =
          let at : slice_get more k ≡ Some (get_or more k none) = slice_get-get_or more k none within in
          let has = has-number eqF more prefixes k (get_or more k none) at in
          let number : get_or numbers k 0 ≡ has.0 = ap (λ (l : List ℕ). get_or l k 0) are ∙ get_or_from_slice_get (places_of eqF prefixes more) k has.0 0 has.1 in
          subst (λ l. slice_get l (get_or numbers k 0) ≡ Some (get_or more k none)) (sym known)
          (subst (λ n. slice_get (all_noted eqF prefixes more) n ≡ Some (get_or more k none)) (sym number)
          (placed eqF m.exact more prefixes k has.0 (get_or more k none) at has.1))

      remapped-fine : (row : ShardRow) → Within more row → Within prefixes-new (remapped_by numbers row)
      remapped-fine row within = slice_get_within prefixes-new (get_or numbers row.prefix 0) _ (stands row.prefix within)

      remapped-is : (row : ShardRow) → Within more row → item_at prefixes-new (remapped_by numbers row) ≡ item_at more row
      remapped-is row within =
          ap (λ g. made g (remapped_by numbers row)) (get_or_from_slice_get prefixes-new (get_or numbers row.prefix 0) _ none (stands row.prefix within))
          ∙ m.only (get_or more row.prefix none) (remapped_by numbers row) row refl refl

      fine-too : HavePrefixes prefixes-new remapped
      fine-too k d within =
          let in-more : k < length more-rows = omega (arith, within, length-map more-rows (remapped_by numbers)) in
          subst (λ (r : ShardRow). Within prefixes-new r) (sym (get_or-map (remapped_by numbers) more-rows k d d in-more)) (remapped-fine (get_or more-rows k d) (prefixed-too k d in-more))

      alike : items_in prefixes-new remapped ≡ items_in more more-rows
      alike =
          map-map (item_at prefixes-new) (remapped_by numbers) more-rows
          ∙ map-same (λ row. item_at prefixes-new (remapped_by numbers row)) (item_at more) more-rows (λ k d within. remapped-is (get_or more-rows k d) (prefixed-too k d within))

  -- different rows represent different items
  pub different-items : (prefixes : List F) (rows : List ShardRow) → IsDistinct eqF prefixes → All IsPlain prefixes → HavePrefixes prefixes rows → IsDistinct is_same_row rows → IsDistinct eqT (items_in prefixes rows)
  different-items prefixes rows different plain prefixed apart = distinct-along (item_at prefixes) is_same_row eqT (Within prefixes) (agree prefixes different plain) rows prefixed apart
