-- Rows of others, list by list, whose prefixes have numbers here.
use Rattle.std.proofs.Common.{◌≡◌, ℕ, zero, suc, ◌<◌, List, [], ◌∷◌, ◌++◌, ◌∙◌, length, get_or, map, refl, ap, arith}
use Rattle.std.specs.List.{All, flat_map}
use Rattle.std.proofs.lemmas.List.{get_or-map, length-map}
use Rattle.std.proofs.lemmas.List.Elements.{All-append, All-cons, All-head, All-nil, All-tail}
use Rattle.ga_numbers.specs.Steps.ShardRows.{remapped_by, remapped_each, shard_at}
use Rattle.ga_numbers.specs.declared.shard_row.ShardRow.{ShardRow}

pub remapped-many : (prefixes : List (List ℕ)) (lists : List (List ShardRow)) → length (remapped_each prefixes lists) ≡ length lists
remapped-many prefixes [] = refl
remapped-many [] (rows ∷ lists) = omega (arith, remapped-many [] lists)
remapped-many (f ∷ prefixes) (rows ∷ lists) = omega (arith, remapped-many prefixes lists)

pub remapped-at : (prefixes : List (List ℕ)) (lists : List (List ShardRow)) (i : ℕ) → i < length lists → get_or (remapped_each prefixes lists) i [] ≡ map (remapped_by (get_or prefixes i [])) (get_or lists i [])
remapped-at prefixes [] i within = absurd (omega (arith, within))
remapped-at [] (rows ∷ lists) zero within = refl
remapped-at [] (rows ∷ lists) (suc i) within = remapped-at [] lists i (omega (arith, within))
remapped-at (f ∷ prefixes) (rows ∷ lists) zero within = refl
remapped-at (f ∷ prefixes) (rows ∷ lists) (suc i) within = remapped-at prefixes lists i (omega (arith, within))

-- one list more after the others
pub remapped-push : (prefixes : List (List ℕ)) (lists : List (List ShardRow)) (rows : List ShardRow) → remapped_each prefixes (lists ++ rows ∷ []) ≡ remapped_each prefixes lists ++ map (remapped_by (get_or prefixes (length lists) [])) rows ∷ []
remapped-push [] [] rows = refl
remapped-push (f ∷ prefixes) [] rows = refl
remapped-push [] (list ∷ lists) rows = ap (λ (l : List (List ShardRow)). map (remapped_by []) list ∷ l) (remapped-push [] lists rows)
remapped-push (f ∷ prefixes) (list ∷ lists) rows = ap (λ (l : List (List ShardRow)). map (remapped_by f) list ∷ l) (remapped-push prefixes lists rows)

-- where there are no rows, none is remapped
none-mapped : (f : ShardRow → ShardRow) (rows : List ShardRow) → rows ≡ [] → map f rows ≡ []
none-mapped f rows none = ap (map f) none

pub none-remapped : (prefixes : List (List ℕ)) (lists : List (List ShardRow)) → All (λ l. l ≡ []) lists → All (λ l. l ≡ []) (remapped_each prefixes lists)
none-remapped prefixes [] none = All-nil (λ (l : List ShardRow). l ≡ [])
none-remapped [] (rows ∷ lists) none =
    All-cons (λ (l : List ShardRow). l ≡ []) (map (remapped_by []) rows) (remapped_each [] lists) (none-mapped (remapped_by []) rows (All-head (λ (l : List ShardRow). l ≡ []) rows lists none))
    (none-remapped [] lists (All-tail (λ (l : List ShardRow). l ≡ []) rows lists none))
none-remapped (f ∷ prefixes) (rows ∷ lists) none =
    All-cons (λ (l : List ShardRow). l ≡ []) (map (remapped_by f) rows) (remapped_each prefixes lists) (none-mapped (remapped_by f) rows (All-head (λ (l : List ShardRow). l ≡ []) rows lists none))
    (none-remapped prefixes lists (All-tail (λ (l : List ShardRow). l ≡ []) rows lists none))

-- a row stays in its shard
module _ (s : ℕ) where
  abbrev pub Own : ShardRow → Type 0
  Own row = shard_at row ≡ s

  own-remapped : (numbers : List ℕ) (rows : List ShardRow) → All Own rows → All Own (map (remapped_by numbers) rows)
  own-remapped numbers rows own k d within =
      let inside : k < length rows = omega (arith, within, length-map rows (remapped_by numbers)) in
      ap (λ (r : ShardRow). shard_at r) (get_or-map (remapped_by numbers) rows k d d inside) ∙ own k d inside

  pub remapped-own : (prefixes : List (List ℕ)) (lists : List (List ShardRow)) → All (All Own) lists → All Own (flat_map (λ l. l) (remapped_each prefixes lists))
  remapped-own prefixes [] own = All-nil Own
  remapped-own [] (rows ∷ lists) own =
      All-append Own (map (remapped_by []) rows) (flat_map (λ l. l) (remapped_each [] lists)) (own-remapped [] rows (All-head (All Own) rows lists own)) (remapped-own [] lists (All-tail (All Own) rows lists own))
  remapped-own (f ∷ prefixes) (rows ∷ lists) own =
      All-append Own (map (remapped_by f) rows) (flat_map (λ l. l) (remapped_each prefixes lists)) (own-remapped f rows (All-head (All Own) rows lists own)) (remapped-own prefixes lists (All-tail (All Own) rows lists own))
