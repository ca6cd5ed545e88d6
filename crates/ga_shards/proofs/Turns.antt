-- One turn of each loop, over plain lists.
use Rattle.std.proofs.Common.{◌≡◌, ℕ, ◌+◌, ◌<◌, Bool, true, false, List, [], ◌∷◌, ◌++◌, length, take, get_or, sym, ap, ◌∙◌}
use Rattle.std.specs.Prelude.{◌==◌, cond}
use Rattle.std.proofs.lemmas.Bool.{cond-true, cond-false}
use Rattle.std.proofs.lemmas.List.{append-nil, take_more}
use Rattle.std.proofs.lemmas.List.Concat.{flat_map-append}
use Rattle.std.proofs.lemmas.List.Elements.{filter_more, filter-append}
use Rattle.std.proofs.lemmas.List.Sums.{fold-append}
use Rattle.ga_shards.specs.Numbers.{noted}
use Rattle.ga_shards.specs.Steps.{all_noted, all_of, those_of}

module _ {T : Type 0} (eq : T → T → Bool) (shard : T → ℕ) (s : ℕ) (start known items : List T) (i : ℕ) (x : T) (inside : i < length items) (at : get_or items i x ≡ x)
    (so-far : known ≡ all_noted eq start (those_of shard s (take i items))) where
  one-more : those_of shard s (take (i + 1) items) ≡ those_of shard s (take i items) ++ cond (shard x == s) (x ∷ []) []
  one-more = filter_more (λ y. shard y == s) items i x inside ∙ ap (λ y. those_of shard s (take i items) ++ cond (shard y == s) (y ∷ []) []) at

  pub turn-noted : (shard x == s) ≡ true → noted eq known x ≡ all_noted eq start (those_of shard s (take (i + 1) items))
  turn-noted on =
      ap (λ k. noted eq k x) so-far
      ∙ sym (fold-append (noted eq) start (those_of shard s (take i items)) (x ∷ []))
      ∙ ap (λ ys. all_noted eq start (those_of shard s (take i items) ++ ys)) (sym (cond-true _ _ _ on))
      ∙ ap (λ ys. all_noted eq start ys) (sym one-more)

  pub turn-passed : (shard x == s) ≡ false → known ≡ all_noted eq start (those_of shard s (take (i + 1) items))
  turn-passed off =
      so-far
      ∙ ap (λ ys. all_noted eq start ys) (sym (append-nil (those_of shard s (take i items))))
      ∙ ap (λ ys. all_noted eq start (those_of shard s (take i items) ++ ys)) (sym (cond-false _ _ _ off))
      ∙ ap (λ ys. all_noted eq start ys) (sym one-more)

-- the items of one list more
pub turn-list : {T : Type 0} (eq : T → T → Bool) (shard : T → ℕ) (s : ℕ) (known new : List T) (lists : List (List T)) (i : ℕ) (items : List T) → i < length lists → get_or lists i items ≡ items
    → known ≡ all_noted eq [] (those_of shard s (all_of (take i lists))) → new ≡ all_noted eq known (those_of shard s items)
    → new ≡ all_noted eq [] (those_of shard s (all_of (take (i + 1) lists)))
turn-list eq shard s known new lists i items inside at so-far more =
    let whole : all_of (take (i + 1) lists) ≡ all_of (take i lists) ++ items =
    ap all_of (take_more lists i items inside)
    ∙ flat_map-append (λ l. l) (take i lists) (get_or lists i items ∷ [])
    ∙ ap (λ l. all_of (take i lists) ++ (l ++ [])) at
    ∙ ap (λ l. all_of (take i lists) ++ l) (append-nil items) in
    more
    ∙ ap (λ k. all_noted eq k (those_of shard s items)) so-far
    ∙ sym (fold-append (noted eq) [] (those_of shard s (all_of (take i lists))) (those_of shard s items))
    ∙ ap (λ ys. all_noted eq [] ys) (sym (filter-append (λ y. shard y == s) (all_of (take i lists)) items))
    ∙ ap (λ ys. all_noted eq [] (those_of shard s ys)) (sym whole)
