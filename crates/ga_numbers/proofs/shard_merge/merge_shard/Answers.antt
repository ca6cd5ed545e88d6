use Rattle.std.proofs.Common.{◌≡◌, ◌∷◌, ◌++◌, ◌∙◌, [], ℕ, List, Vec, Global, length, get_or, map, ap, sym, subst, arith}
use Rattle.std.proofs.lemmas.List.{length-map, map_push}
use Rattle.ga_numbers.specs.NotedNumbers.{AreNoted, AreNotedInTurn}
use Rattle.ga_numbers.specs.Steps.ShardRows.{is_same_row, remapped_by, remapped_each}
use Rattle.ga_numbers.specs.declared.shard_row.ShardRow.{ShardRow}
use Rattle.ga_numbers.proofs.InTurn.{numbers-many, turn-more}
use Rattle.ga_numbers.proofs.Remapping.{remapped-many, remapped-push}
use Rattle.ga_numbers.proofs.shard_merge.merge_shard.Goals as goal

pub loop-rows-preserved : goal.loop-rows-preserved
loop-rows-preserved c =
    let so_far = c.loop-rows.invariant in
    let prefixes : List (List ℕ) = map (λ v. v.items) c.args.prefixes.now in
    let before = c.loop-rows.yielded in
    let rows = c.in-Some.rows in
    let old = c.args.merge.known in
    let items : Vec ℕ Global → List ℕ = λ v. v.items in
    let local_maps = c.loop-rows.local_maps in
    let front : List (List ℕ) = map items local_maps.items in
    let places = c.in_ok-note_rows.field-0 in
    let new = c.note_rows.new.known in
    let which : c.len-in-loop-rows.result ≡ length before =
    omega (arith, c.len-in-loop-rows.ensures, local_maps.ok.0, length-map local_maps.items items, ap length so_far.places, numbers-many is_same_row old (remapped_each prefixes before), remapped-many prefixes before) in
    let own : c.list_at-own.result.now ≡ get_or prefixes (length before) [] = c.list_at-own.ensures ∙ ap (λ n. get_or prefixes n []) which in
    let told : AreNoted is_same_row (map (remapped_by (get_or prefixes (length before) [])) rows) places.items c.loop-rows.known new =
    subst (λ (l : List ShardRow). AreNoted is_same_row l places.items c.loop-rows.known new) ((λ i. map (remapped_by (own i)) (c.in_ok-into_items.ensures i))) c.in_ok-note_rows.ensures in
    let pushed : map items c.push.new.self.items ≡ front ++ places.items ∷ [] = ap (map items) c.in_ok-push.ensures.items ∙ map_push items local_maps.items places in
    subst (λ (l : List (List ShardRow)). AreNotedInTurn is_same_row l (map items c.push.new.self.items) old new) (sym (remapped-push prefixes before rows))
    (subst (λ (l : List (List ℕ)). AreNotedInTurn is_same_row (remapped_each prefixes before ++ map (remapped_by (get_or prefixes (length before) [])) rows ∷ []) l old new) (sym pushed)
    (turn-more is_same_row (remapped_each prefixes before) (map (remapped_by (get_or prefixes (length before) [])) rows) front places.items old c.loop-rows.known new so_far told))
