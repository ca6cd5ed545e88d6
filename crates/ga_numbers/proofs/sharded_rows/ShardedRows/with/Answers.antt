use Rattle.std.proofs.Common.{◌≡◌, ◌∙◌, ◌<◌, ℕ, [], List, Vec, Global, length, get_or, map, ap, sym, subst, arith}
use Rattle.std.specs.List.{All}
use Rattle.std.proofs.lemmas.List.{get_or-map, length-map}
use Rattle.std.proofs.lemmas.List.Elements.{All-map}
use Rattle.ga_numbers.specs.Steps.Kept.{AreOpened, StandEach, merged_places, rows_in}
use Rattle.ga_numbers.specs.NotedNumbers.{AreNotedInTurn}
use Rattle.ga_numbers.specs.Steps.ShardRows.{is_same_row, remapped_each}
use Rattle.ga_numbers.specs.Steps.Three.{AllThree}
use Rattle.ga_numbers.specs.declared.place.Place.{Place}
use Rattle.ga_numbers.specs.declared.shard_row.ShardRow.{ShardRow}
use Rattle.ga_numbers.proofs.MergedShards.{merged-grows, merged-shards, orders-in, orders-rows, orders-stand}
use Rattle.ga_numbers.proofs.InTurn.{nothing-in-turn}
use Rattle.ga_numbers.proofs.Keeping.{put-kept, put-rows}
use Rattle.ga_numbers.proofs.ShardMerges.{all-read}
use Rattle.ga_numbers.proofs.Remapping.{remapped-many, none-remapped}
use Rattle.ga_numbers.proofs.sharded_rows.ShardedRows.with.Goals as goal

abbrev list : Vec ℕ Global → List ℕ
list l = l.items

abbrev order_list : Vec Place Global → List Place
order_list o = o.items

abbrev shard_lists : Vec (List ShardRow) Global → List (List ShardRow)
shard_lists s = s.items

-- the shards of each of the others are all of them
other-whole : (others : List (List ShardRow)) (more : List (Vec (List ShardRow) Global)) (orders : List (List Place)) → AllThree AreOpened others (map shard_lists more) orders
    → (k : ℕ) (d : Vec (List ShardRow) Global) → k < length more → length (get_or more k d).items ≡ 64
other-whole others more orders opened k d within =
    let one = opened.each k [] d.items [] (omega (arith, within, opened.second, length-map more shard_lists)) in
    ap length (sym (get_or-map shard_lists more k d d.items within)) ∙ one.whole

pub returns-then-are_empty : goal.returns-then-are_empty
returns-then-are_empty g c =
    let prefixes = map list c.args.prefixes.now in
    let others = c.args.others.items in
    let numbers = c.in_ok-no_numbers.field-0 in
    let none : All (λ (rows : List ShardRow). rows ≡ []) others = subst (All (λ (rows : List ShardRow). rows ≡ [])) c.deref.ensures.value (c.are_empty.ensures c.if-are_empty.true) in
    let long : length (map list numbers.items) ≡ length (remapped_each prefixes others) =
    omega (arith, length-map numbers.items list, remapped-many prefixes others, c.in_ok-no_numbers.ensures.many, c.len.ensures, numbers.ok.0, c.args.others.ok.0) in
    subst (λ (l : List ShardRow). AreNotedInTurn is_same_row (remapped_each prefixes others) (map list numbers.items) c.args.self l) (sym c.self.view_is)
    (nothing-in-turn is_same_row (remapped_each prefixes others) (map list numbers.items) c.args.self (none-remapped prefixes others none)
    (All-map (λ (l : List ℕ). l ≡ []) list numbers.items c.in_ok-no_numbers.ensures.none) long)

pub merge_shards-requires-after_bounds : goal.merge_shards-requires-after_bounds
merge_shards-requires-after_bounds g c κs within = λ k d inside.
    let more = c.in_ok-more.more.items in
    omega (arith, other-whole c.args.others.items more _ c.in_ok-more.ensures k d inside, (get_or more k d).ok.0, c.in_ok-open.ensures.many)

pub assign_each-requires : goal.assign_each-requires
assign_each-requires g c = λ k d in-orders l e inside.
    let shards = c.open.new.shards in
    let kept = c.open.ensures.kept c.self.inside.places.items c.self.invariant in
    let whole : length shards.items ≡ 64 = omega (arith, c.in_ok-open.ensures.many, shards.ok.0) in
    let orders = c.in_ok-more.orders.items in
    let all = orders-in (map list c.args.prefixes.now) shards.items c.args.others.items (map shard_lists c.in_ok-more.more.items) (map order_list orders) c.in_ok-shards.shards.items _ kept.sharded c.in_ok-more.ensures
    c.in_ok-shards.ensures whole in
    omega (arith, all-read order_list (All (λ (p : Place). p.shard < 64)) orders all k d in-orders l e inside, whole, length-map c.open.new.numbers.items list, kept.named.many, c.open.new.numbers.ok.0)

pub invariant_of-rows : goal.invariant_of-rows
invariant_of-rows g c =
    let prefixes = map list c.args.prefixes.now in
    let shards = c.open.new.shards in
    let places = c.self.inside.places.items in
    let more = map shard_lists c.in_ok-more.more.items in
    let orders = map order_list c.in_ok-more.orders.items in
    let new = c.in_ok-shards.shards.items in
    let kept = c.open.ensures.kept places c.self.invariant in
    let whole : length shards.items ≡ 64 = omega (arith, c.in_ok-open.ensures.many, shards.ok.0) in
    let are = merged-shards prefixes shards.items c.args.others.items more orders new _ kept.sharded c.in_ok-more.ensures c.in_ok-shards.ensures in
    let grows = merged-grows prefixes shards.items c.args.others.items more orders new _ kept.sharded c.in_ok-more.ensures c.in_ok-shards.ensures in
    let now = put-kept shards.items new _ places kept are grows in
    record {
      sharded = are;
      named = c.assign_each.ensures.named new are now.named
          (subst (λ l. StandEach new (map (λ shard. map (λ v. v.items) shard.items) l) orders) (sym c.deref-2.ensures.value)
          (orders-stand prefixes shards.items c.args.others.items more orders new _ kept.sharded c.in_ok-more.ensures c.in_ok-shards.ensures whole));
    }

pub returns : goal.returns
returns g c =
    let prefixes = map list c.args.prefixes.now in
    let shards = c.open.new.shards in
    let places = c.self.inside.places.items in
    let more = map shard_lists c.in_ok-more.more.items in
    let orders = map order_list c.in_ok-more.orders.items in
    let new = c.in_ok-shards.shards.items in
    let given : List (List ℕ) = map list c.in_ok-given.given.items in
    let kept = c.open.ensures.kept places c.self.invariant in
    let whole : length shards.items ≡ 64 = omega (arith, c.in_ok-open.ensures.many, shards.ok.0) in
    let are = merged-shards prefixes shards.items c.args.others.items more orders new _ kept.sharded c.in_ok-more.ensures c.in_ok-shards.ensures in
    let grows = merged-grows prefixes shards.items c.args.others.items more orders new _ kept.sharded c.in_ok-more.ensures c.in_ok-shards.ensures in
    let now = put-kept shards.items new _ places kept are grows in
    let alike : map (rows_in new) (merged_places (map (λ shard. map (λ v. v.items) shard.items) c.deref-2.result.now) 0 orders) ≡ remapped_each prefixes c.args.others.items =
    ap (λ l. map (rows_in new) (merged_places (map (λ shard. map (λ v. v.items) shard.items) l) 0 orders)) c.deref-2.ensures.value
    ∙ orders-rows prefixes shards.items c.args.others.items more orders new _ kept.sharded c.in_ok-more.ensures c.in_ok-shards.ensures whole in
    let before : rows_in new places ≡ c.args.self = put-rows shards.items new _ places kept grows ∙ c.open.ensures.same places c.self.invariant ∙ c.self.view_is in
    subst (λ (l : List (List ShardRow)). AreNotedInTurn is_same_row l given c.args.self (rows_in new c.assign_each.new.places.items)) alike
    (subst (λ (l : List ShardRow). AreNotedInTurn is_same_row (map (rows_in new) (merged_places (map (λ shard. map (λ v. v.items) shard.items) c.deref-2.result.now) 0 orders)) given l (rows_in new c.assign_each.new.places.items)) before
    (c.in_ok-given.ensures.noted new are now.named
    (subst (λ l. StandEach new (map (λ shard. map (λ v. v.items) shard.items) l) orders) (sym c.deref-2.ensures.value)
    (orders-stand prefixes shards.items c.args.others.items more orders new _ kept.sharded c.in_ok-more.ensures c.in_ok-shards.ensures whole))))
