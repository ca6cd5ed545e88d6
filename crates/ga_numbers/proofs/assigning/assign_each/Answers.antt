use Rattle.std.proofs.Common.{◌≡◌, ◌∷◌, ◌++◌, ◌∙◌, [], ℕ, List, Vec, Global, length, length-append, append_assoc, map, ap, sym, subst, arith}
use Rattle.std.specs.List.{All}
use Rattle.std.specs.Vec.Iter.{into_iter_items}
use Rattle.std.proofs.lemmas.List.{length-map, map-append, map_push}
use Rattle.ga_numbers.specs.Steps.Kept.{IsRowAt, StandEach, merged_place, merged_places, rows_in}
use Rattle.ga_numbers.specs.NotedNumbers.{AreNoted, AreNotedInTurn}
use Rattle.ga_numbers.specs.Steps.ShardRows.{is_same_row}
use Rattle.ga_numbers.specs.declared.place.Place.{Place}
use Rattle.ga_numbers.specs.declared.shard_row.ShardRow.{ShardRow}
use Rattle.ga_numbers.proofs.Giving.{list-stands, lists-more}
use Rattle.ga_numbers.proofs.InTurn.{turn-more}
use Rattle.ga_numbers.proofs.assigning.assign_each.Goals as goal

abbrev order_items : Vec Place Global → List Place
order_items o = o.items

-- rows stand at the places of the next list
next-stands : (shards : List (List ShardRow)) (local_maps : List (List (List ℕ))) (before rest orders : List (Vec Place Global)) (order : Vec Place Global) (which : ℕ) (read : List Place) → before ++ order ∷ rest ≡ orders
    → which ≡ length before → read ≡ order.items → StandEach shards local_maps (map order_items orders) → All (IsRowAt shards) (map (merged_place local_maps which) read)
next-stands shards local_maps before rest orders order which read split at is all =
    let here = list-stands shards local_maps (map order_items before) order.items (map order_items rest)
    (subst (StandEach shards local_maps) (sym (ap (map order_items) split) ∙ map-append order_items before (order ∷ rest)) all) in
    subst (λ (l : List Place). All (IsRowAt shards) (map (merged_place local_maps which) l)) (sym is)
    (subst (λ n. All (IsRowAt shards) (map (merged_place local_maps n) order.items)) (length-map before order_items ∙ sym at) here)

next-noted : (shards : List (List ShardRow)) (local_maps : List (List (List ℕ))) (before : List (Vec Place Global)) (order : Vec Place Global) (which : ℕ) (read : List Place) (given : List (List ℕ)) (numbers : List ℕ) (old now new : List ShardRow)
    → which ≡ length before → read ≡ order.items → AreNotedInTurn is_same_row (map (rows_in shards) (merged_places local_maps 0 (map order_items before))) given old now
    → AreNoted is_same_row (rows_in shards (map (merged_place local_maps which) read)) numbers now new
    → AreNotedInTurn is_same_row (map (rows_in shards) (merged_places local_maps 0 (map order_items (before ++ order ∷ [])))) (given ++ numbers ∷ []) old new
next-noted shards local_maps before order which read given numbers old now new at is so_far one =
    let n : which ≡ length (map order_items before) = at ∙ sym (length-map before order_items) in
    let more : map (rows_in shards) (merged_places local_maps 0 (map order_items (before ++ order ∷ [])))
    ≡ map (rows_in shards) (merged_places local_maps 0 (map order_items before)) ++ rows_in shards (map (merged_place local_maps which) read) ∷ [] =
    ap (λ (l : List (List Place)). map (rows_in shards) (merged_places local_maps 0 l)) (map_push order_items before order)
    ∙ lists-more shards local_maps (map order_items before) order.items
    ∙ (λ i. map (rows_in shards) (merged_places local_maps 0 (map order_items before)) ++ rows_in shards (map (merged_place local_maps (sym n i)) (sym is i)) ∷ []) in
    subst (λ (l : List (List ShardRow)). AreNotedInTurn is_same_row l (given ++ numbers ∷ []) old new) (sym more)
    (turn-more is_same_row (map (rows_in shards) (merged_places local_maps 0 (map order_items before))) (rows_in shards (map (merged_place local_maps which) read)) given numbers old now new so_far one)

pub returns-in_err-assign_all-clause-named : goal.returns-in_err-assign_all-clause-named
returns-in_err-assign_all-clause-named c = λ shards are named all.
    let so_far = c.loop-order.invariant in
    let before = c.loop-order.yielded in
    let split = ap (λ (l : List (Vec Place Global)). before ++ l) (sym c.in-Some.ensures.steps.0) ∙ so_far.rest in
    let which : c.len-which.result ≡ length before = omega (arith, c.len-which.ensures, c.loop-order.given.ok.0, so_far.long) in
    c.assign_all.ensures.named shards are (so_far.named shards are named all)
    (next-stands shards _ before (into_iter_items c.next.new.self) c.args.orders.items c.in-Some.order c.len-which.result c.deref.result.now split which c.deref.ensures.value all)

pub returns-in_err-push-clause-named : goal.returns-in_err-push-clause-named
returns-in_err-push-clause-named c = λ shards are named all.
    let so_far = c.loop-order.invariant in
    let before = c.loop-order.yielded in
    let split = ap (λ (l : List (Vec Place Global)). before ++ l) (sym c.in-Some.ensures.steps.0) ∙ so_far.rest in
    let which : c.len-which.result ≡ length before = omega (arith, c.len-which.ensures, c.loop-order.given.ok.0, so_far.long) in
    c.assign_all.ensures.named shards are (so_far.named shards are named all)
    (next-stands shards _ before (into_iter_items c.next.new.self) c.args.orders.items c.in-Some.order c.len-which.result c.deref.result.now split which c.deref.ensures.value all)

pub loop-order-preserved : goal.loop-order-preserved
loop-order-preserved c =
    let so_far = c.loop-order.invariant in
    let before = c.loop-order.yielded in
    let order = c.in-Some.order in
    let rest = into_iter_items c.next.new.self in
    let local_maps : List (List (List ℕ)) = map (λ shard. map (λ v. v.items) shard.items) c.args.local_maps.now in
    let items : Vec ℕ Global → List ℕ = λ v. v.items in
    let given = c.loop-order.given in
    let numbers = c.in_ok-assign_all.field-0 in
    let split : before ++ order ∷ rest ≡ c.args.orders.items = ap (λ (l : List (Vec Place Global)). before ++ l) (sym c.in-Some.ensures.steps.0) ∙ so_far.rest in
    let which : c.len-which.result ≡ length before = omega (arith, c.len-which.ensures, given.ok.0, so_far.long) in
    let pushed : map items c.push.new.self.items ≡ map items given.items ++ numbers.items ∷ [] = ap (map items) c.in_ok-push.ensures.items ∙ map_push items given.items numbers in
    record {
      many = omega (arith, c.assign_all.ensures.many, so_far.many, c.assign_all.new.numbers.ok.0, c.loop-order.numbers.ok.0);
      rest = append_assoc before (order ∷ []) rest ∙ split;
      long = omega (arith, ap length c.in_ok-push.ensures.items, length-append given.items (numbers ∷ []), length-append before (order ∷ []), so_far.long);
      named = λ shards are named all. c.assign_all.ensures.named shards are (so_far.named shards are named all)
          (next-stands shards local_maps before rest c.args.orders.items order c.len-which.result c.deref.result.now split which c.deref.ensures.value all);
      noted = λ shards are named all.
          let one = c.in_ok-assign_all.ensures.noted shards are (so_far.named shards are named all)
          (next-stands shards local_maps before rest c.args.orders.items order c.len-which.result c.deref.result.now split which c.deref.ensures.value all) in
          subst (λ (l : List (List ℕ)). AreNotedInTurn is_same_row (map (rows_in shards) (merged_places local_maps 0 (map order_items (before ++ order ∷ [])))) l (rows_in shards c.args.places.now.items) (rows_in shards c.assign_all.new.places.items)) (sym pushed)
          (next-noted shards local_maps before order c.len-which.result c.deref.result.now (map items given.items) numbers.items (rows_in shards c.args.places.now.items) (rows_in shards c.loop-order.places.items) (rows_in shards c.assign_all.new.places.items)
          which c.deref.ensures.value (so_far.noted shards are named all) one);
    }
