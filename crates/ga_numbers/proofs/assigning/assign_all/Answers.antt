use Rattle.std.proofs.Common.{◌≡◌, ◌∙◌, ◌<◌, ℕ, List, length, map, take, get_or, ap, sym, subst, arith}
use Rattle.std.specs.List.{All}
use Rattle.std.proofs.lemmas.Option.{get_or_from_slice_get, slice_get-get_or}
use Rattle.ga_shards.specs.Steps.{all_noted}
use Rattle.ga_numbers.specs.Steps.Kept.{IsRowAt, StandsAt, merged_place, row_at, rows_in}
use Rattle.ga_numbers.specs.NotedNumbers.{places_of}
use Rattle.ga_numbers.specs.Steps.ShardRows.{is_same_row}
use Rattle.ga_numbers.specs.declared.place.Place.{Place}
use Rattle.ga_numbers.specs.declared.shard_row.ShardRow.{ShardRow}
use Rattle.ga_numbers.proofs.AllNoted.{noted-more, numbers-more}
use Rattle.ga_numbers.proofs.Giving.{rows-more, stands-next}
use Rattle.ga_numbers.proofs.Keeping.{row-there}
use Rattle.ga_numbers.proofs.assigning.assign_all.Goals as goal

abbrev nowhere : Place
nowhere = record { shard = 0; local = 0 }

at-itself : (order : List Place) (i : ℕ) → i < length order → get_or order i nowhere ≡ get_or order i (get_or order i nowhere)
at-itself order i within = sym (get_or_from_slice_get order i (get_or order i nowhere) (get_or order i nowhere) (slice_get-get_or order i nowhere within))

-- the row of one of the places stands where it stands now
stands : (shards : List (List ShardRow)) (local_maps : List (List (List ℕ))) (which : ℕ) (order : List Place) (i : ℕ) (q : Place) → i < length order → q ≡ merged_place local_maps which (get_or order i nowhere)
    → All (IsRowAt shards) (map (merged_place local_maps which) order) → StandsAt shards q (row_at shards (merged_place local_maps which (get_or order i nowhere)))
stands shards local_maps which order i q within remapped all =
    subst (λ (r : Place). StandsAt shards r (row_at shards (merged_place local_maps which (get_or order i nowhere)))) (sym remapped)
    (row-there shards (merged_place local_maps which (get_or order i nowhere)) (stands-next shards local_maps which order i (get_or order i nowhere) within (at-itself order i within) all))

pub assign-requires : goal.assign-requires
assign-requires c =
    omega (arith, ap (λ (q : Place). q.shard) c.remapped_place-now.ensures, c.requires c.loop-place.place-index nowhere c.loop-place-test.true, c.loop-place.invariant.many, c.args.numbers.now.ok.0, c.loop-place.numbers.ok.0)

pub returns-in_err-assign-clause-named : goal.returns-in_err-assign-clause-named
returns-in_err-assign-clause-named c = λ shards are named all.
    c.assign.ensures.named shards _ are (c.loop-place.invariant.named shards are named all)
    (stands shards _ c.args.which c.args.order.now c.loop-place.place-index c.remapped_place-now.result c.loop-place-test.true c.remapped_place-now.ensures all)

pub returns-in_err-push-clause-named : goal.returns-in_err-push-clause-named
returns-in_err-push-clause-named c = λ shards are named all.
    c.assign.ensures.named shards _ are (c.loop-place.invariant.named shards are named all)
    (stands shards _ c.args.which c.args.order.now c.loop-place.place-index c.remapped_place-now.result c.loop-place-test.true c.remapped_place-now.ensures all)

pub loop-place-preserved : goal.loop-place-preserved
loop-place-preserved c =
    let so_far = c.loop-place.invariant in
    let order = c.args.order.now in
    let i = c.loop-place.place-index in
    let p : Place = get_or order i nowhere in
    let local_maps : List (List (List ℕ)) = map (λ shard. map (λ v. v.items) shard.items) c.args.local_maps.now in
    let which = c.args.which in
    let places = c.loop-place.places.items in
    record {
      many = omega (arith, c.assign.ensures.many, so_far.many, c.assign.new.numbers.ok.0, c.loop-place.numbers.ok.0);
      named = λ shards are named all. c.assign.ensures.named shards _ are (so_far.named shards are named all)
          (stands shards local_maps which order i c.remapped_place-now.result c.loop-place-test.true c.remapped_place-now.ensures all);
      given = λ shards are named all.
          let one = c.in_ok-assign.ensures.ok shards (row_at shards (merged_place local_maps which p)) are (so_far.named shards are named all)
          (stands shards local_maps which order i c.remapped_place-now.result c.loop-place-test.true c.remapped_place-now.ensures all) in
          numbers-more is_same_row (rows_in shards (map (merged_place local_maps which) (take i order))) (rows_in shards c.args.places.now.items) (rows_in shards places) (row_at shards (merged_place local_maps which p)) c.loop-place.given.items
          c.push.new.self.items c.in_ok-assign.field-0 (so_far.given shards are named all) (so_far.noted shards are named all) one.place c.in_ok-push.ensures.items
          ∙ ap (places_of is_same_row (rows_in shards c.args.places.now.items)) (sym (rows-more shards local_maps which order i p c.loop-place-test.true (at-itself order i c.loop-place-test.true)));
      noted = λ shards are named all.
          let one = c.in_ok-assign.ensures.ok shards (row_at shards (merged_place local_maps which p)) are (so_far.named shards are named all)
          (stands shards local_maps which order i c.remapped_place-now.result c.loop-place-test.true c.remapped_place-now.ensures all) in
          noted-more is_same_row (rows_in shards (map (merged_place local_maps which) (take i order))) (rows_in shards c.args.places.now.items) (rows_in shards places) (rows_in shards c.assign.new.places.items)
          (row_at shards (merged_place local_maps which p)) (so_far.noted shards are named all) one.items
          ∙ ap (all_noted is_same_row (rows_in shards c.args.places.now.items)) (sym (rows-more shards local_maps which order i p c.loop-place-test.true (at-itself order i c.loop-place-test.true)));
    }
