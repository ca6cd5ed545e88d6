use Rattle.std.proofs.Common.{◌≡◌, ◌∙◌, ◌++◌, ◌∷◌, [], map, ap, sym}
use Rattle.std.proofs.lemmas.List.{map_push}
use Rattle.ga_numbers.specs.NotedNumbers.{places_of}
use Rattle.ga_numbers.specs.Steps.ShardRows.{is_same_row, remapped_by}
use Rattle.ga_numbers.specs.declared.shard_row.ShardRow.{ShardRow}
use Rattle.ga_numbers.proofs.AllNoted.{noted-more, numbers-more}
use Rattle.ga_shards.specs.Steps.{all_noted}
use Rattle.ga_numbers.proofs.shard_merge.note_rows.Goals as goal

pub loop-row-preserved : goal.loop-row-preserved
loop-row-preserved c =
    let so_far = c.loop-row.invariant in
    let known = c.args.known.now in
    let prefixes = c.args.prefixes.now in
    let before = map (remapped_by prefixes) c.loop-row.yielded in
    let row = c.remap_row.result in
    let more : map (remapped_by prefixes) (c.loop-row.yielded ++ c.in-Some.row ∷ []) ≡ before ++ row ∷ [] =
    map_push (remapped_by prefixes) c.loop-row.yielded c.in-Some.row ∙ ap (λ (r : ShardRow). before ++ r ∷ []) (sym c.remap_row.ensures) in
    record {
      local_maps =
          numbers-more is_same_row before known c.loop-row.known row c.loop-row.local_maps.items c.push.new.self.items c.in_ok-note.field-0 so_far.local_maps so_far.noted c.in_ok-note.ensures.value c.in_ok-push.ensures.items
          ∙ ap (places_of is_same_row known) (sym more);
      noted = noted-more is_same_row before known c.loop-row.known c.note.new.items row so_far.noted c.in_ok-note.ensures.noted ∙ ap (all_noted is_same_row known) (sym more);
    }
