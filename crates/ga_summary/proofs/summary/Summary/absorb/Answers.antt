use Rattle.std.proofs.Common.{◌≡◌, ap, ◌∙◌}
use Rattle.ga_summary.specs.Steps.Entries.{rows_of}
use Rattle.ga_summary.specs.SummaryRows.{SummaryValue}
use Rattle.ga_base.specs.Totals.{totals_plus}
use Rattle.ga_summary.specs.Steps.Joined.{put_rows}
use Rattle.ga_summary.proofs.Bounds.{rows_small, places_from_room}
use Rattle.ga_summary.proofs.Merging.{IsInOrder-put_rows}
use Rattle.ga_summary.proofs.Soundness.{IsSound-merged_value}
use Rattle.ga_summary.proofs.summary.Summary.absorb.Goals as goal

pub place_all-requires-clause-fits : goal.place_all-requires-clause-fits
place_all-requires-clause-fits c =
    let mine : SummaryValue = record { totals = c.self.inside.totals; rows = rows_of c.self.inside.entries.items } in
    let theirs : SummaryValue = record { totals = c.other.inside.totals; rows = rows_of c.other.inside.entries.items } in
    places_from_room c.reserve.new.entries.items
    (rw c.in_ok-room.ensures.rows c.self.invariant.0.ordered)
    (rw c.in_ok-room.ensures.rows (rows_small mine c.self.invariant.0.sound))
    c.other.inside.entries.items (rows_small theirs c.other.invariant.0.sound) c.other.invariant.0.ordered.names c.other.invariant.1 (rw (← c.deref.ensures.value) c.in_ok-room.ensures.names)

pub invariant_of-self-2 : goal.invariant_of-self-2
invariant_of-self-2 c =
    let mine : SummaryValue = record { totals = c.self.inside.totals; rows = rows_of c.self.inside.entries.items } in
    let theirs : SummaryValue = record { totals = c.other.inside.totals; rows = rows_of c.other.inside.entries.items } in
    let rows : rows_of c.place_all.new.entries.items ≡ put_rows theirs.rows mine.rows = c.place_all.ensures.rows ∙ ap (λ (r : _). put_rows theirs.rows r) c.in_ok-room.ensures.rows in
    let totals : c.args.totals ≡ totals_plus mine.totals theirs.totals = rw (ap (λ (v : SummaryValue). v.totals) c.self.view_is, ap (λ (v : SummaryValue). v.totals) c.other.view_is) c.requires.totals in (
      rw (rows, totals) (record {
        ordered = IsInOrder-put_rows mine.rows theirs.rows c.self.invariant.0.ordered c.other.invariant.0.ordered;
        sound = IsSound-merged_value mine theirs c.self.invariant.0.ordered c.other.invariant.0.ordered c.self.invariant.0.sound c.other.invariant.0.sound (rw (← totals) c.requires.fit);
      }),
      c.place_all.ensures.closed,
    )
