use Rattle.std.proofs.Common.{refl, ap, length, arith, Box, Global}
use Rattle.std.specs.Vec.Iter.{into_iter_items}
use Rattle.std.proofs.lemmas.List.Elements.{All-tail}
use Rattle.ga_summary.specs.declared.entry.Entry.{Entry}
use Rattle.ga_base.specs.Orders.{key_cmp}
use Rattle.ga_summary.specs.SummaryRows.{SummaryRow}
use Rattle.ga_summary.specs.Steps.Entries.{IsClosed, row_of}
use Rattle.ga_summary.specs.Steps.Joined.{joined}
use Rattle.ga_summary.proofs.Put.{rises_put, rises_head, rises_tail}
use Rattle.ga_base.proofs.OrderLemmas.{key_cmp_total}
use Rattle.ga_summary.proofs.Closing.{closed_from_open, open_placed, open_to_none}
use Rattle.ga_summary.proofs.Placing.{places_left}
use Rattle.ga_summary.proofs.entries.place_each.Goals as goal

pub loop-entry-preserved : goal.loop-entry-preserved
loop-entry-preserved c =
    let invariant = c.loop-entry.invariant in
    let is = c.in-Some.ensures.steps.0 in
    let rising_more = rw is at invariant.rising_more in
    let fits = rw is at invariant.fits in
    let closed_more = rw is at invariant.closed_more in
    let opened = rw is at invariant.opened in
    let rest = rw is at invariant.rest in
    let size = ap length is in
    record {
      can_next = tt;
      is_finite = tt;
      rising = rw (c.place.ensures.rows) (rises_put key_cmp key_cmp_total (λ (row : SummaryRow). row.key) joined (λ _ _. refl) (row_of c.in-Some.entry.value) _ invariant.rising);
      rising_more = rises_tail key_cmp (λ (row : SummaryRow). row.key) (row_of c.in-Some.entry.value) _ rising_more;
      room = omega (arith, size, c.place.ensures.len, c.place.ensures.capacity);
      closed_more = All-tail (λ (b : Box Entry Global). IsClosed b.value) _ _ closed_more;
      opened = open_placed _ _ c.in-Some.entry.value.key c.place.ensures.others c.in-Some.entry _ refl c.place.ensures.closed opened;
      fits = places_left _ _ c.in-Some.entry.value.key c.place.ensures.others _ (rises_head key_cmp (λ (row : SummaryRow). row.key) (row_of c.in-Some.entry.value) _ rising_more) fits.1;
      rest = rw (c.place.ensures.rows) rest;
    }

pub returns-clause-closed : goal.returns-clause-closed
returns-clause-closed c = closed_from_open c.loop-entry.entries.items c.loop-entry.invariant.rising (open_to_none _ (into_iter_items c.loop-entry.entry-iterator) _ c.loop-entry.entry-iterator.rest.ok.0 c.in-None.ensures.steps.0 c.loop-entry.invariant.opened)
