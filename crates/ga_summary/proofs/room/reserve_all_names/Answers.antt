use Rattle.std.proofs.Common.{refl, sym, ap, ◌∙◌, Box, Global, get_or, subst, arith}
use Rattle.ga_summary.specs.declared.entry.Entry.{Entry}
use Rattle.ga_summary.specs.Steps.Room.{HasRoom}
use Rattle.ga_summary.proofs.Closing.{one_more, open_among, open_from_closed}
use Rattle.ga_summary.proofs.room.reserve_all_names.Goals as goal

pub loop-entry-init : goal.loop-entry-init
loop-entry-init c = record {
  rows = refl;
  len = refl;
  capacity = refl;
  opened = open_from_closed c.args.entries.now.items c.args.more.now c.requires.closed;
  names = λ i d lt. absurd (omega arith);
}

pub loop-entry-preserved : goal.loop-entry-preserved
loop-entry-preserved c =
    let inv = c.loop-entry.invariant in
    let now = c.reserve_names.ensures in
    record {
      rows = now.rows ∙ inv.rows;
      len = now.len ∙ inv.len;
      capacity = now.capacity ∙ inv.capacity;
      opened = open_among c.loop-entry.entries.items c.reserve_names.new.entries.items c.deref.result.now.key now.others c.args.more.now c.loop-entry.entry-index c.entry-item.result c.loop-entry-test.true c.entry-item.is (sym (ap (λ (e : Entry). e.key) c.deref.ensures)) inv.opened;
      names = one_more (λ (b : Box Entry Global). HasRoom c.reserve_names.new.entries.items b.value) c.args.more.now c.loop-entry.entry-index c.entry-item.result c.loop-entry-test.true c.entry-item.is
          (subst (λ (e : Entry). HasRoom c.reserve_names.new.entries.items e) c.deref.ensures c.in_ok-reserve_names.ensures.ok)
          (λ j d less. c.in_ok-reserve_names.ensures.kept (get_or c.args.more.now j d).value (inv.names j d less));
    }
