use Rattle.std.proofs.Common.{◌≡◌, ◌∷◌, List, Box, Global, subst, sym, ◌∙◌, Less, Equal, Greater, arith}
use Rattle.std.specs.Vec.Iter.{into_iter_items}
use Rattle.std.proofs.lemmas.List.Elements.{All-head, All-push, All-tail}
use Rattle.ga_summary.specs.declared.entry.Entry.{Entry}
use Rattle.ga_summary.specs.Steps.Room.{AllHavePlace}
use Rattle.ga_summary.specs.Steps.Entries.{IsClosed, row_of}
use Rattle.ga_base.specs.Orders.{key_cmp}
use Rattle.ga_summary.specs.SummaryRows.{SummaryRow}
use Rattle.ga_summary.proofs.NamePass.{ended}
use Rattle.ga_summary.proofs.Put.{Some≢None, rises_tail}
use Rattle.ga_summary.proofs.Closing.{first_closed, less_closed, open_equal, open_greater, open_rest}
use Rattle.ga_summary.proofs.RowPass.{row_less, fits_less, row_equal, fits_equal, row_greater, first_takes, row_left, row_right}
use Rattle.ga_summary.proofs.one_pass.merge_entries.Goals as goal

pub entries-preserved-in-Less : goal.entries-preserved-in-Less
entries-preserved-in-Less c =
    let inv = rw (c.in-Some-Some.is-0, c.in-Some-Some.is-1) at c.entries.invariant in
    let next = c.next-next_left-in-Less in
    let pushed = c.push_within.ensures in
    let a = c.in-Some-Some.a in
    let b = c.in-Some-Some.b in
    let less : key_cmp a.value.key b.value.key ≡ Less = rw (← c.deref.ensures, ← c.deref-in-Some-Some.ensures) (sym c.compare_keys.ensures ∙ c.in-Less.is) in
    record {
      rising_left = rw (← next.ensures.items) (rises_tail key_cmp (λ (row : SummaryRow). row.key) (row_of a.value) _ inv.rising_left);
      rising_right = inv.rising_right;
      ended_left = ended next.result _ _ _ _ next.new.self.rest.ok.0 next.ensures.cases;
      ended_right = tt;
      room = rw (← next.ensures.items) (omega (arith, inv.room, pushed.len, pushed.capacity));
      closed = rw pushed.items (All-push (λ (e : Box Entry Global). IsClosed e.value) c.entries.out.items a inv.closed (less_closed a b (into_iter_items c.entries.left) (into_iter_items c.entries.right) inv.opened inv.rising_right less));
      closed_right = inv.closed_right;
      opened = rw (← next.ensures.items) (open_rest a (into_iter_items c.entries.left) inv.rising_left (b ∷ into_iter_items c.entries.right) inv.opened);
      fits = subst (λ (ls : List (Box Entry Global)). AllHavePlace ls (b ∷ into_iter_items c.entries.right)) next.ensures.items (fits_less c.entries.out.items _ a b _ _ inv.rising_right inv.rest inv.fits less);
      rest = rw (← next.ensures.items, pushed.items) (row_less c.entries.out.items _ a b _ _ inv.rising_right inv.rest less);
    }

pub joined_entry-requires : goal.joined_entry-requires
joined_entry-requires c =
    let fits = rw (c.in-Some-Some.is-0, c.in-Some-Some.is-1) at c.entries.invariant.fits in
    let a = c.in-Some-Some.a in
    let b = c.in-Some-Some.b in
    let equal : key_cmp a.value.key b.value.key ≡ Equal = rw (← c.deref.ensures, ← c.deref-in-Some-Some.ensures) (sym c.compare_keys.ensures ∙ c.in-Equal.is) in
    first_takes a b _ equal fits.0

pub entries-preserved-in-Equal : goal.entries-preserved-in-Equal
entries-preserved-in-Equal c =
    let inv = rw (c.in-Some-Some.is-0, c.in-Some-Some.is-1) at c.entries.invariant in
    let left = c.next-next_left-in-Equal in
    let right = c.next-next_right-in-Equal in
    let pushed = c.push_within-in-Equal.ensures in
    let a = c.in-Some-Some.a in
    let b = c.in-Some-Some.b in
    let equal : key_cmp a.value.key b.value.key ≡ Equal = rw (← c.deref.ensures, ← c.deref-in-Some-Some.ensures) (sym c.compare_keys.ensures ∙ c.in-Equal.is) in
    record {
      rising_left = rw (← left.ensures.items) (rises_tail key_cmp (λ (row : SummaryRow). row.key) (row_of a.value) _ inv.rising_left);
      rising_right = rw (← right.ensures.items) (rises_tail key_cmp (λ (row : SummaryRow). row.key) (row_of b.value) _ inv.rising_right);
      ended_left = ended left.result _ _ _ _ left.new.self.rest.ok.0 left.ensures.cases;
      ended_right = ended right.result _ _ _ _ right.new.self.rest.ok.0 right.ensures.cases;
      room = rw (← left.ensures.items, ← right.ensures.items) (omega (arith, inv.room, pushed.len, pushed.capacity));
      closed = rw pushed.items (All-push (λ (e : Box Entry Global). IsClosed e.value) c.entries.out.items c.joined_entry.result inv.closed c.joined_entry.ensures.closed);
      closed_right = rw (← right.ensures.items) (All-tail (λ (e : Box Entry Global). IsClosed e.value) b _ inv.closed_right);
      opened = rw (← left.ensures.items, ← right.ensures.items) (open_equal a b (into_iter_items c.entries.left) (into_iter_items c.entries.right) inv.opened inv.rising_left equal);
      fits = rw (← left.ensures.items, ← right.ensures.items) (fits_equal c.entries.out.items _ a b _ _ inv.rising_right inv.rest inv.fits equal);
      rest = rw (← left.ensures.items, ← right.ensures.items, pushed.items) (row_equal c.entries.out.items _ a b _ _ inv.rising_right inv.rest c.joined_entry.result c.joined_entry.ensures.row equal);
    }

pub entries-preserved-in-Greater : goal.entries-preserved-in-Greater
entries-preserved-in-Greater c =
    let inv = rw (c.in-Some-Some.is-0, c.in-Some-Some.is-1) at c.entries.invariant in
    let next = c.next-next_right-in-Greater in
    let pushed = c.push_within-in-Greater.ensures in
    let a = c.in-Some-Some.a in
    let b = c.in-Some-Some.b in
    let greater : key_cmp a.value.key b.value.key ≡ Greater = rw (← c.deref.ensures, ← c.deref-in-Some-Some.ensures) (sym c.compare_keys.ensures ∙ c.in-Greater.is) in
    record {
      rising_left = inv.rising_left;
      rising_right = rw (← next.ensures.items) (rises_tail key_cmp (λ (row : SummaryRow). row.key) (row_of b.value) _ inv.rising_right);
      ended_left = tt;
      ended_right = ended next.result _ _ _ _ next.new.self.rest.ok.0 next.ensures.cases;
      room = rw (← next.ensures.items) (omega (arith, inv.room, pushed.len, pushed.capacity));
      closed = rw pushed.items (All-push (λ (e : Box Entry Global). IsClosed e.value) c.entries.out.items b inv.closed (All-head (λ (e : Box Entry Global). IsClosed e.value) b _ inv.closed_right));
      closed_right = rw (← next.ensures.items) (All-tail (λ (e : Box Entry Global). IsClosed e.value) b _ inv.closed_right);
      opened = rw (← next.ensures.items) (open_greater a b (into_iter_items c.entries.left) (into_iter_items c.entries.right) inv.opened inv.rising_left greater);
      fits = rw (← next.ensures.items) inv.fits.1;
      rest = rw (← next.ensures.items, pushed.items) (row_greater c.entries.out.items _ a b _ _ inv.rising_right inv.rest greater);
    }

pub entries-preserved-in-Some-None : goal.entries-preserved-in-Some-None
entries-preserved-in-Some-None c =
    let inv = rw (c.in-Some-None.is-0, c.in-Some-None.is-1) at c.entries.invariant in
    let next = c.next-next_left-in-Some-None in
    let pushed = c.push_within-in-Some-None.ensures in
    let none = inv.ended_right in
    record {
      rising_left = rw (← next.ensures.items) (rises_tail key_cmp (λ (row : SummaryRow). row.key) (row_of c.in-Some-None.a.value) _ inv.rising_left);
      rising_right = inv.rising_right;
      ended_left = ended next.result _ _ _ _ next.new.self.rest.ok.0 next.ensures.cases;
      ended_right = none;
      room = rw (← next.ensures.items) (omega (arith, inv.room, pushed.len, pushed.capacity));
      closed = rw pushed.items (All-push (λ (e : Box Entry Global). IsClosed e.value) c.entries.out.items c.in-Some-None.a inv.closed (first_closed c.in-Some-None.a (into_iter_items c.entries.left) (rw none at inv.opened)));
      closed_right = inv.closed_right;
      opened = rw (← next.ensures.items) (open_rest c.in-Some-None.a (into_iter_items c.entries.left) inv.rising_left (into_iter_items c.entries.right) inv.opened);
      fits = rw none tt;
      rest = rw (← next.ensures.items, pushed.items, none) (row_left c.entries.out.items _ c.in-Some-None.a _ (rw none at inv.rest));
    }

pub entries-preserved : goal.entries-preserved
entries-preserved c =
    let inv = rw (c.in-None-Some.is-0, c.in-None-Some.is-1) at c.entries.invariant in
    let next = c.next-next_right-in-None-Some in
    let pushed = c.push_within-in-None-Some.ensures in
    let none = inv.ended_left in
    record {
      rising_left = inv.rising_left;
      rising_right = rw (← next.ensures.items) (rises_tail key_cmp (λ (row : SummaryRow). row.key) (row_of c.in-None-Some.b.value) _ inv.rising_right);
      ended_left = none;
      ended_right = ended next.result _ _ _ _ next.new.self.rest.ok.0 next.ensures.cases;
      room = rw (← next.ensures.items) (omega (arith, inv.room, pushed.len, pushed.capacity));
      closed = rw pushed.items (All-push (λ (e : Box Entry Global). IsClosed e.value) c.entries.out.items c.in-None-Some.b inv.closed (All-head (λ (e : Box Entry Global). IsClosed e.value) c.in-None-Some.b _ inv.closed_right));
      closed_right = rw (← next.ensures.items) (All-tail (λ (e : Box Entry Global). IsClosed e.value) c.in-None-Some.b _ inv.closed_right);
      opened = rw none (λ key missing x found. absurd (Some≢None (sym found)));
      fits = rw (← next.ensures.items) inv.fits.1;
      rest = rw (← next.ensures.items, pushed.items, none) (row_right c.entries.out.items _ c.in-None-Some.b _ inv.rising_right (rw none at inv.rest));
    }
