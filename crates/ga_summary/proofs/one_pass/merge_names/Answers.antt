use Rattle.std.proofs.Common.{sym, ◌∙◌, arith, append-nil}
use Rattle.ga_summary.proofs.NamePass.{step_less, step_equal, step_greater, step_left, step_right, tail_rises, ended}
use Rattle.ga_summary.proofs.one_pass.merge_names.Goals as goal

pub names-preserved-in-Less : goal.names-preserved-in-Less
names-preserved-in-Less c =
    let inv = rw (c.in-Some-Some.is-0, c.in-Some-Some.is-1) at c.names.invariant in
    let next = c.next-next_left-in-Less in
    record {
      rising_left = rw (← next.ensures.items) (tail_rises _ _ inv.rising_left);
      rising_right = inv.rising_right;
      ended_left = ended next.result _ _ _ _ (next.new.self.rest.ok.0) next.ensures.cases;
      ended_right = tt;
      room = rw (← next.ensures.items) (omega (arith, inv.room, c.push_within.ensures.len, c.push_within.ensures.capacity));
      rest = rw (← next.ensures.items, c.push_within.ensures.items) (step_less c.names.out.items _ _ _ c.in-Some-Some.a c.in-Some-Some.b inv.rising_right inv.rest (sym c.compare_names.ensures ∙ c.in-Less.is));
    }

pub names-preserved-in-Equal : goal.names-preserved-in-Equal
names-preserved-in-Equal c =
    let inv = rw (c.in-Some-Some.is-0, c.in-Some-Some.is-1) at c.names.invariant in
    let left = c.next-next_left-in-Equal in
    let right = c.next-next_right-in-Equal in
    let pushed = c.push_within-in-Equal.ensures in
    record {
      rising_left = rw (← left.ensures.items) (tail_rises _ _ inv.rising_left);
      rising_right = rw (← right.ensures.items) (tail_rises _ _ inv.rising_right);
      ended_left = ended left.result _ _ _ _ left.new.self.rest.ok.0 left.ensures.cases;
      ended_right = ended right.result _ _ _ _ right.new.self.rest.ok.0 right.ensures.cases;
      room = rw (← left.ensures.items, ← right.ensures.items) (omega (arith, inv.room, pushed.len, pushed.capacity));
      rest = rw (← left.ensures.items, ← right.ensures.items, pushed.items) (step_equal c.names.out.items _ _ _ c.in-Some-Some.a c.in-Some-Some.b inv.rising_right inv.rest (sym c.compare_names.ensures ∙ c.in-Equal.is));
    }

pub names-preserved-in-Greater : goal.names-preserved-in-Greater
names-preserved-in-Greater c =
    let inv = rw (c.in-Some-Some.is-0, c.in-Some-Some.is-1) at c.names.invariant in
    let next = c.next-next_right-in-Greater in
    let pushed = c.push_within-in-Greater.ensures in
    record {
      rising_left = inv.rising_left;
      rising_right = rw (← next.ensures.items) (tail_rises _ _ inv.rising_right);
      ended_left = tt;
      ended_right = ended next.result _ _ _ _ next.new.self.rest.ok.0 next.ensures.cases;
      room = rw (← next.ensures.items) (omega (arith, inv.room, pushed.len, pushed.capacity));
      rest = rw (← next.ensures.items, pushed.items) (step_greater c.names.out.items _ _ _ c.in-Some-Some.a c.in-Some-Some.b inv.rising_right inv.rest (sym c.compare_names.ensures ∙ c.in-Greater.is));
    }

pub names-preserved-in-Some-None : goal.names-preserved-in-Some-None
names-preserved-in-Some-None c =
    let inv = rw (c.in-Some-None.is-0, c.in-Some-None.is-1) at c.names.invariant in
    let next = c.next-next_left-in-Some-None in
    let pushed = c.push_within-in-Some-None.ensures in
    let none = inv.ended_right in
    record {
      rising_left = rw (← next.ensures.items) (tail_rises _ _ inv.rising_left);
      rising_right = inv.rising_right;
      ended_left = ended next.result _ _ _ _ next.new.self.rest.ok.0 next.ensures.cases;
      ended_right = none;
      room = rw (← next.ensures.items) (omega (arith, inv.room, pushed.len, pushed.capacity));
      rest = rw (← next.ensures.items, pushed.items, none) (step_left c.names.out.items _ _ c.in-Some-None.a (rw none at inv.rest));
    }

pub names-preserved : goal.names-preserved
names-preserved c =
    let inv = rw (c.in-None-Some.is-0, c.in-None-Some.is-1) at c.names.invariant in
    let next = c.next-next_right-in-None-Some in
    let pushed = c.push_within-in-None-Some.ensures in
    let none = inv.ended_left in
    record {
      rising_left = inv.rising_left;
      rising_right = rw (← next.ensures.items) (tail_rises _ _ inv.rising_right);
      ended_left = none;
      ended_right = ended next.result _ _ _ _ next.new.self.rest.ok.0 next.ensures.cases;
      room = rw (← next.ensures.items) (omega (arith, inv.room, pushed.len, pushed.capacity));
      rest = rw (← next.ensures.items, pushed.items, none) (step_right c.names.out.items _ _ c.in-None-Some.b inv.rising_right (rw none at inv.rest));
    }

pub returns-in-None-None : goal.returns-in-None-None
returns-in-None-None c =
    let inv = rw (c.in-None-None.is-0, c.in-None-None.is-1) at c.names.invariant in
    let none = rw (inv.ended_left, inv.ended_right) at inv.rest in
    sym (append-nil c.names.out.items) ∙ none
