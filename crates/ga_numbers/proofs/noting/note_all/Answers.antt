use Rattle.ga_numbers.proofs.AllNoted.{noted-more, numbers-more}
use Rattle.ga_numbers.proofs.noting.note_all.Goals as goal

pub loop-item-preserved : goal.loop-item-preserved
loop-item-preserved g c =
    let eq = g.T.PartialEq.eq in
    let so_far = c.loop-item.invariant in
    let items = c.loop-item.yielded in
    let old = c.args.known.now in
    record {
      numbers = numbers-more eq items old c.loop-item.known c.in-Some.item c.loop-item.numbers.items c.push.new.self.items c.in_ok-note.field-0 so_far.numbers so_far.noted c.in_ok-note.ensures.value c.in_ok-push.ensures.items;
      distinct = λ _. c.note.ensures.distinct;
      noted = noted-more eq items old c.loop-item.known c.note.new.items c.in-Some.item so_far.noted c.in_ok-note.ensures.noted;
    }
