use Rattle.ga_line.specs.Steps.Forwarding.{here, further}
use Rattle.ga_line.proofs.ChainLemmas.{next-shorter}
use Rattle.ga_line.proofs.forwarded.after_chain.Goals as goal

pub loop-next-init : goal.loop-next-init
loop-next-init c = record { ended = c.requires; goes = λ end reaches. reaches }

pub after_next-requires : goal.after_next-requires
after_next-requires c = c.loop-next.invariant.ended

pub loop-next-smaller : goal.loop-next-smaller
loop-next-smaller c = next-shorter c.args.separators.now c.loop-next.after.now c.in-Some.next.now c.in-Some.ensures.found

pub loop-next-preserved : goal.loop-next-preserved
loop-next-preserved c = record {
  ended = c.in-Some.ensures.found.begins.ended;
  goes = λ end reaches. c.loop-next.invariant.goes end (further c.in-Some.ensures.found reaches);
}

pub returns : goal.returns
returns c = record {
  reached = c.loop-next.invariant.goes c.loop-next.after.now here;
  ended = c.loop-next.invariant.ended;
  last = c.in_default.ensures.none;
}
