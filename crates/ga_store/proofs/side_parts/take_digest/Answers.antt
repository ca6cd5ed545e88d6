use Rattle.std.proofs.Common.{◌≡◌, ◌≤◌, [], List, ℕ, length, take, ap, sym, ◌∙◌, subst, arith, length-take}
use Rattle.ga_store.specs.Steps.Stream.{StreamView, Took}
use Rattle.ga_store.proofs.Streaming.{took-as, took-past, took-then}
use Rattle.ga_store.proofs.side_parts.take_digest.Goals as goal

pub returns : goal.returns
returns g c =
    let law = g.D.Disk.counts_now c.args.disk.now in
    let next = c.in_ok-load.ensures.took in
    let loaded = took-as next.0 [] next.2.0 next.1 in
    let s = c.load.new.self in
    let view = g.D.Disk.view c.load.new.disk in
    let images = g.D.Disk.images c.load.new.disk in
    let room : 32 ≤ length s.window = omega (arith, next.2.1, loaded.off.long, c.requires.room) in
    let past = subst (λ (v : StreamView). Took view view images images s v (take 32 s.window)) (sym c.take.ensures) (took-past view images 32 s room) in
    let is : c.in-Some.digest.now ≡ take 32 s.window = c.in-Some.ensures.cases.0 ∙ ap (λ (t : List ℕ). take 32 t) c.window.ensures in
    record {
      looks = next.1.looks;
      took = (take 32 s.window, took-then law loaded past, record { long = omega (arith, room, length-take 32 s.window); says = λ message holds. rw (sym is) (c.is_digest-is_same.ensures message holds) });
      outside = tt;
    }
