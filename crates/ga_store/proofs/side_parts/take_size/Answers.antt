use Rattle.std.proofs.Common.{◌≡◌, ◌≤◌, [], ◌∷◌, ◌++◌, List, ℕ, length, get_or, take, ap, sym, ◌∙◌, subst, arith, length-append, length-take}
use Rattle.ga_codec.specs.Spelling.{eight_bytes}
use Rattle.ga_store.specs.SideParts.{IsPartAt}
use Rattle.ga_store.specs.Steps.Stream.{StreamView, Took}
use Rattle.ga_store.proofs.Streaming.{took-as, took-past, took-then}
use Rattle.ga_store.proofs.TakenParts.{digested-room, part-room, size-only, size-taken}
use Rattle.ga_store.proofs.side_parts.take_size.Goals as goal

pub returns-in_default : goal.returns-in_default
returns-in_default g c =
    let law = g.D.Disk.counts_now c.args.disk.now in
    let view0 = g.D.Disk.view c.args.disk.now in
    let images0 = g.D.Disk.images c.args.disk.now in
    let s0 = c.args.stream.now in
    let gate = subst (λ (v : StreamView). Took view0 view0 images0 images0 s0 v (take 1 s0.window)) (sym c.take.ensures) (took-past view0 images0 1 s0 c.requires.gate) in
    let next = c.in_ok-load.ensures.took in
    let loaded = took-as next.0 [] next.2.0 next.1 in
    let took = took-then law gate loaded in
    record {
      looks = next.1.looks;
      took = (
        take 1 s0.window ++ [],
        took,
        λ rest is body part. omega (
          arith,
          part-room ((take 1 s0.window ++ []) ++ rest) body part,
          length-append (take 1 s0.window ++ []) rest,
          length-append {A = ℕ} (take 1 s0.window) [],
          length-take 1 s0.window,
          is.size,
          next.2.1,
          c.in_default.ensures.cases,
          ap length c.window.ensures,
        ),
      );
      outside = tt;
    }

pub returns-then-from : goal.returns-then-from
returns-then-from g c =
    let law = g.D.Disk.counts_now c.args.disk.now in
    let view0 = g.D.Disk.view c.args.disk.now in
    let images0 = g.D.Disk.images c.args.disk.now in
    let s0 = c.args.stream.now in
    let gate = subst (λ (v : StreamView). Took view0 view0 images0 images0 s0 v (take 1 s0.window)) (sym c.take.ensures) (took-past view0 images0 1 s0 c.requires.gate) in
    let next = c.in_ok-load.ensures.took in
    let loaded = took-as next.0 [] next.2.0 next.1 in
    let s = c.load.new.self in
    let view = g.D.Disk.view c.load.new.disk in
    let images = g.D.Disk.images c.load.new.disk in
    let is : c.in-Some.front.now ≡ take 8 s.window = c.in-Some.ensures.cases.0 ∙ ap (λ (t : List ℕ). take 8 t) c.window.ensures in
    let room : 8 ≤ length s.window = omega (arith, c.in-Some.ensures.cases.2, ap length c.window.ensures) in
    let past = subst (λ (v : StreamView). Took view view images images s v (take 8 s.window)) (sym c.take-2.ensures) (took-past view images 8 s room) in
    let took = took-then law (took-then law gate loaded) past in
    let size = c.number-size.result in
    let front : List ℕ = take 8 s.window in
    let begins : (take 1 s0.window ++ []) ++ front ≡ get_or s0.window 0 0 ∷ eight_bytes size =
    size-taken s0.window front size c.requires.gate (c.number-size.ensures ∙ is) in
    record {
      looks = took.looks;
      took = (
        (take 1 s0.window ++ []) ++ front,
        took,
        λ rest at body part.
            let h = size-only (get_or s0.window 0 0) size rest body c.number-size.type_inv
            (subst (λ (t : List ℕ). IsPartAt (t ++ rest) 1 body) begins part) in
            omega (arith, digested-room rest body h.1, h.0, at.size, c.if-from.true, c.from.ensures, c.from-2.ensures, c.left.ensures),
      );
      outside = tt;
    }

pub returns : goal.returns
returns g c =
    let law = g.D.Disk.counts_now c.args.disk.now in
    let view0 = g.D.Disk.view c.args.disk.now in
    let images0 = g.D.Disk.images c.args.disk.now in
    let s0 = c.args.stream.now in
    let gate = subst (λ (v : StreamView). Took view0 view0 images0 images0 s0 v (take 1 s0.window)) (sym c.take.ensures) (took-past view0 images0 1 s0 c.requires.gate) in
    let next = c.in_ok-load.ensures.took in
    let loaded = took-as next.0 [] next.2.0 next.1 in
    let s = c.load.new.self in
    let view = g.D.Disk.view c.load.new.disk in
    let images = g.D.Disk.images c.load.new.disk in
    let is : c.in-Some.front.now ≡ take 8 s.window = c.in-Some.ensures.cases.0 ∙ ap (λ (t : List ℕ). take 8 t) c.window.ensures in
    let room : 8 ≤ length s.window = omega (arith, c.in-Some.ensures.cases.2, ap length c.window.ensures) in
    let past = subst (λ (v : StreamView). Took view view images images s v (take 8 s.window)) (sym c.take-2.ensures) (took-past view images 8 s room) in
    let took = took-then law (took-then law gate loaded) past in
    let size = c.number-size.result in
    let front : List ℕ = take 8 s.window in
    let begins : (take 1 s0.window ++ []) ++ front ≡ get_or s0.window 0 0 ∷ eight_bytes size =
    size-taken s0.window front size c.requires.gate (c.number-size.ensures ∙ is) in
    record {
      looks = took.looks;
      took = (
        (take 1 s0.window ++ []) ++ front,
        took,
        record {
          gate = get_or s0.window 0 0;
          is = begins;
          fits = c.number-size.type_inv;
          room = omega (arith, c.if-from.false, c.from.ensures, c.from-2.ensures, c.left.ensures);
        },
      );
      outside = tt;
    }
