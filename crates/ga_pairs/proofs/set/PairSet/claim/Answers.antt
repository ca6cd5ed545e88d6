use Rattle.std.proofs.Common.{◌≡◌, ◌≢◌, ℕ, ◌+◌, ◌<◌, ◌≤◌, ap, sym, subst, ◌∙◌, refl, arith}
use Rattle.ga_pairs.specs.Homes.{IsPair, word_of}
use Rattle.ga_pairs.specs.Pairs.{SetSeen, place_after}
use Rattle.ga_pairs.specs.Events.{IsFreeFor, cells_passed, passed_of}
use Rattle.ga_pairs.specs.declared.view.Claims.{Claims}
use Rattle.ga_pairs.proofs.Homes.{place-first, place-below, place-next, place-end}
use Rattle.ga_pairs.proofs.Steps.{Mine, try-told, rests-free}
use Rattle.ga_pairs.proofs.set.PairSet.claim.Goals as goal
use Rattle.ga_pairs.proofs.set.PairSet.claim.Goals.{then-at-self, else-at-self}

pub loop-passed-init : goal.loop-passed-init
loop-passed-init g c =
    let cells : c.self.inside.cells ≡ c.args.self.now.opening.cells = sym c.self.invariant.2 ∙ ap (λ (s : SetSeen). s.opening.cells) c.self.view_is in
    let more = c.self.invariant.3 in
    record {
      table = (refl, refl);
      slots = refl;
      claims = refl;
      free = rests-free c.args.seat.now.me.0.probe g.A.Asked.pair c.requires.resting;
      passed = ap cells_passed c.requires.resting;
      within = omega arith;
      place = place-first c.args.self.now.opening.cells c.self.inside.cells c.home-at.result c.word-word.result g.A.Asked.pair c.args.pair more cells c.home-at.ensures c.word-word.ensures c.requires.named.0;
      steps = omega arith;
    }

pub compare_exchange-found-requires : goal.compare_exchange-found-requires
compare_exchange-found-requires g c =
    let i = c.loop-passed.invariant in
    let cells : c.self.inside.cells ≡ c.args.self.now.opening.cells = sym c.self.invariant.2 ∙ ap (λ (s : SetSeen). s.opening.cells) c.self.view_is in
    let told : c.self.inside.table.shared.key.cells ≡ g.A.Asked.cells = ap (λ (s : SetSeen). s.opening.cells) c.self.view_is ∙ sym c.requires.named.1 in
    let word : word_of g.A.Asked.pair ≡ c.word-word.result = ap word_of c.requires.named.0 ∙ sym c.word-word.ensures in
    let allowance : 1 ≤ c.loop-passed.seat.me.0.claims.allowance = subst (λ (d : Claims). 1 ≤ d.allowance) (sym i.claims) c.requires.allowance in
    let place : c.loop-passed.at ≡ place_after g.A.Asked.cells g.A.Asked.pair (passed_of c.loop-passed.seat.me.0) =
    i.place ∙ (ap (λ (n : ℕ). place_after n g.A.Asked.pair c.loop-passed._passed) (sym c.requires.named.1) ∙ ap (λ (k : ℕ). place_after g.A.Asked.cells g.A.Asked.pair k) (sym i.passed)) in
    let below = place-below c.args.self.now.opening.cells c.self.inside.cells c.loop-passed.at c.loop-passed._passed g.A.Asked.pair cells i.within i.place in (
      i.table.0 ∙ (c.requires.table ∙ sym (ap (λ (s : SetSeen). s.table) c.self.view_is)),
      omega (arith, c.self.invariant.0, below),
      try-told c.self.inside.table.shared.key _ _ c.loop-passed.at g.A.Asked.cells c.word-word.result g.A.Asked.pair c.loop-passed.seat.me told word
          (subst IsPair (sym c.requires.named.0) c.requires.numbers) i.free allowance place,
    )

pub loop-passed-preserved : goal.loop-passed-preserved
loop-passed-preserved g c =
    let i = c.loop-passed.invariant in
    let cells : c.self.inside.cells ≡ c.args.self.now.opening.cells = sym c.self.invariant.2 ∙ ap (λ (s : SetSeen). s.opening.cells) c.self.view_is in
    let said = c.compare_exchange-found.ensures in
    let not-word : c.compare_exchange-found.result ≢ word_of g.A.Asked.pair = λ e. c.if-found-word.false (e ∙ (ap word_of c.requires.named.0 ∙ sym c.word-word.ensures)) in
    let moved = said.2.another c.if-found-eq0.false not-word in
    let further : passed_of c.loop-passed.seat.me.0 + 1 < g.A.Asked.cells = moved.1 in
    let passed : passed_of c.loop-passed.seat.me.0 ≡ c.loop-passed._passed = i.passed in
    let told : g.A.Asked.cells ≡ c.args.self.now.opening.cells = c.requires.named.1 in
    let within : c.loop-passed._passed + 1 < c.args.self.now.opening.cells = omega arith in
    record {
      table = (said.0 ∙ i.table.0, said.1 ∙ i.table.1);
      slots = ap (λ (m : Mine). m.1) moved.0 ∙ i.slots;
      claims = ap (λ (m : Mine). m.0.claims) moved.0 ∙ i.claims;
      free = subst (λ (m : Mine). IsFreeFor m.0 g.A.Asked.pair) (sym moved.0) refl;
      passed = ap (λ (m : Mine). passed_of m.0) moved.0 ∙ ap (λ (n : ℕ). n + 1) passed;
      within = within;
      place = elim c.if-at-self.branch [
        | then-at-self w ↦ w.at-is ∙ place-end c.args.self.now.opening.cells c.self.inside.cells c.loop-passed.at c.loop-passed._passed g.A.Asked.pair cells within i.place w.if-at-self.true
        | else-at-self w ↦ w.at-is ∙ place-next c.args.self.now.opening.cells c.self.inside.cells c.loop-passed.at c.loop-passed._passed g.A.Asked.pair cells within i.place w.if-at-self.false
      ];
      steps = (let tick = c.tick.ensures in let was = i.steps in omega arith);
    }
