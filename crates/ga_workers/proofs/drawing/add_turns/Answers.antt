use Rattle.std.proofs.Common.{◌≡◌, ℕ, suc, ◌+◌, ◌-◌, ◌*◌, ◌++◌, ◌<◌, List, length, map, [], ◌∷◌, sym, ap, ◌∙◌, subst, arith, append_assoc, length-append}
use Rattle.std.specs.List.{All}
use Rattle.std.specs.Vec.Iter.{into_iter_items}
use Rattle.std.proofs.Math.Nat.{suc-mul}
use Rattle.std.proofs.lemmas.List.{map-append}
use Rattle.std.proofs.lemmas.List.Elements.{All-push}
use Rattle.ga_draws.specs.Draws.{SeatSeen, given, left}
use Rattle.ga_draws.specs.declared.view.DrawView.{DrawView}
use Rattle.ga_workers.specs.declared.drawing.Turn.{Turn}
use Rattle.ga_tallies.specs.Tallies.{TallySeen}
use Rattle.ga_workers.proofs.drawing.add_turns.Goals as goal

-- one worker's share less
one-less : (jobs worker most : ℕ) → worker < jobs → (jobs - worker) * most - most ≡ (jobs - (worker + 1)) * most
one-less jobs worker most lt =
    let e : jobs - worker ≡ suc (jobs - (worker + 1)) = omega arith in
    omega (arith, ap (λ (n : ℕ). n * most) e, suc-mul (jobs - (worker + 1)) most)

left-given : (jobs worker most : ℕ) → worker < jobs → left (given (jobs + 1 - worker) ((jobs - worker) * most)) 1 most ≡ given (jobs + 1 - (worker + 1)) ((jobs - (worker + 1)) * most)
left-given jobs worker most lt =
    let share : jobs + 1 - worker - 1 ≡ jobs + 1 - (worker + 1) = omega arith in
    let rest = one-less jobs worker most lt in
    λ i. given (share i) (rest i)

pub loop-tally-preserved : goal.loop-tally-preserved
loop-tally-preserved c =
    let before = c.loop-tally.invariant in
    let seat = c.split-seat.ensures.seat in
    let new = c.split-seat.ensures.new in
    let pushed = c.in_ok-push.ensures.items in
    let one = c.in-Some.tally in
    let n = length c.loop-tally.yielded in
    let all = length c.args.tallies.items in
    let rest : c.loop-tally.yielded ++ one ∷ into_iter_items c.next.new.self ≡ c.args.tallies.items =
    ap (λ (l : List TallySeen). c.loop-tally.yielded ++ l) (sym c.in-Some.ensures.steps.0) ∙ before.rest in
    let lt : n < all = omega (arith, ap length rest, length-append c.loop-tally.yielded (one ∷ into_iter_items c.next.new.self)) in
    let more : n + 1 ≡ length (c.loop-tally.yielded ++ one ∷ []) = sym (length-append c.loop-tally.yielded (one ∷ [])) in
    let turn : Turn = record { worker = c.len-worker.result; seat = c.split-seat.result; tally = one } in
    record {
      table = ap (λ (s : SeatSeen). s.table) seat ∙ before.table;
      view =
          ap (λ (s : SeatSeen). s.view) seat ∙ ap (λ (v : DrawView). left v 1 c.args.most) before.view ∙ left-given all n c.args.most lt
          ∙ ap (λ (k : ℕ). given (all + 1 - k) ((all - k) * c.args.most)) more;
      tallies =
          ap (map (λ (t : Turn). t.tally)) pushed ∙ map-append (λ (t : Turn). t.tally) c.loop-tally.turns.items (turn ∷ [])
          ∙ ap (λ (l : List TallySeen). l ++ one ∷ []) before.tallies;
      rest = append_assoc c.loop-tally.yielded (one ∷ []) _ ∙ rest;
      each =
          subst (All (λ (turn : Turn). (turn.seat.table ≡ c.args.draws.now.table) × (turn.seat.view ≡ given 1 c.args.most))) (sym pushed)
          (All-push (λ (turn : Turn). (turn.seat.table ≡ c.args.draws.now.table) × (turn.seat.view ≡ given 1 c.args.most)) c.loop-tally.turns.items turn before.each
          (ap (λ (s : SeatSeen). s.table) new ∙ before.table, ap (λ (s : SeatSeen). s.view) new));
    }
