use Rattle.std.proofs.Common.{◌≡◌, ℕ, ◌++◌, ◌∷◌, [], List, Ok, map, sym, ap, ◌∙◌, subst, arith, append_assoc, append-nil, length-append}
use Rattle.std.specs.List.{All, flat_map}
use Rattle.std.specs.Vec.Iter.{into_iter_items}
use Rattle.std.proofs.lemmas.List.{map-append}
use Rattle.std.proofs.lemmas.Grind.{flat_map-append}
use Rattle.ga_draws.specs.Draws.{SeatSeen}
use Rattle.ga_workers.specs.declared.drawing.Drawn.{Drawn}
use Rattle.ga_workers.proofs.DrawnPieces.{all-mid}
use Rattle.ga_workers.proofs.drawing.join_seats.Goals as goal

pub loop-one-preserved : goal.loop-one-preserved
loop-one-preserved c =
    let before = c.loop-one.invariant in
    let seat = c.join.ensures.seat in
    let one = c.in-Some.one in
    let numbers : Drawn → List ℕ = λ (d : Drawn). d.seat.view.drawn in
    let rest : c.loop-one.yielded ++ one ∷ into_iter_items c.next.new.self ≡ c.args.drawn.items =
    ap (λ (l : List Drawn). c.loop-one.yielded ++ l) (sym c.in-Some.ensures.steps.0) ∙ before.rest in
    let is = (all-mid (λ (d : Drawn). (d.seat.table ≡ c.args.draws.now.table) × (d.seat.view.share ≡ 1)) c.loop-one.yielded _ one
    (subst (λ (l : List Drawn). All (λ (d : Drawn). (d.seat.table ≡ c.args.draws.now.table) × (d.seat.view.share ≡ 1)) l) (sym rest) c.requires.each)).0 in
    record {
      table = ap (λ (s : SeatSeen). s.table) seat ∙ before.table;
      share = omega (arith, ap (λ (s : SeatSeen). s.view.share) seat, before.share, is.1, length-append c.loop-one.yielded (one ∷ []));
      drawn =
          ap (λ (s : SeatSeen). s.view.drawn) seat ∙ ap (λ (l : List ℕ). l ++ one.seat.view.drawn) before.drawn
          ∙ sym (flat_map-append numbers c.loop-one.yielded (one ∷ []) ∙ ap (λ (l : List ℕ). flat_map numbers c.loop-one.yielded ++ l) (append-nil one.seat.view.drawn));
      all = c.join.ensures.all;
      tallies =
          map-append (λ (d : Drawn). d.tally) c.loop-one.yielded (one ∷ []) ∙ (λ i. before.tallies i ++ c.in-Ok.is i ∷ [])
          ∙ sym (map-append Ok c.loop-one.tallies.items (c.in-Ok.tally ∷ [])) ∙ ap (map Ok) (sym c.in_ok-push-in-Ok.ensures.items);
      rest = append_assoc c.loop-one.yielded (one ∷ []) _ ∙ rest;
    }
