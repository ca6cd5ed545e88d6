use Rattle.std.proofs.Common.{◌≡◌, ◌∷◌, ◌++◌, [], List, ap, sym, ◌∙◌, map, append-nil, append_assoc, arith}
use Rattle.std.proofs.lemmas.List.{map_push}
use Rattle.ga_tallies.specs.Steps.Absorbing.{counts_in, counts_seen}
use Rattle.ga_tallies.specs.Tallies.{TallySeen}
use Rattle.ga_tallies.specs.declared.tally_columns.Counts.{Counts}
use Rattle.ga_numbers.proofs.InTurn.{no-lists}
use Rattle.ga_tallies.proofs.tally_columns.into_columns.Goals as goal

pub loop-tally-preserved : goal.loop-tally-preserved
loop-tally-preserved c =
    let so_far = c.loop-tally.invariant in
    let front = c.loop-tally.yielded in
    let tally = c.in-Some.tally in
    let parts = c.into_parts-parts.ensures in
    let keys : c.into_parts-parts.result.keys ≡ tally.keys = ap (λ (t : TallySeen). t.keys) parts in
    let visitors : c.into_parts-parts.result.visitors ≡ tally.visitors = ap (λ (t : TallySeen). t.visitors) parts in
    let counts : Counts = record { sums = c.into_parts-parts.result.sums; visits = c.into_parts-parts.result.visits } in
    record {
      rest = append_assoc front (tally ∷ []) _ ∙ ap (λ (l : List TallySeen). front ++ l) (sym c.in-Some.ensures.steps.0) ∙ so_far.rest;
      keys = c.in_ok-push.ensures.items ∙ (λ i. so_far.keys i ++ keys i ∷ []) ∙ sym (map_push (λ (t : TallySeen). t.keys) front tally);
      visitors = c.in_ok-push-2.ensures.items ∙ (λ i. so_far.visitors i ++ visitors i ∷ []) ∙ sym (map_push (λ (t : TallySeen). t.visitors) front tally);
      counts =
          ap (λ (l : List Counts). map counts_in l) c.in_ok-push-3.ensures.items ∙ map_push counts_in c.loop-tally.apart.counts.items counts
          ∙ (λ i. so_far.counts i ++ counts_seen (parts i) ∷ []) ∙ sym (map_push counts_seen front tally);
    }

pub returns : goal.returns
returns c =
    let so_far = c.loop-tally.invariant in
    let rest = c.loop-tally.tally-iterator.rest in
    let none = no-lists rest.items (omega (arith, c.in-None.ensures.steps.0, rest.ok)) in
    let all : c.loop-tally.yielded ≡ c.args.tallies.items = sym (append-nil _) ∙ ap (λ (l : List TallySeen). c.loop-tally.yielded ++ l) (sym none) ∙ so_far.rest in
    record {
      keys = so_far.keys ∙ ap (map (λ (t : TallySeen). t.keys)) all;
      visitors = so_far.visitors ∙ ap (map (λ (t : TallySeen). t.visitors)) all;
      counts = so_far.counts ∙ ap (map counts_seen) all;
    }
