use Rattle.std.proofs.Common.{◌≡◌, ◌∷◌, ◌++◌, ◌∙◌, [], List, ℕ, Vec, Global, ap, sym, subst, map}
use Rattle.std.proofs.lemmas.List.{map_push}
use Rattle.ga_numbers.specs.NotedNumbers.{AreNotedInTurn, places_of}
use Rattle.ga_numbers.proofs.InTurn.{turn-more}
use Rattle.ga_shards.specs.Steps.{all_noted}
use Rattle.ga_numbers.proofs.noting.note_each.Goals as goal

pub loop-items-preserved : goal.loop-items-preserved
loop-items-preserved g c =
    let eq = g.T.PartialEq.eq in
    let front = map (λ (n : Vec ℕ Global). n.items) c.loop-items.numbers.items in
    let places = c.in_ok-note_all.field-0.items in
    let pushed : map (λ (n : Vec ℕ Global). n.items) c.push.new.self.items ≡ front ++ places ∷ [] =
    ap (λ (l : List (Vec ℕ Global)). map (λ n. n.items) l) c.in_ok-push.ensures.items ∙ map_push (λ (n : Vec ℕ Global). n.items) c.loop-items.numbers.items c.in_ok-note_all.field-0 in
    subst (λ (l : List (List ℕ)). AreNotedInTurn eq (c.loop-items.yielded ++ c.in-Some.items ∷ []) l c.args.known.now c.note_all.new.known) (sym pushed)
    (turn-more eq c.loop-items.yielded c.in-Some.items front places c.args.known.now c.loop-items.known c.note_all.new.known c.loop-items.invariant (record {
      places = c.in_ok-note_all.ensures.numbers ∙ ap (places_of eq c.loop-items.known) c.in_ok-into_items.ensures;
      known = c.in_ok-note_all.ensures.noted ∙ ap (all_noted eq c.loop-items.known) c.in_ok-into_items.ensures;
    }))
