use Rattle.std.proofs.Common.{◌≡◌, ◌∷◌, ◌++◌, [], List, ap, sym, subst, ◌∙◌, map, append-nil, append_assoc, refl, arith}
use Rattle.std.proofs.lemmas.List.{map-append, map_push}
use Rattle.std.specs.Vec.Iter.{into_iter_items}
use Rattle.ga_tallies.specs.Steps.Absorbing.{AddsSuch, IsBrought, IsRemapped, RemappedSeen, remapped_seen, rows_added, sums_remapped}
use Rattle.ga_tallies.specs.declared.remapped_tally.RemappedTally.{RemappedTally}
use Rattle.ga_tallies.proofs.AddedVisits.{adds-both, adds-none}
use Rattle.ga_numbers.proofs.InTurn.{no-lists}
use Rattle.ga_tallies.proofs.Remapped.{remapped-before, remapped-cases, remapped-there, sums-behind}
use Rattle.ga_tallies.proofs.absorbing.add_remapped.Goals as goal

pub loop-remapped-init : goal.loop-remapped-init
loop-remapped-init g c = record { rest = c.into_iter-remapped-iterator.ensures.into_iter_gives.0; sums = refl; pairs = adds-none (IsRemapped []) c.args.pairs (λ p is. absurd is) }

pub add_next-requires : goal.add_next-requires
add_next-requires g c =
    let front = c.loop-remapped.yielded in
    let remapped = c.in-Some.remapped in
    let rest = into_iter_items c.next.new.self in
    let all : map remapped_seen front ++ remapped_seen remapped ∷ map remapped_seen rest ≡ map remapped_seen c.args.remapped_tallies.items =
    sym (map-append remapped_seen front (remapped ∷ rest)) ∙ ap (λ (l : List RemappedTally). map remapped_seen (front ++ l)) (sym c.in-Some.ensures.steps.0) ∙ ap (map remapped_seen) c.loop-remapped.invariant.rest in
    (c.type_bounds.sync-R, λ p is. c.requires p (subst (λ (l : List RemappedSeen). IsRemapped l p) all (remapped-there (remapped_seen remapped) p (map remapped_seen front) (map remapped_seen rest) is)))

pub loop-remapped-preserved : goal.loop-remapped-preserved
loop-remapped-preserved g c =
    let so_far = c.loop-remapped.invariant in
    let front = c.loop-remapped.yielded in
    let remapped = c.in-Some.remapped in
    let one = remapped_seen remapped in
    let before = map remapped_seen front in
    let sums = c.args.sums.items in
    let more : map remapped_seen (front ++ remapped ∷ []) ≡ before ++ one ∷ [] = map_push remapped_seen front remapped in
    let added : c.in_ok-sums.field-0-0.items ≡ sums_remapped (before ++ one ∷ []) sums =
    c.in_ok-sums.ensures.sums ∙ ap (rows_added one.keys one.counts.sums) so_far.sums ∙ sym (sums-behind before one sums) in
    record {
      rest = append_assoc front (remapped ∷ []) _ ∙ ap (λ (l : List RemappedTally). front ++ l) (sym c.in-Some.ensures.steps.0) ∙ so_far.rest;
      sums = added ∙ ap (λ (l : List RemappedSeen). sums_remapped l sums) (sym more);
      pairs =
          subst (λ (l : List RemappedSeen). AddsSuch (IsRemapped l) c.args.pairs c.in_ok-sums.field-0-1) (sym more)
          (adds-both (IsRemapped before) (IsBrought one) (IsRemapped (before ++ one ∷ [])) c.args.pairs c.loop-remapped.pairs c.in_ok-sums.field-0-1
          (λ p is. remapped-cases one p before is) (λ p is. remapped-before one p before is) (λ p is. remapped-there one p before [] is)
          so_far.pairs c.in_ok-sums.ensures.pairs);
    }

pub returns : goal.returns
returns g c =
    let so_far = c.loop-remapped.invariant in
    let rest = c.loop-remapped.remapped-iterator.rest in
    let none = no-lists rest.items (omega (arith, c.in-None.ensures.steps.0, rest.ok)) in
    let all : c.loop-remapped.yielded ≡ c.args.remapped_tallies.items = sym (append-nil _) ∙ ap (λ (l : List RemappedTally). c.loop-remapped.yielded ++ l) (sym none) ∙ so_far.rest in
    record {
      sums = so_far.sums ∙ ap (λ (l : List RemappedTally). sums_remapped (map remapped_seen l) c.args.sums.items) all;
      pairs = subst (λ (l : List RemappedTally). AddsSuch (IsRemapped (map remapped_seen l)) c.args.pairs c.loop-remapped.pairs) all so_far.pairs;
    }
