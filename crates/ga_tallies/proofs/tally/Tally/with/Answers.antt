use Rattle.std.proofs.Common.{◌≡◌, ◌∙◌, List, ℕ, Vec, Global, ap, arith, length, map, sym, subst}
use Rattle.std.proofs.lemmas.List.{length-map}
use Rattle.ga_base.specs.Orders.{is_same_key, is_same_visitor}
use Rattle.ga_base.specs.Totals.{TotalsFit}
use Rattle.ga_tallies.specs.Steps.Absorbing.{AddsSuch, IsRemapped, RemappedSeen, counts_in, counts_seen, remapped_seen, sums_remapped}
use Rattle.ga_tallies.specs.Tallies.{AbsorbsAll, TallySeen, totals_from}
use Rattle.ga_tallies.proofs.AddedVisits.{adds-behind}
use Rattle.ga_tallies.proofs.AllAbsorbed.{TakesAll, absorbed-all, remapped-within, remapped_tallies-are, remapped_among}
use Rattle.ga_numbers.proofs.InTurn.{numbers-many}
use Rattle.ga_numbers.specs.NotedNumbers.{all_in_turn}
use Rattle.ga_tallies.proofs.tally.Tally.with.Goals as goal

pub remap_tallies-requires-clause-keys : goal.remap_tallies-requires-clause-keys
remap_tallies-requires-clause-keys g c =
    let others = c.args.others.items in
    let keys = c.in_ok-keys.keys.numbers in
    let apart = c.in_ok-others.ensures in
    let counts = c.in_ok-others.others.counts in
    let numbers : length keys.items ≡ length others =
    sym (length-map keys.items (λ (n : Vec ℕ Global). n.items)) ∙ ap (λ (l : List (List ℕ)). length l) c.in_ok-keys.ensures.keys.places
    ∙ numbers-many is_same_key c.self.inside.keys c.in_ok-others.others.keys.items ∙ ap (λ (l : List _). length l) apart.keys ∙ length-map others (λ (t : TallySeen). t.keys) in
    let counted : length counts.items ≡ length others = sym (length-map counts.items counts_in) ∙ ap (λ (l : List _). length l) apart.counts ∙ length-map others counts_seen in
    omega (arith, numbers, counted, keys.ok, counts.ok)

pub remap_tallies-requires-clause-visitors : goal.remap_tallies-requires-clause-visitors
remap_tallies-requires-clause-visitors g c =
    let others = c.args.others.items in
    let visitors = c.in_ok-keys.visitors.numbers in
    let apart = c.in_ok-others.ensures in
    let counts = c.in_ok-others.others.counts in
    let numbers : length visitors.items ≡ length others =
    sym (length-map visitors.items (λ (n : Vec ℕ Global). n.items)) ∙ ap (λ (l : List (List ℕ)). length l) c.in_ok-keys.ensures.visitors.places
    ∙ numbers-many is_same_visitor c.self.inside.visitors c.in_ok-others.others.visitors.items ∙ ap (λ (l : List _). length l) apart.visitors ∙ length-map others (λ (t : TallySeen). t.visitors) in
    let counted : length counts.items ≡ length others = sym (length-map counts.items counts_in) ∙ ap (λ (l : List _). length l) apart.counts ∙ length-map others counts_seen in
    omega (arith, numbers, counted, visitors.ok, counts.ok)

pub add_remapped-requires : goal.add_remapped-requires
add_remapped-requires g c =
    let others = c.args.others.items in
    let apart = c.in_ok-others.ensures in
    let keys = c.in_ok-keys.ensures.keys in
    let visitors = c.in_ok-keys.ensures.visitors in
    let are : map remapped_seen c.in_ok-remapped_tallies.remapped_tallies.items ≡ remapped_among c.self.inside.keys c.self.inside.visitors others =
    c.in_ok-remapped_tallies.ensures
    ∙ remapped_tallies-are c.self.inside.keys c.self.inside.visitors others _ _ _ _ _ _ _ apart.keys keys apart.visitors visitors apart.counts in
    let known : c.in_ok-keys.keys.known ≡ all_in_turn is_same_key c.self.inside.keys (map (λ (t : TallySeen). t.keys) others) = keys.known ∙ ap (all_in_turn is_same_key c.self.inside.keys) apart.keys in (
      c.type_bounds.sync-R,
      λ p is.
          let within = remapped-within c.self.inside.keys c.self.inside.visitors others p (subst (λ (l : List RemappedSeen). IsRemapped l p) are is) in
          omega (arith, within, c.len-many.ensures.value, ap (λ (l : List _). length l) known),
    )

pub returns-clause-absorbed : goal.returns-clause-absorbed
returns-clause-absorbed g c =
    let old = c.self.inside in
    let others = c.args.others.items in
    let apart = c.in_ok-others.ensures in
    let keys = c.in_ok-keys.ensures.keys in
    let visitors = c.in_ok-keys.ensures.visitors in
    let seen : TallySeen = record { totals = old.totals; keys = old.keys; visitors = old.visitors; sums = old.sums.items; pairs = old.pairs } in
    let new : TallySeen = record {
      totals = c.totals_with-totals.result;
      keys = c.in_ok-keys.keys.known;
      visitors = c.in_ok-keys.visitors.known;
      sums = c.in_ok-sums.sums.items;
      pairs = c.in_ok-sums.pairs;
    } in
    let are : map remapped_seen c.in_ok-remapped_tallies.remapped_tallies.items ≡ remapped_among old.keys old.visitors others =
    c.in_ok-remapped_tallies.ensures ∙ remapped_tallies-are old.keys old.visitors others _ _ _ _ _ _ _ apart.keys keys apart.visitors visitors apart.counts in
    let totals : c.totals_with-totals.result ≡ totals_from old.totals others = c.totals_with-totals.ensures.value ∙ ap (totals_from old.totals) c.deref.ensures.value in
    let takes : TakesAll others seen new = record {
      totals = totals;
      keys = keys.known ∙ ap (all_in_turn is_same_key old.keys) apart.keys;
      visitors = visitors.known ∙ ap (all_in_turn is_same_visitor old.visitors) apart.visitors;
      sums = c.in_ok-sums.ensures.sums ∙ ap (λ (l : List RemappedSeen). sums_remapped l old.sums.items) are;
      pairs =
          subst (λ (l : List RemappedSeen). AddsSuch (IsRemapped l) old.pairs c.in_ok-sums.pairs) are
          (adds-behind (IsRemapped (map remapped_seen c.in_ok-remapped_tallies.remapped_tallies.items)) old.pairs c.in_ok-keys.pairs c.in_ok-sums.pairs c.in_ok-keys.ensures.pairs c.in_ok-sums.ensures.pairs);
    } in
    let fit : TotalsFit c.totals_with-totals.result = subst TotalsFit (sym totals) (subst (λ (t : TallySeen). TotalsFit (totals_from t.totals others)) (sym c.self.view_is) c.requires) in
    subst (λ (t : TallySeen). AbsorbsAll others t new) c.self.view_is (absorbed-all others seen new takes fit)
