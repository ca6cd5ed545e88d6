use Rattle.std.proofs.Common.{◌≡◌, ◌<◌, ◌∙◌, ℕ, List, eqb, get_or, length, map, sym, ap, subst}
use Rattle.std.specs.List.{All, dedup}
use Rattle.std.proofs.lemmas.List.Filters.{dedup_is}
use Rattle.std.proofs.lemmas.Result.{IfOk-weaker}
use Rattle.ga_base.specs.declared.key.Visitor.{Visitor}
use Rattle.ga_base.specs.declared.name.Name.{Name}
use Rattle.ga_totals.specs.Steps.Ranks.{name_ranked}
use Rattle.ga_totals.specs.Steps.KeyRows.{AreNamesOf}
use Rattle.ga_totals.proofs.Naming.{names-are, ranks-within}
use Rattle.ga_totals.proofs.ranks.Ranks.names_of.Goals as goal

pub names_of_ranks-requires-clause-ranks : goal.names_of_ranks-requires-clause-ranks
names_of_ranks-requires-clause-ranks c =
    let visitors = c.self.inside.visitors.now in
    let firsts = c.self.inside.firsts.items in
    let row = c.args.row.now in
    let sorted = c.sort_unstable.new.self.items in
    let is = c.in_ok-ranks.ensures ∙ ap (λ (l : List ℕ). map (λ v. get_or l v 0) row) c.deref.ensures.value in
    let within = subst (λ (l : List Visitor). All (λ v. v < length l) row) (sym c.self.view_is) c.requires in
    let left = c.deref-3.ensures.value ∙ dedup_is eqb sorted c.dedup.new.self.items c.dedup.ensures.filtered in
    let all = ranks-within visitors firsts c.self.inside.ranks.items c.self.invariant row c.in_ok-ranks.ranks.items sorted within is c.sort_unstable.ensures.permutation in
    subst (λ (l : List ℕ). All (λ r. r < length l) c.deref-3.result.now) (sym c.deref-2.ensures.value) (subst (All (λ r. r < length firsts)) (sym left) all)

pub returns : goal.returns
returns c =
    let visitors = c.self.inside.visitors.now in
    let firsts = c.self.inside.firsts.items in
    let row = c.args.row.now in
    let sorted = c.sort_unstable.new.self.items in
    let is = c.in_ok-ranks.ensures ∙ ap (λ (l : List ℕ). map (λ v. get_or l v 0) row) c.deref.ensures.value in
    let within = subst (λ (l : List Visitor). All (λ v. v < length l) row) (sym c.self.view_is) c.requires in
    let left = c.deref-3.ensures.value ∙ dedup_is eqb sorted c.dedup.new.self.items c.dedup.ensures.filtered in
    let are =
    names-are visitors firsts c.self.inside.ranks.items c.self.invariant row c.in_ok-ranks.ranks.items sorted within is c.sort_unstable.ensures.permutation c.sort_unstable.ensures.sorted in
    let named : map (name_ranked visitors c.deref-2.result.now) c.deref-3.result.now ≡ map (name_ranked visitors firsts) (dedup eqb sorted) = λ i. map (name_ranked visitors (c.deref-2.ensures.value i)) (left i) in
    IfOk-weaker c.names_of_ranks.result (λ names. names.items ≡ map (name_ranked visitors c.deref-2.result.now) c.deref-3.result.now) (λ names. AreNamesOf c.args.self.now row names.items)
    (λ names e. subst (λ (v : List Visitor). AreNamesOf v row names.items) c.self.view_is (subst (λ (l : List Name). AreNamesOf visitors row l) (sym (e ∙ named)) are))
    c.names_of_ranks.ensures
