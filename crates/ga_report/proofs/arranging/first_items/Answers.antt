use Rattle.std.proofs.Common.{◌≡◌, ◌∷◌, ◌++◌, List, ap, arith, rules, subst, sym}
use Rattle.std.specs.Ordering.{is_lt}
use Rattle.std.specs.List.Sorted.{IsPermutation}
use Rattle.std.proofs.lemmas.Fn.{always_returns_same}
use Rattle.std.proofs.lemmas.List.Sorted.{ranks_by}
use Rattle.std.proofs.lemmas.Result.{IfOk-weaker}
use Rattle.ga_report.specs.Items.{order}
use Rattle.ga_report.specs.Steps.Summed.{StandFirst}
use Rattle.ga_report.specs.Source.{SourceRow}
use Rattle.ga_report.proofs.Arrangement.{order_total}
use Rattle.ga_report.proofs.Firsts.{come-first, come-first-all}
use Rattle.ga_report.proofs.arranging.first_items.Goals as goal

pub returns-then-most-len : goal.returns-then-most-len
returns-then-most-len c =
    let items = c.args.items in
    come-first-all (order_total c.args.panel) c.args.most items.items (omega (arith, c.len.ensures, c.if-most-len.true, items.ok))

pub returns : goal.returns
returns c =
    let select = c.select_nth_unstable_by-first in
    let panel = c.args.panel in
    let items = c.args.items in
    let front = select.result.0.now in
    let split = select.ensures.partitioned (λ x y. is_lt (order panel x y)) (ranks_by (order_total panel) (λ x. x))
    (always_returns_same _ _ _ (λ a r f k. (ap is_lt (search rules), search rules))) in
    let moved : IsPermutation items.items (front ++ select.result.1.now ∷ select.result.2.now) =
    subst (λ (xs : List SourceRow). IsPermutation xs (front ++ select.result.1.now ∷ select.result.2.now)) c.deref_mut.ensures.value select.ensures.permutation in
    IfOk-weaker c.copy_items.result (λ rows. rows.items ≡ front) (λ rows. StandFirst (order panel) c.args.most items.items rows.items)
    (λ rows same. subst (λ (xs : List SourceRow). StandFirst (order panel) c.args.most items.items xs) (sym same)
    (come-first (order_total panel) c.args.most items.items front select.result.2.now select.result.1.now moved select.ensures.front_len (omega (arith, c.len.ensures, c.if-most-len.false, items.ok)) split)) c.copy_items.ensures
