use Rattle.std.proofs.Common.{◌≡◌, ◌∙◌, ◌+◌, ◌++◌, ◌∷◌, [], List, take, sym, ap, subst, inr}
use Rattle.std.proofs.lemmas.Result.{err_from_is_err_and}
use Rattle.ga_base.specs.declared.formats.FormatItem.{FormatItem}
use Rattle.ga_jsonlog.specs.JsonFormats.{AreLeaves, all_items}
use Rattle.ga_jsonlog.specs.declared.leaf.JsonLeaf.{JsonLeaf}
use Rattle.ga_jsonlog.specs.declared.leaf.PathStep.{PathStep}
use Rattle.ga_jsonlog.proofs.Leaves.{bad-at, bad-leaf-at, leaf-more, all_items-snoc}
use Rattle.ga_jsonlog.specs.declared.places.Place.TheVariants.{Bad, Leaf}
use Rattle.ga_jsonlog.proofs.compiling.read_leaves.Goals as goal

pub returns-in-Bad-clause-fault : goal.returns-in-Bad-clause-fault
returns-in-Bad-clause-fault c =
    inr (c.loop-number.leaves.items, bad-at c.args.places.now c.loop-number.number c.index-places-number.result Bad c.loop-number.leaves.items c.loop-number-test.true (sym c.index-places-number.is ∙ c.in-Bad.is) c.loop-number.invariant.leaves)

pub returns-in_err-items-in-Leaf-clause-fault : goal.returns-in_err-items-in-Leaf-clause-fault
returns-in_err-items-in-Leaf-clause-fault c =
    let p = err_from_is_err_and c.from_residual.result c.from_residual.ensures.1 in
    let given = c.deref.ensures.value ∙ c.loop-number.invariant.given in
    rw (p.1, p.2) (bad-leaf-at c.args.places.now c.loop-number.number c.index-places-number.result c.in-Leaf.path c.in-Leaf.text c.loop-number.leaves.items c.deref.result.now
    c.loop-number-test.true (sym c.index-places-number.is ∙ c.in-Leaf.is) c.loop-number.invariant.leaves given c.in_err-items-in-Leaf.field-0.0 c.in_err-items-in-Leaf.ensures.fault)

pub loop-number-preserved : goal.loop-number-preserved
loop-number-preserved c =
    let places = c.args.places.now in
    let n = c.loop-number.number in
    let leaves = c.loop-number.leaves.items in
    let items = c.in_ok-items-in-Leaf.items in
    let given = c.deref.ensures.value ∙ c.loop-number.invariant.given in
    let read = leaf-more places n c.index-places-number.result c.in-Leaf.path c.in-Leaf.text leaves c.deref.result.now items c.loop-number-test.true (sym c.index-places-number.is ∙ c.in-Leaf.is)
    c.loop-number.invariant.leaves given c.in_ok-items-in-Leaf.ensures.items in
    let here = subst (λ (path : List PathStep). AreLeaves [] (take (n + 1) places) (leaves ++ (record { path = path; items = items } ∷ []))) (sym c.in_ok-path-in-Leaf.ensures) read in
    record {
      leaves = subst (λ (ls : List JsonLeaf). AreLeaves [] (take (n + 1) places) ls) (sym c.in_ok-push-in-Leaf.ensures.items) here;
      given = c.in_ok-add_items-in-Leaf.ensures ∙ (ap (λ (g : List FormatItem). g ++ c.items-in-Leaf.result.now) c.loop-number.invariant.given
          ∙ (ap (λ (own : List FormatItem). all_items leaves ++ own) c.items-in-Leaf.ensures
          ∙ (sym (all_items-snoc leaves (record { path = c.in_ok-path-in-Leaf.path; items = items })) ∙ ap all_items (sym c.in_ok-push-in-Leaf.ensures.items))));
    }
