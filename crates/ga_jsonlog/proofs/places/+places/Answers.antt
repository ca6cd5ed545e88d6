use Rattle.std.proofs.Common.{◌≡◌, ◌∙◌, ◌++◌, ◌∷◌, [], List, length, drop, sym, ap, subst, arith, append-nil, OnOk}
use Rattle.std.specs.List.{flat_map}
use Rattle.std.proofs.lemmas.List.{drop_all}
use Rattle.serde_json.specs.View.{items_view, view}
use Rattle.serde_json.specs.declared.value.Value.{Value}
use Rattle.ga_jsonlog.specs.declared.leaf.PathStep.TheVariants.{First}
use Rattle.ga_jsonlog.specs.declared.places.Place.{Place}
use Rattle.ga_jsonlog.specs.Places.{items_places, places}
use Rattle.ga_jsonlog.proofs.PlaceLemmas.{not-one-item, one-item}
use Rattle.ga_jsonlog.proofs.places.+places.Goals as goal

pub push_items-returns-then-len-ne1 : goal.push_items-returns-then-len-ne1
push_items-returns-then-len-ne1 t c =
    let vs = c.args.items.now.items in
    let apart : length vs ≡ 1 → ⊥ = λ one. omega (arith, one, c.if-len-ne1.true, c.len.ensures, c.args.items.now.ok.0) in
    subst (λ (ps : List Place). OnOk c.push_bad.result (c.push_bad.new.places.items ≡ c.args.places.now.items ++ ps)) (sym (not-one-item c.args.path.now vs apart)) c.push_bad.ensures

pub push_items-returns : goal.push_items-returns
push_items-returns t c =
    let vs = c.deref-item-items.result.now in
    let path = c.args.path.now in
    let old = c.args.places.now.items in
    let now = c.loop-item.places.items in
    let each : List Value → List Place = flat_map (λ v. places (path ++ (First ∷ [])) (view v)) in
    let same = c.deref-item-items.ensures.value in
    let one : length vs ≡ 1 = omega (arith, c.if-len-ne1.false, c.len.ensures, c.args.items.now.ok.0, ap length same) in
    let none : drop c.loop-item.item-index vs ≡ [] = drop_all c.loop-item.item-index vs c.loop-item-test.false in
    let all : now ≡ old ++ each vs = sym (append-nil now) ∙ (ap (λ (rest : List Value). now ++ each rest) (sym none) ∙ c.loop-item.invariant) in
    all ∙ ap (λ (ps : List Place). old ++ ps) (sym (one-item path vs one) ∙ ap (λ (these : List Value). items_places path (items_view these)) same)
