use Rattle.std.proofs.Common.{◌≡◌, ◌++◌, ◌∷◌, [], drop}
use Rattle.std.specs.List.{flat_map}
use Rattle.serde_json.specs.View.{members_view, view}
use Rattle.ga_jsonlog.specs.declared.leaf.PathStep.TheVariants.{First}
use Rattle.ga_jsonlog.specs.Places.{members_places, places}
use Rattle.ga_jsonlog.proofs.places.+places.Given as goal

abbrev pub invariant-push_items-loop-item : goal.invariant-push_items-loop-item
invariant-push_items-loop-item l =
    l.places.items ++ flat_map (λ v. places (l.path ++ (First ∷ [])) (view v)) (drop l.item-index l.item-items) ≡ l.initial.places.items ++ flat_map (λ v. places (l.path ++ (First ∷ [])) (view v)) l.item-items

abbrev pub invariant-push_members-loop-name : goal.invariant-push_members-loop-name
invariant-push_members-loop-name l =
    l.places.items ++ members_places l.path (members_view l.name-iterator) ≡ l.initial.places.items ++ members_places l.path (members_view l.members.entries)
