-- The places of a JSON value where leaves of a format may come, in their order: depth first, members by their names.
use Rattle.std.specs.Prelude.{List, [], ◌∷◌, ◌++◌}
use Rattle.serde_json.specs.Data.{Data, null, boolean, number, string, array, object, Items, no_items, item, Members, no_members, member}
use Rattle.ga_jsonlog.specs.declared.leaf.PathStep.{PathStep}
use Rattle.ga_jsonlog.specs.declared.leaf.PathStep.TheVariants.{Member, First}
use Rattle.ga_jsonlog.specs.declared.places.Place.{Place}
use Rattle.ga_jsonlog.specs.declared.places.Place.TheVariants.{Leaf, Bad}

-- The places of a value to which this path leads: a text is a leaf, an object has the places of its members, and a list of one
-- element has those of its element. Any other value is a bad place.
abbrev mutual
  pub places : List PathStep → Data → List Place
  places path null = Bad ∷ []
  places path (boolean b) = Bad ∷ []
  places path (number n) = Bad ∷ []
  places path (string text) = Leaf path text ∷ []
  places path (array items) = items_places path items
  places path (object members) = members_places path members

  pub items_places : List PathStep → Items → List Place
  items_places path no_items = Bad ∷ []
  items_places path (item value no_items) = places (path ++ First ∷ []) value
  items_places path (item value (item next more)) = Bad ∷ []

  pub members_places : List PathStep → Members → List Place
  members_places path no_members = []
  members_places path (member name value more) = places (path ++ Member name ∷ []) value ++ members_places path more
