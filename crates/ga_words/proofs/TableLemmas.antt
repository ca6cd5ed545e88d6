-- The value of a name in a table of which each entry means something.
use Rattle.std.proofs.Common.{◌≡◌, Bool, true, false, cond, List, [], ◌∷◌, map, Option, Some, option_map, refl, ap, ◌∙◌}
use Rattle.std.specs.Map.{lookup}

option_map-cond : {X Y : Type 0} (f : X → Y) (b : Bool) (x : X) (rest : Option X) → option_map f (cond b (Some x) rest) ≡ cond b (Some (f x)) (option_map f rest)
option_map-cond f true x rest = refl
option_map-cond f false x rest = refl

-- what the value found means is found in the table of the meanings
pub option_map-lookup : {K X Y : Type 0} (f : X → Y) (test : K → Bool) (rows : List (K × X)) → option_map f (lookup test rows) ≡ lookup test (map (λ row. (row.0, f row.1)) rows)
option_map-lookup f test [] = refl
option_map-lookup f test (row ∷ rows) =
    option_map-cond f (test row.0) row.1 (lookup test rows) ∙ ap (cond (test row.0) (Some (f row.1))) (option_map-lookup f test rows)
