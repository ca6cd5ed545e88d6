use Rattle.std.proofs.Common.{◌≡◌, All, None}
use Rattle.ga_tallies.proofs.place_table.make_places.Given as goal

abbrev pub invariant-loop : goal.invariant-loop
invariant-loop g l = All (λ place. place ≡ None) l.places.items
