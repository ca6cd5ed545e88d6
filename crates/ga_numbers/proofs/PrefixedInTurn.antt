-- Items of prefixes and rows, list by list: how rows that are noted number the items for which they stand.
use Rattle.std.proofs.Common.{◌≡◌, ℕ, Bool, List, [], ◌∷◌, ◌∙◌, map, refl, ap, sym, subst, arith}
use Rattle.ga_numbers.specs.NotedNumbers.{AreNoted, AreNotedInTurn, all_in_turn, numbers_in_turn, places_of}
use Rattle.ga_numbers.specs.Steps.ShardRows.{AreMade, AreRowsOf, is_same_row, remapped_by, remapped_each}
use Rattle.ga_numbers.specs.Steps.Three.{AllThree}
use Rattle.ga_numbers.specs.declared.shard_row.ShardRow.{ShardRow}
use Rattle.ga_numbers.proofs.Prefixed.{Makes, absorbed, items_in as of_prefixes}
use Rattle.ga_numbers.proofs.Three.{three-head, three-tail}
use Rattle.ga_shards.specs.Steps.{all_noted}
use Rattle.ga_shards.proofs.Noting.{from-all, stays-distinct}

module _ {F T : Type 0} (none : F) (eqF : F → F → Bool) (eqT : T → T → Bool) (IsPlain : F → Type 0) (made : F → ShardRow → T) (m : Makes eqF eqT IsPlain made) where
  abbrev items_in : List F → List ShardRow → List T
  items_in prefixes rows = of_prefixes none eqF eqT IsPlain made m prefixes rows

  abbrev Made : List T → List F → List ShardRow → Type 0
  Made items prefixes rows = AreMade eqF IsPlain items_in items prefixes rows

  -- what comes of prefixes and rows, where each list of rows is remapped by what its prefixes got
  record Come (items : List (List T)) (fs : List (List F)) (rs : List (List ShardRow)) (prefixes : List F) (rows : List ShardRow) : Type 0 where
    numbers : numbers_in_turn is_same_row rows (remapped_each (numbers_in_turn eqF prefixes fs) rs) ≡ numbers_in_turn eqT (items_in prefixes rows) items
    known : items_in (all_in_turn eqF prefixes fs) (all_in_turn is_same_row rows (remapped_each (numbers_in_turn eqF prefixes fs) rs)) ≡ all_in_turn eqT (items_in prefixes rows) items
    parts : AreRowsOf eqF IsPlain (all_in_turn eqF prefixes fs) (all_in_turn is_same_row rows (remapped_each (numbers_in_turn eqF prefixes fs) rs))

  -- one list
  step : (x : List T) (f prefixes : List F) (r rows : List ShardRow) → Made x f r → AreRowsOf eqF IsPlain prefixes rows
      → AreNoted eqT x (places_of is_same_row rows (map (remapped_by (places_of eqF prefixes f)) r)) (items_in prefixes rows)
      (items_in (all_noted eqF prefixes f) (all_noted is_same_row rows (map (remapped_by (places_of eqF prefixes f)) r)))
      × AreRowsOf eqF IsPlain (all_noted eqF prefixes f) (all_noted is_same_row rows (map (remapped_by (places_of eqF prefixes f)) r))
  step x f prefixes r rows one are =
      let remapped = map (remapped_by (places_of eqF prefixes f)) r in
      let different = stays-distinct eqF m.laws f prefixes are.different in
      let plain = from-all eqF m.laws IsPlain f prefixes are.plain one.parts.plain in
      let both = absorbed none eqF eqT IsPlain made m prefixes f (all_noted eqF prefixes f) rows r (all_noted is_same_row rows remapped) (places_of eqF prefixes f) (places_of is_same_row rows remapped)
      are.prefixed one.parts.prefixed different plain refl refl (record { places = refl; known = refl }) in (
        subst (λ (l : List T). AreNoted eqT l (places_of is_same_row rows remapped) (items_in prefixes rows) (items_in (all_noted eqF prefixes f) (all_noted is_same_row rows remapped))) one.whole both.0,
        record { different = different; plain = plain; prefixed = both.1 },
      )

  come : (items : List (List T)) (fs : List (List F)) (rs : List (List ShardRow)) (prefixes : List F) (rows : List ShardRow) → AllThree Made items fs rs → AreRowsOf eqF IsPlain prefixes rows → Come items fs rs prefixes rows
  come [] [] [] prefixes rows all are = record { numbers = refl; known = refl; parts = are }
  come [] (f ∷ fs) rs prefixes rows all are = absurd (omega (arith, all.second))
  come [] [] (r ∷ rs) prefixes rows all are = absurd (omega (arith, all.third))
  come (x ∷ items) [] rs prefixes rows all are = absurd (omega (arith, all.second))
  come (x ∷ items) (f ∷ fs) [] prefixes rows all are = absurd (omega (arith, all.third))
  come (x ∷ items) (f ∷ fs) (r ∷ rs) prefixes rows all are =
      let told = step x f prefixes r rows (three-head Made items fs rs x f r all) are in
      let rest = come items fs rs (all_noted eqF prefixes f) (all_noted is_same_row rows (map (remapped_by (places_of eqF prefixes f)) r)) (three-tail Made items fs rs x f r all) told.1 in
      record {
        numbers = λ i. told.0.places i ∷ (rest.numbers ∙ ap (λ (l : List T). numbers_in_turn eqT l items) told.0.known) i;
        known = rest.known ∙ ap (λ (l : List T). all_in_turn eqT l items) told.0.known;
        parts = rest.parts;
      }

  -- prefixes of others were noted, list by list, and then rows of them: so were the items
  pub items-in-turn : (items : List (List T)) (fs : List (List F)) (rs : List (List ShardRow)) (prefixes prefixes-new : List F) (rows rows-new : List ShardRow) (places numbers : List (List ℕ)) → AllThree Made items fs rs
      → AreRowsOf eqF IsPlain prefixes rows → AreNotedInTurn eqF fs places prefixes prefixes-new → AreNotedInTurn is_same_row (remapped_each places rs) numbers rows rows-new
      → AreNotedInTurn eqT items numbers (items_in prefixes rows) (items_in prefixes-new rows-new) × AreRowsOf eqF IsPlain prefixes-new rows-new
  items-in-turn items fs rs prefixes prefixes-new rows rows-new places numbers all are noted-prefixes noted-rows = (
    record {
      places = noted-rows.places ∙ ap (numbers_in_turn is_same_row rows) remapped ∙ comes.numbers;
      known = (λ i. items_in (noted-prefixes.known i) (new i)) ∙ comes.known;
    },
    subst (λ (l : List F). AreRowsOf eqF IsPlain l rows-new) (sym noted-prefixes.known) (subst (λ (l : List ShardRow). AreRowsOf eqF IsPlain (all_in_turn eqF prefixes fs) l) (sym new) comes.parts),
  )
    where
      comes : Come items fs rs prefixes rows
      comes = come items fs rs prefixes rows all are

      remapped : remapped_each places rs ≡ remapped_each (numbers_in_turn eqF prefixes fs) rs
      remapped = ap (λ (l : List (List ℕ)). remapped_each l rs) noted-prefixes.places

      new : rows-new ≡ all_in_turn is_same_row rows (remapped_each (numbers_in_turn eqF prefixes fs) rs)
      new = noted-rows.known ∙ ap (all_in_turn is_same_row rows) remapped
