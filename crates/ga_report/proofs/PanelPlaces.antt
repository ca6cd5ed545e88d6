-- Where the rows of a panel stand.
use Rattle.std.proofs.Common.{◌≡◌, ◌⊎◌, ℕ, zero, suc, ◌+◌, ◌<◌, ◌≤◌, ◌&&◌, ◌||◌, Bool, true, false, not, cond, List, [], ◌∷◌, ◌++◌, inl, inr, Some, length, get_or, filter, take, take_all, refl, sym, ap, ◌∙◌, subst, arith, All}
use Rattle.std.specs.Prelude.{count_by, slice_get}
use Rattle.std.specs.List.{AllByRecursion}
use Rattle.std.proofs.lemmas.List.Elements.{All-from_recursion, All-get_or}
use Rattle.std.proofs.lemmas.List.Sums.{length-filter}
use Rattle.std.proofs.lemmas.Option.{slice_get_within}
use Rattle.ga_base.specs.declared.date_spec.DateSpec.{DateSpec}
use Rattle.ga_base.specs.declared.date_spec.DateSpec.TheVariants as D
use Rattle.ga_base.specs.declared.panel.Panel.{Panel}
use Rattle.ga_base.specs.declared.panel.Panel.TheVariants.{Visitors}
use Rattle.ga_base.specs.Layers.{is_empty}
use Rattle.ga_base.specs.Panels.{is_same_panel}
use Rattle.ga_report.specs.Items.{is_as_fine, is_shown, shown_rows}
use Rattle.ga_report.specs.SoundRows.{day_rows}
use Rattle.ga_report.specs.Steps.RowPlaces.{AreAt}
use Rattle.ga_report.specs.Steps.Summed.{panel_rows}
use Rattle.ga_report.specs.Source.{SourceRow}
use Rattle.ga_report.proofs.Found.{found-behind, found-long, found-there}
use Rattle.ga_report.proofs.InPanel.{exact-panel, filter-weaker}
use Rattle.ga_report.proofs.Lists.{filter-pass, filter-push, take-more}

module _ (rows : List SourceRow) where
  pub as-many : (places : List ℕ) (those : List SourceRow) → AreAt rows places those → length places ≡ length those
  as-many places those e = found-long (slice_get rows) places those e

  inside : (places : List ℕ) (those : List SourceRow) → AreAt rows places those → AllByRecursion (λ place. place < length rows) places
  inside [] those e = tt
  inside (p ∷ ps) [] e = cc
  inside (p ∷ ps) (x ∷ xs) e =
      let first : slice_get rows p ≡ Some x = cc e in
      let rest : AreAt rows ps xs = cc e in
      (slice_get_within rows p x first, inside ps xs rest)

  pub all-inside : (places : List ℕ) (those : List SourceRow) → AreAt rows places those → All (λ place. place < length rows) places
  all-inside places those e = All-from_recursion (λ place. place < length rows) places (inside places those e)

  pub row-at : (places : List ℕ) (those : List SourceRow) (i : ℕ) → AreAt rows places those → i < length places → get_or places i 0 < length rows
  row-at places those i e less = All-get_or (λ place. place < length rows) places i 0 less (all-inside places those e)

  -- the row at a place
  pub row-there : (places : List ℕ) (those : List SourceRow) (i : ℕ) (row : SourceRow) → AreAt rows places those → i < length places → slice_get rows (get_or places i 0) ≡ Some row
      → slice_get those i ≡ Some row
  row-there places those i row e less there = found-there (slice_get rows) places those i 0 row e less there

module _ (test : SourceRow → Bool) (rows those : List SourceRow) (n : ℕ) (row : SourceRow) (at : slice_get those n ≡ Some row) where
  -- a row more that passes a test
  pub place-more : (place : ℕ) (places places' : List ℕ) → slice_get rows place ≡ Some row → test row ≡ true → AreAt rows places (filter test (take n those)) → places' ≡ places ++ place ∷ []
      → AreAt rows places' (filter test (take (n + 1) those))
  place-more place places places' there own are e =
      let more = ap (filter test) (take-more n those row at) ∙ filter-push test (take n those) row own in
      subst (λ (xs : List SourceRow). AreAt rows places' xs) (sym more) (found-behind (slice_get rows) places places' (filter test (take n those)) place row are there e)

  -- and one that fails it
  pub place-pass : (places : List ℕ) → test row ≡ false → AreAt rows places (filter test (take n those)) → AreAt rows places (filter test (take (n + 1) those))
  place-pass places other are =
      let more = ap (filter test) (take-more n those row at) ∙ filter-pass test (take n those) row other in
      subst (λ (xs : List SourceRow). AreAt rows places xs) (sym more) are

-- ---- where as many are seen as there are, none is left

none-pass : {X : Type 0} (p : X → Bool) (xs : List X) → length (filter p xs) ≤ 0 → filter p xs ≡ []
none-pass {X} p xs none = empty (filter p xs) none
  where
    empty : (ys : List X) → length ys ≤ 0 → ys ≡ []
    empty [] none = refl
    empty (y ∷ ys) none = absurd (omega (arith, none))

all-seen : {X : Type 0} (p : X → Bool) (n : ℕ) (xs : List X) → length (filter p xs) ≤ length (filter p (take n xs)) → filter p (take n xs) ≡ filter p xs
all-seen p zero xs most = sym (none-pass p xs most)
all-seen p (suc n) [] most = refl
all-seen {X} p (suc n) (x ∷ xs) most = elim (p x) as (λ b. length (cond b (x ∷ filter p xs) (filter p xs)) ≤ length (cond b (x ∷ filter p (take n xs)) (filter p (take n xs)))
    → cond b (x ∷ filter p (take n xs)) (filter p (take n xs)) ≡ cond b (x ∷ filter p xs) (filter p xs)) [
      | true ↦ λ most. ap (λ (r : List X). x ∷ r) (all-seen p n xs (omega (arith, most)))
      | false ↦ λ most. all-seen p n xs most
    ] most

pub places-all : (panel : Panel) (rows : List SourceRow) (places : List ℕ) (n most : ℕ) → AreAt rows places (panel_rows panel (take n rows))
    → count_by (λ row. is_same_panel row.key.panel panel) rows ≤ most → (most ≤ length places) ⊎ (length rows ≤ n) → AreAt rows places (panel_rows panel rows)
places-all panel rows places n most are counted (inl seen) =
    let all = all-seen (λ (row : SourceRow). is_same_panel row.key.panel panel) n rows
    (omega (arith, counted, seen, as-many rows places (panel_rows panel (take n rows)) are, length-filter (λ (row : SourceRow). is_same_panel row.key.panel panel) rows)) in
    subst (λ (xs : List SourceRow). AreAt rows places xs) all are
places-all panel rows places n most are counted (inr end) =
    subst (λ (xs : List SourceRow). AreAt rows places (panel_rows panel xs)) (take_all n rows end) are

-- ---- the rows that are shown

-- of VISITORS those that are as fine
pub fine-shown : (spec : DateSpec) (rows : List SourceRow) → panel_rows Visitors (shown_rows spec rows) ≡ filter (λ row. is_as_fine spec row.key) (panel_rows Visitors rows)
fine-shown spec [] = refl
fine-shown spec (x ∷ xs) = go (is_same_panel x.key.panel Visitors) refl (is_as_fine spec x.key) refl (fine-shown spec xs)
  where
    own : SourceRow → Bool
    own row = is_same_panel row.key.panel Visitors

    fine : SourceRow → Bool
    fine row = is_as_fine spec row.key

    go : (b : Bool) → own x ≡ b → (c : Bool) → fine x ≡ c → filter own (shown_rows spec xs) ≡ filter fine (filter own xs)
        → filter own (cond (not (own x) || fine x) (x ∷ shown_rows spec xs) (shown_rows spec xs)) ≡ filter fine (cond (own x) (x ∷ filter own xs) (filter own xs))
    go true e true f rest = rw (e, f) (rw e (ap (λ (r : List SourceRow). x ∷ r) rest))
    go true e false f rest = rw (e, f) rest
    go false e c f rest = rw e (rw e rest)

-- of other panels all
pub all-shown : (panel : Panel) (spec : DateSpec) (rows : List SourceRow) → is_same_panel panel Visitors ≡ false → panel_rows panel (shown_rows spec rows) ≡ panel_rows panel rows
all-shown panel spec rows other =
    filter-weaker (λ (row : SourceRow). is_shown spec row.key) (λ (row : SourceRow). is_same_panel row.key.panel panel)
    (λ row own. ap (λ (p : Panel). not (is_same_panel p Visitors) || is_as_fine spec row.key) (exact-panel row.key.panel panel own) ∙ ap (λ (b : Bool). not b || is_as_fine spec row.key) other) rows

-- and the days are those that VISITORS shows by days
pub day-shown : (rows : List SourceRow) → panel_rows Visitors (shown_rows D.Date rows) ≡ day_rows rows
day-shown rows = fine-shown D.Date rows ∙ both rows
  where
    own : SourceRow → Bool
    own row = is_same_panel row.key.panel Visitors

    both : (xs : List SourceRow) → filter (λ row. is_as_fine D.Date row.key) (filter own xs) ≡ day_rows xs
    both [] = refl
    both (x ∷ xs) = go (own x) refl (both xs)
      where
        go : (b : Bool) → own x ≡ b → filter (λ row. is_as_fine D.Date row.key) (filter own xs) ≡ day_rows xs
            → filter (λ row. is_as_fine D.Date row.key) (cond (own x) (x ∷ filter own xs) (filter own xs)) ≡ cond (own x && is_empty x.key.parent) (x ∷ day_rows xs) (day_rows xs)
        go true e rest = rw e (ap (λ (r : List SourceRow). cond (is_empty x.key.parent) (x ∷ r) r) rest)
        go false e rest = rw e rest

-- the places of the days are those of what VISITORS shows by days
pub days-at : (rows : List SourceRow) (places places' : List ℕ) → places' ≡ places → AreAt rows places (panel_rows Visitors (shown_rows D.Date rows)) → AreAt rows places' (day_rows rows)
days-at rows places places' same at = subst (λ (xs : List ℕ). AreAt rows xs (day_rows rows)) (sym same) (subst (AreAt rows places) (day-shown rows) at)
