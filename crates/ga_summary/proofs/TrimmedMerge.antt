-- The last days of two summaries together, where the first was left with its last days before.
use Rattle.std.proofs.Common.{◌≡◌, ◌↔◌, ℕ, ◌<◌, ◌==◌, Bool, true, false, cond, ◌&&◌, ◌||◌, [], Option, Some, None, refl, sym, ap, ◌∙◌, arith, ◌⊎◌, inl, inr, is_some}
use Rattle.std.specs.Prelude.{if◌then◌else◌}
use Rattle.std.specs.Option.{option_map_or}
use Rattle.std.specs.List.{AllByRecursion}
use Rattle.std.proofs.lemmas.Bool.{false≢true, or_cases, or_left, or_right}
use Rattle.ga_base.specs.Layers.{HasForm, day_key}
use Rattle.ga_base.specs.Orders.{name_of}
use Rattle.ga_base.specs.declared.key.Key.{Key}
use Rattle.ga_summary.proofs.RisingDates.{In, Rises, fewer, last-of-all, last-of-fewer, later}
use Rattle.ga_summary.proofs.LastDays.{all-formed, among-is, both-some, days-rise, filter-ordered, has-in, in-has, is-among, kept-at}
use Rattle.ga_summary.specs.LastDays.{is_among_last, last_rows, trimmed}
use Rattle.ga_summary.specs.Sound.{HasRow, IsSummary}
use Rattle.ga_summary.specs.Steps.LastDays.{days_of}
use Rattle.ga_summary.specs.SummaryRows.{SummaryRow, SummaryValue, has_name, has_pair, no_sums, row_at, sums_at, sums_plus}
use Rattle.ga_summary.specs.Sums.{IsMerged}
use Rattle.ga_summary.proofs.Unique.{one_merged, same_rows}

-- ---- the law

iff : (v w : Bool) → (v ≡ true → w ≡ true) → (w ≡ true → v ≡ true) → v ≡ w
iff true w on back = sym (on refl)
iff false true on back = absurd (false≢true (back refl))
iff false false on back = refl

through : {X : Type 0} (f : Option SummaryRow → X) (v w : Bool) (p q : Option SummaryRow) → v ≡ w → (w ≡ true → f p ≡ f q) → f (cond v p None) ≡ f (cond w q None)
through f true true p q same at = at refl
through f true false p q same at = absurd (false≢true (sym same))
through f false true p q same at = absurd (false≢true same)
through f false false p q same at = refl

module _ (n : ℕ) (a b both fewer_both : SummaryValue) (x : IsSummary a) (y : IsSummary b) (m : IsMerged a b both) (k : IsMerged (record { totals = a.totals; rows = last_rows n a.rows }) b fewer_both) where
  last_at : (key : Key) → row_at (last_rows n a.rows) key ≡ cond (is_among_last n a.rows key.date) (row_at a.rows key) None
  last_at key = kept-at (λ date. is_among_last n a.rows date) a.rows key

  last_has : (key : Key) → HasRow (last_rows n a.rows) key → (is_among_last n a.rows key.date ≡ true) × HasRow a.rows key
  last_has key has = both-some _ _ (sym (ap is_some (last_at key)) ∙ has)

  has_last : (key : Key) → is_among_last n a.rows key.date ≡ true → HasRow a.rows key → HasRow (last_rows n a.rows) key
  has_last key among has = ap is_some (last_at key) ∙ ap (λ v. is_some (cond v (row_at a.rows key) None)) among ∙ has

  in_both : (key : Key) → HasRow both.rows key → HasRow a.rows key ⊎ HasRow b.rows key
  in_both key has = or_cases _ _ (sym (m.present key) ∙ has)

  in_fewer : (key : Key) → HasRow fewer_both.rows key → HasRow (last_rows n a.rows) key ⊎ HasRow b.rows key
  in_fewer key has = or_cases _ _ (sym (k.present key) ∙ has)

  first_formed : AllByRecursion (λ row. HasForm row.key) a.rows
  first_formed = all-formed a.rows x.sound.rows.form

  second_formed : AllByRecursion (λ row. HasForm row.key) b.rows
  second_formed = all-formed b.rows y.sound.rows.form

  both_formed : AllByRecursion (λ row. HasForm row.key) both.rows
  both_formed = all-formed both.rows (λ key has. elim (in_both key has) [ inl h ↦ x.sound.rows.form key h | inr h ↦ y.sound.rows.form key h ])

  last_formed : AllByRecursion (λ row. HasForm row.key) (last_rows n a.rows)
  last_formed = all-formed (last_rows n a.rows) (λ key has. x.sound.rows.form key (last_has key has).1)

  fewer_formed : AllByRecursion (λ row. HasForm row.key) fewer_both.rows
  fewer_formed = all-formed fewer_both.rows (λ key has. elim (in_fewer key has) [ inl h ↦ x.sound.rows.form key (last_has key h).1 | inr h ↦ y.sound.rows.form key h ])

  first_rise : Rises (days_of a.rows)
  first_rise = days-rise a.rows first_formed x.ordered.keys

  both_rise : Rises (days_of both.rows)
  both_rise = days-rise both.rows both_formed m.ordered.keys

  fewer_rise : Rises (days_of fewer_both.rows)
  fewer_rise = days-rise fewer_both.rows fewer_formed k.ordered.keys

  all_is : (e : ℕ) → In e (days_of both.rows) ↔ (In e (days_of a.rows) ⊎ In e (days_of b.rows))
  all_is e = (
    (λ is. elim (in_both (day_key e) (in-has both.rows both_formed e is)) [ inl h ↦ inl (has-in a.rows e h) | inr h ↦ inr (has-in b.rows e h) ]),
    (λ is. elim is [
      | inl at ↦ has-in both.rows e (m.present (day_key e) ∙ or_left _ _ (in-has a.rows first_formed e at))
      | inr at ↦ has-in both.rows e (m.present (day_key e) ∙ or_right _ _ (in-has b.rows second_formed e at))
    ]),
  )

  fewer_is : (e : ℕ) → In e (days_of fewer_both.rows) ↔ (In e (days_of (last_rows n a.rows)) ⊎ In e (days_of b.rows))
  fewer_is e = (
    (λ is. elim (in_fewer (day_key e) (in-has fewer_both.rows fewer_formed e is)) [ inl h ↦ inl (has-in (last_rows n a.rows) e h) | inr h ↦ inr (has-in b.rows e h) ]),
    (λ is. elim is [
      | inl at ↦ has-in fewer_both.rows e (k.present (day_key e) ∙ or_left _ _ (in-has (last_rows n a.rows) last_formed e at))
      | inr at ↦ has-in fewer_both.rows e (k.present (day_key e) ∙ or_right _ _ (in-has b.rows second_formed e at))
    ]),
  )

  last_are : (e : ℕ) → In e (days_of (last_rows n a.rows)) ↔ (In e (days_of a.rows) × (later e (days_of a.rows) < n))
  last_are e = (
    (λ is. among-is n a.rows e (last_has (day_key e) (in-has (last_rows n a.rows) last_formed e is)).0),
    (λ is. has-in (last_rows n a.rows) e (has_last (day_key e) (is-among n a.rows e is.0 is.1) (in-has a.rows first_formed e is.0))),
  )

  -- both keep the same days
  same_days : (date : ℕ) → is_among_last n fewer_both.rows date ≡ is_among_last n both.rows date
  same_days date = iff _ _
      (λ holds.
      let at = among-is n fewer_both.rows date holds in
      let there = last-of-all n (days_of a.rows) (days_of b.rows) (days_of both.rows) (days_of fewer_both.rows) (days_of (last_rows n a.rows)) first_rise both_rise fewer_rise all_is fewer_is last_are date at.0 at.1 in
      is-among n both.rows date there.0 there.1)
      (λ holds.
      let at = among-is n both.rows date holds in
      let there = last-of-fewer n (days_of a.rows) (days_of b.rows) (days_of both.rows) (days_of fewer_both.rows) (days_of (last_rows n a.rows)) first_rise both_rise fewer_rise all_is fewer_is last_are date at.0 at.1 in
      is-among n fewer_both.rows date there.0 there.1)

  -- on a day that both keep the first has its own rows
  left_same : (key : Key) → is_among_last n both.rows key.date ≡ true → row_at (last_rows n a.rows) key ≡ row_at a.rows key
  left_same key holds = last_at key ∙ pick (is_among_last n a.rows key.date) (row_at a.rows key) refl refl
    where
      kept : HasRow a.rows key → is_among_last n a.rows key.date ≡ true
      kept has =
          let is = has-in a.rows key.date (x.sound.rows.day key has) in
          let few = (among-is n both.rows key.date holds).1 in
          let less = fewer key.date (days_of a.rows) (days_of both.rows) first_rise both_rise (λ e at more. (all_is e).1 (inl at)) in
          is-among n a.rows key.date is (omega (arith, few, less))

      pick : (v : Bool) (found : Option SummaryRow) → is_among_last n a.rows key.date ≡ v → row_at a.rows key ≡ found → cond v found None ≡ found
      pick true found among e = refl
      pick false None not_among e = refl
      pick false (Some row) not_among e = absurd (false≢true (sym not_among ∙ kept (ap is_some e)))

  same_at : {X : Type 0} (f : Option SummaryRow → X) (key : Key) → (is_among_last n both.rows key.date ≡ true → f (row_at fewer_both.rows key) ≡ f (row_at both.rows key))
      → f (row_at (last_rows n fewer_both.rows) key) ≡ f (row_at (last_rows n both.rows) key)
  same_at f key at =
      ap f (kept-at (λ date. is_among_last n fewer_both.rows date) fewer_both.rows key)
      ∙ through f _ _ _ _ (same_days key.date) at
      ∙ sym (ap f (kept-at (λ date. is_among_last n both.rows date) both.rows key))

  last_same : last_rows n fewer_both.rows ≡ last_rows n both.rows
  last_same = same_rows (last_rows n fewer_both.rows) (last_rows n both.rows)
      (filter-ordered (λ row. is_among_last n fewer_both.rows row.key.date) fewer_both.rows k.ordered) (filter-ordered (λ row. is_among_last n both.rows row.key.date) both.rows m.ordered)
      (λ key. same_at is_some key (λ holds. k.present key ∙ ap (λ (o : Option SummaryRow). is_some o || is_some (row_at b.rows key)) (left_same key holds) ∙ sym (m.present key)))
      (λ key. same_at (λ (o : Option SummaryRow). option_map_or (λ row. row.sums) o no_sums) key (λ holds.
      k.sums key ∙ ap (λ (o : Option SummaryRow). sums_plus (option_map_or (λ row. row.sums) o no_sums) (sums_at b.rows key)) (left_same key holds) ∙ sym (m.sums key)))
      (λ key visitor. same_at (λ (o : Option SummaryRow). (visitor.date == key.date) && has_name (option_map_or (λ row. row.names) o []) (name_of visitor)) key (λ holds.
      k.pairs key visitor
      ∙ ap (λ (o : Option SummaryRow). ((visitor.date == key.date) && has_name (option_map_or (λ row. row.names) o []) (name_of visitor)) || has_pair b.rows key visitor) (left_same key holds)
      ∙ sym (m.pairs key visitor)))

-- of two summaries together the last days are the same where the first was left with its last days before
pub trimmed-merge : (n : ℕ) (a b both fewer_both : SummaryValue) → IsSummary a → IsSummary b → IsMerged a b both → IsMerged (trimmed n a) b fewer_both → trimmed n fewer_both ≡ trimmed n both
trimmed-merge n a b both fewer_both x y m k = pick (n == 0) k
  where
    pick : (v : Bool) → IsMerged (if v then a else record { totals = a.totals; rows = last_rows n a.rows }) b fewer_both
        → (if v then fewer_both else record { totals = fewer_both.totals; rows = last_rows n fewer_both.rows }) ≡ (if v then both else record { totals = both.totals; rows = last_rows n both.rows })
    pick true all = one_merged a b fewer_both both all m
    pick false last =
        let totals : fewer_both.totals ≡ both.totals = last.totals ∙ sym m.totals in
        let rows = last_same n a b both fewer_both x y m last in
        λ i. record { totals = totals i; rows = rows i }
