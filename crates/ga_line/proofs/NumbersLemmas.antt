-- The numbers that the fields of a line say: nothing else than their texts spell.
use Rattle.std.proofs.Common.{◌≡◌, ℕ, ◌<◌, ◌≤◌, min, List, Option, Some, None, sym, subst, arith}
use Rattle.std.specs.Borrow.{Bor}
use Rattle.std.specs.Option.{option_copied, option_map}
use Rattle.ga_base.specs.declared.counts.TheConstants.{BIG}
use Rattle.ga_dates.specs.declared.item.Item.{Item}
use Rattle.ga_dates.specs.Spelling.{SpellsDate, SpellsTime, SpellsBoth}
use Rattle.ga_line.specs.declared.setup.LineSetup.{LineSetup}
use Rattle.ga_line.specs.declared.digits.TheConstants.{TOO_BIG}
use Rattle.ga_line.specs.Steps.Fitting.{part_of}
use Rattle.ga_line.specs.Records.{HasMoment, HasMinute, HasMicros, IsMicros}
use Rattle.ga_line.specs.Steps.Valid.{IsTooSlow}

None≢Some : {X : Type 0} {x : X} → None ≡ Some x → ⊥
None≢Some e = cc

module _ (setup : LineSetup) (both day time : Option (Bor (List ℕ))) where
  pub no-both : (text : Bor (List ℕ)) → both ≡ Some text → ((date minute : ℕ) → SpellsBoth setup.date setup.time text.now date minute → ◌≡◌ {A = Option (ℕ × ℕ)} None (Some (date, minute)))
      → (date : ℕ) (minute : Option ℕ) → ¬ HasMoment setup (option_copied both) (option_copied day) (option_copied time) date minute
  no-both text is only date minute h =
      let has = subst (λ (b : Option (Bor (List ℕ))). HasMoment setup (option_copied b) (option_copied day) (option_copied time) date minute) is h in
      None≢Some (only date has.0 has.2)

  pub no-day : (text : Bor (List ℕ)) → both ≡ None → day ≡ Some text → ((date : ℕ) → SpellsDate setup.date text.now date → ◌≡◌ {A = Option ℕ} None (Some date))
      → (date : ℕ) (minute : Option ℕ) → ¬ HasMoment setup (option_copied both) (option_copied day) (option_copied time) date minute
  no-day text none is only date minute h =
      let has = subst (λ (b : Option (Bor (List ℕ))). HasMoment setup (option_copied b) (option_copied day) (option_copied time) date minute) none h in
      let has_day = subst (λ (d : Option (Bor (List ℕ))). HasMoment setup None (option_copied d) (option_copied time) date minute) is has in
      None≢Some (only date has_day.0)

pub no-minute : (times : List Item) (time : Option (Bor (List ℕ))) (text : Bor (List ℕ)) → time ≡ Some text → ((minute : ℕ) → SpellsTime times text.now minute → ◌≡◌ {A = Option ℕ} None (Some minute))
    → (minute : Option ℕ) → ¬ HasMinute times (option_copied time) minute
no-minute times time text is only minute h =
    let has = subst (λ (t : Option (Bor (List ℕ))). HasMinute times (option_copied t) minute) is h in
    None≢Some (only has.0 has.2)

module _ (part : Option (ℕ × Bor (List ℕ))) (letter : ℕ) (text : Bor (List ℕ)) (is : part ≡ Some (letter, text)) where
  pub no-micros : ((number : ℕ) → ¬ IsMicros (letter, text.now) number) → HasMicros (option_map part_of part) None
  no-micros none = subst (λ (p : Option (ℕ × Bor (List ℕ))). HasMicros (option_map part_of p) None) (sym is) none

  pub some-micros : (m n : ℕ) → (number : ℕ) × IsMicros (letter, text.now) number × (m ≡ min number TOO_BIG) → m ≤ BIG → n ≡ m → HasMicros (option_map part_of part) (Some n)
  some-micros m n (number, micros, capped) within same =
      let exact : number ≡ n = omega (arith, capped, within, same) in
      subst (λ (p : Option (ℕ × Bor (List ℕ))). HasMicros (option_map part_of p) (Some n)) (sym is) (subst (λ (k : ℕ). IsMicros (letter, text.now) k) exact micros)

  pub slow-micros : (m : ℕ) → (number : ℕ) × IsMicros (letter, text.now) number × (m ≡ min number TOO_BIG) → BIG < m → IsTooSlow (option_map part_of part)
  slow-micros m (number, micros, capped) above =
      (number, subst (λ (p : Option (ℕ × Bor (List ℕ))). HasMicros (option_map part_of p) (Some number)) (sym is) micros, omega (arith, capped, above))
