-- A text spells one range at most, or lacks its first address, or lacks its second one at one place.
use Rattle.std.proofs.Common.{◌≡◌, ◌↔◌, ℕ, ◌+◌, ◌<◌, Option, Some, None, List, [], ◌∷◌, ◌++◌, length, Result, Ok, Err, IsErrOf, refl, sym, ap, ◌∙◌, subst, inl, inr, ◌⊎◌, arith, append_assoc}
use Rattle.std.proofs.lemmas.Option.{same_Some}
use Rattle.ga_hosts.specs.declared.address.Address.{Address}
use Rattle.ga_hosts.specs.declared.address.Address.TheVariants.{V4, V6}
use Rattle.ga_hosts.specs.declared.range.Range.{Range}
use Rattle.ga_hosts.specs.declared.range.BadRange.{BadRange}
use Rattle.ga_hosts.specs.Addresses.{Spells, IsAddress, IsAtMost}
use Rattle.ga_hosts.specs.Ranges.{SpellsOne, SpellsTwo, SpellsRange, LacksFirst, LacksSecond}
use Rattle.ga_hosts.specs.Steps.{IsCut}
use Rattle.ga_hosts.proofs.AddressLemmas.{one_address}
use Rattle.ga_hosts.proofs.DashLemmas.{Dashless, dashless-from_all, dashless-address, one-cut, dash-no_address}

-- two cuts of one text after an address are one cut
same-cut : (text first second other more : List ℕ) → text ≡ first ++ (45 ∷ []) ++ second → text ≡ other ++ (45 ∷ []) ++ more → Dashless first → Dashless other → (first ≡ other) × (second ≡ more)
same-cut text first second other more e k h g =
    one-cut first other second more h g (sym (append_assoc first (45 ∷ []) second) ∙ sym e ∙ k ∙ append_assoc other (45 ∷ []) more)

whole-or-cut : (text first second : List ℕ) (address : Address) → Spells text address → text ≡ first ++ (45 ∷ []) ++ second → ⊥
whole-or-cut text first second address is split =
    dash-no_address first second (subst Dashless (split ∙ append_assoc first (45 ∷ []) second) (dashless-address text address is))

same-range : (range other : Range) → range.low ≡ other.low → range.high ≡ other.high → range ≡ other
same-range range other low high = λ i. record { low = low i; high = high i }

one-one : (text : List ℕ) (range other : Range) → SpellsOne text range → SpellsOne text other → range ≡ other
one-one text range other h k =
    let low = one_address text range.low other.low h.low k.low in
    same-range range other low (h.high ∙ low ∙ sym k.high)

two-two : (text : List ℕ) (range other : Range) → SpellsTwo text range → SpellsTwo text other → range ≡ other
two-two text range other h k =
    let (first, second) = same-cut text h.first h.second k.first k.second h.spelled k.spelled (dashless-address _ _ h.low) (dashless-address _ _ k.low) in
    same-range range other
    (one_address k.first _ _ (subst (λ t. Spells t range.low) first h.low) k.low)
    (one_address k.second _ _ (subst (λ t. Spells t range.high) second h.high) k.high)

-- a text spells one range at most
pub one_range : (text : List ℕ) (range other : Range) → SpellsRange text range → SpellsRange text other → range ≡ other
one_range text range other (inl h) (inl k) = one-one text range other h k
one_range text range other (inl h) (inr k) = absurd (whole-or-cut text k.first k.second range.low h.low k.spelled)
one_range text range other (inr h) (inl k) = absurd (whole-or-cut text h.first h.second other.low k.low h.spelled)
one_range text range other (inr h) (inr k) = two-two text range other h k

first-no_range : (text : List ℕ) (range : Range) → LacksFirst text → SpellsRange text range → ⊥
first-no_range text range lacks (inl h) = lacks.whole (range.low, h.low)
first-no_range text range lacks (inr h) = lacks.before_dash h.first h.second h.spelled (range.low, h.low)

second-no_range : (text : List ℕ) (at : ℕ) (range : Range) → LacksSecond text at → SpellsRange text range → ⊥
second-no_range text at range lacks (inl h) = whole-or-cut text lacks.first lacks.second range.low h.low lacks.spelled
second-no_range text at range lacks (inr h) =
    let (first, second) = same-cut text h.first h.second lacks.first lacks.second h.spelled lacks.spelled (dashless-address _ _ h.low) (dashless-address _ _ lacks.is_low) in
    let low = one_address lacks.first _ _ (subst (λ t. Spells t range.low) first h.low) lacks.is_low in
    lacks.none range.high (subst (λ t. Spells t range.high) second h.high) (subst (λ a. IsAtMost a range.high) low h.ordered)

first-no_second : (text : List ℕ) (at : ℕ) → LacksFirst text → LacksSecond text at → ⊥
first-no_second text at lacks h = lacks.before_dash h.first h.second h.spelled (h.low, h.is_low)

one-second : (text : List ℕ) (at place : ℕ) → LacksSecond text at → LacksSecond text place → at ≡ place
one-second text at place h k =
    let (first, second) = same-cut text h.first h.second k.first k.second h.spelled k.spelled (dashless-address _ _ h.is_low) (dashless-address _ _ k.is_low) in
    h.place ∙ ap (λ t. length t + 1) first ∙ sym k.place

-- a text and what is answered for it: its range, or the place from which on an address is missing
abbrev pub Reads : List ℕ → Result Range BadRange → Type 0
Reads text (Ok range) = SpellsRange text range
Reads text (Err fault) = ((fault.at ≡ 0) × LacksFirst text) ⊎ LacksSecond text fault.at

pub reads-ok : (text : List ℕ) (read : Result Range BadRange) → Reads text read → (range : Range) → (read ≡ Ok range) ↔ SpellsRange text range
reads-ok text (Ok own) h range = (λ e. subst (SpellsRange text) (cc) h, λ k. ap Ok (one_range text own range h k))
reads-ok text (Err fault) (inl h) range = (λ e. cc, λ k. absurd (first-no_range text range h.1 k))
reads-ok text (Err fault) (inr h) range = (λ e. cc, λ k. absurd (second-no_range text fault.at range h k))

-- an address isn't above itself
pub at_most-same : (address : Address) → IsAtMost address address
at_most-same (V4 number) = omega arith
at_most-same (V6 number) = omega arith

-- the place of a fault, and none of a range
abbrev place_of : Result Range BadRange → ℕ
place_of (Ok range) = 0
place_of (Err fault) = fault.at

abbrev fault_at : ℕ → Result Range BadRange
fault_at at = Err (record { at = at })

pub reads-bad_first : (text : List ℕ) (read : Result Range BadRange) → Reads text read → IsErrOf read (record { at = 0 }) ↔ LacksFirst text
reads-bad_first text (Ok own) h = (λ e. cc, λ k. absurd (first-no_range text own k h))
reads-bad_first text (Err fault) (inl h) = (λ e. h.1, λ k. ap fault_at h.0)
reads-bad_first text (Err fault) (inr h) =
    (λ e. let same : fault.at ≡ 0 = ap place_of e in absurd (omega (arith, h.place)), λ k. absurd (first-no_second text fault.at k h))

pub reads-bad_second : (text : List ℕ) (read : Result Range BadRange) → Reads text read → (at : ℕ) → 0 < at → IsErrOf read (record { at = at }) ↔ LacksSecond text at
reads-bad_second text (Ok own) h at later = (λ e. cc, λ k. absurd (second-no_range text at own k h))
reads-bad_second text (Err fault) (inl h) at later =
    (λ e. let same : fault.at ≡ at = ap place_of e in absurd (omega (arith, h.0)), λ k. absurd (first-no_second text at h.1 k))
reads-bad_second text (Err fault) (inr h) at later =
    (λ e. subst (LacksSecond text) (ap place_of e) h, λ k. ap fault_at (one-second text fault.at at h k))

-- what stands before the first dash is no address
no-first : (text first : List ℕ) (second : Option (List ℕ)) → IsCut text first second → (IsAddress first → ⊥) → LacksFirst text
no-first text first None cut none =
    record {
      whole = λ is. none (subst IsAddress cut.0 is);
      before_dash = λ front back split is.
          absurd (dash-no_address front back (subst Dashless (sym cut.0 ∙ split ∙ append_assoc front (45 ∷ []) back) (dashless-from_all first cut.1)));
    }
no-first text first (Some second) cut none =
    record {
      whole = λ is. whole-or-cut text first second is.0 is.1 cut.0;
      before_dash = λ front back split is.
          let (same, _) = same-cut text front back first second split cut.0 (dashless-address front is.0 is.1) (dashless-from_all first cut.1) in
          none (subst IsAddress same is);
    }

pub reads-no_first : (text first : List ℕ) (second : Option (List ℕ)) → IsCut text first second → ((address : Address) → Spells first address → ⊥) → Reads text (Err (record { at = 0 }))
reads-no_first text first second cut none = inl (refl, no-first text first second cut (λ is. none is.0 is.1))

pub reads-one : (text first : List ℕ) (low : Address) → IsCut text first None → Spells first low → Reads text (Ok (record { low = low; high = low }))
reads-one text first low cut is = inl record { low = subst (λ t. Spells t low) (sym cut.0) is; high = refl }

pub reads-two : (text first second : List ℕ) (low high : Address) → IsCut text first (Some second) → Spells first low → Spells second high → IsAtMost low high → Reads text (Ok (record { low = low; high = high }))
reads-two text first second low high cut is_low is_high ordered =
    inr record { first = first; second = second; spelled = cut.0; low = is_low; high = is_high; ordered = ordered }

pub reads-no_second : (text first second : List ℕ) (low : Address) → IsCut text first (Some second) → Spells first low → ((high : Address) → Spells second high → IsAtMost low high → ⊥) → Reads text (Err (record { at = length first + 1 }))
reads-no_second text first second low cut is_low none =
    inr record { first = first; second = second; low = low; spelled = cut.0; is_low = is_low; none = none; place = refl }

-- an address that is below the first one is the only address of its text
pub none-above : (text : List ℕ) (low own : Address) (given : Option Address) → ((address : Address) → (given ≡ Some address) ↔ Spells text address) → given ≡ Some own → (IsAtMost low own → ⊥) → (high : Address) → Spells text high → IsAtMost low high → ⊥
none-above text low own given found is above high spells ordered =
    above (subst (IsAtMost low) (same_Some high own (sym ((found high).1 spells) ∙ is)) ordered)
