-- A visitor of a key is of the key's day, where each counted line may be counted.
use Rattle.std.proofs.Common.{◌≡◌, ℕ, true, List, Option, Some, None, refl, sym, ap, ◌∙◌}
use Rattle.std.specs.Option.{ForSome}
use Rattle.std.proofs.lemmas.Bool.{false≢true}
use Rattle.std.proofs.lemmas.List.Elements.{All-contains, All-filter, filter_passes}
use Rattle.std.proofs.lemmas.List.Folds.{Any-from_list_any}
use Rattle.ga_base.specs.declared.key.Key.{Key}
use Rattle.ga_base.specs.declared.key.Visitor.{Visitor}
use Rattle.ga_base.specs.Orders.{is_same_key}
use Rattle.ga_summary.specs.Outcomes.{Hit, Outcome, has_key, has_visit, hits_at, hits_of, is_by}
use Rattle.ga_summary.specs.Sound.{AllCountable, IsCountable}
use Rattle.ga_numbers.proofs.Same.{same-key, same-visitor}

abbrev MayCount : Hit → Type 0
MayCount hit = (date : ℕ) × IsCountable date hit

key-date : (key : Key) (hit : Hit) (date : ℕ) → IsCountable date hit → has_key key hit ≡ true → key.date ≡ date
key-date key hit date can has =
    let found = Any-from_list_any (is_same_key key) hit.keys has in
    let other = found.1 in
    ap (λ (k : Key). k.date) (same-key key other found.4) ∙ All-contains (λ (k : Key). k.date ≡ date) hit.keys other can.dated (found.0, found.2, found.3)

visitor-date : (visitor : Visitor) (by : Option Visitor) (date : ℕ) → ForSome by (λ v. v.date ≡ date) → is_by visitor by ≡ true → visitor.date ≡ date
visitor-date visitor None date can is = absurd (false≢true is)
visitor-date visitor (Some other) date can is = ap (λ (v : Visitor). v.date) (same-visitor visitor other is) ∙ can other refl

pub visit-dated : (key : Key) (visitor : Visitor) (outcomes : List Outcome) → AllCountable outcomes → has_visit key visitor outcomes ≡ true → visitor.date ≡ key.date
visit-dated key visitor outcomes can has =
    let found = Any-from_list_any (λ (hit : Hit). is_by visitor hit.visitor) (hits_at key outcomes) has in
    let hit = found.1 in
    let may = All-contains MayCount (hits_at key outcomes) hit (All-filter (has_key key) MayCount (hits_of outcomes) can) (found.0, found.2, found.3) in
    let keyed : has_key key hit ≡ true = All-contains (λ (h : Hit). has_key key h ≡ true) (hits_at key outcomes) hit (filter_passes (has_key key) (hits_of outcomes)) (found.0, found.2, found.3) in
    visitor-date visitor hit.visitor may.0 may.1.visitor found.4 ∙ sym (key-date key hit may.0 may.1 keyed)
