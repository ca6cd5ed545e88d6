-- Only dated outcomes have a sum.
use Rattle.std.proofs.Common.{◌≡◌, ◌∙◌, ◌||◌, ◌&&◌, ◌==◌, Bool, true, false, cond, List, [], ◌∷◌, Some, filter, refl, ap, eq-eqb}
use Rattle.std.specs.Ordering.{is_eq}
use Rattle.std.specs.List.{AllByRecursion, list_any}
use Rattle.std.proofs.Math.Bool.{or-true}
use Rattle.std.proofs.lemmas.Bool.{eqb-true}
use Rattle.std.proofs.lemmas.Cmp.{tied_itself}
use Rattle.std.proofs.lemmas.List.Elements.{All-from_recursion}
use Rattle.ga_base.specs.declared.key.Key.{Key}
use Rattle.ga_base.specs.declared.key.Visitor.{Visitor}
use Rattle.ga_base.specs.Orders.{is_same_visitor, name_of}
use Rattle.ga_base.proofs.OrderLemmas.{name_cmp_total}
use Rattle.ga_summary.specs.Dated.{AllDated, IsDated}
use Rattle.ga_summary.specs.Outcomes.{Hit, Outcome, has_key, hits_of, is_by}
use Rattle.ga_summary.specs.SummaryRows.{SummaryValue, has_name, names_at}
use Rattle.ga_summary.specs.Sums.{IsSumOf}
use Rattle.ga_summary.proofs.OneLine.{both_true}

itself : (visitor : Visitor) → is_same_visitor visitor visitor ≡ true
itself visitor = rw (eq-eqb visitor.date visitor.date refl) (ap is_eq (tied_itself name_cmp_total (name_of visitor)))

-- whether one of the lines that have the key is by the visitor
abbrev is_seen : Key → Visitor → List Hit → Bool
is_seen key visitor hits = list_any (λ (hit : Hit). is_by visitor hit.visitor) (filter (has_key key) hits)

seen-first : (hit : Hit) (hits : List Hit) (key : Key) (visitor : Visitor) → has_key key hit ≡ true → hit.visitor ≡ Some visitor → is_seen key visitor (hit ∷ hits) ≡ true
seen-first hit hits key visitor has is = rw (has, is) (ap (λ (b : Bool). b || is_seen key visitor hits) (itself visitor))

seen-later : (hit : Hit) (hits : List Hit) (key : Key) (visitor : Visitor) → is_seen key visitor hits ≡ true → is_seen key visitor (hit ∷ hits) ≡ true
seen-later hit hits key visitor seen = split (has_key key hit)
  where
    split : (b : Bool) → list_any (λ (h : Hit). is_by visitor h.visitor) (cond b (hit ∷ filter (has_key key) hits) (filter (has_key key) hits)) ≡ true
    split true = ap (λ (b : Bool). is_by visitor hit.visitor || b) seen ∙ or-true (is_by visitor hit.visitor)
    split false = seen

all-dated : (hits : List Hit) → ((key : Key) (visitor : Visitor) → is_seen key visitor hits ≡ true → visitor.date ≡ key.date) → AllByRecursion IsDated hits
all-dated [] dated = tt
all-dated (hit ∷ hits) dated = (
  λ key has visitor is. dated key visitor (seen-first hit hits key visitor has is),
  all-dated hits (λ key visitor seen. dated key visitor (seen-later hit hits key visitor seen)),
)

pub only-dated : (xs : List Outcome) (s : SummaryValue) → IsSumOf xs s → AllDated xs
only-dated xs s sum = All-from_recursion IsDated (hits_of xs) (all-dated (hits_of xs) day)
  where
    day : (key : Key) (visitor : Visitor) → is_seen key visitor (hits_of xs) ≡ true → visitor.date ≡ key.date
    day key visitor seen =
        let pair : ((visitor.date == key.date) && has_name (names_at s.rows key) (name_of visitor)) ≡ true = sum.pairs key visitor ∙ seen in
        eqb-true visitor.date key.date (both_true _ _ pair).0
