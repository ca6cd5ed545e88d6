-- Two summaries in order can be merged, and outcomes have a sum.
use Rattle.std.proofs.Common.{◌≡◌, ◌∙◌, ◌||◌, Bool, true, false, cond, List, [], ◌∷◌, Some, is_some, refl, sym, ap, subst, nat_lt, map}
use Rattle.std.specs.List.{AllByRecursion, find, list_any}
use Rattle.std.specs.List.Sorted.{IsStrictlySortedBy}
use Rattle.std.proofs.lemmas.List.Elements.{recursion_from_All}
use Rattle.ga_base.specs.declared.counts.Sums.{Sums}
use Rattle.ga_base.specs.declared.key.Key.{Key}
use Rattle.ga_base.specs.declared.key.Visitor.{Visitor}
use Rattle.ga_base.specs.Orders.{is_same_key, key_cmp}
use Rattle.ga_base.proofs.OrderLemmas.{key_cmp_total}
use Rattle.ga_summary.specs.Dated.{AllDated, IsDated}
use Rattle.ga_summary.specs.OneLine.{line_sums, line_value}
use Rattle.ga_summary.specs.Outcomes.{Counted, Excluded, Failed, Hit, Outcome, has_key, has_visit, hits_of, is_by, sums_of}
use Rattle.ga_summary.specs.Steps.Joined.{merged_value}
use Rattle.ga_summary.specs.Steps.Places.{Rises, find_at, put, put_all}
use Rattle.ga_summary.specs.SummaryRows.{IsInOrder, SummaryValue, no_sums}
use Rattle.ga_summary.specs.Sums.{IsMerged, IsSumOf}
use Rattle.ga_summary.proofs.Appends.{IsSumOf-append}
use Rattle.ga_summary.proofs.Lines.{IsSumOf-lines, lines_value}
use Rattle.ga_summary.proofs.Merging.{IsInOrder-put_rows, has_pair-put_rows, present-put_rows, sums_at-put_rows}
use Rattle.ga_summary.proofs.NameLists.{any-find}
use Rattle.ga_summary.proofs.OneLine.{rising-sum, sums_of-line}
use Rattle.ga_summary.proofs.Put.{find_put, joined_to, rises_none, rises_put, rises_put_all}

pub IsMerged-value : (a b : SummaryValue) → IsInOrder a.rows → IsInOrder b.rows → IsMerged a b (merged_value a b)
IsMerged-value a b s t = record {
  totals = refl;
  sums = sums_at-put_rows a.rows b.rows s t;
  pairs = has_pair-put_rows a.rows b.rows s t;
  present = present-put_rows a.rows b.rows s t;
  ordered = IsInOrder-put_rows a.rows b.rows s t;
}

-- ---- one counted line, whose keys may come in any order, and more than once

abbrev put_key : Key → List Key → List Key
put_key key keys = put key_cmp (λ k. k) (λ k _. k) key keys

abbrev put_keys : List Key → List Key → List Key
put_keys more keys = put_all key_cmp (λ k. k) (λ k _. k) more keys

abbrev KeysRise : List Key → Type 0
KeysRise keys = Rises key_cmp (λ k. k) keys

or_swap : (a b c : Bool) → ((a || b) || c) ≡ (b || (a || c))
or_swap true true c = refl
or_swap true false c = refl
or_swap false b c = refl

abbrev same_key : Key → List Key → Bool
same_key key keys = list_any (λ other. is_same_key key other) keys

same-put : (key y : Key) (keys : List Key) → KeysRise keys → same_key key (put_key y keys) ≡ (is_same_key key y || same_key key keys)
same-put key y keys rise =
    any-find (λ other. is_same_key key other) (put_key y keys)
    ∙ ap is_some (find_put key_cmp key_cmp_total (λ k. k) (λ k _. k) (λ _ _. refl) key y keys rise)
    ∙ split (is_same_key key y) (joined_to (λ k _. k) (find_at key_cmp (λ k. k) y keys) y)
    ∙ ap (λ (b : Bool). is_same_key key y || b) (sym (any-find (λ other. is_same_key key other) keys))
  where
    split : (b : Bool) (k : Key) → is_some (cond b (Some k) (find (λ other. is_same_key key other) keys)) ≡ (b || is_some (find (λ other. is_same_key key other) keys))
    split true k = refl
    split false k = refl

same-puts : (key : Key) (more keys : List Key) → KeysRise keys → same_key key (put_keys more keys) ≡ (same_key key keys || same_key key more)
same-puts key [] keys rise = or_none (same_key key keys)
  where
    or_none : (b : Bool) → b ≡ (b || false)
    or_none true = refl
    or_none false = refl
same-puts key (y ∷ more) keys rise =
    same-puts key more (put_key y keys) (rises_put key_cmp key_cmp_total (λ k. k) (λ k _. k) (λ _ _. refl) y keys rise)
    ∙ ap (λ (b : Bool). b || same_key key more) (same-put key y keys rise)
    ∙ or_swap (is_same_key key y) (same_key key keys) (same_key key more)

keys-from-rise : (keys : List Key) → KeysRise keys → IsStrictlySortedBy key_cmp keys
keys-from-rise keys rise = subst (IsStrictlySortedBy key_cmp) (itself keys) rise
  where
    itself : (keys : List Key) → map (λ k. k) keys ≡ keys
    itself [] = refl
    itself (key ∷ keys) = ap (λ (l : List Key). key ∷ l) (itself keys)

module _ (hit : Hit) where
  -- the line with its keys in order, each once
  abbrev in-order : Hit
  in-order = record hit { keys = put_keys hit.keys [] }

  same-keys : (key : Key) → has_key key in-order ≡ has_key key hit
  same-keys key = same-puts key hit.keys [] (rises_none key_cmp (λ k. k))

  same-sums : (key : Key) → sums_of key (Counted in-order ∷ []) ≡ sums_of key (Counted hit ∷ [])
  same-sums key =
      sums_of-line in-order key ∙ ap (λ (b : Bool). cond b (line_sums hit.bytes hit.micros) no_sums) (same-keys key) ∙ sym (sums_of-line hit key)

  same-visits : (key : Key) (visitor : Visitor) → has_visit key visitor (Counted in-order ∷ []) ≡ has_visit key visitor (Counted hit ∷ [])
  same-visits key visitor = split (has_key key in-order) ∙ ap (λ (b : Bool). list_any (λ (h : Hit). is_by visitor h.visitor) (cond b (hit ∷ []) [])) (same-keys key)
    where
      split : (b : Bool) → list_any (λ (h : Hit). is_by visitor h.visitor) (cond b (in-order ∷ []) []) ≡ list_any (λ (h : Hit). is_by visitor h.visitor) (cond b (hit ∷ []) [])
      split true = refl
      split false = refl

  line-sum : IsDated hit → IsSumOf (Counted hit ∷ []) (line_value in-order)
  line-sum dated =
      let rise : KeysRise (put_keys hit.keys []) = rises_put_all key_cmp key_cmp_total (λ k. k) (λ k _. k) (λ _ _. refl) hit.keys [] (rises_none key_cmp (λ k. k)) in
      let sum = rising-sum in-order (keys-from-rise (put_keys hit.keys []) rise) (λ key there. dated key (sym (same-keys key) ∙ there)) in
      record {
        totals = sum.totals;
        sums = λ key. sum.sums key ∙ same-sums key;
        pairs = λ key visitor. sum.pairs key visitor ∙ same-visits key visitor;
        present = λ key. sum.present key ∙ ap (λ (s : Sums). nat_lt 0 s.hits) (same-sums key);
        ordered = sum.ordered;
      }

-- ---- lists of outcomes

abbrev HasSum : List Outcome → Type 0
HasSum xs = (s : SummaryValue) × IsSumOf xs s

first-sum : (x : Outcome) (xs : List Outcome) → AllByRecursion IsDated (hits_of (x ∷ xs)) → HasSum (x ∷ [])
first-sum Failed xs dated = (lines_value 1 0, IsSumOf-lines 1 0)
first-sum Excluded xs dated = (lines_value 0 1, IsSumOf-lines 0 1)
first-sum (Counted hit) xs dated = (line_value (in-order hit), line-sum hit dated.0)

later-dated : (x : Outcome) (xs : List Outcome) → AllByRecursion IsDated (hits_of (x ∷ xs)) → AllByRecursion IsDated (hits_of xs)
later-dated Failed xs dated = dated
later-dated Excluded xs dated = dated
later-dated (Counted hit) xs dated = dated.1

has-sum : (xs : List Outcome) → AllByRecursion IsDated (hits_of xs) → HasSum xs
has-sum [] dated = (lines_value 0 0, IsSumOf-lines 0 0)
has-sum (x ∷ xs) dated =
    let first = first-sum x xs dated in
    let rest = has-sum xs (later-dated x xs dated) in
    let both = merged_value first.0 rest.0 in
    (both, IsSumOf-append (x ∷ []) xs first.0 rest.0 both first.1 rest.1 (IsMerged-value first.0 rest.0 first.1.ordered rest.1.ordered))

pub some-sum : (xs : List Outcome) → AllDated xs → HasSum xs
some-sum xs dated = has-sum xs (recursion_from_All IsDated (hits_of xs) dated)
