-- The bytes that separate the entries of a forwarded field, as searches find them.
use Rattle.std.proofs.Common.{◌≡◌, ℕ, zero, suc, ◌+◌, ◌-◌, ◌<◌, ◌≤◌, ◌==◌, Bool, true, false, List, [], ◌∷◌, ◌++◌, length, take, drop, get_or, Option, Some, None, refl, sym, ap, ◌∙◌, subst, arith, inl, inr, add-one, length-drop, length-take, take_all, drop-cons, append-nil}
use Rattle.std.proofs.lemmas.Bool.{eqb-true, eq-eqb, false_from_ne_true}
use Rattle.std.proofs.lemmas.List.{length-take-le, get_or-take, take-append-drop, drop_all}
use Rattle.std.proofs.lemmas.List.Elements.{All-from_get_or}
use Rattle.std.proofs.lemmas.List.Splits.{slice_split_none, slice_split_at}
use Rattle.std.proofs.Math.Seq.{split_at}
use Rattle.std.specs.Prelude.{◌||◌, not, unwrap_or}
use Rattle.std.specs.List.{All, list_any, slice_split}
use Rattle.bstr.specs.Bytes.{is_in, not_in}
use Rattle.memchr.specs.Find.{IsFirstByte}
use Rattle.ga_hosts.specs.Addresses.{IsAddress}
use Rattle.ga_line.specs.Forwarded.{FirstAddress, entries}
use Rattle.ga_line.proofs.RunLemmas.{Stops, IsRun}

same-test : (a b : ℕ) → (a == b) ≡ (b == a)
same-test a b = go (a == b) (b == a) refl refl
  where
    go : (s t : Bool) → (a == b) ≡ s → (b == a) ≡ t → s ≡ t
    go true true e f = refl
    go false false e f = refl
    go true false e f = sym (eq-eqb b a (sym (eqb-true a b e))) ∙ f
    go false true e f = sym e ∙ eq-eqb a b (sym (eqb-true b a f))

pub any-in : (set : List ℕ) (x : ℕ) → list_any (λ y. y == x) set ≡ is_in set x
unfolding is_in
any-in [] x = refl
any-in (y ∷ set) x = ap (λ (t : Bool). t || list_any (λ y. y == x) set) (same-test y x) ∙ ap (λ (t : Bool). (x == y) || t) (any-in set x)

-- the bytes before the first that passes, and what follows from it on
module _ (p : ℕ → Bool) (text : List ℕ) where
  before-fails : (end : ℕ) → IsFirstByte p text (Some end) → All (λ x. p x ≡ false) (take end text)
  before-fails end first =
      let inside : end < length text = first.0.high in
      All-from_get_or (λ x. p x ≡ false) (take end text) 0 (λ i lt.
      let below : i < end = omega (arith, length-take-le end text (omega arith)) in
      let same : get_or (take end text) i 0 ≡ get_or text i 0 = rw get_or-take refl in
      false_from_ne_true _ (λ yes. first.0.before i (omega arith) below (ap p (sym same) ∙ yes)))

  all-fail : IsFirstByte p text None → All (λ x. p x ≡ false) text
  all-fail none = All-from_get_or (λ x. p x ≡ false) text 0 (λ i lt. false_from_ne_true _ (λ yes. none i (omega arith) lt yes))

  pub split-first : (end : ℕ) → IsFirstByte p text (Some end) → slice_split p text ≡ take end text ∷ slice_split p (take (length text - (end + 1)) (drop (end + 1) text))
  split-first end first =
      let inside : end < length text = first.0.high in
      let whole : text ≡ take end text ++ get_or text end 0 ∷ drop (end + 1) text = rw add-one (split_at text end 0 inside) in
      let rest : take (length text - (end + 1)) (drop (end + 1) text) ≡ drop (end + 1) text =
      take_all (length text - (end + 1)) (drop (end + 1) text) (omega (arith, length-drop (end + 1) text)) in
      rw rest (ap (slice_split p) whole ∙ slice_split_at p (take end text) (get_or text end 0) (drop (end + 1) text) (before-fails end first) first.1)

  pub split-none : IsFirstByte p text None → slice_split p text ≡ text ∷ []
  split-none none = slice_split_none p text (all-fail none)

-- one entry that is no address
pub first-later : (separators text : List ℕ) (end : ℕ) → IsFirstByte (is_in separators) text (Some end) → ¬ IsAddress (take end text) → (host : Option (List ℕ))
    → FirstAddress (entries separators (take (length text - (end + 1)) (drop (end + 1) text))) host → FirstAddress (entries separators text) host
first-later separators text end first none host later = subst (λ (es : List (List ℕ)). FirstAddress es host) (sym (split-first (is_in separators) text end first)) (inr (none, later))

-- one that is
pub first-here : (separators text : List ℕ) (end : ℕ) → IsFirstByte (is_in separators) text (Some end) → IsAddress (take end text) → FirstAddress (entries separators text) (Some (take end text))
first-here separators text end first address = subst (λ (es : List (List ℕ)). FirstAddress es (Some (take end text))) (sym (split-first (is_in separators) text end first)) (inl (address, refl))

-- the last one
pub last-here : (separators text : List ℕ) → IsFirstByte (is_in separators) text None → IsAddress text → FirstAddress (entries separators text) (Some text)
last-here separators text none address = subst (λ (es : List (List ℕ)). FirstAddress es (Some text)) (sym (split-none (is_in separators) text none)) (inl (address, refl))

pub last-none : (separators text : List ℕ) → IsFirstByte (is_in separators) text None → ¬ IsAddress text → FirstAddress (entries separators text) None
last-none separators text none other = subst (λ (es : List (List ℕ)). FirstAddress es None) (sym (split-none (is_in separators) text none)) (inr (other, refl))

-- where the first byte is found that ends a run, the run is what stands before it
module _ (p q : ℕ → Bool) (in_run : (b : ℕ) → q b ≡ false → p b ≡ true) (behind_run : (b : ℕ) → q b ≡ true → p b ≡ false) where
  pub run-found : (text : List ℕ) (r : Option ℕ) → IsFirstByte q text r → IsRun p text (take (unwrap_or r (length text)) text) (drop (unwrap_or r (length text)) text)
  run-found text None none = record {
    split = sym (take-append-drop (length text) text);
    all = λ k d lt. in_run _ (subst (λ (t : List ℕ). All (λ x. q x ≡ false) t) (sym (take_all (length text) text (omega arith))) (all-fail q text none) k d lt);
    stops = subst (Stops p) (sym (drop_all (length text) text (omega arith))) tt;
  }
  run-found text (Some end) first =
      let inside : end < length text = first.0.high in
      record {
        split = sym (take-append-drop end text);
        all = λ k d lt. in_run _ (before-fails q text end first k d lt);
        stops = subst (Stops p) (sym (drop-cons text end 0 inside)) (behind_run _ first.1);
      }

in-not : (b : Bool) → b ≡ false → not b ≡ true
in-not true e = sym e
in-not false e = refl

behind-not : (b : Bool) → b ≡ true → not b ≡ false
behind-not true e = refl
behind-not false e = sym e

not-in : (b : Bool) → not b ≡ false → b ≡ true
not-in true e = refl
not-in false e = sym e

not-behind : (b : Bool) → not b ≡ true → b ≡ false
not-behind true e = sym e
not-behind false e = refl

-- the run of other bytes, and the run of separators
pub entry-run : (separators text front back : List ℕ) (r : Option ℕ) (n : ℕ) → IsFirstByte (is_in separators) text r → n ≡ unwrap_or r (length text) → front ≡ take n text → back ≡ drop n text
    → IsRun (not_in separators) text front back
entry-run separators text front back r n first is before after =
    subst (λ (b : List ℕ). IsRun (not_in separators) text front b) (sym (after ∙ ap (λ (k : ℕ). drop k text) is))
    (subst (λ (a : List ℕ). IsRun (not_in separators) text a (drop (unwrap_or r (length text)) text)) (sym (before ∙ ap (λ (k : ℕ). take k text) is))
    (run-found (not_in separators) (is_in separators) (λ b e. in-not _ e) (λ b e. behind-not _ e) text r first))

pub gap-run : (separators text : List ℕ) (n : ℕ) → IsFirstByte (not_in separators) text (Some n) → IsRun (is_in separators) text (take n text) (drop n text)
gap-run separators text n first = run-found (is_in separators) (not_in separators) (λ b e. not-in _ e) (λ b e. not-behind _ e) text (Some n) first

pub all-gap : (separators text : List ℕ) → IsFirstByte (not_in separators) text None → IsRun (is_in separators) text text []
all-gap separators text none = record {
  split = sym (append-nil text);
  all = λ k d lt. not-in _ (all-fail (not_in separators) text none k d lt);
  stops = tt;
}

drop-one : (n : ℕ) (xs : List ℕ) → drop 1 (drop n xs) ≡ drop (suc n) xs
drop-one zero xs = refl
drop-one (suc n) [] = refl
drop-one (suc n) (x ∷ xs) = drop-one n xs

-- what follows the byte after a place
pub behind-byte : (text after : List ℕ) (end : ℕ) → after ≡ drop end text → take (length after - 1) (drop 1 after) ≡ take (length text - (end + 1)) (drop (end + 1) text)
behind-byte text after end is =
    let long : length after ≡ length text - end = ap length is ∙ length-drop end text in
    take_all (length after - 1) (drop 1 after) (omega (arith, length-drop 1 after)) ∙ ap (drop 1) is ∙ drop-one end text ∙ ap (λ (n : ℕ). drop n text) (sym (add-one end))
    ∙ sym (take_all (length text - (end + 1)) (drop (end + 1) text) (omega (arith, length-drop (end + 1) text)))

pub some-behind : (text after : List ℕ) (end : ℕ) → end < length text → after ≡ drop end text → 1 ≤ length after
some-behind text after end inside is = omega (arith, ap length is, length-drop end text)

pub cut-shorter : (text : List ℕ) (end : ℕ) → end < length text → length (take (length text - (end + 1)) (drop (end + 1) text)) < length text
cut-shorter text end inside = omega (arith, length-take (length text - (end + 1)) (drop (end + 1) text), length-drop (end + 1) text)
