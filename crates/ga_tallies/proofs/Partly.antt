-- A tally in the midst of a line: the line is counted under its first keys alone.
use Rattle.std.proofs.Common.{◌≡◌, ℕ, ◌+◌, ◌<◌, Bool, true, false, cond, ◌||◌, ◌&&◌, ◌⊎◌, inl, inr, nat_lt, List, length, map, Option, Some, None, refl, sym, ap, ◌∙◌, subst, arith, ⊎_elim}
use Rattle.std.specs.Prelude.{slice_get}
use Rattle.std.specs.List.{Contains, IsDistinct, list_any}
use Rattle.std.proofs.lemmas.Bool.{lt-ltb, ltb-false, true≢false}
use Rattle.ga_base.specs.declared.counts.Sums.{Sums}
use Rattle.ga_base.specs.declared.key.Key.{Key}
use Rattle.ga_base.specs.declared.key.Visitor.{Visitor}
use Rattle.ga_base.specs.Orders.{is_same_key, is_same_visitor}
use Rattle.ga_shards.specs.Numbers.{noted, place_of}
use Rattle.ga_summary.specs.Outcomes.{Outcome, is_by, sums_of, has_visit, totals_of}
use Rattle.ga_summary.specs.SummaryRows.{sums_plus}
use Rattle.ga_base.specs.Totals.{TotalsFit}
use Rattle.ga_tallies.specs.Steps.Adding.{added_at}
use Rattle.ga_tallies.specs.Steps.Notes.{AddsVisit, NotesKey}
use Rattle.ga_tallies.specs.Tallies.{TallySeen, IsTallyOf}
use Rattle.ga_numbers.proofs.Noted.{any-noted, kept, noted-distinct, or-false, or-true}
use Rattle.ga_tallies.proofs.OneKey.{HasKeyMore, sums-none}
use Rattle.ga_tallies.proofs.Rows.{AreWithin, no-stop, rows-noted, sums-within}
use Rattle.ga_numbers.proofs.Same.{key-laws, same-key, same-visitor, key-itself, visitor-itself}

-- the key and the visitor have these numbers
pub record Stand (t : TallySeen) (x : Key) (w : Visitor) (k v : ℕ) : Type 0 where
  pub key : slice_get t.keys k ≡ Some x
  pub visitor : slice_get t.visitors v ≡ Some w

-- t is what is counted of these outcomes, but that the visitor with the number `waiting` has no key yet
pub record IsPartlyOf (outcomes : List Outcome) (waiting : Option ℕ) (t : TallySeen) : Type 0 where
  pub totals : t.totals ≡ totals_of outcomes
  pub different_keys : IsDistinct is_same_key t.keys
  pub different_visitors : IsDistinct is_same_visitor t.visitors
  pub sums : t.sums ≡ map (λ key. sums_of key outcomes) t.keys
  pub counted : (key : Key) → list_any (is_same_key key) t.keys ≡ nat_lt 0 (sums_of key outcomes).hits
  pub pairs : (k v : ℕ) → Contains t.pairs (k, v) → (key : Key) × (visitor : Visitor) × Stand t key visitor k v × (has_visit key visitor outcomes ≡ true)
  pub visits : (key : Key) (visitor : Visitor) → has_visit key visitor outcomes ≡ true → (k : ℕ) × (v : ℕ) × Stand t key visitor k v × Contains t.pairs (k, v)
  pub used : (v : ℕ) → v < length t.visitors → ((k : ℕ) × Contains t.pairs (k, v)) ⊎ (waiting ≡ Some v)

-- a tally is one in which no visitor waits
pub from-tally : (outcomes : List Outcome) (t : TallySeen) → IsTallyOf outcomes t → IsPartlyOf outcomes None t
from-tally outcomes t h = record {
  totals = h.totals;
  different_keys = h.different_keys;
  different_visitors = h.different_visitors;
  sums = h.sums;
  counted = h.counted;
  pairs = λ k v at. let p = h.pairs k v at in (p.0, p.1, record { key = p.2; visitor = p.3 }, p.4);
  visits = λ key visitor has.
      let p = h.visits key visitor has in
      let one : p.2 ≡ key = sym (same-key key p.2 p.5) in
      let two : p.3 ≡ visitor = sym (same-visitor visitor p.3 p.7) in
      (p.0, p.1, record { key = p.4 ∙ ap Some one; visitor = p.6 ∙ ap Some two }, p.8);
  used = λ v lt. inl (h.used v lt);
}

pub to-tally : (outcomes : List Outcome) (t : TallySeen) → IsPartlyOf outcomes None t → IsTallyOf outcomes t
to-tally outcomes t h = record {
  totals = h.totals;
  different_keys = h.different_keys;
  different_visitors = h.different_visitors;
  sums = h.sums;
  counted = h.counted;
  pairs = λ k v at. let p = h.pairs k v at in (p.0, p.1, p.2.key, p.2.visitor, p.3);
  visits = λ key visitor has.
      let p = h.visits key visitor has in
      (p.0, p.1, key, visitor, p.2.key, key-itself key, p.2.visitor, visitor-itself visitor, p.3);
  used = λ v lt. ⊎_elim (λ at. at) (λ waits. let off : None ≡ Some v = waits in absurd (cc off)) (h.used v lt);
}

-- the visitor of a line has a number in the tally
abbrev pub HasNumber : TallySeen → Option Visitor → Option ℕ → Type 0
HasNumber t None place = place ≡ None
HasNumber t (Some visitor) place = (v : ℕ) × (place ≡ Some v) × (slice_get t.visitors v ≡ Some visitor)

module _ (key : Key) (visitor : Option Visitor) (place : Option ℕ) (line : Sums) (less more : List Outcome) (waiting : Option ℕ) (old new : TallySeen)
    (one : HasKeyMore key visitor line less more) (notes : NotesKey key place line old new) (part : IsPartlyOf less waiting old) (seat : HasNumber old visitor place)
    (counts : line.hits ≡ 1) (waits : (v : ℕ) → waiting ≡ Some v → place ≡ Some v) (fit : TotalsFit old.totals) where
  abbrev at : ℕ
  at = place_of is_same_key old.keys key

  same-visitors : new.visitors ≡ old.visitors
  same-visitors = ap (λ (t : TallySeen). t.visitors) notes.others

  keeps-key : (k : ℕ) (x : Key) → slice_get old.keys k ≡ Some x → slice_get new.keys k ≡ Some x
  keeps-key k x e = subst (λ (l : List Key). slice_get l k ≡ Some x) (sym notes.keys) (kept is_same_key old.keys key k x e)

  keeps-visitor : (v : ℕ) (x : Visitor) → slice_get old.visitors v ≡ Some x → slice_get new.visitors v ≡ Some x
  keeps-visitor v x e = subst (λ (l : List Visitor). slice_get l v ≡ Some x) (sym same-visitors) e

  keeps : (k : ℕ) (v : ℕ) (x : Key) (w : Visitor) → Stand old x w k v → Stand new x w k v
  keeps k v x w h = record { key = keeps-key k x h.key; visitor = keeps-visitor v w h.visitor }

  -- a pair in the new list is an old one, or that of this key and the line's visitor
  new-pair : (k v : ℕ) → Contains new.pairs (k, v) → Contains old.pairs (k, v) ⊎ ((at ≡ k) × (place ≡ Some v))
  new-pair k v h = go place notes.pairs
    where
      go : (p : Option ℕ) → AddsVisit at p old.pairs new.pairs → Contains old.pairs (k, v) ⊎ ((at ≡ k) × (p ≡ Some v))
      go None same = inl (subst (λ (l : List (ℕ × ℕ)). Contains l (k, v)) same h)
      go (Some u) adds = ⊎_elim (λ there. inl there) (λ it. inr (ap (λ (q : ℕ × ℕ). q.0) it, ap (λ (q : ℕ × ℕ). Some q.1) it)) (adds.only (k, v) h)

  old-pair : (k v : ℕ) → Contains old.pairs (k, v) → Contains new.pairs (k, v)
  old-pair k v h = go place notes.pairs
    where
      go : (p : Option ℕ) → AddsVisit at p old.pairs new.pairs → Contains new.pairs (k, v)
      go None same = subst (λ (l : List (ℕ × ℕ)). Contains l (k, v)) (sym same) h
      go (Some u) adds = adds.kept (k, v) h

  this-pair : (v : ℕ) → place ≡ Some v → Contains new.pairs (at, v)
  this-pair v e = (subst (λ (p : Option ℕ). AddsVisit at p old.pairs new.pairs) e notes.pairs).there

  -- the line's visitor, by its number
  who : (v : ℕ) → place ≡ Some v → (w : Visitor) × (visitor ≡ Some w) × (slice_get old.visitors v ≡ Some w)
  who v e = go visitor refl seat
    where
      go : (o : Option Visitor) → visitor ≡ o → HasNumber old o place → (w : Visitor) × (visitor ≡ Some w) × (slice_get old.visitors v ≡ Some w)
      go None is h = let off : None ≡ Some v = sym h ∙ e in absurd (cc off)
      go (Some w) is (u, p, s) = let same : u ≡ v = cc in (w, is, subst (λ n. slice_get old.visitors n ≡ Some w) same s)

  -- and its number
  its : (w : Visitor) → visitor ≡ Some w → (v : ℕ) × (place ≡ Some v) × (slice_get old.visitors v ≡ Some w)
  its w e = subst (λ (o : Option Visitor). HasNumber old o place) e seat

  sums-here : sums_of key more ≡ sums_plus (sums_of key less) line
  sums-here = one.sums key ∙ ap (λ b. cond b (sums_plus (sums_of key less) line) (sums_of key less)) (key-itself key)

  fits-still : TotalsFit (totals_of more)
  fits-still = subst TotalsFit (part.totals ∙ sym one.totals) fit

  none-before : list_any (is_same_key key) old.keys ≡ false → (sums_of key less).hits ≡ 0
  none-before absent = let e : nat_lt 0 (sums_of key less).hits ≡ false = sym (part.counted key) ∙ absent in zero-hits _ e
    where
      zero-hits : (n : ℕ) → nat_lt 0 n ≡ false → n ≡ 0
      zero-hits n e = omega (arith, ltb-false 0 n e)

  visited-before : (x : Key) (w : Visitor) → has_visit x w less ≡ true → has_visit x w more ≡ true
  visited-before x w h = one.visits x w ∙ ap (λ b. b || (is_same_key x key && is_by w visitor)) h

  new-visit : (x : Key) (w : Visitor) → has_visit x w more ≡ true → (has_visit x w less ≡ true) ⊎ ((x ≡ key) × (visitor ≡ Some w))
  new-visit x w h = go (has_visit x w less) (is_same_key x key) visitor refl refl refl (sym (one.visits x w) ∙ h)
    where
      go : (a b : Bool) (o : Option Visitor) → has_visit x w less ≡ a → is_same_key x key ≡ b → visitor ≡ o → (a || (b && is_by w o)) ≡ true
          → (has_visit x w less ≡ true) ⊎ ((x ≡ key) × (visitor ≡ Some w))
      go true b o p q r e = inl p
      go false false o p q r e = absurd (true≢false (sym e))
      go false true None p q r e = absurd (true≢false (sym e))
      go false true (Some u) p q r e = inr (same-key x key q, r ∙ ap Some (sym (same-visitor w u e)))

  pub key-noted : IsPartlyOf more None new
  key-noted = record {
    totals = ap (λ (t : TallySeen). t.totals) notes.others ∙ part.totals ∙ sym one.totals;
    different_keys = subst (IsDistinct is_same_key) (sym notes.keys) (noted-distinct is_same_key key-laws old.keys key part.different_keys);
    different_visitors = subst (IsDistinct is_same_visitor) (sym same-visitors) part.different_visitors;
    sums = notes.sums ∙ ap (added_at at line) part.sums ∙ rows ∙ ap (map (λ (k : Key). sums_of k more)) (sym notes.keys);
    counted = counted;
    pairs = pairs;
    visits = visits;
    used = used;
  }
    where
      rows : added_at at line (map (λ (k : Key). sums_of k less) old.keys) ≡ map (λ (k : Key). sums_of k more) (noted is_same_key old.keys key)
      rows =
          rows-noted (λ (k : Key). sums_of k less) (λ (k : Key). sums_of k more) key line one.sums old.keys part.different_keys
          (no-stop (sums_of key less) line (totals_of more) (subst (λ (s : Sums). AreWithin s (totals_of more)) sums-here (sums-within key more)) fits-still)
          (λ absent. sums-none key less (none-before absent))

      hits-of : (b : Bool) (s : Sums) → (nat_lt 0 s.hits || b) ≡ nat_lt 0 (cond b (sums_plus s line) s).hits
      hits-of true s = or-true (nat_lt 0 s.hits) ∙ sym (lt-ltb 0 (s.hits + line.hits) (omega (arith, counts)))
      hits-of false s = or-false (nat_lt 0 s.hits)

      counted : (x : Key) → list_any (is_same_key x) new.keys ≡ nat_lt 0 (sums_of x more).hits
      counted x =
          ap (list_any (is_same_key x)) notes.keys ∙ any-noted is_same_key same-key old.keys key x
          ∙ ap (λ b. b || is_same_key x key) (part.counted x) ∙ hits-of (is_same_key x key) (sums_of x less)
          ∙ ap (λ (s : Sums). nat_lt 0 s.hits) (sym (one.sums x))

      pairs : (k v : ℕ) → Contains new.pairs (k, v) → (x : Key) × (w : Visitor) × Stand new x w k v × (has_visit x w more ≡ true)
      pairs k v h =
          ⊎_elim
          (λ there. let p = part.pairs k v there in (p.0, p.1, keeps k v p.0 p.1 p.2, visited-before p.0 p.1 p.3))
          (λ it. this k v it.0 it.1)
          (new-pair k v h)
        where
          this : (k v : ℕ) → at ≡ k → place ≡ Some v → (x : Key) × (w : Visitor) × Stand new x w k v × (has_visit x w more ≡ true)
          this k v e p =
              let u = who v p in
              let w = u.0 in
              let by : is_by w visitor ≡ true = ap (is_by w) u.1 ∙ visitor-itself w in (
                key,
                w,
                record { key = subst (λ n. slice_get new.keys n ≡ Some key) e notes.stands; visitor = keeps-visitor v w u.2 },
                one.visits key w ∙ (λ i. has_visit key w less || (key-itself key i && by i)) ∙ or-true _,
              )

      visits : (x : Key) (w : Visitor) → has_visit x w more ≡ true → (k : ℕ) × (v : ℕ) × Stand new x w k v × Contains new.pairs (k, v)
      visits x w h =
          ⊎_elim
          (λ there. let p = part.visits x w there in (p.0, p.1, keeps p.0 p.1 x w p.2, old-pair p.0 p.1 p.3))
          (λ it. let n = its w it.1 in
          (at, n.0, record { key = notes.stands ∙ ap Some (sym it.0); visitor = keeps-visitor n.0 w n.2 }, this-pair n.0 n.1))
          (new-visit x w h)

      used : (v : ℕ) → v < length new.visitors → ((k : ℕ) × Contains new.pairs (k, v)) ⊎ (None ≡ Some v)
      used v lt =
          ⊎_elim
          (λ at. inl (at.0, old-pair at.0 v at.1))
          (λ wait. inl (at, this-pair v (waits v wait)))
          (part.used v (subst (λ (l : List Visitor). v < length l) same-visitors lt))
