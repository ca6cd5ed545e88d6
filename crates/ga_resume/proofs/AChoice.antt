-- Every list of entries has a choice: going through it from its end, the first of those that fit best so far is known.
use Rattle.std.proofs.Common.{◌≡◌, ◌⊎◌, ℕ, zero, suc, ◌<◌, ◌≤◌, ◌∙◌, Bool, true, false, List, [], ◌∷◌, length, take, refl, sym, ap, subst, arith, inl, inr, Option, Some, None}
use Rattle.std.specs.List.{Contains}
use Rattle.std.specs.Str.{bytes_eq}
use Rattle.std.proofs.lemmas.Bool.{cases_lt, false≢true}
use Rattle.std.proofs.lemmas.Slice.Eq.{bytes_eq-Decides}
use Rattle.sha2.specs.Sha256.{sha256}
use Rattle.ga_base.specs.declared.entry.Entry.{Entry}
use Rattle.ga_resume.specs.Entries.{Fits, StandsAt, IsChosen, IsChoice}

module _ (front : List ℕ) (end : ℕ) where
  abbrev FitsNot : Entry → Type 0
  FitsNot entry = Fits front end entry → ⊥

  -- an entry fits or it doesn't
  fits-or-not : (entry : Entry) → Fits front end entry ⊎ FitsNot entry
  fits-or-not entry = by (cases_lt end entry.offset) (bytes_eq entry.digest (sha256 (take entry.lead front))) refl
    where
      by : (end < entry.offset) ⊎ (entry.offset ≤ end) → (same : Bool) → bytes_eq entry.digest (sha256 (take entry.lead front)) ≡ same → Fits front end entry ⊎ FitsNot entry
      by (inl beyond) same is = inr (λ fits. omega (arith, beyond, fits.within))
      by (inr within) true is = inl (record { within = within; same = (bytes_eq-Decides entry.digest (sha256 (take entry.lead front))).0 is })
      by (inr within) false is = inr (λ fits. false≢true (sym is ∙ (bytes_eq-Decides entry.digest (sha256 (take entry.lead front))).1 fits.same))

  -- the first of a list, or one of the others
  one-of : (e : Entry) (es : List Entry) (other : Entry) → Contains (e ∷ es) other → (e ≡ other) ⊎ Contains es other
  one-of e es other (zero, below, is) = inl is
  one-of e es other (suc k, below, is) = inr (k, omega (arith, below), is)

  abbrev NoneFits : List Entry → Type 0
  NoneFits es = (other : Entry) → Contains es other → FitsNot other

  abbrev Chosen : List Entry → Type 0
  Chosen es = (place : ℕ) × (entry : Entry) × IsChosen es front end place entry

  none-more : (e : Entry) (es : List Entry) → FitsNot e → NoneFits es → NoneFits (e ∷ es)
  none-more e es not none other there fits = by (one-of e es other there)
    where
      by : (e ≡ other) ⊎ Contains es other → ⊥
      by (inl same) = not (subst (Fits front end) (sym same) fits)
      by (inr later) = none other later fits

  -- the first fits, and none of the others has a greater offset
  first-chosen : (e : Entry) (es : List Entry) → Fits front end e → ((other : Entry) → Contains es other → Fits front end other → other.offset ≤ e.offset) → Chosen (e ∷ es)
  first-chosen e es fits most = (
    0,
    e,
    record {
      stands = record { below = omega arith; is = refl };
      fits = fits;
      greatest = λ other there fit. by other fit (one-of e es other there);
      first = λ earlier other before stands fit. absurd (omega (arith, before));
    },
  )
    where
      by : (other : Entry) → Fits front end other → (e ≡ other) ⊎ Contains es other → other.offset ≤ e.offset
      by other fit (inl same) = omega (arith, ap (λ (x : Entry). x.offset) same)
      by other fit (inr later) = most other later fit

  -- the one chosen among the others stays, where the first doesn't fit or has a lesser offset
  later-chosen : (e : Entry) (es : List Entry) (place : ℕ) (entry : Entry) → IsChosen es front end place entry → (Fits front end e → e.offset < entry.offset) → Chosen (e ∷ es)
  later-chosen e es place entry chosen less = (
    suc place,
    entry,
    record {
      stands = record { below = omega (arith, chosen.stands.below); is = chosen.stands.is };
      fits = chosen.fits;
      greatest = λ other there fit. by other fit (one-of e es other there);
      first = before;
    },
  )
    where
      less-of : (other : Entry) → e ≡ other → Fits front end other → other.offset < entry.offset
      less-of other same fit = subst (λ (x : Entry). x.offset < entry.offset) same (less (subst (Fits front end) (sym same) fit))

      by : (other : Entry) → Fits front end other → (e ≡ other) ⊎ Contains es other → other.offset ≤ entry.offset
      by other fit (inl same) = omega (arith, less-of other same fit)
      by other fit (inr later) = chosen.greatest other later fit

      before : (earlier : ℕ) (other : Entry) → earlier < suc place → StandsAt (e ∷ es) earlier other → Fits front end other → other.offset < entry.offset
      before zero other below stands fit = less-of other stands.is fit
      before (suc k) other below stands fit =
          chosen.first k other (omega (arith, below)) (record { below = omega (arith, stands.below); is = stands.is }) fit

  found : (es : List Entry) → NoneFits es ⊎ Chosen es
  found [] = inl (λ other there fits. absurd (omega (arith, there.1)))
  found (e ∷ es) = by (fits-or-not e) (found es)
    where
      between : Fits front end e → (place : ℕ) (entry : Entry) → IsChosen es front end place entry → (e.offset < entry.offset) ⊎ (entry.offset ≤ e.offset) → Chosen (e ∷ es)
      between fits place entry chosen (inl less) = later-chosen e es place entry chosen (λ _. less)
      between fits place entry chosen (inr most) = first-chosen e es fits (λ other there fit. omega (arith, chosen.greatest other there fit, most))

      by : Fits front end e ⊎ FitsNot e → NoneFits es ⊎ Chosen es → NoneFits (e ∷ es) ⊎ Chosen (e ∷ es)
      by (inl fits) (inl none) = inr (first-chosen e es fits (λ other there fit. absurd (none other there fit)))
      by (inl fits) (inr (place, entry, chosen)) = inr (between fits place entry chosen (cases_lt e.offset entry.offset))
      by (inr not) (inl none) = inl (none-more e es not none)
      by (inr not) (inr (place, entry, chosen)) = inr (later-chosen e es place entry chosen (λ fits. absurd (not fits)))

  pub a-choice : (es : List Entry) → (place : Option ℕ) × (from : ℕ) × IsChoice es front end place from
  a-choice es = by (found es)
    where
      by : NoneFits es ⊎ Chosen es → (place : Option ℕ) × (from : ℕ) × IsChoice es front end place from
      by (inl none) = (None, 0, (none, refl))
      by (inr (place, entry, chosen)) = (Some place, entry.offset, (entry, chosen, refl))
