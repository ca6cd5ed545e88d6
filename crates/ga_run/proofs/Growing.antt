-- What entries track of logs they track of them as they grow.
use Rattle.std.proofs.Common.{◌≡◌, ◌⊎◌, ◌<◌, ◌≤◌, ℕ, zero, suc, min, List, [], ◌∷◌, ◌++◌, length, take, refl, ap, sym, ◌∙◌, subst, inl, inr, arith, Option, Some, None}
use Rattle.std.proofs.lemmas.List.{length-append, take-append-le}
use Rattle.sha2.specs.Sha256.{sha256}
use Rattle.ga_base.specs.Lines.{IsEnded}
use Rattle.ga_base.specs.declared.limits.TheConstants.{FRONT}
use Rattle.ga_codec.specs.Values.{EntryValue}
use Rattle.ga_run.specs.Headline.{OnlyAppended}
use Rattle.ga_run.specs.Parts.{Adjoin, AreOnce, AreToldApart, EachOnce, EndsAt, IsToldApart, Part, log_at, parts_at}
use Rattle.ga_run.proofs.EachOnce.{Owns, Tracks, one-owner}
use Rattle.ga_run.proofs.Lists.{some-same}

log-grown : (logs later : List (List ℕ × List ℕ)) → OnlyAppended logs later → (place : ℕ) (log : List ℕ) → log_at logs place ≡ Some log → (more : List ℕ) × (log_at later place ≡ Some (log ++ more))
log-grown [] later h place log e = cc
log-grown (first ∷ logs) [] h place log e = absurd h
log-grown (first ∷ logs) (now ∷ later) h zero log e = (h.0.0, ap Some (h.0.1 ∙ ap (λ (l : List ℕ). l ++ h.0.0) (some-same e)))
log-grown (first ∷ logs) (now ∷ later) h (suc place) log e = log-grown logs later h.1 place log e

ends-grown : (log more : List ℕ) (offset : ℕ) → EndsAt log offset → EndsAt (log ++ more) offset
ends-grown log more offset h = record {
  some = h.some;
  within = (let within = h.within in omega (arith, within, length-append log more));
  ended = subst (λ (t : List ℕ). IsEnded t) (sym (take-append-le offset log more h.within)) h.ended;
}

adjoin-grown : (log more : List ℕ) (offset : ℕ) (parts : List Part) → Adjoin log offset parts → Adjoin (log ++ more) offset parts
adjoin-grown log more offset [] h = tt
adjoin-grown log more offset (part ∷ parts) h = (h.0, go h.1, adjoin-grown log more part.to parts h.2)
  where
    go : (part.to ≡ offset) ⊎ ((offset < part.to) × EndsAt log part.to) → (part.to ≡ offset) ⊎ ((offset < part.to) × EndsAt (log ++ more) part.to)
    go (inl e) = inl e
    go (inr (less, ends)) = inr (less, ends-grown log more part.to ends)

digest-grown : (log more : List ℕ) (offset : ℕ) → offset ≤ length log → sha256 (take (min offset FRONT) (log ++ more)) ≡ sha256 (take (min offset FRONT) log)
digest-grown log more offset le =
    let short : min offset FRONT ≤ length log = omega arith in
    ap sha256 (take-append-le (min offset FRONT) log more short)

module _ (logs later : List (List ℕ × List ℕ)) (grown : OnlyAppended logs later) where
  -- logs that are told apart were told apart
  part-before : (part : Part) → IsToldApart later part → IsToldApart logs part
  part-before part apart other log own ne a b some within le same =
      let x = log-grown logs later grown part.log log a in
      let y = log-grown logs later grown other own b in
      let within' : part.to ≤ length (log ++ x.0) = omega (arith, within, length-append log x.0) in
      let le' : part.to ≤ length (own ++ y.0) = omega (arith, le, length-append own y.0) in
      apart other (log ++ x.0) (own ++ y.0) ne x.1 y.1 some within' le' (digest-grown log x.0 part.to within ∙ same ∙ sym (digest-grown own y.0 part.to le))

  pub apart-before : (parts : List Part) → AreToldApart later parts → AreToldApart logs parts
  apart-before [] h = tt
  apart-before (part ∷ parts) h = (part-before part h.0, apart-before parts h.1)

  owns-grown : {parts : List Part} {place : ℕ} {e : EntryValue} → Owns logs parts place e → Owns later parts place e
  owns-grown {place = place} {e = e} h =
      let x = log-grown logs later grown place h.log h.there in
      record {
        log = h.log ++ x.0;
        there = x.1;
        offset = h.offset;
        ends = ends-grown h.log x.0 e.offset h.ends;
        digest = h.digest ∙ sym (digest-grown h.log x.0 e.offset h.ends.within);
      }

  module _ (parts : List Part) (apart : AreToldApart later parts) (entries : List EntryValue) (tracks : Tracks logs parts entries) where
    none-once : (o : Option (List ℕ)) (ps : List Part) → ps ≡ [] → AreOnce o ps
    none-once None ps e = e
    none-once (Some log) ps e = subst (λ (x : List Part). Adjoin log 0 x) (sym e) tt

    once-later : EachOnce later parts
    once-later place = go (log_at logs place) refl
      where
        go : (o : Option (List ℕ)) → log_at logs place ≡ o → AreOnce (log_at later place) (parts_at place parts)
        go None e = none-once (log_at later place) (parts_at place parts) (subst (λ (x : Option (List ℕ)). AreOnce x (parts_at place parts)) e (tracks.parts_once place))
        go (Some log) e =
            let x = log-grown logs later grown place log e in
            subst (λ (y : Option (List ℕ)). AreOnce y (parts_at place parts)) (sym x.1)
            (adjoin-grown log x.0 0 (parts_at place parts) (subst (λ (y : Option (List ℕ)). AreOnce y (parts_at place parts)) e (tracks.parts_once place)))

    pub tracks-grown : Tracks later parts entries
    tracks-grown = record {
      own = λ k e stands. (let h = tracks.own k e stands in (h.0, owns-grown h.1));
      once = λ k l e f place sk sl a b. (
          let h = tracks.own k e sk in
          let g = tracks.own l f sl in
          let same : g.0 ≡ h.0 = one-owner apart (owns-grown g.1) b ∙ sym (one-owner apart (owns-grown h.1) a) in
          tracks.once k l e f h.0 sk sl h.1 (subst (λ (j : ℕ). Owns logs parts j f) same g.1)
          );
      known = λ place some. (let k = tracks.known place some in (k.0, k.1, k.2, owns-grown k.3));
      parts_once = once-later;
    }
