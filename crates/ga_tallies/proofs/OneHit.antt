-- A counted line: its totals, its visitor and each of its keys.
use Rattle.std.proofs.Common.{◌≡◌, ℕ, ◌<◌, Bool, false, inl, inr, nat_lt, List, [], ◌∷◌, ◌++◌, map, Option, Some, None, refl, sym, ap, ◌∙◌, subst, arith, append_assoc, append-nil, ⊎_elim}
use Rattle.std.specs.Cmp.{IsEquivalence}
use Rattle.std.specs.List.{AllByRecursion, Contains, IsDistinct, list_any}
use Rattle.std.proofs.lemmas.Map.Keys.{IsDistinct-head, IsDistinct-tail}
use Rattle.ga_base.specs.declared.counts.Sums.{Sums}
use Rattle.ga_base.specs.declared.counts.Totals.{Totals}
use Rattle.ga_base.specs.declared.key.Key.{Key}
use Rattle.ga_base.specs.declared.key.Visitor.{Visitor}
use Rattle.ga_base.specs.Orders.{is_same_key, is_same_visitor}
use Rattle.ga_shards.specs.Numbers.{noted}
use Rattle.ga_summary.specs.OneLine.{line_sums, line_totals}
use Rattle.ga_summary.specs.Outcomes.{Outcome, Counted}
use Rattle.ga_base.specs.Totals.{totals_plus, TotalsFit}
use Rattle.ga_tallies.specs.Steps.Notes.{NotesKey, NotesKeys, NotesVisitor}
use Rattle.ga_tallies.specs.Tallies.{TallySeen, IsTallyOf}
use Rattle.ga_numbers.proofs.Noted.{kept, noted-distinct, place-cases}
use Rattle.ga_tallies.proofs.OneKey.{hit_under, key-more, no-key-sums, no-key-visits, totals-under}
use Rattle.ga_tallies.proofs.Partly.{HasNumber, IsPartlyOf, from-tally, key-noted, to-tally}
use Rattle.ga_numbers.proofs.Same.{key-laws, visitor-laws}

-- in a list of different items an item is none of those before it
none-before : {T : Type 0} (eq : T → T → Bool) (laws : IsEquivalence eq) (xs : List T) (y : T) (ys : List T) → IsDistinct eq (xs ++ y ∷ ys) → list_any (eq y) xs ≡ false
none-before eq laws [] y ys d = refl
none-before eq laws (x ∷ xs) y ys d =
    let apart : eq y x ≡ false = laws.symm y x ∙ at xs (IsDistinct-head eq x (xs ++ y ∷ ys) d) in
    rw apart (none-before eq laws xs y ys (IsDistinct-tail eq x (xs ++ y ∷ ys) d))
  where
    at : (zs : List _) → AllByRecursion (λ z. eq x z ≡ false) (zs ++ y ∷ ys) → eq x y ≡ false
    at [] h = h.0
    at (z ∷ zs) h = at zs h.1

-- a visitor was noted, and waits for its first key
seated : (outcomes : List Outcome) (visitor : Option Visitor) (place : Option ℕ) (old new : TallySeen) → IsPartlyOf outcomes None old → NotesVisitor visitor place old new
    → IsPartlyOf outcomes place new × HasNumber new visitor place
seated outcomes None place old new part (none, same) =
    (subst (IsPartlyOf outcomes place) (sym same) (subst (λ (p : Option ℕ). IsPartlyOf outcomes p old) (sym none) part), none)
seated outcomes (Some visitor) place old new part (v, is, notes) =
    (subst (λ (p : Option ℕ). IsPartlyOf outcomes p new) (sym is) (subst (IsPartlyOf outcomes (Some v)) (sym notes.visitors) waiting), (v, is, notes.stands))
  where
    waiting : IsPartlyOf outcomes (Some v) (record old { visitors = noted is_same_visitor old.visitors visitor })
    waiting = record {
      totals = part.totals;
      different_keys = part.different_keys;
      different_visitors = noted-distinct is_same_visitor visitor-laws old.visitors visitor part.different_visitors;
      sums = part.sums;
      counted = part.counted;
      pairs = λ k u at.
          let p = part.pairs k u at in
          (p.0, p.1, record { key = p.2.key; visitor = kept is_same_visitor old.visitors visitor u p.1 p.2.visitor }, p.3);
      visits = λ key w has.
          let p = part.visits key w has in
          (p.0, p.1, record { key = p.2.key; visitor = kept is_same_visitor old.visitors visitor p.1 w p.2.visitor }, p.3);
      used = λ u lt.
          ⊎_elim
          (λ less. ⊎_elim (λ at. inl at) (λ none. let off : None ≡ Some u = none in absurd (cc off)) (part.used u less))
          (λ it. inr (ap Some (notes.place ∙ sym it)))
          (place-cases is_same_visitor old.visitors visitor u lt);
    }

module _ (before : List Outcome) (visitor : Option Visitor) (bytes micros : ℕ) where
  abbrev under : List Key → List Outcome
  under keys = before ++ Counted (hit_under keys visitor bytes micros) ∷ []

  -- the totals of a line, which is counted under no key yet
  begun : (old new : TallySeen) → IsTallyOf before old → new ≡ record old { totals = totals_plus old.totals (line_totals bytes micros) } → IsPartlyOf (under []) None new
  begun old new is adds = subst (IsPartlyOf (under []) None) (sym adds) begun-at
    where
      part : IsPartlyOf before None old
      part = from-tally before old is

      begun-at : IsPartlyOf (under []) None (record old { totals = totals_plus old.totals (line_totals bytes micros) })
      begun-at = record {
        totals = ap (λ (t : Totals). totals_plus t (line_totals bytes micros)) is.totals ∙ sym (totals-under before visitor bytes micros []);
        different_keys = part.different_keys;
        different_visitors = part.different_visitors;
        sums = part.sums ∙ (λ i. map (λ key. sym (no-key-sums before visitor bytes micros key) i) old.keys);
        counted = λ key. part.counted key ∙ ap (λ (s : Sums). nat_lt 0 s.hits) (sym (no-key-sums before visitor bytes micros key));
        pairs = λ k v at.
            let p = part.pairs k v at in
            (p.0, p.1, record { key = p.2.key; visitor = p.2.visitor }, no-key-visits before visitor bytes micros p.0 p.1 ∙ p.3);
        visits = λ key w has.
            let p = part.visits key w (sym (no-key-visits before visitor bytes micros key w) ∙ has) in
            (p.0, p.1, record { key = p.2.key; visitor = p.2.visitor }, p.3);
        used = part.used;
      }

  -- one key more
  key-step : (done : List Key) (key : Key) (place waiting : Option ℕ) (old new : TallySeen) → list_any (is_same_key key) done ≡ false → IsPartlyOf (under done) waiting old
      → HasNumber old visitor place → ((v : ℕ) → waiting ≡ Some v → place ≡ Some v) → TotalsFit old.totals → NotesKey key place (line_sums bytes micros) old new
      → IsPartlyOf (under (done ++ key ∷ [])) None new
  key-step done key place waiting old new fresh part seat waits fit notes =
      key-noted key visitor place (line_sums bytes micros) (under done) (under (done ++ key ∷ [])) waiting old new (key-more before visitor bytes micros done key fresh) notes part seat refl waits fit

  seat-stays : (key : Key) (place : Option ℕ) (line : Sums) (old new : TallySeen) → NotesKey key place line old new → HasNumber old visitor place → HasNumber new visitor place
  seat-stays key place line old new notes seat = subst (λ (t : TallySeen). HasNumber t visitor place) (sym notes.others) (same visitor seat)
    where
      same : (o : Option Visitor) → HasNumber old o place → HasNumber (record old { keys = new.keys; sums = new.sums; pairs = new.pairs }) o place
      same None h = h
      same (Some w) h = h

  fit-stays : (key : Key) (place : Option ℕ) (line : Sums) (old new : TallySeen) → NotesKey key place line old new → TotalsFit old.totals → TotalsFit new.totals
  fit-stays key place line old new notes fit = subst (λ (t : TallySeen). TotalsFit t.totals) (sym notes.others) fit

  -- all that are left, once the visitor has a key
  keys-left : (done rest : List Key) (place : Option ℕ) (old new : TallySeen) → IsDistinct is_same_key (done ++ rest) → IsPartlyOf (under done) None old
      → HasNumber old visitor place → TotalsFit old.totals → NotesKeys rest place (line_sums bytes micros) old new → IsPartlyOf (under (done ++ rest)) None new
  keys-left done [] place old new distinct part seat fit same =
      subst (λ (ks : List Key). IsPartlyOf (under ks) None new) (sym (append-nil done)) (subst (IsPartlyOf (under done) None) (sym same) part)
  keys-left done (key ∷ rest) place old new distinct part seat fit (mid, one, more) =
      let along : (done ++ key ∷ []) ++ rest ≡ done ++ key ∷ rest = append_assoc done (key ∷ []) rest in
      let step = key-step done key place None old mid (none-before is_same_key key-laws done key rest distinct) part seat (λ v off. let e : None ≡ Some v = off in absurd (cc e)) fit one in
      subst (λ (ks : List Key). IsPartlyOf (under ks) None new) along
      (keys-left (done ++ key ∷ []) rest place mid new (subst (IsDistinct is_same_key) (sym along) distinct) step
      (seat-stays key place (line_sums bytes micros) old mid one seat) (fit-stays key place (line_sums bytes micros) old mid one fit) more)

  -- all keys, of which there is one at least
  pub counted-hit : (keys : List Key) (x : Key) (place : Option ℕ) (old mid seat new : TallySeen) → Contains keys x → IsDistinct is_same_key keys → IsTallyOf before old
      → mid ≡ record old { totals = totals_plus old.totals (line_totals bytes micros) } → TotalsFit mid.totals → NotesVisitor visitor place mid seat
      → NotesKeys keys place (line_sums bytes micros) seat new → IsTallyOf (under keys) new
  counted-hit [] x place old mid seat new has distinct is adds fit sits notes = let lt : has.0 < 0 = has.1 in absurd (omega arith)
  counted-hit (key ∷ keys) x place old mid seat new has distinct is adds fit sits (next, one, more) =
      let sat = seated (under []) visitor place mid seat (begun old mid is adds) sits in
      let fit-seat : TotalsFit seat.totals = fit-seated visitor sits in
      let step = key-step [] key place place seat next refl sat.0 sat.1 (λ v e. e) fit-seat one in
      to-tally (under (key ∷ keys)) new
      (keys-left (key ∷ []) keys place next new distinct step (seat-stays key place (line_sums bytes micros) seat next one sat.1)
      (fit-stays key place (line_sums bytes micros) seat next one fit-seat) more)
    where
      fit-seated : (o : Option Visitor) → NotesVisitor o place mid seat → TotalsFit seat.totals
      fit-seated None (none, same) = subst (λ (t : TallySeen). TotalsFit t.totals) (sym same) fit
      fit-seated (Some w) (v, at, notes) = subst (λ (t : TallySeen). TotalsFit t.totals) (sym notes.visitors) fit
