-- The ranks of visitors that are in the order of their names, one visitor after the other.
use Rattle.std.proofs.Common.{◌≡◌, ℕ, true, false, ◌+◌, ◌-◌, ◌<◌, ◌≤◌, List, [], ◌∷◌, ◌++◌, Some, Less, Equal, Greater, get_or, length, set, refl, sym, ap, ◌∙◌, subst, arith, ⊎_elim, below_more, get_or-set_same, get_or-set_other}
use Rattle.std.specs.Prelude.{slice_get}
use Rattle.std.specs.declared.cmp.Ordering.{Ordering}
use Rattle.std.specs.Option.{option_map}
use Rattle.std.specs.Ordering.{is_eq, is_lt, is_ne}
use Rattle.std.specs.List.{All, AllPairs}
use Rattle.std.specs.List.Sorted.{IsPermutation}
use Rattle.std.proofs.lemmas.Bool.{cases_eq, cases_lt, true≢false}
use Rattle.std.proofs.lemmas.Cmp.{tied_itself}
use Rattle.std.proofs.lemmas.List.{get_or_push, get_or_read, length-map, length-set, length_push, map_push}
use Rattle.std.proofs.lemmas.List.Elements.{All-get_or, All-push, Contains-append_left, Contains-push}
use Rattle.std.proofs.lemmas.List.Quantifiers.{all_pairs_push}
use Rattle.std.proofs.lemmas.List.Sorted.{All-permutation, Contains-permutation, length_permutation}
use Rattle.std.proofs.lemmas.Option.{get_or_from_slice_get, same_Some, slice_get-get_or, slice_get-map, slice_get_within}
use Rattle.ga_base.specs.declared.key.Visitor.{Visitor}
use Rattle.ga_base.specs.declared.name.Name.{Name}
use Rattle.ga_base.specs.Orders.{name_cmp, name_of}
use Rattle.ga_base.proofs.OrderLemmas.{name_cmp_exact, name_cmp_total}
use Rattle.ga_numbers.proofs.Noted.{get-append}
use Rattle.ga_totals.specs.Steps.Ranks.{AreByName, AreNumbered, AreRanks, EndsIn, HasName, IsNextRank, NumberedVisitor, names_at}
use Rattle.ga_totals.specs.Steps.KeyRows.{name_at}
use Rattle.ga_totals.proofs.KeyOrder.{less-by}

ends-in-pushed : (names : List Name) (name : Name) → EndsIn (names ++ name ∷ []) name
ends-in-pushed names name =
    let long = length_push names name in
    let place : length (names ++ name ∷ []) - 1 ≡ length names = omega (arith, long) in
    slice_get-get_or (names ++ name ∷ []) (length (names ++ name ∷ []) - 1) name (omega (arith, long))
    ∙ ap Some (ap (λ n. get_or (names ++ name ∷ []) n name) place ∙ get_or_push names name name (length names) refl)

unequal : (o : Ordering) → (o ≡ Equal → ⊥) → is_eq o ≡ false
unequal Less other = refl
unequal Equal other = absurd (other refl)
unequal Greater other = refl

equal-from-ne : (o : Ordering) → is_ne o ≡ false → o ≡ Equal
equal-from-ne Less e = absurd (true≢false e)
equal-from-ne Equal e = refl
equal-from-ne Greater e = absurd (true≢false e)

module _ (visitors : List Visitor) where
  -- the next visitor gets the next number
  pub numbered-more : (all : List NumberedVisitor) (i : ℕ) (visitor : Visitor) → i < length visitors → visitor ≡ get_or visitors i visitor → AreNumbered visitors i all
      → AreNumbered visitors (i + 1) (all ++ record { number = i; visitor = visitor } ∷ [])
  numbered-more all i visitor less at so_far = record {
    many = omega (arith, length_push all entry, so_far.many);
    names = All-push (HasName visitors) all entry so_far.names (record { within = less; name_is = ap name_of (get_or_read visitors i visitor less at (record { host = []; date = 0; agent = [] })) });
    each = λ v below.
        ⊎_elim
        (λ low. let old = so_far.each v low in (old.0, Contains-append_left all (entry ∷ []) old.0 old.1, old.2))
        (λ high. (entry, Contains-push all entry, omega arith))
        (cases_lt v i);
  }
    where
      entry : NumberedVisitor
      entry = record { number = i; visitor = visitor }

  -- in another order they have their numbers
  pub numbered-moved : (count : ℕ) (all sorted : List NumberedVisitor) → IsPermutation all sorted → AreNumbered visitors count all → AreNumbered visitors count sorted
  numbered-moved count all sorted moved are = record {
    many = length_permutation all sorted moved ∙ are.many;
    names = All-permutation (HasName visitors) all sorted moved are.names;
    each = λ v less. let old = are.each v less in (old.0, Contains-permutation all sorted old.0 moved old.1, old.2);
  }

  module _ (firsts : List ℕ) (first : ℕ) (is : Some first ≡ slice_get firsts (length firsts - 1)) (visitor : Visitor) (at : visitor ≡ get_or visitors first visitor) (within : All (λ v. v < length visitors) firsts) where
    -- the names end in that of the last of the firsts
    ends-in-last : EndsIn (names_at visitors firsts) (name_of visitor)
    ends-in-last =
        let place = length firsts - 1 in
        let there : place < length firsts = slice_get_within firsts place first (sym is) in
        let less : first < length visitors = subst (λ n. n < length visitors) (get_or_from_slice_get firsts place first 0 (sym is)) (All-get_or (λ v. v < length visitors) firsts place 0 there within) in
        ap (λ n. slice_get (names_at visitors firsts) (n - 1)) (length-map firsts (name_at visitors)) ∙ slice_get-map (name_at visitors) firsts place ∙ ap (option_map (name_at visitors)) (sym is)
        ∙ ap (λ (v : Visitor). Some (name_of v)) (sym (get_or_read visitors first visitor less at (record { host = []; date = 0; agent = [] })))

    pub ends-in-other : (name : Name) → is_ne (name_cmp (name_of visitor) name) ≡ true → EndsIn (names_at visitors firsts) name → ⊥
    ends-in-other name apart ends =
        let same : name_of visitor ≡ name = same_Some (name_of visitor) name (sym ends-in-last ∙ ends) in
        true≢false (sym apart ∙ ap (λ n. is_ne (name_cmp n name)) same ∙ ap is_ne (tied_itself name_cmp_total name))

    pub ends-in-same : (name : Name) → is_ne (name_cmp (name_of visitor) name) ≡ false → EndsIn (names_at visitors firsts) name
    ends-in-same name tied = subst (EndsIn (names_at visitors firsts)) (name_cmp_exact (name_of visitor) name (equal-from-ne (name_cmp (name_of visitor) name) tied)) ends-in-last

  abbrev HasRank : List ℕ → List ℕ → ℕ → Type 0
  HasRank firsts ranks v = slice_get (names_at visitors firsts) (get_or ranks v 0) ≡ Some (name_at visitors v)

  abbrev AreRising : List ℕ → Type 0
  AreRising firsts = AllPairs (λ a b. name_cmp a b ≡ Less) (names_at visitors firsts)

  -- the first i in the order have their ranks
  pub record HaveRanks (order : List NumberedVisitor) (i : ℕ) (firsts ranks : List ℕ) : Type 0 where
    pub many : length ranks ≡ length visitors
    pub within : All (λ v. v < length visitors) firsts
    pub few : length firsts ≤ i
    pub rising : AreRising firsts
    pub last : (k : ℕ) (d : NumberedVisitor) → k + 1 ≡ i → EndsIn (names_at visitors firsts) (name_of (get_or order k d).visitor)
    pub each : (k : ℕ) → k < i → (d : NumberedVisitor) → HasRank firsts ranks (get_or order k d).number

  -- what holds of the firsts after the next visitor
  record AreFirstsWith (i : ℕ) (entry : NumberedVisitor) (firsts new : List ℕ) : Type 0 where
    within : All (λ v. v < length visitors) new
    few : length new ≤ i + 1
    rising : AreRising new
    last : EndsIn (names_at visitors new) (name_of entry.visitor)
    kept : (rank : ℕ) (name : Name) → slice_get (names_at visitors firsts) rank ≡ Some name → slice_get (names_at visitors new) rank ≡ Some name

  module _ (order : List NumberedVisitor) (by_name : AreByName visitors order) (i : ℕ) (entry : NumberedVisitor) (less : i < length order) (at : entry ≡ get_or order i entry) where
    has : HasName visitors entry
    has = subst (HasName visitors) (sym at) (All-get_or (HasName visitors) order i entry less by_name.numbered.names)

    -- the last name is below that of the next visitor, where it is another
    below-next : (k : ℕ) → k + 1 ≡ i → (name_of (get_or order k entry).visitor ≡ name_of entry.visitor → ⊥) → name_cmp (name_of (get_or order k entry).visitor) (name_of entry.visitor) ≡ Less
    below-next k is other =
        let a = name_of (get_or order k entry).visitor in
        let b = name_of entry.visitor in
        let next : get_or order (k + 1) entry ≡ entry = ap (λ n. get_or order n entry) is ∙ sym at in
        let low : is_lt (name_cmp b a) ≡ false = (λ j. is_lt (name_cmp (name_of (sym next j).visitor) a)) ∙ by_name.sorted k entry (omega arith) (omega (arith, less, is)) in
        less-by (name_cmp a b) (name_cmp b a) (name_cmp_total.antisymm b a) low (unequal (name_cmp a b) (λ e. other (name_cmp_exact a b e)))

    module _ (firsts ranks : List ℕ) (so_far : HaveRanks order i firsts ranks) where
      below-new : (EndsIn (names_at visitors firsts) (name_of entry.visitor) → ⊥) → (k : ℕ) (d : Name) → k < length (names_at visitors firsts)
          → name_cmp (get_or (names_at visitors firsts) k d) (name_of entry.visitor) ≡ Less
      below-new other k d low =
          let names = names_at visitors firsts in
          let next = name_of entry.visitor in
          let j = i - 1 in
          let is : j + 1 ≡ i = omega (arith, so_far.few, low, length-map firsts (name_at visitors)) in
          let name = name_of (get_or order j entry).visitor in
          let ends : EndsIn names name = so_far.last j entry is in
          let step : name_cmp name next ≡ Less = below-next j is (λ e. other (subst (EndsIn names) e ends)) in
          let place = length names - 1 in
          let top : get_or names place d ≡ name = get_or_from_slice_get names place name d ends in
          ⊎_elim
          (λ before.
          let far : name_cmp (get_or names k d) (get_or names place d) ≡ Less = so_far.rising k place d before (omega arith) in
          name_cmp_total.trans (get_or names k d) name next (subst (λ n. name_cmp (get_or names k d) n ≡ Less) top far) step)
          (λ past.
          let same : k ≡ place = omega arith in
          ap (λ n. name_cmp (get_or names n d) next) same ∙ ap (λ n. name_cmp n next) top ∙ step)
          (cases_lt k place)

      firsts-known : EndsIn (names_at visitors firsts) (name_of entry.visitor) → AreFirstsWith i entry firsts firsts
      firsts-known ends = record { within = so_far.within; few = omega (arith, so_far.few); rising = so_far.rising; last = ends; kept = λ rank name e. e }

      firsts-new : (EndsIn (names_at visitors firsts) (name_of entry.visitor) → ⊥) → AreFirstsWith i entry firsts (firsts ++ entry.number ∷ [])
      firsts-new other = record {
        within = All-push (λ v. v < length visitors) firsts entry.number so_far.within has.within;
        few = omega (arith, length_push firsts entry.number, so_far.few);
        rising = subst (AllPairs (λ a b. name_cmp a b ≡ Less)) (sym more) (all_pairs_push (λ a b. name_cmp a b ≡ Less) (names_at visitors firsts) (name_of entry.visitor) so_far.rising (below-new other));
        last = subst (λ (names : List Name). EndsIn names (name_of entry.visitor)) (sym more) (ends-in-pushed (names_at visitors firsts) (name_of entry.visitor));
        kept = λ rank name e.
            subst (λ (names : List Name). slice_get names rank ≡ Some name) (sym more) (get-append (names_at visitors firsts) (name_of entry.visitor ∷ []) rank name e);
      }
        where
          more : names_at visitors (firsts ++ entry.number ∷ []) ≡ names_at visitors firsts ++ name_of entry.visitor ∷ []
          more = map_push (name_at visitors) firsts entry.number ∙ ap (λ (name : Name). names_at visitors firsts ++ name ∷ []) (sym has.name_is)

      firsts-with : (new : List ℕ) (rank : ℕ) → IsNextRank visitors entry firsts new rank → AreFirstsWith i entry firsts new
      firsts-with new rank next =
          ⊎_elim
          (λ known. subst (AreFirstsWith i entry firsts) (sym known.0) (firsts-known known.1))
          (λ fresh. subst (AreFirstsWith i entry firsts) (sym fresh.0) (firsts-new fresh.1))
          next.either

      -- with the rank of the next visitor, one more of the order have their ranks
      pub ranks-more : (new : List ℕ) (rank : ℕ) → IsNextRank visitors entry firsts new rank → HaveRanks order (i + 1) new (set ranks entry.number rank)
      ranks-more new rank next = record {
        many = length-set ranks entry.number rank ∙ so_far.many;
        within = with.within;
        few = with.few;
        rising = with.rising;
        last = λ k d is.
            let same : k ≡ i = omega (arith, is) in
            let there : entry ≡ get_or order k d = get_or_read order i entry less at d ∙ ap (λ n. get_or order n d) (sym same) in
            subst (λ (e : NumberedVisitor). EndsIn (names_at visitors new) (name_of e.visitor)) there with.last;
        each =
            below_more (λ k. (d : NumberedVisitor) → HasRank new (set ranks entry.number rank) (get_or order k d).number) i
            (λ k low d. kept (get_or order k d).number (so_far.each k low d))
            (λ d. subst (λ (e : NumberedVisitor). HasRank new (set ranks entry.number rank) e.number) (get_or_read order i entry less at d) here);
      }
        where
          with : AreFirstsWith i entry firsts new
          with = firsts-with new rank next

          here : HasRank new (set ranks entry.number rank) entry.number
          here =
              let place : rank ≡ length (names_at visitors new) - 1 = omega (arith, next.last, length-map new (name_at visitors)) in
              ap (slice_get (names_at visitors new)) (get_or-set_same ranks entry.number rank 0 (omega (arith, so_far.many, has.within)) ∙ place)
              ∙ with.last ∙ ap Some has.name_is

          kept : (v : ℕ) → HasRank firsts ranks v → HasRank new (set ranks entry.number rank) v
          kept v had =
              ⊎_elim
              (λ same. subst (HasRank new (set ranks entry.number rank)) (sym same) here)
              (λ other. ap (slice_get (names_at visitors new)) (get_or-set_other ranks entry.number v rank 0 other) ∙ with.kept (get_or ranks v 0) (name_at visitors v) had)
              (cases_eq v entry.number)

  -- where all have their ranks, they are those of the visitors
  pub ranks-are : (order : List NumberedVisitor) (i : ℕ) (firsts ranks : List ℕ) → length order ≤ i → AreByName visitors order → HaveRanks order i firsts ranks → AreRanks visitors firsts ranks
  ranks-are order i firsts ranks past by_name have = record {
    many = have.many;
    within = have.within;
    rising = have.rising;
    each = λ v less.
        let from = by_name.numbered.each v less in
        let place = from.1.0 in
        let is : (get_or order place from.0).number ≡ v = ap (λ (n : NumberedVisitor). n.number) from.1.2 ∙ from.2 in
        let low : place < i = omega (arith, from.1.1, past) in
        subst (HasRank firsts ranks) is (have.each place low from.0);
  }
