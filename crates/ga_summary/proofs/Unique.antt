-- Rows in order are known by what is found in them, so outcomes have one sum.
use Rattle.std.proofs.Common.{◌≡◌, true, false, cond, List, [], ◌∷◌, Option, Some, None, Less, Equal, Greater, is_some, refl, sym, ap, ◌∙◌, eq-eqb}
use Rattle.std.specs.declared.cmp.Ordering.{Ordering}
use Rattle.std.specs.Ordering.{is_eq, ordering_reverse}
use Rattle.std.specs.Cmp.{IsTotalOrder}
use Rattle.std.specs.List.Sorted.{IsStrictlySortedBy}
use Rattle.std.proofs.lemmas.Bool.{false≢true}
use Rattle.std.proofs.lemmas.Cmp.{tied_itself, alike_right}
use Rattle.ga_base.specs.declared.key.Key.{Key}
use Rattle.ga_base.specs.declared.key.Visitor.{Visitor}
use Rattle.ga_base.specs.declared.name.Name.{Name}
use Rattle.ga_base.specs.Orders.{key_cmp, name_cmp, is_same_name}
use Rattle.ga_summary.specs.Outcomes.{Outcome}
use Rattle.ga_summary.specs.Steps.Places.{Rises, find_at}
use Rattle.ga_summary.specs.SummaryRows.{SummaryRow, SummaryValue, IsInOrder, row_at, sums_at, has_name, has_pair}
use Rattle.ga_summary.specs.Sums.{IsSumOf, IsMerged}
use Rattle.ga_summary.proofs.Put.{Above, rises_head, rises_tail, above_more, above_same, find_above, equal_from_is_eq, Some≢None}
use Rattle.ga_summary.proofs.NameLists.{any-find, names_rise}
use Rattle.ga_summary.proofs.Merging.{all-row_at, some_inj}
use Rattle.ga_base.proofs.OrderLemmas.{key_cmp_total, key_cmp_exact, name_cmp_total, name_cmp_exact}

module _ {X K : Type 0} (R : K → K → Ordering) (o : IsTotalOrder R) (key : X → K) where
  head_found : (x : X) (xs : List X) → find_at R key (key x) (x ∷ xs) ≡ Some x
  head_found x xs = rw (tied_itself o (key x))

  -- a list whose keys are all above a key has other items than one that has it
  differ : (x : X) (xs ys : List X) → Above R key (key x) ys → ((k : K) → find_at R key k (x ∷ xs) ≡ find_at R key k ys) → ⊥
  differ x xs ys above same = Some≢None (sym (head_found x xs) ∙ same (key x) ∙ find_above R o key (key x) ys above)

  -- two rising lists in which the same is found at each key are one
  pub same_from_find : (xs ys : List X) → Rises R key xs → Rises R key ys → ((k : K) → find_at R key k xs ≡ find_at R key k ys) → xs ≡ ys
  same_from_find [] [] s t same = refl
  same_from_find [] (y ∷ ys) s t same = absurd (differ y ys [] tt (λ k. sym (same k)))
  same_from_find (x ∷ xs) [] s t same = absurd (differ x xs [] tt same)
  same_from_find (x ∷ xs) (y ∷ ys) s t same =
      let above_x = rises_head R key x xs s in
      let above_y = rises_head R key y ys t in
      let tails : R (key x) (key y) ≡ Equal → ((k : K) → find_at R key k xs ≡ find_at R key k ys) → xs ≡ ys = λ e h. same_from_find xs ys (rises_tail R key x xs s) (rises_tail R key y ys t) h in
      elim (R (key x) (key y)) as (λ v. R (key x) (key y) ≡ v → x ∷ xs ≡ y ∷ ys) [
        | Less ↦ λ e. absurd (differ x xs (y ∷ ys) (e, above_more R o key (key x) (key y) ys e above_y) same)
        | Equal ↦ λ e.
            let heads : x ≡ y = some_inj (sym (head_found x xs) ∙ same (key x) ∙ head_at (key x) y ys e) in
            let rest : xs ≡ ys = tails e (λ k. tail_same k (R k (key x)) refl e above_x above_y (same k)) in
            λ i. heads i ∷ rest i
        | Greater ↦ λ e.
            let turned : R (key y) (key x) ≡ Less = o.antisymm (key y) (key x) ∙ ap ordering_reverse e in
            absurd (differ y ys (x ∷ xs) (turned, above_more R o key (key y) (key x) xs turned above_x) (λ k. sym (same k)))
      ] refl
    where
      head_at : (k : K) (z : X) (zs : List X) → R k (key z) ≡ Equal → find_at R key k (z ∷ zs) ≡ Some z
      head_at k z zs e = rw e

      skip : (k : K) (z : X) (zs : List X) → is_eq (R k (key z)) ≡ false → find_at R key k (z ∷ zs) ≡ find_at R key k zs
      skip k z zs e = rw e

      other : (k : K) (v : Ordering) → R k (key x) ≡ v → is_eq v ≡ false → R (key x) (key y) ≡ Equal → find_at R key k (x ∷ xs) ≡ find_at R key k (y ∷ ys) → find_at R key k xs ≡ find_at R key k ys
      other k v e f xy h =
          let not_x : is_eq (R k (key x)) ≡ false = ap is_eq e ∙ f in
          let not_y : is_eq (R k (key y)) ≡ false = ap is_eq (sym (alike_right o (key x) (key y) k xy)) ∙ not_x in
          sym (skip k x xs not_x) ∙ h ∙ skip k y ys not_y

      tail_same : (k : K) (v : Ordering) → R k (key x) ≡ v → R (key x) (key y) ≡ Equal → Above R key (key x) xs → Above R key (key y) ys → find_at R key k (x ∷ xs) ≡ find_at R key k (y ∷ ys) → find_at R key k xs ≡ find_at R key k ys
      tail_same k Less e xy a b h = other k Less e refl xy h
      tail_same k Equal e xy a b h = find_above R o key k xs (above_same R o key k (key x) xs e a) ∙ sym (find_above R o key k ys (above_same R o key k (key y) ys (o.congr k (key x) (key y) e ∙ xy) b))
      tail_same k Greater e xy a b h = other k Greater e refl xy h

  -- what is found has the key
  pub find_is : (k : K) (xs : List X) (x : X) → find_at R key k xs ≡ Some x → R k (key x) ≡ Equal
  find_is k [] x e = absurd (Some≢None (sym e))
  find_is k (y ∷ xs) x e = elim (is_eq (R k (key y))) as (λ v. is_eq (R k (key y)) ≡ v → cond v (Some y) (find_at R key k xs) ≡ Some x → R k (key x) ≡ Equal) [
    | true ↦ λ same here. equal_from_is_eq _ (ap (λ (z : X). is_eq (R k (key z))) (sym (some_inj here)) ∙ same)
    | false ↦ λ other rest. find_is k xs x rest
  ] refl e

-- names in order that hold the same are one list
pub same_names : (xs ys : List Name) → IsStrictlySortedBy name_cmp xs → IsStrictlySortedBy name_cmp ys → ((name : Name) → has_name xs name ≡ has_name ys name) → xs ≡ ys
same_names xs ys s t same = same_from_find name_cmp name_cmp_total (λ n. n) xs ys (names_rise xs s) (names_rise ys t) (λ name. found name)
  where
    itself : (ns : List Name) (name other : Name) → find_at name_cmp (λ n. n) name ns ≡ Some other → other ≡ name
    itself ns name other e = sym (name_cmp_exact name other (find_is name_cmp name_cmp_total (λ n. n) name ns other e))

    pick : (name : Name) (a b : Option Name) → find_at name_cmp (λ n. n) name xs ≡ a → find_at name_cmp (λ n. n) name ys ≡ b → is_some a ≡ is_some b → a ≡ b
    pick name None None e f h = refl
    pick name None (Some y) e f h = absurd (false≢true h)
    pick name (Some x) None e f h = absurd (false≢true (sym h))
    pick name (Some x) (Some y) e f h = ap Some (itself xs name x e ∙ sym (itself ys name y f))

    found : (name : Name) → find_at name_cmp (λ n. n) name xs ≡ find_at name_cmp (λ n. n) name ys
    found name = pick name _ _ refl refl (sym (any-find (λ n. is_same_name name n) xs) ∙ same name ∙ any-find (λ n. is_same_name name n) ys)

-- rows in order in which the same is found are one list
pub same_rows : (a b : List SummaryRow) → IsInOrder a → IsInOrder b → ((key : Key) → is_some (row_at a key) ≡ is_some (row_at b key)) → ((key : Key) → sums_at a key ≡ sums_at b key) → ((key : Key) (visitor : Visitor) → has_pair a key visitor ≡ has_pair b key visitor) → a ≡ b
same_rows a b s t present sums pairs = same_from_find key_cmp key_cmp_total (λ (row : SummaryRow). row.key) a b s.keys t.keys (λ key. pick key _ _ refl refl (present key))
  where
    key_of : (rows : List SummaryRow) (key : Key) (row : SummaryRow) → row_at rows key ≡ Some row → row.key ≡ key
    key_of rows key row e = sym (key_cmp_exact key row.key (find_is key_cmp key_cmp_total (λ (r : SummaryRow). r.key) key rows row e))

    same_row : (x y : SummaryRow) → x.key ≡ y.key → x.sums ≡ y.sums → x.names ≡ y.names → x ≡ y
    same_row x y k m n = λ i. record { key = k i; sums = m i; names = n i }

    visitor_of : Key → Name → Visitor
    visitor_of key name = record { host = name.host; date = key.date; agent = name.agent }

    names_same : (key : Key) (x y : SummaryRow) → row_at a key ≡ Some x → row_at b key ≡ Some y → (name : Name) → has_name x.names name ≡ has_name y.names name
    names_same key x y e f name =
        let left : has_pair a key (visitor_of key name) ≡ has_name x.names name = rw (e, eq-eqb key.date key.date refl) in
        let right : has_pair b key (visitor_of key name) ≡ has_name y.names name = rw (f, eq-eqb key.date key.date refl) in
        sym left ∙ pairs key (visitor_of key name) ∙ right

    pick : (key : Key) (x y : Option SummaryRow) → row_at a key ≡ x → row_at b key ≡ y → is_some x ≡ is_some y → x ≡ y
    pick key None None e f h = refl
    pick key None (Some y) e f h = absurd (false≢true h)
    pick key (Some x) None e f h = absurd (false≢true (sym h))
    pick key (Some x) (Some y) e f h =
        let sums_left : sums_at a key ≡ x.sums = rw e in
        let sums_right : sums_at b key ≡ y.sums = rw f in
        ap Some (same_row x y (key_of a key x e ∙ sym (key_of b key y f)) (sym sums_left ∙ sums key ∙ sums_right)
        (same_names x.names y.names (all-row_at (λ (r : SummaryRow). IsStrictlySortedBy name_cmp r.names) a key x s.names e) (all-row_at (λ (r : SummaryRow). IsStrictlySortedBy name_cmp r.names) b key y t.names f) (names_same key x y e f)))

-- outcomes have one sum
pub one_sum : (outcomes : List Outcome) (a b : SummaryValue) → IsSumOf outcomes a → IsSumOf outcomes b → a ≡ b
one_sum outcomes a b x y =
    let totals : a.totals ≡ b.totals = x.totals ∙ sym y.totals in
    let rows : a.rows ≡ b.rows = same_rows a.rows b.rows x.ordered y.ordered (λ key. x.present key ∙ sym (y.present key)) (λ key. x.sums key ∙ sym (y.sums key)) (λ key visitor. x.pairs key visitor ∙ sym (y.pairs key visitor)) in
    λ i. record { totals = totals i; rows = rows i }

-- two summaries, merged, come to one
pub one_merged : (a b x y : SummaryValue) → IsMerged a b x → IsMerged a b y → x ≡ y
one_merged a b x y m n =
    let totals : x.totals ≡ y.totals = m.totals ∙ sym n.totals in
    let rows : x.rows ≡ y.rows = same_rows x.rows y.rows m.ordered n.ordered (λ key. m.present key ∙ sym (n.present key)) (λ key. m.sums key ∙ sym (n.sums key)) (λ key visitor. m.pairs key visitor ∙ sym (n.pairs key visitor)) in
    λ i. record { totals = totals i; rows = rows i }
