-- One step of a pass over two lists of names that rise.
use Rattle.std.proofs.Common.{◌≡◌, ℕ, List, [], ◌∷◌, ◌++◌, Option, Some, None, Less, Equal, Greater, MatchOption, IfNone, length, refl, sym, ap, ◌∙◌, append_assoc, arith}
use Rattle.std.specs.List.Sorted.{IsStrictlySortedBy}
use Rattle.ga_base.specs.declared.name.Name.{Name}
use Rattle.ga_base.specs.Orders.{name_cmp}
use Rattle.ga_summary.specs.Steps.Joined.{put_names}
use Rattle.ga_summary.proofs.Put.{put_all-less, put_all-equal, put_all-greater, put_all-into_none}
use Rattle.ga_summary.proofs.NameLists.{names_rise}
use Rattle.ga_base.proofs.OrderLemmas.{name_cmp_total}

-- the first item of what is left goes to the end of what is done
moved : (done left rest whole : List Name) (name : Name) → left ≡ name ∷ rest → done ++ left ≡ whole → (done ++ name ∷ []) ++ rest ≡ whole
moved done left rest whole name e h = append_assoc done (name ∷ []) rest ∙ ap (λ (l : List Name). done ++ l) (sym e) ∙ h

pub tail_rises : (name : Name) (names : List Name) → IsStrictlySortedBy name_cmp (name ∷ names) → IsStrictlySortedBy name_cmp names
unfolding IsStrictlySortedBy
tail_rises name names s = s.1

module _ (done whole ls rs : List Name) (a b : Name) (t : IsStrictlySortedBy name_cmp (b ∷ rs)) (h : done ++ put_names (b ∷ rs) (a ∷ ls) ≡ whole) where
  pub step_less : name_cmp a b ≡ Less → (done ++ a ∷ []) ++ put_names (b ∷ rs) ls ≡ whole
  step_less e = moved done _ _ whole a (put_all-less name_cmp name_cmp_total (λ n. n) (λ n _. n) a b ls rs e (names_rise (b ∷ rs) t)) h

  pub step_equal : name_cmp a b ≡ Equal → (done ++ a ∷ []) ++ put_names rs ls ≡ whole
  step_equal e = moved done _ _ whole a (put_all-equal name_cmp name_cmp_total (λ n. n) (λ n _. n) (λ _ _. refl) a b ls rs e (names_rise (b ∷ rs) t)) h

  pub step_greater : name_cmp a b ≡ Greater → (done ++ b ∷ []) ++ put_names rs (a ∷ ls) ≡ whole
  step_greater e = moved done _ _ whole b (put_all-greater name_cmp name_cmp_total (λ n. n) (λ n _. n) a b ls rs e (names_rise (b ∷ rs) t)) h

pub step_left : (done whole ls : List Name) (a : Name) → done ++ put_names [] (a ∷ ls) ≡ whole → (done ++ a ∷ []) ++ put_names [] ls ≡ whole
step_left done whole ls a h = moved done (a ∷ ls) ls whole a refl h

pub step_right : (done whole rs : List Name) (b : Name) → IsStrictlySortedBy name_cmp (b ∷ rs) → done ++ put_names (b ∷ rs) [] ≡ whole → (done ++ b ∷ []) ++ put_names rs [] ≡ whole
step_right done whole rs b t h =
    let all : put_names (b ∷ rs) [] ≡ b ∷ rs = put_all-into_none name_cmp name_cmp_total (λ n. n) (λ n _. n) (b ∷ rs) (names_rise (b ∷ rs) t) in
    let rest : put_names rs [] ≡ rs = put_all-into_none name_cmp name_cmp_total (λ n. n) (λ n _. n) rs (names_rise rs (tail_rises b rs t)) in
    moved done (put_names (b ∷ rs) []) (put_names rs []) whole b (all ∙ ap (λ (l : List Name). b ∷ l) (sym rest)) h

-- an iterator that gave nothing has nothing left
pub ended : {X : Type 0} (r : Option X) (P : X → Type 0) (m n : ℕ) (items : List X) → n ≡ length items → MatchOption r ((m ≡ 0) × (n ≡ 0)) P → IfNone r (items ≡ [])
ended None P m n [] len cases = refl
ended None P m n (x ∷ items) len cases = absurd (omega (arith, cases.1))
ended (Some x) P m n items len cases = tt
