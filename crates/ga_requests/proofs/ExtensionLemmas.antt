-- How a path ends, and where a URL has a query.
use Rattle.std.proofs.Common.{◌≡◌, ◌↔◌, ℕ, ◌-◌, ◌<◌, ◌≤◌, Bool, true, false, eqb, ◌==◌, ◌&&◌, IsTrue, List, [], ◌∷◌, ◌++◌, length, take, drop, Option, Some, None, refl, sym, ap, ◌∙◌, subst, arith, length-drop, length-take, take_all, ⊎_elim, inl, inr}
use Rattle.std.specs.List.{list_all, list_any, ends_with, Contains, position_or_len}
use Rattle.std.proofs.lemmas.Bool.{eq-eqb, eqb-true, false≢true, both_ways, cases_lt}
use Rattle.std.proofs.lemmas.Bool.Decides.{Decides-eqb}
use Rattle.std.proofs.lemmas.List.{drop_at, take-append-drop}
use Rattle.std.proofs.lemmas.List.Elements.{All-contains}
use Rattle.std.proofs.lemmas.List.Folds.{Any-from_list_any, list_any_at}
use Rattle.std.proofs.lemmas.List.Sums.{AllPass-from_list_all, fails_before_first, passes_at_first}
use Rattle.std.proofs.lemmas.Slice.Eq.{ends_is}
use Rattle.memchr.specs.Find.{IsLastByte, is_byte}
use Rattle.ga_requests.specs.Tables.{extensions, IsExtension}
use Rattle.ga_requests.specs.Urls.{question_mark, without_query, EndsIn, EndsInOneOf, IsStatic}
use Rattle.ga_requests.proofs.PlaceLemmas.{last_is}
use Rattle.ga_requests.proofs.SplitLemmas.{differs, none-lacks}

-- the byte that begins an extension
abbrev pub dot : ℕ
dot = 46

pub ends : (text suffix : List ℕ) (r : Bool) → r ≡ ends_with eqb text suffix → IsTrue r ↔ EndsIn text suffix
ends text suffix r e =
    let is = ends_is Decides-eqb text suffix r e in
    (λ yes. (take (length text - length suffix) text, is.0 yes), λ end. is.1 end.0 end.1)

-- a search among the user's texts
pub any-ends : (path : List ℕ) (statics : List (List ℕ)) (r : Bool) → r ≡ list_any (λ suffix. ends_with eqb path suffix) statics → IsTrue r ↔ EndsInOneOf statics path
any-ends path statics r e = (
  λ yes.
      let any = Any-from_list_any (λ suffix. ends_with eqb path suffix) statics (sym e ∙ yes) in
      (any.1, (any.0, any.2, any.3), (ends path any.1 _ refl).0 any.4),
  λ end.
      e ∙ list_any_at (λ suffix. ends_with eqb path suffix) statics end.1.0 end.0 end.1.1
      (ap (λ suffix. ends_with eqb path suffix) end.1.2 ∙ (ends path end.0 _ refl).1 end.2),
)

-- a dot, and no other dot after it
abbrev pub is_ending : List ℕ → Bool
is_ending [] = false
is_ending (b ∷ rest) = (b == dot) && list_all (differs dot) rest

extension-shape : (extension : List ℕ) → IsExtension extension → is_ending extension ≡ true
extension-shape extension known =
    All-contains (λ w. is_ending w ≡ true) extensions extension (AllPass-from_list_all (λ w. is_ending w) extensions refl) known

and-left : (a b : Bool) → (a && b) ≡ true → a ≡ true
and-left true b h = refl
and-left false b h = h

and-right : (a b : Bool) → (a && b) ≡ true → b ≡ true
and-right true b h = h
and-right false b h = absurd (false≢true h)

-- an extension at the end begins at the last dot
dot-at : (path front extension : List ℕ) → IsExtension extension → path ≡ front ++ extension → (r : Option ℕ) → IsLastByte (is_byte dot) path r → r ≡ Some (length front)
dot-at path front [] known joined r h = absurd (false≢true (extension-shape [] known))
dot-at path front (b ∷ rest) known joined r h =
    let shape = extension-shape (b ∷ rest) known in
    let is : b ≡ dot = eqb-true _ _ (and-left (b == dot) (list_all (differs dot) rest) shape) in
    last_is dot path front rest (joined ∙ ap (λ x. front ++ x ∷ rest) is) (none-lacks dot rest (and-right (b == dot) (list_all (differs dot) rest) shape)) r h

module _ (path : List ℕ) where
  pub extension-some : (at : ℕ) (r : Bool) → IsLastByte (is_byte dot) path (Some at) → IsTrue r ↔ IsExtension (take (length path - at) (drop at path)) → IsTrue r ↔ EndsInOneOf extensions path
  extension-some at r h known =
      let rest : take (length path - at) (drop at path) ≡ drop at path = take_all (length path - at) (drop at path) (omega (arith, length-drop at path)) in (
        λ yes. (drop at path, subst IsExtension rest (known.0 yes), (take at path, sym (take-append-drop at path))),
        λ end.
            let place : at ≡ length end.2.0 = (let e = dot-at path end.2.0 end.0 end.1 end.2.1 (Some at) h in cc) in
            let same : end.0 ≡ drop at path = sym (ap (drop at) end.2.1 ∙ drop_at end.2.0 end.0 at (sym place)) in
            known.1 (subst IsExtension (same ∙ sym rest) end.1),
      )

  pub extension-none : IsLastByte (is_byte dot) path None → EndsInOneOf extensions path → ⊥
  extension-none h end = let e = dot-at path end.2.0 end.0 end.1 end.2.1 None h in cc

module _ (url : List ℕ) where
  place : ℕ
  place = position_or_len (is_byte question_mark) url

  -- a URL that is longer than what stands before its query has a `?`, and the other way round
  pub asks : length (without_query url) < length url → Contains url question_mark
  asks shorter =
      let at = position_or_len (is_byte question_mark) url in
      let lt : at < length url = omega (arith, length-take at url) in
      (at, lt, eqb-true _ _ (passes_at_first (is_byte question_mark) url question_mark lt))

  pub asked : Contains url question_mark → length (without_query url) < length url
  asked has =
      let at = position_or_len (is_byte question_mark) url in
      let in-url : has.0 < length url = has.1 in
      let low : at ≤ has.0 =
      ⊎_elim (λ lt. absurd (both_ways _ (fails_before_first (is_byte question_mark) url has.0 question_mark lt) (eq-eqb _ _ has.2))) (λ le. le) (cases_lt has.0 at) in
      omega (arith, length-take at url)

module _ (url path : List ℕ) (statics : List (List ℕ)) (all : Bool) (is : path ≡ without_query url) where
  pub static-known : (r : Bool) → IsTrue r ↔ EndsInOneOf extensions path → IsTrue r → (Contains url question_mark → IsTrue all) → IsTrue r ↔ IsStatic url statics all
  static-known r known holds plain =
      (λ _. record { ending = inl (subst (λ p. EndsInOneOf extensions p) is (known.0 holds)); plain = plain }, λ _. holds)

  pub static-own : (known own : Bool) → IsTrue known ↔ EndsInOneOf extensions path → known ≡ false → own ≡ list_any (λ suffix. ends_with eqb path suffix) statics → (Contains url question_mark → IsTrue all) → IsTrue own ↔ IsStatic url statics all
  static-own known own knows unknown owns plain = (
    λ ends. record { ending = inr (subst (λ p. EndsInOneOf statics p) is ((any-ends path statics own owns).0 ends)); plain = plain },
    λ static.
        ⊎_elim (λ end. absurd (both_ways _ unknown (knows.1 (subst (λ p. EndsInOneOf extensions p) (sym is) end))))
        (λ end. (any-ends path statics own owns).1 (subst (λ p. EndsInOneOf statics p) (sym is) end)) static.ending,
  )

  pub not-static : length path < length url → all ≡ false → IsStatic url statics all → ⊥
  not-static shorter not-all static = both_ways _ not-all (static.plain (asks url (omega (arith, ap length is))))

  pub plain-url : length url ≤ length path → Contains url question_mark → IsTrue all
  plain-url whole has = absurd (omega (arith, ap length is, asked url has))
