-- What a search of a table of words says.
use Rattle.std.proofs.Common.{◌≡◌, ◌↔◌, ℕ, Bool, List, IsTrue, sym, ◌∙◌, subst}
use Rattle.std.specs.Str.{bytes_eq}
use Rattle.std.specs.List.{Contains, list_any}
use Rattle.std.proofs.lemmas.Slice.Eq.{bytes_eq-Decides}
use Rattle.std.proofs.lemmas.List.Folds.{Any-from_list_any, list_any_at}

-- a search answers whether the table contains the text
pub known : (words : List (List ℕ)) (text : List ℕ) (r : Bool) → r ≡ list_any (λ word. bytes_eq word text) words → IsTrue r ↔ Contains words text
known words text r e = (
  λ yes.
      let any = Any-from_list_any (λ word. bytes_eq word text) words (sym e ∙ yes) in
      let same : any.1 ≡ text = (bytes_eq-Decides any.1 text).0 any.4 in
      subst (Contains words) same (any.0, any.2, any.3),
  λ has. e ∙ list_any_at (λ word. bytes_eq word text) words has.0 text has.1 ((bytes_eq-Decides _ text).1 has.2),
)
