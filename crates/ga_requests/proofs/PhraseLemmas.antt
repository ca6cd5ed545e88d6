-- The first pair of a query that holds a phrase.
use Rattle.std.proofs.Common.{◌≡◌, ℕ, List, [], ◌∷◌, ◌++◌, map, Option, Some, None, sym, ap, ◌∙◌, subst, arith, append_assoc}
use Rattle.std.specs.Prelude.{codes}
use Rattle.std.specs.List.{All}
use Rattle.std.specs.Str.Lossy.{utf8_lossy}
use Rattle.std.proofs.lemmas.List.Elements.{All-cons, All-head}
use Rattle.form_urlencoded.specs.Form.{decode}
use Rattle.ga_requests.specs.Referrers.{IsPhrase, PhraseIs, IsGoogle, KeyphraseIs, query_of, pairs_of}

-- the texts of pairs that are still encoded
abbrev pub texts : List (List ℕ × List ℕ) → List (List ℕ × List ℕ)
texts raw = map (λ (name, value). (utf8_lossy name, utf8_lossy value)) (map (λ (name, value). (decode name, decode value)) raw)

abbrev pub IsNone : List ℕ × List ℕ → Type 0
IsNone pair = IsPhrase pair → ⊥

none-at-all : All IsNone []
none-at-all k d lt = absurd (omega arith)

pub none-left : PhraseIs [] None
none-left k d lt = absurd (omega arith)

-- what the later pairs say holds of all, where the first is no phrase
pub passed : (name value : List ℕ) (pairs : List (List ℕ × List ℕ)) → (IsPhrase (name, value) → ⊥) → (answer : Option (List ℕ)) → PhraseIs pairs answer → PhraseIs ((name, value) ∷ pairs) answer
passed name value pairs other None none = All-cons IsNone (name, value) pairs other none
passed name value pairs other (Some phrase) found =
    ((name, value) ∷ found.0, found.1, ap (λ rest. (name, value) ∷ rest) found.2, All-cons IsNone (name, value) found.0 other found.3, found.4)

-- a pair by itself that is a phrase is the first of all
pub found-first : (pair : List ℕ × List ℕ) (pairs : List (List ℕ × List ℕ)) (phrase : List ℕ) → PhraseIs (pair ∷ []) (Some phrase) → PhraseIs (pair ∷ pairs) (Some phrase)
found-first pair pairs phrase found =
    (found.0, found.1 ++ pairs, ap (λ all. all ++ pairs) found.2 ∙ append_assoc found.0 ((codes "q", phrase) ∷ found.1) pairs, found.3, found.4)

-- a pair by itself that is none
pub none-first : (pair : List ℕ × List ℕ) → PhraseIs (pair ∷ []) None → IsNone pair
none-first pair none = All-head IsNone pair [] none

-- a pair with another name, or with no value
pub other-name : (name value : List ℕ) → ¬ (name ≡ codes "q") → PhraseIs ((name, value) ∷ []) None
other-name name value other = All-cons IsNone (name, value) [] (λ phrase. other phrase.0) none-at-all

pub no-value : (name value : List ℕ) → value ≡ [] → PhraseIs ((name, value) ∷ []) None
no-value name value none = All-cons IsNone (name, value) [] (λ phrase. phrase.1 none) none-at-all

pub phrase-itself : (name value phrase : List ℕ) → name ≡ codes "q" → ¬ (value ≡ []) → phrase ≡ value → PhraseIs ((name, value) ∷ []) (Some phrase)
phrase-itself name value phrase is some same =
    ([], [], ap (λ n. (n, value) ∷ []) is ∙ ap (λ v. (codes "q", v) ∷ []) (sym same), none-at-all, λ none. some (sym same ∙ none))

module _ (referrer query : List ℕ) (google : IsGoogle referrer) (same : query ≡ query_of referrer) where
  -- where the site is one of Google's, the phrase is the query's
  pub keyphrase-is : (answer : Option (List ℕ)) → PhraseIs (pairs_of query) answer → KeyphraseIs referrer answer
  keyphrase-is None none = λ _. subst (λ q. PhraseIs (pairs_of q) None) same none
  keyphrase-is (Some phrase) found = (google, subst (λ q. PhraseIs (pairs_of q) (Some phrase)) same found)
