-- The names of options begin with a dash, are not `--`, and have no `=`, so that a word with one is cut in one way.
use Rattle.std.proofs.Common.{◌≡◌, ◌≢◌, ◌==◌, ◌&&◌, cond, ℕ, Bool, true, false, Option, Some, None, List, [], ◌∷◌, ◌++◌, codes, refl, sym, ap, ◌∙◌, arith, append_assoc}
use Rattle.std.proofs.lemmas.Bool.Decides.{nat_tests}
use Rattle.std.proofs.lemmas.Slice.Eq.{bytes_eq-Decides}
use Rattle.std.specs.List.{list_all}
use Rattle.std.specs.Map.{lookup}
use Rattle.std.specs.Str.{bytes_eq}
use Rattle.ga_words.specs.Options.{Takes, options, takes_of, IsLong}
use Rattle.ga_words.specs.Units.{BeginsWithDash}
use Rattle.ga_words.specs.Steps.Words.{IsPlain, IsCut, HasNoJoined}
use Rattle.ga_words.proofs.CutLemmas.{one-cut}

abbrev pub plain : List ℕ → Bool
plain [] = true
plain (b ∷ bs) = cond (b == 61) false (plain bs)

-- a dash, and not the word `--`
abbrev dashed : List ℕ → Bool
dashed [] = false
dashed (b ∷ bs) = b == 45

abbrev like_name : List ℕ → Bool
like_name name = cond (dashed name) (cond (bytes_eq name (codes "--")) false (plain name)) false

both-true : (a b : Bool) → (a && b) ≡ true → (a ≡ true) × (b ≡ true)
both-true true b e = (refl, e)
both-true false b e = cc

-- what holds of every name in a table holds of the one that is found
module _ {X : Type 0} (test : List ℕ → Bool) (name : List ℕ) (x : X) where
  found-step : (own : List ℕ) (value : X) (rest : Option X) (b : Bool) → bytes_eq own name ≡ b → test own ≡ true → (rest ≡ Some x → test name ≡ true) → cond b (Some value) rest ≡ Some x → test name ≡ true
  found-step own value rest true is holds more e = ap test (sym ((bytes_eq-Decides own name).0 is)) ∙ holds
  found-step own value rest false is holds more e = more e

  found-test : (rows : List (List ℕ × X)) → list_all (λ row. test row.0) rows ≡ true → lookup (λ own. bytes_eq own name) rows ≡ Some x → test name ≡ true
  found-test [] all e = cc
  found-test (row ∷ rows) all e =
      let both = both-true (test row.0) (list_all (λ r. test r.0) rows) all in
      found-step row.0 row.1 (lookup (λ own. bytes_eq own name) rows) (bytes_eq row.0 name) refl both.0 (λ k. found-test rows both.1 k) e

plain-step : (b : ℕ) (bs : List ℕ) (is : Bool) → (b == 61) ≡ is → cond is false (plain bs) ≡ true → (b ≢ 61) × (plain bs ≡ true)
plain-step b bs true is e = cc
plain-step b bs false is e = (grind (arith, nat_tests), e)

pub plain-is : (name : List ℕ) → plain name ≡ true → IsPlain name
plain-is [] e [] back split = cc
plain-is [] e (x ∷ front) back split = cc
plain-is (b ∷ bs) e [] back split = let first : b ≡ 61 = cc in (plain-step b bs (b == 61) refl e).0 first
plain-is (b ∷ bs) e (x ∷ front) back split = let more : bs ≡ front ++ codes "=" ++ back = cc in plain-is bs (plain-step b bs (b == 61) refl e).1 front back more

-- what a test of `like_name` says
like-step : (d t p : Bool) → cond d (cond t false p) false ≡ true → (d ≡ true) × (t ≡ false) × (p ≡ true)
like-step true true p e = cc
like-step true false p e = (refl, refl, e)
like-step false t p e = cc

name-tests : (name : List ℕ) (takes : Takes) → takes_of name ≡ Some takes → (dashed name ≡ true) × (bytes_eq name (codes "--") ≡ false) × (plain name ≡ true)
name-tests name takes e = like-step (dashed name) (bytes_eq name (codes "--")) (plain name) (found-test like_name name takes options refl e)

dash-first : (name : List ℕ) → dashed name ≡ true → BeginsWithDash name
dash-first [] e = cc
dash-first (b ∷ bs) e = let is : b ≡ 45 = grind (arith, nat_tests) in (bs, ap (λ (x : ℕ). x ∷ bs) is)

pub name-dash : (name : List ℕ) (takes : Takes) → takes_of name ≡ Some takes → BeginsWithDash name
name-dash name takes e = dash-first name (name-tests name takes e).0

pub name-no_tail : (name : List ℕ) (takes : Takes) → takes_of name ≡ Some takes → name ≢ codes "--"
name-no_tail name takes e same =
    let yes : bytes_eq name (codes "--") ≡ true = (bytes_eq-Decides name (codes "--")).1 same in
    let no = (name-tests name takes e).1 in cc

pub name-plain : (name : List ℕ) (takes : Takes) → takes_of name ≡ Some takes → IsPlain name
name-plain name takes e = plain-is name (name-tests name takes e).2

-- what is nothing where it isn't something
pub is-none : {X : Type 0} (o : Option X) → ((x : X) → o ≡ Some x → ⊥) → o ≡ None
is-none None none = refl
is-none (Some x) none = absurd (none x refl)

equals : (name value : List ℕ) → name ++ codes "=" ++ value ≡ name ++ 61 ∷ value
equals name value = append_assoc name (codes "=") value

pub no-joined-plain : (word : List ℕ) → IsPlain word → HasNoJoined word
no-joined-plain word free name value split long = absurd (free name value split)

pub no-joined-cut : (word front back : List ℕ) → IsCut word front back → (IsLong front → takes_of front ≡ None) → HasNoJoined word
no-joined-cut word front back cut none name value split long =
    is-none (takes_of name) (λ takes e.
    let same = (one-cut front name back value cut.plain (name-plain name takes e) (sym (equals front back) ∙ sym cut.split ∙ split ∙ equals name value)).0 in
    let nothing = none (λ short. long (sym same ∙ short)) in
    let something : takes_of front ≡ Some takes = ap takes_of same ∙ e in cc)
