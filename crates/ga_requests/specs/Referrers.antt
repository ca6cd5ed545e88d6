-- What a referrer says: the site that it names, and the phrase that was searched for there. The site is found by
-- rules of this program's own. The pairs of a query are those of the URL Standard's form syntax, section 5.
use Rattle.std.specs.Prelude.{◌≡◌, ◌≢◌, ℕ, ◌≤◌, ◌==◌, Bool, ◌||◌, List, [], ◌∷◌, ◌++◌, map, length, All, Option, Some, None, codes}
use Rattle.std.specs.List.{before_first, after_first}
use Rattle.std.specs.Str.Lossy.{utf8_lossy}
use Rattle.std.specs.Str.Iter.{HasSubslice}
use Rattle.form_urlencoded.specs.Form.{parse}
use Rattle.ga_base.specs.Bytes.{byte_of}
use Rattle.ga_requests.specs.Urls.{question_mark}

abbrev pub slash : ℕ
slash = byte_of (codes "/")

-- the byte that begins a fragment
abbrev pub number_sign : ℕ
number_sign = byte_of (codes "#")

-- `rest` is what follows the first place of `mark` in the text: it follows one, and nothing longer
-- follows any
pub record FollowsFirst (mark text rest : List ℕ) : Type 0 where
  pub split : (front : List ℕ) × (text ≡ front ++ (mark ++ rest))
  pub first : (front later : List ℕ) → text ≡ front ++ (mark ++ later) → length later ≤ length rest

-- the byte ends the name of a site: `/`, `?` or `#`
abbrev pub ends_site : ℕ → Bool
ends_site b = b == slash || b == question_mark || b == number_sign

-- `site` follows the first `://`, up to the first `/`, `?`, `#` or the end
abbrev pub Names : List ℕ → List ℕ → Type 0
Names referrer site = (rest : List ℕ) × FollowsFirst (codes "://") referrer rest × (site ≡ before_first ends_site rest)

-- the site of a referrer, None exactly where it names none or an empty one
abbrev pub SiteIs : List ℕ → Option (List ℕ) → Type 0
SiteIs referrer None = (site : List ℕ) → Names referrer site → site ≡ []
SiteIs referrer (Some site) = Names referrer site × (site ≢ [])

-- what follows the first `?` of the whole referrer, up to the first `#` that follows it; empty without a `?`
abbrev pub query_of : List ℕ → List ℕ
query_of referrer = before_first (λ b. b == number_sign) (after_first (λ b. b == question_mark) referrer)

-- the pairs of a query: the names and values that the form syntax gives, made UTF-8
abbrev pub pairs_of : List ℕ → List (List ℕ × List ℕ)
pairs_of query = map (λ (name, value). (utf8_lossy name, utf8_lossy value)) (parse query)

-- the pair is named `q` and has a value
abbrev pub IsPhrase : List ℕ × List ℕ → Type 0
IsPhrase (name, value) = (name ≡ codes "q") × (value ≢ [])

-- the value of the first pair that is named `q` and has a value, None where there is no such pair
abbrev pub PhraseIs : List (List ℕ × List ℕ) → Option (List ℕ) → Type 0
PhraseIs pairs None = All (λ pair. IsPhrase pair → ⊥) pairs
PhraseIs pairs (Some phrase) =
    (before after : List (List ℕ × List ℕ)) × (pairs ≡ before ++ (codes "q", phrase) ∷ after)
    × All (λ pair. IsPhrase pair → ⊥) before × (phrase ≢ [])

-- the referrer's site is one of Google's
abbrev pub IsGoogle : List ℕ → Type 0
IsGoogle referrer = (site : List ℕ) × SiteIs referrer (Some site) × HasSubslice site (codes "google.")

-- the phrase that was searched for: the query's first, where the site is one of Google's, and None else
abbrev pub KeyphraseIs : List ℕ → Option (List ℕ) → Type 0
KeyphraseIs referrer None = IsGoogle referrer → PhraseIs (pairs_of (query_of referrer)) None
KeyphraseIs referrer (Some phrase) = IsGoogle referrer × PhraseIs (pairs_of (query_of referrer)) (Some phrase)
