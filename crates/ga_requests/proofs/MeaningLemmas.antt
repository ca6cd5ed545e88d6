-- That each definition has one answer.
use Rattle.std.proofs.Common.{◌≡◌, ℕ, suc, List, [], ◌∷◌, ◌++◌, length, get_or, Option, Some, None, refl, sym, ap, ◌∙◌, subst, arith, length-append, inl, inr}
use Rattle.std.specs.Prelude.{codes}
use Rattle.std.specs.List.{All, Contains}
use Rattle.std.proofs.lemmas.List.{get_or_at}
use Rattle.std.proofs.lemmas.List.Elements.{All-head, All-tail, at_from_Contains}
use Rattle.ga_requests.specs.Requests.{space, IsRequestLine, HasParts}
use Rattle.ga_requests.specs.Referrers.{SiteIs, IsPhrase, PhraseIs, KeyphraseIs, pairs_of, query_of}
use Rattle.ga_requests.proofs.PlaceLemmas.{Lacks}
use Rattle.ga_requests.proofs.SplitLemmas.{method-lacks, protocol-lacks, line-joined}
use Rattle.ga_requests.proofs.PhraseLemmas.{IsNone}
use Rattle.ga_requests.proofs.SiteLemmas.{names-same}

lacks-holds : (stop : ℕ) (word : List ℕ) → Lacks stop word → Contains word stop → ⊥
lacks-holds stop word lacks has = let at = at_from_Contains word stop has in lacks at.0 at.1 (at.2 0)

-- two fronts without a byte, each before that byte in one text, are the same, and so is what follows
fronts : (stop : ℕ) (front rest other later : List ℕ) → Lacks stop front → Lacks stop other → front ++ stop ∷ rest ≡ other ++ stop ∷ later → (front ≡ other) × (rest ≡ later)
fronts stop [] rest [] later one two e = (refl, cc)
fronts stop [] rest (b ∷ other) later one two e = absurd (two 0 (omega arith) cc)
fronts stop (a ∷ front) rest [] later one two e = absurd (one 0 (omega arith) cc)
fronts stop (a ∷ front) rest (b ∷ other) later one two e =
    let same : front ++ stop ∷ rest ≡ other ++ stop ∷ later = cc in
    let heads : a ≡ b = cc in
    let tails = fronts stop front rest other later (λ k lt. one (suc k) (omega arith)) (λ k lt. two (suc k) (omega arith)) same in
    (ap (λ x. x ∷ front) heads ∙ ap (λ xs. b ∷ xs) tails.0, tails.1)

-- the same of two rests
backs : (stop : ℕ) (front rest other later : List ℕ) → Lacks stop rest → Lacks stop later → front ++ stop ∷ rest ≡ other ++ stop ∷ later → (front ≡ other) × (rest ≡ later)
backs stop [] rest [] later one two e = (refl, cc)
backs stop [] rest (b ∷ other) later one two e =
    let same : rest ≡ other ++ stop ∷ later = cc in
    absurd (one (length other) (omega (arith, ap length same, length-append other (stop ∷ later))) (ap (λ xs. get_or xs (length other) 0) same ∙ get_or_at other stop later 0 (length other) refl))
backs stop (a ∷ front) rest [] later one two e =
    let same : front ++ stop ∷ rest ≡ later = cc in
    absurd (two (length front) (omega (arith, ap length same, length-append front (stop ∷ rest))) (ap (λ xs. get_or xs (length front) 0) (sym same) ∙ get_or_at front stop rest 0 (length front) refl))
backs stop (a ∷ front) rest (b ∷ other) later one two e =
    let same : front ++ stop ∷ rest ≡ other ++ stop ∷ later = cc in
    let heads : a ≡ b = cc in
    let tails = backs stop front rest other later one two same in
    (ap (λ x. x ∷ front) heads ∙ ap (λ xs. b ∷ xs) tails.0, tails.1)

pub no-spaces : (text method target protocol : List ℕ) → IsRequestLine text method target protocol → (Contains method space → ⊥) × (Contains protocol space → ⊥)
no-spaces text method target protocol line =
    (lacks-holds space method (method-lacks method line.method_is_known), lacks-holds space protocol (protocol-lacks protocol line.protocol_is_known))

module _ (text m t p n u q : List ℕ) where
  one-line : IsRequestLine text m t p → IsRequestLine text n u q → (m ≡ n) × (t ≡ u) × (p ≡ q)
  one-line one two =
      let first = line-joined text m t p one in
      let second = line-joined text n u q two in
      let split = fronts space m (t ++ space ∷ p) n (u ++ space ∷ q) (method-lacks m one.method_is_known) (method-lacks n two.method_is_known) (sym first ∙ second) in
      let rest = backs space t p u q (protocol-lacks p one.protocol_is_known) (protocol-lacks q two.protocol_is_known) split.1 in
      (split.0, rest.0, rest.1)

  pub one-split : HasParts text m t p → HasParts text n u q → (m ≡ n) × (t ≡ u) × (p ≡ q)
  one-split (inl one) (inl two) = one-line one two
  one-split (inl one) (inr two) = absurd (two.other m t p one)
  one-split (inr one) (inl two) = absurd (one.other n u q two)
  one-split (inr one) (inr two) =
      (one.no_method ∙ sym two.no_method, one.whole ∙ sym two.whole, one.no_protocol ∙ sym two.no_protocol)

pub one-site : (referrer : List ℕ) (site other : Option (List ℕ)) → SiteIs referrer site → SiteIs referrer other → site ≡ other
one-site referrer None None one two = refl
one-site referrer None (Some other) one two = absurd (two.1 (one other two.0))
one-site referrer (Some site) None one two = absurd (one.1 (two site one.0))
one-site referrer (Some site) (Some other) one two = ap Some (names-same referrer site other one.0 two.0)

abbrev pub Pair : Type 0
Pair = List ℕ × List ℕ

-- a phrase among pairs that hold none
none-holds : (before after : List Pair) (x : Pair) → IsPhrase x → All IsNone (before ++ x ∷ after) → ⊥
none-holds [] after x is none = All-head IsNone x after none is
none-holds (y ∷ before) after x is none = none-holds before after x is (All-tail IsNone y (before ++ x ∷ after) none)

-- the first phrases of one list are the same
firsts : (before after : List Pair) (x : Pair) (others later : List Pair) (y : Pair) → All IsNone before → All IsNone others → IsPhrase x → IsPhrase y → before ++ x ∷ after ≡ others ++ y ∷ later → x ≡ y
firsts [] after x [] later y one two is also e = cc
firsts [] after x (b ∷ others) later y one two is also e =
    let heads : x ≡ b = cc in absurd (All-head IsNone b others two (subst (λ pair. IsPhrase pair) heads is))
firsts (a ∷ before) after x [] later y one two is also e =
    let heads : y ≡ a = cc in absurd (All-head IsNone a before one (subst (λ pair. IsPhrase pair) heads also))
firsts (a ∷ before) after x (b ∷ others) later y one two is also e =
    let same : before ++ x ∷ after ≡ others ++ y ∷ later = cc in
    firsts before after x others later y (All-tail IsNone a before one) (All-tail IsNone b others two) is also same

one-phrase : (pairs : List Pair) (phrase other : Option (List ℕ)) → PhraseIs pairs phrase → PhraseIs pairs other → phrase ≡ other
one-phrase pairs None None one two = refl
one-phrase pairs None (Some other) one two =
    absurd (none-holds two.0 two.1 (codes "q", other) (refl, two.4) (subst (λ all. All IsNone all) two.2 one))
one-phrase pairs (Some phrase) None one two =
    absurd (none-holds one.0 one.1 (codes "q", phrase) (refl, one.4) (subst (λ all. All IsNone all) one.2 two))
one-phrase pairs (Some phrase) (Some other) one two =
    let same = firsts one.0 one.1 (codes "q", phrase) two.0 two.1 (codes "q", other) one.3 two.3 (refl, one.4) (refl, two.4) (sym one.2 ∙ two.2) in
    ap (λ (pair : Pair). Some pair.1) same

pub one-keyphrase : (referrer : List ℕ) (phrase other : Option (List ℕ)) → KeyphraseIs referrer phrase → KeyphraseIs referrer other → phrase ≡ other
one-keyphrase referrer None None one two = refl
one-keyphrase referrer None (Some other) one two = one-phrase (pairs_of (query_of referrer)) None (Some other) (one two.0) two.1
one-keyphrase referrer (Some phrase) None one two = one-phrase (pairs_of (query_of referrer)) (Some phrase) None one.1 (two one.0)
one-keyphrase referrer (Some phrase) (Some other) one two = one-phrase (pairs_of (query_of referrer)) (Some phrase) (Some other) one.1 two.1
