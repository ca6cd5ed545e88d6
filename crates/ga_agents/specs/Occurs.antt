-- Which entry of a list counts for an agent: the first whose token is a substring of it, byte for byte.
use Rattle.std.specs.Prelude.{◌≡◌, ℕ, ◌≤◌, List, ◌∷◌, ◌++◌, length}
use Rattle.std.specs.List.{AllByRecursion}

-- the token is a substring of the agent
abbrev pub Occurs : List ℕ → List ℕ → Type 0
Occurs token agent = (front rest : List ℕ) × (agent ≡ front ++ (token ++ rest))

-- the token is in the agent between these bytes, and nowhere before
pub record StandsFirst (token agent front rest : List ℕ) : Type 0 where
  pub split : agent ≡ front ++ (token ++ rest)
  pub first : (other more : List ℕ) → agent ≡ other ++ (token ++ more) → length front ≤ length other

-- no token of these entries is a substring of the agent
abbrev pub NoneOccurs : {E : Type 0} → (E → List ℕ) → List E → List ℕ → Type 0
NoneOccurs token_of entries agent = AllByRecursion (λ entry. ¬ Occurs (token_of entry) agent) entries

-- the first entry whose token is a substring of the agent: the list splits around it, and no token before it is one
pub record IsFirstEntry {E : Type 0} (token_of : E → List ℕ) (entries : List E) (agent : List ℕ) (entry : E) : Type 0 where
  pub before : List E
  pub after : List E
  pub split : entries ≡ before ++ entry ∷ after
  pub occurs : Occurs (token_of entry) agent
  pub none_before : NoneOccurs token_of before agent
