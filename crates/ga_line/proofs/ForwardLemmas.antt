-- A forwarded field that is a chain, and the literal that has to follow it.
use Rattle.std.proofs.Common.{◌≡◌, ◌≢◌, ℕ, true, List, [], ◌∷◌, Option, Some, None, refl, sym, ◌∙◌}
use Rattle.std.specs.List.{slice_get}
use Rattle.ga_base.specs.declared.formats.FormatItem.{FormatItem}
use Rattle.ga_base.specs.declared.formats.FormatItem.TheVariants.{Literal, Skip, Field, Forwarded}
use Rattle.ga_line.specs.Fits.{IsForwarded}
use Rattle.ga_line.specs.Steps.Forwarding.{GoesOn, HasChain, IsLastOf, Forwards, HasNoLiteral}
use Rattle.ga_line.proofs.ChainLemmas.{chain-unique}

no-byte : (b : ℕ) (xs : List ℕ) → [] ≡ b ∷ xs → ⊥
no-byte b xs e = cc

cons-head : (x y : ℕ) (xs ys : List ℕ) → x ∷ xs ≡ y ∷ ys → x ≡ y
cons-head x y xs ys e = cc

same-Some : (x y : ℕ) → Some x ≡ Some y → x ≡ y
same-Some x y e = cc

-- before no literal
pub forwards-last : (next : Option FormatItem) → HasNoLiteral next → (separators rest : List ℕ) (host after : Option (List ℕ)) → Forwards next separators rest host after → IsLastOf separators rest host after
forwards-last None none separators rest host after is = is
forwards-last (Some (Literal stop)) none separators rest host after is = absurd (none stop refl)
forwards-last (Some Skip) none separators rest host after is = is
forwards-last (Some (Field letter)) none separators rest host after is = is
forwards-last (Some (Forwarded others)) none separators rest host after is = is

pub last-forwards : (next : Option FormatItem) → HasNoLiteral next → (separators rest : List ℕ) (host after : Option (List ℕ)) → IsLastOf separators rest host after → Forwards next separators rest host after
last-forwards None none separators rest host after is = is
last-forwards (Some (Literal stop)) none separators rest host after is = absurd (none stop refl)
last-forwards (Some Skip) none separators rest host after is = is
last-forwards (Some (Field letter)) none separators rest host after is = is
last-forwards (Some (Forwarded others)) none separators rest host after is = is

module _ (separators : List ℕ) (stop : ℕ) (rest : List ℕ) where
  -- no chain begins there
  pub chains-nowhere : ((host after : List ℕ) → ¬ HasChain separators rest host after) → (host left : Option (List ℕ)) → ¬ IsForwarded true separators stop rest host left
  chains-nowhere none None left is = is
  chains-nowhere none (Some host) None is = none host [] is
  chains-nowhere none (Some host) (Some after) is = none host (stop ∷ after) is

  -- another byte follows the chain
  pub chains-elsewhere : (host : List ℕ) (b : ℕ) (after : List ℕ) → HasChain separators rest host (b ∷ after) → b ≢ stop → (other left : Option (List ℕ)) → ¬ IsForwarded true separators stop rest other left
  chains-elsewhere host b after has apart None left is = is
  chains-elsewhere host b after has apart (Some other) None is = no-byte b after (chain-unique separators rest other [] host (b ∷ after) is has).1
  chains-elsewhere host b after has apart (Some other) (Some left) is = apart (sym (cons-head _ _ _ _ (chain-unique separators rest other (stop ∷ left) host (b ∷ after) is has).1))

  pub goes-nowhere : ((host after : List ℕ) → ¬ HasChain separators rest host after) → (host after : Option (List ℕ)) → ¬ GoesOn true separators stop rest host after
  goes-nowhere none host None is = chains-nowhere none host None is
  goes-nowhere none host (Some after) (behind, same, is) = chains-nowhere none host (Some behind) is

  pub goes-elsewhere : (host after : List ℕ) → HasChain separators rest host after → (b : ℕ) → Some b ≡ slice_get after 0 → b ≢ stop → (other left : Option (List ℕ)) → ¬ GoesOn true separators stop rest other left
  goes-elsewhere host [] has b first apart other left is = no-first b first
    where
      no-first : (b : ℕ) → Some b ≡ None → ⊥
      no-first b e = cc
  goes-elsewhere host (c ∷ after) has b first apart other None is = chains-elsewhere host c after has (λ same. apart (same-Some b c first ∙ same)) other None is
  goes-elsewhere host (c ∷ after) has b first apart other (Some left) (behind, same, is) = chains-elsewhere host c after has (λ same. apart (same-Some b c first ∙ same)) other (Some behind) is
