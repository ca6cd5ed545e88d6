-- The number of our definition is the value of the standard library's address.
use Rattle.std.proofs.Common.{◌≡◌, ℕ, ◌^◌, List, [], ◌∷◌, length, w32, sym, ap, ◌∙◌, arith}
use Rattle.std.specs.Int.{w128, from_be_bytes}
use Rattle.std.specs.Net.Addr.{octets_of}
use Rattle.std.proofs.NetLemmas.Arrays.{eight_items}
use Rattle.ga_hosts.specs.Addresses.{number_in}

pub number_in-four : (a b c d : ℕ) → number_in 256 (a ∷ b ∷ c ∷ d ∷ []) ≡ from_be_bytes w32 (a ∷ b ∷ c ∷ d ∷ [])
number_in-four a b c d = omega arith

number_in-eight_items : (a b c d e f g h : ℕ) → number_in (2 ^ 16) (a ∷ b ∷ c ∷ d ∷ e ∷ f ∷ g ∷ h ∷ []) ≡ from_be_bytes w128 (octets_of (a ∷ b ∷ c ∷ d ∷ e ∷ f ∷ g ∷ h ∷ []))
number_in-eight_items a b c d e f g h = omega arith

pub number_in-eight : (groups : List ℕ) → length groups ≡ 8 → number_in (2 ^ 16) groups ≡ from_be_bytes w128 (octets_of groups)
number_in-eight groups eight =
    let items = eight_items groups eight in
    ap (number_in (2 ^ 16)) items ∙ number_in-eight_items _ _ _ _ _ _ _ _ ∙ sym (ap (λ xs. from_be_bytes w128 (octets_of xs)) items)
