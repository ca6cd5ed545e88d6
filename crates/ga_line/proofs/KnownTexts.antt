-- Known methods and protocols are UTF-8.
use Rattle.std.proofs.Common.{◌≡◌, ℕ, zero, suc, Bool, true, List, [], ◌∷◌, refl, sym, subst, inl, inr, arith}
use Rattle.std.specs.Prelude.{nat_lt}
use Rattle.std.specs.List.{Contains, list_all}
use Rattle.std.specs.Str.{IsAscii, IsUtf8}
use Rattle.std.proofs.lemmas.Bool.Decides.{nat_tests}
use Rattle.std.proofs.lemmas.List.Elements.{All-contains}
use Rattle.std.proofs.lemmas.List.Sums.{AllPass-from_list_all}
use Rattle.std.proofs.lemmas.Str.{IsUtf8-from_ascii, IsUtf8-nil}
use Rattle.ga_requests.specs.Tables.{methods, protocols}
use Rattle.ga_line.specs.Steps.Valid.{IsKnownText}
use Rattle.ga_line.proofs.SizeLemmas.{first-of, rest-of}

abbrev is_plain : List ℕ → Bool
is_plain text = list_all (λ b. nat_lt b 128) text

plain-ascii : (text : List ℕ) → is_plain text ≡ true → IsAscii text
plain-ascii [] plain i = omega arith
plain-ascii (b ∷ text) plain zero = let below : nat_lt b 128 ≡ true = first-of (nat_lt b 128) (is_plain text) plain in grind (arith, nat_tests, below)
plain-ascii (b ∷ text) plain (suc i) = plain-ascii text (rest-of (nat_lt b 128) (is_plain text) plain) i

one-of : (texts : List (List ℕ)) (text : List ℕ) → list_all is_plain texts ≡ true → Contains texts text → IsUtf8 text
one-of texts text plain has = IsUtf8-from_ascii text (plain-ascii text (All-contains (λ t. is_plain t ≡ true) texts text (AllPass-from_list_all is_plain texts plain) has))

pub known-utf8 : (text : List ℕ) → IsKnownText text → IsUtf8 text
known-utf8 text (inl empty) = subst IsUtf8 (sym empty) IsUtf8-nil
known-utf8 text (inr (inl method)) = one-of methods text refl method
known-utf8 text (inr (inr protocol)) = one-of protocols text refl protocol
