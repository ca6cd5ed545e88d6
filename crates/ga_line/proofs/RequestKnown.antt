-- A text is a known method or protocol, or isn't; and each text has its parts.
use Rattle.std.proofs.Common.{◌≡◌, ◌≢◌, ℕ, List, [], ◌∷◌, ◌++◌, length, refl, sym, ap, ◌∙◌, subst, inl, inr, ⊎_elim, append_assoc}
use Rattle.std.specs.List.{Contains, slice_index_or}
use Rattle.ga_requests.specs.Requests.{HasParts}
use Rattle.ga_requests.specs.Tables.{methods, protocols, IsMethod, IsProtocol}
use Rattle.ga_line.proofs.Known.{IsKnown, known-both, known-same, known-text, known-below, IsParted, known-parted}

known-contains : (texts : List (List ℕ)) (text : List ℕ) → IsKnown (Contains texts text)
known-contains texts text = known-below (λ k. slice_index_or texts k text ≡ text) (λ k. known-text (slice_index_or texts k text) text) (length texts)

pub known-method : (text : List ℕ) → IsKnown (IsMethod text)
known-method text = known-contains methods text

pub known-protocol : (text : List ℕ) → IsKnown (IsProtocol text)
known-protocol text = known-contains protocols text

cons-head : (x y : ℕ) (xs ys : List ℕ) → x ∷ xs ≡ y ∷ ys → x ≡ y
cons-head x y xs ys e = cc

cons-tail : (x y : ℕ) (xs ys : List ℕ) → x ∷ xs ≡ y ∷ ys → xs ≡ ys
cons-tail x y xs ys e = cc

no-byte : (b : ℕ) (text : List ℕ) → [] ≡ b ∷ text → ⊥
no-byte b text e = cc

-- a space, and after it a text with a property
abbrev IsSpaced : (List ℕ → Type 0) → List ℕ → Type 0
IsSpaced P text = (rest : List ℕ) × (text ≡ 32 ∷ rest) × P rest

known-spaced : (P : List ℕ → Type 0) → ((rest : List ℕ) → IsKnown (P rest)) → (text : List ℕ) → IsKnown (IsSpaced P text)
known-spaced P known [] = inr (λ (rest, e, has). no-byte 32 rest e)
known-spaced P known (b ∷ text) =
    ⊎_elim (λ (space, has). inl (text, ap (λ (x : ℕ). x ∷ text) space, has))
    (λ none. inr (λ (rest, e, has). none (cons-head _ _ _ _ e, subst P (sym (cons-tail _ _ _ _ e)) has)))
    (known-both (known-same b 32) (known text))

known-not : (P : Type 0) → IsKnown P → IsKnown (¬ P)
known-not P (inl p) = inr (λ none. none p)
known-not P (inr none) = inl none

-- a target and what follows it, and a method and what follows it
abbrev Later : List ℕ → List ℕ → Type 0
Later target tail = (target ≢ []) × IsSpaced IsProtocol tail

abbrev Whole : List ℕ → List ℕ → Type 0
Whole method tail = IsMethod method × IsSpaced (IsParted Later) tail

known-whole : (text : List ℕ) → IsKnown (IsParted Whole text)
known-whole text =
    known-parted Whole
    (λ method tail. known-both (known-method method) (known-spaced (IsParted Later) (λ rest. known-parted Later (λ target more. known-both (known-not (target ≡ []) (known-text target [])) (known-spaced IsProtocol known-protocol more)) rest) tail))
    text

-- each text has its parts
pub some-split : (text : List ℕ) → (m t p : List ℕ) × HasParts text m t p
some-split text =
    ⊎_elim
    (λ (method, tail, split, (known, (rest, space, (target, more, cut, (some, (protocol, space_too, protocol_known)))))). (
      method,
      target,
      protocol,
      inl (record {
        joined = split ∙ ap (λ (t : List ℕ). method ++ t) (space ∙ ap (λ (t : List ℕ). 32 ∷ t) (cut ∙ ap (λ (t : List ℕ). target ++ t) space_too)) ∙ sym (append_assoc method (32 ∷ target) (32 ∷ protocol));
        method_is_known = known;
        target_is_some = some;
        protocol_is_known = protocol_known;
      }),
    ))
    (λ none. (
      [],
      text,
      [],
      inr (record {
        other = λ method target protocol is.
            none (method, 32 ∷ (target ++ (32 ∷ protocol)), is.joined ∙ append_assoc method (32 ∷ target) (32 ∷ protocol), (is.method_is_known, (target ++ (32 ∷ protocol), refl, (target, 32 ∷ protocol, refl, (is.target_is_some, (protocol, refl, is.protocol_is_known))))));
        whole = refl;
        no_method = refl;
        no_protocol = refl;
      }),
    ))
    (known-whole text)
