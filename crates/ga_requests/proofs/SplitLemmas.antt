-- How a request line is cut at its first and its last space.
use Rattle.std.proofs.Common.{◌≡◌, ℕ, suc, ◌+◌, ◌-◌, ◌<◌, ◌≤◌, Bool, true, not, List, [], ◌∷◌, ◌++◌, length, take, drop, get_or, Option, Some, None, refl, sym, ap, ◌∙◌, subst, arith, length-append, length-drop, take_all, append_assoc, drop-cons}
use Rattle.std.specs.List.{list_all, Contains}
use Rattle.std.proofs.lemmas.Bool.{eq-eqb, eqb-true, not-true, both_ways}
use Rattle.std.proofs.lemmas.List.{take_at, drop_at, take-append-drop, drop-drop, get_or-drop, length-take-le, nil_from_length}
use Rattle.std.proofs.lemmas.List.Elements.{All-contains}
use Rattle.std.proofs.lemmas.List.Sums.{AllPass-from_list_all}
use Rattle.memchr.specs.Find.{IsFirstByte, IsLastByte, is_byte}
use Rattle.ga_requests.specs.Tables.{methods, protocols, IsMethod, IsProtocol}
use Rattle.ga_requests.specs.Requests.{space, IsRequestLine, IsNoRequestLine}
use Rattle.ga_requests.proofs.PlaceLemmas.{Lacks, first_is, last_is}

-- a byte isn't this one
abbrev pub differs : ℕ → ℕ → Bool
differs stop b = not (is_byte stop b)

pub none-lacks : (stop : ℕ) (word : List ℕ) → list_all (differs stop) word ≡ true → Lacks stop word
none-lacks stop word free k lt is = both_ways _ (not-true _ (AllPass-from_list_all (differs stop) word free k 0 lt)) (eq-eqb _ _ is)

-- a word of a table whose words all lack a byte lacks it
word-lacks : (stop : ℕ) (words : List (List ℕ)) (word : List ℕ) → list_all (λ w. list_all (differs stop) w) words ≡ true → Contains words word → Lacks stop word
word-lacks stop words word all has =
    none-lacks stop word
    (All-contains (λ w. list_all (differs stop) w ≡ true) words word (AllPass-from_list_all (λ w. list_all (differs stop) w) words all) has)

pub method-lacks : (method : List ℕ) → IsMethod method → Lacks space method
method-lacks method known = word-lacks space methods method refl known

pub protocol-lacks : (protocol : List ℕ) → IsProtocol protocol → Lacks space protocol
protocol-lacks protocol known = word-lacks space protocols protocol refl known

module _ (text method target protocol : List ℕ) (line : IsRequestLine text method target protocol) where
  -- the method before all else
  pub line-joined : text ≡ method ++ space ∷ (target ++ space ∷ protocol)
  line-joined = line.joined ∙ append_assoc method (space ∷ target) (space ∷ protocol)

  pub first-space : (r : Option ℕ) → IsFirstByte (is_byte space) text r → r ≡ Some (length method)
  first-space r h = first_is space text method (target ++ space ∷ protocol) line-joined (method-lacks method line.method_is_known) r h

  pub last-space : (r : Option ℕ) → IsLastByte (is_byte space) text r → r ≡ Some (length (method ++ space ∷ target))
  last-space r h = last_is space text (method ++ space ∷ target) protocol line.joined (protocol-lacks protocol line.protocol_is_known) r h

  -- the parts are those around the first and the last space
  method-is : (first : ℕ) → IsFirstByte (is_byte space) text (Some first) → method ≡ take first text
  method-is first h =
      let at : first ≡ length method = (let e = first-space (Some first) h in cc) in
      sym (ap (take first) line-joined ∙ take_at method (space ∷ (target ++ space ∷ protocol)) first (sym at))

  protocol-is : (last : ℕ) → IsLastByte (is_byte space) text (Some last) → protocol ≡ take (length text - (last + 1)) (drop (last + 1) text)
  protocol-is last h =
      let front = method ++ space ∷ target in
      let at : last ≡ length front = (let e = last-space (Some last) h in cc) in
      let behind : length (front ++ space ∷ []) ≡ last + 1 = omega (arith, length-append front (space ∷ [])) in
      let rest : drop (last + 1) text ≡ protocol = ap (drop (last + 1)) (line.joined ∙ sym (append_assoc front (space ∷ []) protocol)) ∙ drop_at (front ++ space ∷ []) protocol (last + 1) behind in
      sym (take_all (length text - (last + 1)) (drop (last + 1) text) (omega (arith, length-drop (last + 1) text)) ∙ rest)

  far : (first last : ℕ) → IsFirstByte (is_byte space) text (Some first) → IsLastByte (is_byte space) text (Some last) → last ≤ first + 1 → ⊥
  far first last hf hl near =
      let f : first ≡ length method = (let e = first-space (Some first) hf in cc) in
      let l : last ≡ length (method ++ space ∷ target) = (let e = last-space (Some last) hl in cc) in
      line.target_is_some (nil_from_length target (omega (arith, length-append method (space ∷ target))))

module _ (text : List ℕ) where
  pub no-first : IsFirstByte (is_byte space) text None → IsNoRequestLine text
  no-first h method target protocol line = let e = first-space text method target protocol line None h in cc

  pub too-near : (first last : ℕ) → IsFirstByte (is_byte space) text (Some first) → IsLastByte (is_byte space) text (Some last) → last ≤ first + 1 → IsNoRequestLine text
  too-near first last hf hl near method target protocol line = far text method target protocol line first last hf hl near

  pub no-method : (first : ℕ) → IsFirstByte (is_byte space) text (Some first) → ¬ IsMethod (take first text) → IsNoRequestLine text
  no-method first h unknown method target protocol line = unknown (subst IsMethod (method-is text method target protocol line first h) line.method_is_known)

  pub no-protocol : (last : ℕ) → IsLastByte (is_byte space) text (Some last) → ¬ IsProtocol (take (length text - (last + 1)) (drop (last + 1) text)) → IsNoRequestLine text
  no-protocol last h unknown method target protocol line = unknown (subst IsProtocol (protocol-is text method target protocol line last h) line.protocol_is_known)

-- a text is cut at a byte of it
cut-at : (text : List ℕ) (at b : ℕ) → at < length text → get_or text at 0 ≡ b → text ≡ take at text ++ b ∷ drop (at + 1) text
cut-at text at b lt is =
    sym (take-append-drop at text) ∙ ap (λ rest. take at text ++ rest) (drop-cons text at 0 lt ∙ ap (λ x. x ∷ drop (suc at) text) is ∙ (let next : suc at ≡ at + 1 = omega arith in ap (λ n. b ∷ drop n text) next))

module _ (text : List ℕ) (first last : ℕ) (hf : IsFirstByte (is_byte space) text (Some first)) (hl : IsLastByte (is_byte space) text (Some last)) where
  abbrev pub middle : List ℕ
  middle = take (last - (first + 1)) (drop (first + 1) text)

  abbrev pub behind : List ℕ
  behind = take (length text - (last + 1)) (drop (last + 1) text)

  pub line-at : first + 1 < last → IsMethod (take first text) → IsProtocol behind → IsRequestLine text (take first text) middle behind
  line-at apart known-method known-protocol =
      let first-in : first < length text = hf.0.high in
      let last-in : last < length text = hl.0.high in
      let rest = drop (first + 1) text in
      let n = last - (first + 1) in
      let size : length rest ≡ length text - (first + 1) = length-drop (first + 1) text in
      let place : first + 1 + n ≡ last = omega arith in
      let end : behind ≡ drop (last + 1) text = take_all (length text - (last + 1)) (drop (last + 1) text) (omega (arith, length-drop (last + 1) text)) in
      let space-at : get_or rest n 0 ≡ space = get_or-drop (first + 1) text n 0 ∙ ap (λ k. get_or text k 0) place ∙ eqb-true _ _ hl.1 in
      let past : drop (n + 1) rest ≡ drop (last + 1) text = drop-drop (n + 1) (first + 1) text ∙ (let same : first + 1 + (n + 1) ≡ last + 1 = omega arith in ap (λ k. drop k text) same) in
      let rest-is : rest ≡ middle ++ space ∷ behind = cut-at rest n space (omega arith) space-at ∙ ap (λ r. middle ++ space ∷ r) (past ∙ sym end) in
      record {
        joined = cut-at text first space first-in (eqb-true _ _ hf.1) ∙ ap (λ r. take first text ++ space ∷ r) rest-is ∙ sym (append_assoc (take first text) (space ∷ middle) (space ∷ behind));
        method_is_known = known-method;
        target_is_some = λ none. let long : length middle ≡ n = length-take-le n rest (omega arith) in absurd (omega (arith, ap length none));
        protocol_is_known = known-protocol;
      }
