-- The first place of a name among contents, and what the definitions of the contents say there.
use Rattle.std.proofs.Common.{◌≡◌, ℕ, ◌+◌, ◌<◌, ◌&&◌, Bool, true, false, cond, not, List, [], ◌∷◌, ◌++◌, map, length, refl, ap, sym, ◌∙◌, Option, Some, None, is_none, option_map, arith, slice_get, get_or, nat_lt, ◌≤◌, subst, suc, is_some}
use Rattle.std.proofs.Math.ListN.{set}
use Rattle.std.proofs.lemmas.Bool.Decides.{nat_tests}
use Rattle.std.proofs.Math.Seq.{map-set_same}
use Rattle.std.proofs.lemmas.List.{length-map}
use Rattle.std.proofs.lemmas.Option.{slice_get_past, slice_get-get_or, slice_get-map}
use Rattle.std.specs.Option.{option_and_then}
use Rattle.std.specs.List.{position_or_len}
use Rattle.std.specs.Str.{bytes_eq}
use Rattle.ga_ports.specs.Places.{pairs, is_named, bytes_at, place_of}
use Rattle.ga_ports.specs.MemFiles.{bytes_of, can_move, grown, moved, renamed}
use Rattle.ga_ports.specs.declared.contents.Content.{Content}

abbrev pub place : List ℕ → List Content → ℕ
place name cs = position_or_len (is_named name) cs

pub bytes_of-place : (name : List ℕ) (cs : List Content) → bytes_of name (pairs cs) ≡ option_map (λ p. p.1) (slice_get (pairs cs) (place name cs))
bytes_of-place name [] = refl
bytes_of-place name (c ∷ cs) =
    let e : 1 + place name cs ≡ suc (place name cs) = omega arith in
    elim (bytes_eq c.name name) as (λ b. cond b (Some c.bytes.items) (bytes_of name (pairs cs))
    ≡ option_map (λ p. p.1) (slice_get (pairs (c ∷ cs)) (cond (not b) (1 + place name cs) 0)))
    [ true ↦ refl | false ↦ rw e (bytes_of-place name cs) ]

bytes_by : (ps : List (List ℕ × List ℕ)) (k n : ℕ) (b : Bool) → length ps ≡ n → nat_lt k n ≡ b
    → bytes_at (cond b (Some k) None) ps ≡ option_map (λ p. p.1) (slice_get ps k)
bytes_by ps k n true l e = refl
bytes_by ps k n false l e =
    let past : length ps ≤ k = grind (arith, nat_tests) in
    sym (ap (λ o. option_map (λ p. p.1) o) (slice_get_past ps k past))

pub bytes_at-place_of : (name : List ℕ) (cs : List Content) → bytes_at (place_of name cs) (pairs cs) ≡ bytes_of name (pairs cs)
bytes_at-place_of name cs = bytes_by (pairs cs) (place name cs) (length cs) (nat_lt (place name cs) (length cs)) (length-map cs _) refl
    ∙ sym (bytes_of-place name cs)

none_by : (ps : List (List ℕ × List ℕ)) (k n : ℕ) (b : Bool) → length ps ≡ n → nat_lt k n ≡ b
    → is_none (cond b (Some k) None) ≡ is_none (option_map (λ p. p.1) (slice_get ps k))
none_by ps k n true l e =
    let within : k < length ps = grind (arith, nat_tests) in
    sym (ap (λ o. is_none (option_map (λ p. p.1) o)) (slice_get-get_or ps k ([], []) within))
none_by ps k n false l e =
    let past : length ps ≤ k = grind (arith, nat_tests) in
    sym (ap (λ o. is_none (option_map (λ p. p.1) o)) (slice_get_past ps k past))

pub is_none-place_of : (name : List ℕ) (cs : List Content) → is_none (place_of name cs) ≡ is_none (bytes_of name (pairs cs))
is_none-place_of name cs = none_by (pairs cs) (place name cs) (length cs) (nat_lt (place name cs) (length cs)) (length-map cs _) refl
    ∙ sym (ap is_none (bytes_of-place name cs))

grown-place : (name more : List ℕ) (cs : List Content) (c d : Content) → slice_get cs (place name cs) ≡ Some c → d.name ≡ c.name
    → d.bytes.items ≡ c.bytes.items ++ more → grown name more (pairs cs) ≡ pairs (set cs (place name cs) d)
grown-place name more [] c d e n b = cc
grown-place name more (x ∷ xs) c d e n b =
    let u : 1 + place name xs ≡ suc (place name xs) = omega arith in
    elim (bytes_eq x.name name) as (λ v. slice_get (x ∷ xs) (cond (not v) (1 + place name xs) 0) ≡ Some c
    → cond v ((x.name, x.bytes.items ++ more) ∷ pairs xs) ((x.name, x.bytes.items) ∷ grown name more (pairs xs))
    ≡ pairs (set (x ∷ xs) (cond (not v) (1 + place name xs) 0) d)) [
      | true ↦ λ h.
          let same : x ≡ c = cc in
          let named : x.name ≡ c.name = ap (λ (y : Content). y.name) same in
          let holds : x.bytes.items ≡ c.bytes.items = ap (λ (y : Content). y.bytes.items) same in
          cc
      | false ↦ λ h. rw u (ap (λ t. (x.name, x.bytes.items) ∷ t) (grown-place name more xs c d (rw u at h) n b))
    ] e

moved-place : (from to : List ℕ) (cs : List Content) (c d : Content) → slice_get cs (place from cs) ≡ Some c → d.name ≡ to
    → d.bytes.items ≡ c.bytes.items → moved from to (pairs cs) ≡ pairs (set cs (place from cs) d)
moved-place from to [] c d e n b = cc
moved-place from to (x ∷ xs) c d e n b =
    let u : 1 + place from xs ≡ suc (place from xs) = omega arith in
    elim (bytes_eq x.name from) as (λ v. slice_get (x ∷ xs) (cond (not v) (1 + place from xs) 0) ≡ Some c
    → cond v ((to, x.bytes.items) ∷ pairs xs) ((x.name, x.bytes.items) ∷ moved from to (pairs xs))
    ≡ pairs (set (x ∷ xs) (cond (not v) (1 + place from xs) 0) d)) [
      | true ↦ λ h.
          let same : x ≡ c = cc in
          let holds : x.bytes.items ≡ c.bytes.items = ap (λ (y : Content). y.bytes.items) same in
          cc
      | false ↦ λ h. rw u (ap (λ t. (x.name, x.bytes.items) ∷ t) (moved-place from to xs c d (rw u at h) n b))
    ] e

some_by : (k i : ℕ) (b : Bool) → cond b (Some k) None ≡ Some i → k ≡ i
some_by k i true e = cc
some_by k i false e = cc

-- the content at the first place of a name grew
pub grown-at : (name more : List ℕ) (cs : List Content) (i : ℕ) (c d : Content) → place_of name cs ≡ Some i → i < length cs
    → c ≡ get_or cs i c → d.name ≡ c.name → d.bytes.items ≡ c.bytes.items ++ more → pairs (set cs i d) ≡ grown name more (pairs cs)
grown-at name more cs i c d p l at n b =
    let k : place name cs ≡ i = some_by _ i (nat_lt (place name cs) (length cs)) p in
    let there : slice_get cs (place name cs) ≡ Some c = rw k (slice_get-get_or cs i c l ∙ ap Some (sym at)) in
    sym (subst (λ (j : ℕ). grown name more (pairs cs) ≡ pairs (set cs j d)) k (grown-place name more cs c d there n b))

-- the content at the first place of a name changed its name
pub moved-at : (from to : List ℕ) (cs : List Content) (i : ℕ) (c d : Content) → place_of from cs ≡ Some i → i < length cs
    → c ≡ get_or cs i c → d.name ≡ to → d.bytes.items ≡ c.bytes.items → pairs (set cs i d) ≡ moved from to (pairs cs)
moved-at from to cs i c d p l at n b =
    let k : place from cs ≡ i = some_by _ i (nat_lt (place from cs) (length cs)) p in
    let there : slice_get cs (place from cs) ≡ Some c = rw k (slice_get-get_or cs i c l ∙ ap Some (sym at)) in
    sym (subst (λ (j : ℕ). moved from to (pairs cs) ≡ pairs (set cs j d)) k (moved-place from to cs c d there n b))

-- a name that isn't there is added at the end
pub grown-absent : (name more : List ℕ) (ps : List (List ℕ × List ℕ)) → bytes_of name ps ≡ None → grown name more ps ≡ ps ++ (name, more) ∷ []
grown-absent name more [] e = refl
grown-absent name more (p ∷ ps) e =
    elim (bytes_eq p.0 name) as (λ v. cond v (Some p.1) (bytes_of name ps) ≡ None
    → cond v ((p.0, p.1 ++ more) ∷ ps) (p ∷ grown name more ps) ≡ p ∷ (ps ++ (name, more) ∷ []))
    [ true ↦ λ h. cc | false ↦ λ h. ap (λ t. p ∷ t) (grown-absent name more ps h) ] e

-- the bytes at a place don't change with a content that has the same
pub same-at : (cs : List Content) (i : ℕ) (c d : Content) → c ≡ get_or cs i c → d.name ≡ c.name → d.bytes.items ≡ c.bytes.items
    → pairs (set cs i d) ≡ pairs cs
same-at cs i c d at n b =
    let eq : (d.name, d.bytes.items) ≡ (c.name, c.bytes.items) = cc in
    map-set_same (λ (c : Content). (c.name, c.bytes.items)) cs i d c (eq ∙ ap (λ (y : Content). (y.name, y.bytes.items)) at)

kept_by : {A : Type 0} (o : Option (List ℕ)) (b : Bool) (x y : A) → is_none o ≡ false → cond (b && is_none o) x y ≡ y
kept_by (Some z) true x y e = refl
kept_by (Some z) false x y e = refl
kept_by None b x y e = cc

-- a new name that is there already is not taken
pub renamed-taken : (from to : List ℕ) (ps : List (List ℕ × List ℕ)) → is_none (bytes_of to ps) ≡ false → renamed from to ps ≡ ps
renamed-taken from to ps e = kept_by (bytes_of to ps) (is_some (bytes_of from ps)) (moved from to ps) ps e

absent_by : {A : Type 0} (o : Option (List ℕ)) (b : Bool) (x y : A) → o ≡ None → cond (is_some o && b) x y ≡ y
absent_by (Some z) b x y e = cc
absent_by None b x y e = refl

-- a name that isn't there isn't changed
pub renamed-absent : (from to : List ℕ) (ps : List (List ℕ × List ℕ)) → bytes_of from ps ≡ None → renamed from to ps ≡ ps
renamed-absent from to ps e = absent_by (bytes_of from ps) (is_none (bytes_of to ps)) (moved from to ps) ps e

free_by : {A : Type 0} (o p : Option (List ℕ)) (x y : A) → is_none o ≡ false → is_none p ≡ true → cond (is_some o && is_none p) x y ≡ x
free_by (Some z) None x y h e = refl
free_by (Some z) (Some w) x y h e = cc
free_by None p x y h e = cc

-- a name that is there is changed to one that isn't
pub renamed-free : (from to : List ℕ) (ps : List (List ℕ × List ℕ)) → is_none (bytes_of from ps) ≡ false → is_none (bytes_of to ps) ≡ true
    → renamed from to ps ≡ moved from to ps
renamed-free from to ps h e = free_by (bytes_of from ps) (bytes_of to ps) (moved from to ps) ps h e

second-moved : (from to : List ℕ) (ps : List (List ℕ × List ℕ)) → map (λ p. p.1) (moved from to ps) ≡ map (λ p. p.1) ps
second-moved from to [] = refl
second-moved from to (p ∷ ps) =
    elim (bytes_eq p.0 from) as (λ v. map (λ p. p.1) (cond v ((to, p.1) ∷ ps) (p ∷ moved from to ps)) ≡ p.1 ∷ map (λ p. p.1) ps)
    [ true ↦ refl | false ↦ ap (λ t. p.1 ∷ t) (second-moved from to ps) ]

second-renamed : (from to : List ℕ) (ps : List (List ℕ × List ℕ)) → map (λ p. p.1) (renamed from to ps) ≡ map (λ p. p.1) ps
second-renamed from to ps =
    elim (can_move from to ps) as (λ v. map (λ p. p.1) (cond v (moved from to ps) ps) ≡ map (λ p. p.1) ps)
    [ true ↦ second-moved from to ps | false ↦ refl ]

-- the bytes at a place are those of the list of bytes
bytes_at-seconds : (place : Option ℕ) (ps : List (List ℕ × List ℕ)) → bytes_at place ps ≡ option_and_then (λ i. slice_get (map (λ p. p.1) ps) i) place
bytes_at-seconds None ps = refl
bytes_at-seconds (Some i) ps = sym (slice_get-map (λ (p : List ℕ × List ℕ). p.1) ps i)

-- a change of name keeps the bytes at each place
pub bytes_at-renamed : (from to : List ℕ) (ps : List (List ℕ × List ℕ)) (place : Option ℕ) → bytes_at place (renamed from to ps) ≡ bytes_at place ps
bytes_at-renamed from to ps place =
    bytes_at-seconds place (renamed from to ps)
    ∙ ap (λ (all : List (List ℕ)). option_and_then (λ i. slice_get all i) place) (second-renamed from to ps)
    ∙ sym (bytes_at-seconds place ps)

-- the bytes of the content at a place
pub bytes_at-within : (cs : List Content) (i : ℕ) (c : Content) → i < length cs → c ≡ get_or cs i c → bytes_at (Some i) (pairs cs) ≡ Some c.bytes.items
bytes_at-within cs i c l at =
    rw (slice_get-map {B = List ℕ × List ℕ} (λ (c : Content). (c.name, c.bytes.items)) cs i, slice_get-get_or cs i c l, ← at) refl

pub bytes_at-past : (cs : List Content) (i : ℕ) → length cs ≤ i → bytes_at (Some i) (pairs cs) ≡ None
bytes_at-past cs i l = rw (slice_get-map {B = List ℕ × List ℕ} (λ (c : Content). (c.name, c.bytes.items)) cs i, slice_get_past cs i l) refl
