-- The bytes of a side after a write or a cut, place by place.
use Rattle.std.proofs.Common.{◌≡◌, ℕ, ◌+◌, ◌-◌, ◌<◌, ◌≤◌, List, ◌++◌, length, get_or, take, drop, ◌∙◌, ap, arith, length-append, length-take}
use Rattle.std.proofs.lemmas.List.{get_or-take, get_or-drop, get_or_append_left, get_or-append_right}
use Rattle.ga_disk.specs.Disk.{written}

front-long : (at : ℕ) (piece bytes : List ℕ) → at ≤ length bytes → length (take at bytes ++ piece) ≡ at + length piece
front-long at piece bytes le = omega (arith, length-append {A = ℕ}, length-take {A = ℕ})

pub written-before : (at : ℕ) (piece bytes : List ℕ) (i : ℕ) → at ≤ length bytes → i < at → get_or (written at piece bytes) i 0 ≡ get_or bytes i 0
written-before at piece bytes i le before =
    let long = front-long at piece bytes le in
    let first : length (take at bytes) ≡ at = omega (arith, length-take at bytes) in
    let in_front : i < length (take at bytes ++ piece) = omega arith in
    let in_first : i < length (take at bytes) = omega arith in
    get_or_append_left (take at bytes ++ piece) (drop (at + length piece) bytes) 0 i in_front
    ∙ get_or_append_left (take at bytes) piece 0 i in_first
    ∙ get_or-take at bytes i 0 before

pub written-behind : (at : ℕ) (piece bytes : List ℕ) (i : ℕ) → at ≤ length bytes → at + length piece ≤ i
    → get_or (written at piece bytes) i 0 ≡ get_or bytes i 0
written-behind at piece bytes i le behind =
    let long = front-long at piece bytes le in
    let place : (at + length piece) + (i - (at + length piece)) ≡ i = omega arith in
    get_or-append_right (take at bytes ++ piece) (drop (at + length piece) bytes) (at + length piece) i 0 long behind
    ∙ get_or-drop (at + length piece) bytes (i - (at + length piece)) 0
    ∙ ap (λ (j : ℕ). get_or bytes j 0) place
