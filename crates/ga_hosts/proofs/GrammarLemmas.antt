-- The texts of our definition are those of the standard library's grammar, and the groups are the same.
use Rattle.std.proofs.Common.{◌≡◌, ℕ, ◌-◌, Bool, true, false, List, [], ◌∷◌, ◌++◌, length, replicate, refl, sym, ap, ◌∙◌, subst, ◌⊎◌, inl, inr, arith, append_assoc, append-nil}
use Rattle.std.specs.Net.Addr.{segments_of}
use Rattle.std.specs.Net.Grammar.{IsDotted, IsGroupsAfter, IsGroups, IsColonHex}
use Rattle.std.specs.Net.Grammar.{IsGroup as IsHexGroup}
use Rattle.ga_hosts.specs.Addresses.{IsDottedQuad, IsGroup, IsRow, IsWritten, IsShortened}

pub quad-dotted : (text : List ℕ) (a b c d : ℕ) → IsDottedQuad text a b c d → IsDotted text (a ∷ b ∷ c ∷ d ∷ [])
quad-dotted text a b c d h = record { a = a; b = b; c = c; d = d; fit = h.fit; value = refl; spelled = h.spelled }

pub dotted-quad : (text octets : List ℕ) (h : IsDotted text octets) → IsDottedQuad text h.a h.b h.c h.d
dotted-quad text octets h = record { spelled = h.spelled; fit = h.fit }

group-hex : (text : List ℕ) (group : ℕ) → IsGroup text group → IsHexGroup text group
group-hex text group h = ((h.digits, sym h.value), h.short)

hex-group : (text : List ℕ) (group : ℕ) → IsHexGroup text group → IsGroup text group
hex-group text group h = record { digits = h.0.0; short = h.1; value = sym h.0.1 }

-- a row after what stands before its first group
row-groups_after : (quad : Bool) (lead text : List ℕ) (group : ℕ) (groups : List ℕ) → IsRow quad text (group ∷ groups) → IsGroupsAfter quad lead (lead ++ text) (group ∷ groups)
row-groups_after quad lead text group [] h = inl (text, [], sym (append-nil (lead ++ text)), group-hex text group h, refl)
row-groups_after quad lead text group (next ∷ more) (inl h) =
    let (first, rest, split, is_group, row) = h in
    let shown : lead ++ text ≡ lead ++ first ++ (58 ∷ rest) = rw split (simp append_assoc) in
    inl (first, 58 ∷ rest, shown, group-hex first group is_group, row-groups_after quad (58 ∷ []) rest next more row)
row-groups_after quad lead text group (next ∷ more) (inr h) =
    let (allowed, none, pair) = h in
    let octets = pair.a ∷ pair.b ∷ pair.c ∷ pair.d ∷ [] in
    let value : group ∷ next ∷ more ≡ segments_of octets = rw (none, pair.high_is, pair.low_is) refl in
    inr (text, octets, allowed, refl, quad-dotted text _ _ _ _ pair.quad, value)

row-groups : (quad : Bool) (text groups : List ℕ) → IsRow quad text groups → IsGroups quad text groups
row-groups quad text [] h = h
row-groups quad text (group ∷ groups) h = row-groups_after quad [] text group groups h

-- groups after what stands before the first of them
groups_after-row : (quad : Bool) (lead text : List ℕ) (group : ℕ) (groups : List ℕ) → IsGroupsAfter quad lead text (group ∷ groups) → (own : List ℕ) × (text ≡ lead ++ own) × IsRow quad own (group ∷ groups)
groups_after-row quad lead text group [] (inl h) =
    let (own, rest, split, is_group, none) = h in
    (own, split ∙ ap (λ t. lead ++ own ++ t) none ∙ append-nil (lead ++ own), hex-group own group is_group)
groups_after-row quad lead text group [] (inr h) =
    let (own, octets, allowed, split, dotted, value) = h in
    absurd (omega (arith, ap length value, ap (λ o. length (segments_of o)) dotted.value))
groups_after-row quad lead text group (next ∷ more) (inl h) =
    let (first, rest, split, is_group, after) = h in
    let (own, split_rest, row) = groups_after-row quad (58 ∷ []) rest next more after in
    let shown : text ≡ lead ++ (first ++ (58 ∷ []) ++ own) = split ∙ ap (λ t. lead ++ first ++ t) split_rest ∙ simp append_assoc in
    (first ++ (58 ∷ []) ++ own, shown, inl (first, own, refl, hex-group first group is_group, row))
groups_after-row quad lead text group (next ∷ more) (inr h) =
    let (own, octets, allowed, split, dotted, value) = h in
    let same : group ∷ next ∷ more ≡ segments_of (dotted.a ∷ dotted.b ∷ dotted.c ∷ dotted.d ∷ []) = value ∙ ap segments_of dotted.value in
    (own, split, inr (allowed, cc, record { a = dotted.a; b = dotted.b; c = dotted.c; d = dotted.d; quad = dotted-quad own octets dotted; high_is = cc; low_is = cc }))

groups-row : (quad : Bool) (text groups : List ℕ) → IsGroups quad text groups → IsRow quad text groups
groups-row quad text [] h = h
groups-row quad text (group ∷ groups) h =
    let (own, split, row) = groups_after-row quad [] text group groups h in
    subst (λ t. IsRow quad t (group ∷ groups)) (sym split) row

written-colon_hex : (text groups : List ℕ) → IsWritten text groups → IsColonHex text groups
written-colon_hex text groups h = inl (row-groups true text groups h.row, h.eight)

shortened-colon_hex : (text groups : List ℕ) → IsShortened text groups → IsColonHex text groups
shortened-colon_hex text groups h =
    let missing : h.zeros ≡ 8 - length h.before - length h.after = omega (arith, h.eight) in
    inr record {
      head_text = h.left;
      tail_text = h.right;
      head = h.before;
      tail = h.after;
      spelled = h.spelled;
      head_groups = row-groups false h.left h.before h.is_before;
      tail_groups = row-groups true h.right h.after h.is_after;
      room = omega (arith, h.eight, h.some_zeros);
      value = h.groups_are ∙ ap (λ n. h.before ++ replicate n 0 ++ h.after) missing;
    }

pub form-colon_hex : (text groups : List ℕ) → IsWritten text groups ⊎ IsShortened text groups → IsColonHex text groups
form-colon_hex text groups (inl h) = written-colon_hex text groups h
form-colon_hex text groups (inr h) = shortened-colon_hex text groups h

pub colon_hex-form : (text groups : List ℕ) → IsColonHex text groups → IsWritten text groups ⊎ IsShortened text groups
colon_hex-form text groups (inl h) = inl record { row = groups-row true text groups h.0; eight = h.1 }
colon_hex-form text groups (inr h) =
    inr record {
      left = h.head_text;
      right = h.tail_text;
      before = h.head;
      zeros = 8 - length h.head - length h.tail;
      after = h.tail;
      spelled = h.spelled;
      is_before = groups-row false h.head_text h.head h.head_groups;
      is_after = groups-row true h.tail_text h.tail h.tail_groups;
      some_zeros = omega (arith, h.room);
      eight = omega (arith, h.room);
      groups_are = h.value;
    }
