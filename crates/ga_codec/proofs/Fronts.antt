-- Fronts of bodies: what completes a head and some rows, and where nothing does.
use Rattle.std.proofs.Common.{◌≡◌, ℕ, ◌+◌, ◌-◌, ◌≤◌, ◌<◌, Bool, true, false, List, [], ◌∷◌, ◌++◌, length, take, drop, Some}
use Rattle.std.proofs.Common.{refl, sym, ap, ◌∙◌, subst, inl, inr, append_assoc, arith}
use Rattle.std.specs.List.{flat_map, AllByRecursion}
use Rattle.std.proofs.lemmas.Bool.{cases_lt}
use Rattle.std.proofs.lemmas.Grind.{flat_map-append}
use Rattle.std.proofs.lemmas.List.{append_cancel_left, append-nil, take_all, take-append-drop, length-append, length-take, length-drop}
use Rattle.ga_summary.specs.SummaryRows.{SummaryRow}
use Rattle.ga_codec.specs.declared.fault.CodecFault.TheVariants.{NotInGrammar}
use Rattle.ga_codec.specs.Pieces.{HeadValue, BeginsNone, bytes_read, head_bytes}
use Rattle.ga_codec.specs.Shapes.{FitsRow}
use Rattle.ga_codec.specs.Spelling.{row_bytes}
use Rattle.ga_codec.specs.Steps.Grammar.{delta, entry, row, snapshot}
use Rattle.ga_codec.specs.Steps.Parts.{Part, Cursor, Takes, Refuses, followed_by, listed, times}
use Rattle.ga_codec.specs.Steps.Pieces.{FitsHead, NeverNext, head}
use Rattle.ga_codec.specs.Values.{EntryValue}
use Rattle.ga_codec.proofs.PartLaws.{IsMade, front_of}
use Rattle.ga_codec.proofs.Going.{At, begins, goes_on, opens, remade, ends, fails}
use Rattle.ga_codec.proofs.Numbers.{times_is_part}
use Rattle.ga_codec.proofs.Fields.{beside, row_is_part}
use Rattle.ga_codec.proofs.Heads.{body_inner, delta_from, delta_split, head_is_part, rows_and_entries, snapshot_from, snapshot_split}
use Rattle.ga_codec.proofs.Wholes.{start}

-- ---- some of so many

module _ {A : Type 0} (P : A → Type 0) where
  pub all_append : (xs ys : List A) → AllByRecursion P xs → AllByRecursion P ys → AllByRecursion P (xs ++ ys)
  all_append [] ys f g = g
  all_append (x ∷ xs) ys f g = (f.0, all_append xs ys f.1 g)

  all_split : (xs ys : List A) → AllByRecursion P (xs ++ ys) → AllByRecursion P xs × AllByRecursion P ys
  all_split [] ys h = (tt, h)
  all_split (x ∷ xs) ys h = let s = all_split xs ys h.1 in ((h.0, s.0), s.1)

-- so many items are the first few, and the others
times_split : {A B : Type 0} (part : Part A) (other : Part B) (n k : ℕ) → k ≤ n
    → IsMade (beside (times n part) other) (followed_by (times k part) (λ _. beside (times (n - k) part) other)) (λ v. (v.0 ++ v.1.0, v.1.1))
unfolding followed_by times
times_split {A = A} part other n k le = record {
  completes = λ v f. (
    ((omega (arith, length-append v.0 v.1.0, f.0.0, f.1.0.0), all_append part.fits v.0 v.1.0 f.0.1 f.1.0.1), f.1.1),
    ap (λ (x : List ℕ). x ++ other.spell v.1.1) (flat_map-append part.spell v.0 v.1.0)
        ∙ append_assoc (flat_map part.spell v.0) (flat_map part.spell v.1.0) (other.spell v.1.1),
  );
  comes = λ v f.
      let e : take k v.0 ++ drop k v.0 ≡ v.0 = take-append-drop k v.0 in
      let all = all_split part.fits (take k v.0) (drop k v.0) (subst (λ (xs : List A). AllByRecursion part.fits xs) (sym e) f.0.1) in (
        (take k v.0, (drop k v.0, v.1)),
        ((omega (arith, length-take k v.0, f.0.0), all.0), ((omega (arith, length-drop k v.0, f.0.0), all.1), f.1)),
        ap (λ (xs : List A). (xs, v.1)) (sym e),
      );
}

none_left : {A B : Type 0} (part : Part A) (other : Part B) (n : ℕ) → n ≡ 0 → IsMade (beside (times n part) other) other (λ v. ([], v))
unfolding followed_by times
none_left {A = A} part other n z = record {
  completes = λ v f. (((sym z, tt), f), refl);
  comes = λ v f. (v.1, f.1, ap (λ (xs : List A). (xs, v.1)) (no_items v.0 (f.0.0 ∙ z)));
}
  where
    no_items : (xs : List A) → length xs ≡ 0 → xs ≡ []
    no_items [] e = refl
    no_items (x ∷ xs) e = absurd (omega arith)

rows_taken : (rows : List SummaryRow) (old new : Cursor) → AllByRecursion FitsRow rows → old.rest ≡ flat_map row_bytes rows ++ new.rest
    → new.place ≡ old.place + length (flat_map row_bytes rows) → Takes (times (length rows) row) rows old new
unfolding times
rows_taken rows old new f e p = record { fits = (refl, f); bytes = e; place = p }

-- ---- where nothing comes next

none_next : {A B C : Type 0} {whole : Part A} (first : Part B) (next : B → Part C) {made : B × C → A} {old cur : Cursor}
    → At whole (followed_by first next) made old cur → ((b : B) (rest : List ℕ) → first.fits b → cur.rest ≡ first.spell b ++ rest → ⊥)
    → (a : A) → whole.fits a → old.rest ≡ whole.spell a → ⊥
unfolding followed_by
none_next {whole = whole} first next {old = old} {cur = cur} at none a f e =
    let u = at.only a [] cur.rest f (append-nil (whole.spell a) ∙ sym e ∙ at.bytes) in
    let rest = (next u.0.0).spell u.0.1 in
    let e2 : at.front ++ cur.rest ≡ at.front ++ (first.spell u.0.0 ++ rest) =
    sym at.bytes ∙ e ∙ ap whole.spell u.2 ∙ (at.completes u.0 u.1).1 in
    none u.0.0 rest u.1.0 (append_cancel_left at.front _ _ e2)

-- where a part stops before the end, it stops whatever follows; where the bytes are the last, it stops as well
pub never_next : {A : Type 0} (part : Part A) (cur : Cursor) (at : ℕ) (is_last : Bool) → Refuses part cur (NotInGrammar at)
    → (is_last ≡ false → at ≡ cur.place + length cur.rest → ⊥) → NeverNext part is_last cur.rest
never_next part cur at true r ne = λ more last a rest f e.
    r.stops.none a rest f (sym (append-nil cur.rest) ∙ ap (λ (x : List ℕ). cur.rest ++ x) (sym (last refl)) ∙ e)
never_next part cur at false r ne = λ more last a rest f e. elim (cases_lt (length cur.rest) (length (part.spell a))) [
  | inr short ↦
      let front = front_of (part.spell a) cur.rest rest more (sym e) short in
      r.stops.none a (drop (length (part.spell a)) cur.rest) f front
  | inl long ↦
      let front = front_of cur.rest (part.spell a) more rest e (omega arith) in
      let missing = drop (length cur.rest) (part.spell a) in
      let all : take (length cur.rest) cur.rest ≡ cur.rest = take_all (length cur.rest) cur.rest (omega arith) in
      let begun : take (length cur.rest) cur.rest ++ missing ≡ part.spell a = ap (λ (x : List ℕ). x ++ missing) all ∙ sym front in
      let h = r.stops.longest.longest (length cur.rest) (omega arith) (missing, (a, f, begun)) in
      ne refl (omega (arith, h, r.place, r.stops.longest.within))
]

one_never : (is_last : Bool) (bytes more : List ℕ) → NeverNext row is_last bytes → (is_last ≡ true → more ≡ [])
    → (rows : List SummaryRow) (rest : List ℕ) → (times 1 row).fits rows → bytes ++ more ≡ (times 1 row).spell rows ++ rest → ⊥
unfolding times
one_never is_last bytes more never last [] rest f e = omega (arith, f.0)
one_never is_last bytes more never last (r ∷ rows) rest f e =
    never more last r (flat_map row_bytes rows ++ rest) f.1.0 (e ∙ append_assoc (row_bytes r) (flat_map row_bytes rows) rest)

-- ---- what was read of a body

-- the place after a head and some rows
after : Bool → HeadValue → List SummaryRow → List ℕ → Cursor
after b h rows rest = record { place = length (bytes_read b (Some h) rows); rest = rest }

module _ {A : Type 0} (whole : Part A) (b : Bool) (made : HeadValue × (List SummaryRow × List EntryValue) → A)
    (m : IsMade whole (body_inner b) made) where
  no_head : (bytes more : List ℕ) (is_last : Bool) → NeverNext (head b) is_last bytes → (is_last ≡ true → more ≡ [])
      → (a : A) → whole.fits a → bytes ++ more ≡ whole.spell a → ⊥
  no_head bytes more is_last never last a f e =
      none_next (head b) (λ h. rows_and_entries h.count) (begins whole (body_inner b) made (start (bytes ++ more)) m)
      (λ h rest fh eh. never more last h rest fh eh) a f e

  module _ (h : HeadValue) (rows : List SummaryRow) (fh : FitsHead b h) (fr : AllByRecursion FitsRow rows) where
    at_rows : (rest : List ℕ) → length rows ≤ h.count
        → At whole (rows_and_entries (h.count - length rows)) (λ v. made (h, (rows ++ v.0, v.1)))
        (start (bytes_read b (Some h) rows ++ rest)) (after b h rows rest)
    unfolding after
    at_rows rest le =
        let front = head_bytes b h in
        let before = flat_map row_bytes rows in
        let first : Cursor = start ((front ++ before) ++ rest) in
        let second : Cursor = record { place = length front; rest = before ++ rest } in
        let others = rows_and_entries (h.count - length rows) in
        let a0 = begins whole (body_inner b) made first m in
        let t1 : Takes (head b) h first second = record { fits = fh; bytes = append_assoc front before rest; place = omega arith } in
        let a1 = goes_on (λ (g : HeadValue). rows_and_entries g.count) a0 (head_is_part b) t1 in
        let a2 = opens (followed_by (times (length rows) row) (λ _. others)) (λ v. (v.0 ++ v.1.0, v.1.1)) a1
        (times_split row (listed entry) h.count (length rows) le) in
        let t2 = rows_taken rows second (after b h rows rest) fr refl (length-append front before) in
        goes_on (λ _. others) a2 (times_is_part row row_is_part (length rows)) t2

    no_rows : (rest more : List ℕ) (is_last : Bool) → length rows < h.count → NeverNext row is_last rest → (is_last ≡ true → more ≡ [])
        → (a : A) → whole.fits a → bytes_read b (Some h) rows ++ rest ++ more ≡ whole.spell a → ⊥
    unfolding after
    no_rows rest more is_last lt never last a f e =
        let left = h.count - length rows in
        let others = rows_and_entries (left - 1) in
        let a2 = at_rows (rest ++ more) (omega arith) in
        let a3 = opens (followed_by (times 1 row) (λ _. others)) (λ v. (v.0 ++ v.1.0, v.1.1)) a2
        (times_split row (listed entry) left 1 (omega arith)) in
        none_next (times 1 row) (λ _. others) a3 (one_never is_last rest more never last) a f
        (sym (append_assoc (bytes_read b (Some h) rows) rest more) ∙ e)

    module _ (piece : List ℕ) (full : length rows ≡ h.count) where
      at_entries : At whole (listed entry) (λ es. made (h, (rows, es))) (start (bytes_read b (Some h) rows ++ piece)) (after b h rows piece)
      at_entries =
          let a2 = at_rows piece (omega (arith, full)) in
          let a3 = opens (listed entry) (λ es. ([], es)) a2 (none_left row (listed entry) (h.count - length rows) (omega (arith, full))) in
          remade (λ es. made (h, (rows, es))) a3 (λ es. ap (λ (xs : List SummaryRow). made (h, (xs, es))) (append-nil rows))

      pub no_entries : (at : ℕ) → Refuses (listed entry) (start piece) (NotInGrammar at)
          → (a : A) → whole.fits a → bytes_read b (Some h) rows ++ piece ≡ whole.spell a → ⊥
      unfolding after
      no_entries at r a f e =
          let here : Refuses (listed entry) (after b h rows piece) (NotInGrammar (length (bytes_read b (Some h) rows) + r.read)) =
          record { read = r.read; place = refl; stops = r.stops } in
          let all = fails (NotInGrammar (length (bytes_read b (Some h) rows) + r.read)) at_entries here in
          all.stops.none a [] f (e ∙ sym (append-nil (whole.spell a)))

      pub all_entries : (entries : List EntryValue) (new : Cursor) → Takes (listed entry) entries (start piece) new
          → Takes whole (made (h, (rows, entries))) (start (bytes_read b (Some h) rows ++ piece))
          (record { place = length (bytes_read b (Some h) rows) + new.place; rest = new.rest })
      unfolding after
      all_entries entries new t =
          let end : Cursor = record { place = length (bytes_read b (Some h) rows) + new.place; rest = new.rest } in
          let here : Takes (listed entry) entries (after b h rows piece) end =
          record { fits = t.fits; bytes = t.bytes; place = omega (arith, t.place) } in
          ends at_entries here

-- ---- bytes that begin no body

pub begins_none_rows : (b : Bool) (h : HeadValue) (rows : List SummaryRow) (rest bytes : List ℕ) (is_last : Bool) → FitsHead b h
    → AllByRecursion FitsRow rows → length rows < h.count → NeverNext row is_last rest → bytes ≡ bytes_read b (Some h) rows ++ rest
    → BeginsNone b is_last bytes
begins_none_rows true h rows rest bytes is_last fh fr lt never e = λ more last s sp.
    no_rows snapshot true snapshot_from snapshot_split h rows fh fr rest more is_last lt never last s sp.fits
    (ap (λ (x : List ℕ). x ++ more) (sym e) ∙ sp.spelled)
begins_none_rows false h rows rest bytes is_last fh fr lt never e = λ more last d sp.
    no_rows delta false delta_from delta_split h rows fh fr rest more is_last lt never last d sp.fits
    (ap (λ (x : List ℕ). x ++ more) (sym e) ∙ sp.spelled)

pub begins_none_head : (b : Bool) (bytes : List ℕ) (is_last : Bool) → NeverNext (head b) is_last bytes → BeginsNone b is_last bytes
begins_none_head true bytes is_last never = λ more last s sp.
    no_head snapshot true snapshot_from snapshot_split bytes more is_last never last s sp.fits sp.spelled
begins_none_head false bytes is_last never = λ more last d sp.
    no_head delta false delta_from delta_split bytes more is_last never last d sp.fits sp.spelled
