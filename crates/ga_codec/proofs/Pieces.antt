-- Bodies that are read piece by piece: what each step answers, and what a piece adds to what was read.
use Rattle.std.proofs.Common.{◌≡◌, ℕ, ◌+◌, ◌-◌, ◌≤◌, ◌<◌, ◌↔◌, Bool, true, false, IsTrue, List, [], ◌∷◌, ◌++◌, length, take}
use Rattle.std.proofs.Common.{Option, None, Some, MatchOption, IfSome, Result, Ok, Err, IfOk, refl, sym, ap, ◌∙◌, subst, append_assoc, arith}
use Rattle.std.specs.List.{flat_map, AllByRecursion}
use Rattle.std.proofs.lemmas.Grind.{flat_map-append}
use Rattle.std.proofs.lemmas.List.{append-nil, take_at, length-append}
use Rattle.ga_summary.specs.SummaryRows.{SummaryRow}
use Rattle.ga_codec.specs.declared.fault.CodecFault.{CodecFault}
use Rattle.ga_codec.specs.declared.fault.CodecFault.TheVariants.{NotInGrammar, NoMemory}
use Rattle.ga_codec.specs.Pieces.{HeadValue, BodyFront, BeginsNone, GoesOn, front_bytes, bytes_read, head_bytes}
use Rattle.ga_codec.specs.Shapes.{FitsRow}
use Rattle.ga_codec.specs.Spelling.{row_bytes}
use Rattle.ga_codec.specs.Steps.Grammar.{row}
use Rattle.ga_codec.specs.Steps.Parts.{Cursor, Takes, Refuses}
use Rattle.ga_codec.specs.Steps.Pieces.{FitsHead, HeadAllows, MoreRows, NeverNext, ReadsHead, ReadsRows, head}
use Rattle.ga_codec.proofs.PartLaws.{take_past}
use Rattle.ga_codec.proofs.Fronts.{all_append, begins_none_head, begins_none_rows, never_next}
use Rattle.ga_codec.proofs.Wholes.{start}

-- ---- what the steps answer

pub not_needed : (result is_last : Bool) (fault : CodecFault) (end : ℕ) → (IsTrue result ↔ (is_last ≡ false) × (fault ≡ NotInGrammar end))
    → result ≡ false → is_last ≡ false → fault ≡ NotInGrammar end → ⊥
not_needed result is_last fault end means off l e = let on : result ≡ true = means.1 (l, e) in cc

pub head_refused : (b is_last : Bool) (cur new : Cursor) (fault : CodecFault) → Refuses (head b) cur fault
    → (is_last ≡ false → fault ≡ NotInGrammar (cur.place + length cur.rest) → ⊥) → ReadsHead b is_last None cur new (Err fault)
head_refused b is_last cur new NoMemory r ne = tt
head_refused b is_last cur new (NotInGrammar at) r ne = (refl, never_next (head b) cur at is_last r (λ l e. ne l (ap NotInGrammar e)))

module _ (count : ℕ) (before after : List SummaryRow) (old cur : Cursor) (m : MoreRows count before after old cur) where
  pub rows_refused : (is_last : Bool) (fault : CodecFault) → length after < count → Refuses row cur fault
      → (is_last ≡ false → fault ≡ NotInGrammar (cur.place + length cur.rest) → ⊥) → ReadsRows count is_last before after old (Err fault)
  rows_refused is_last fault lt r ne = record {
    reached = cur;
    rows = m;
    ok = tt;
    refused = λ at e.
        let same : fault ≡ NotInGrammar at = cc in
        let refuses = subst (λ (x : CodecFault). Refuses row cur x) same r in
        (lt, never_next row cur at is_last refuses (λ l k. ne l (same ∙ ap NotInGrammar k)));
  }

  pub one_more_row : (new : Cursor) (r : SummaryRow) → length after < count → Takes row r cur new → MoreRows count before (after ++ r ∷ []) old new
  one_more_row new r lt t =
      let read = flat_map row_bytes m.more in
      let push : flat_map row_bytes (m.more ++ r ∷ []) ≡ read ++ row_bytes r =
      flat_map-append row_bytes m.more (r ∷ []) ∙ ap (λ (x : List ℕ). read ++ x) (append-nil (row_bytes r)) in
      record {
        more = m.more ++ r ∷ [];
        kept = ap (λ (xs : List SummaryRow). xs ++ r ∷ []) m.kept ∙ append_assoc before m.more (r ∷ []);
        fits = all_append FitsRow m.more (r ∷ []) m.fits (t.fits, tt);
        few = omega (arith, length-append after (r ∷ []));
        bytes = m.bytes ∙ ap (λ (x : List ℕ). read ++ x) t.bytes ∙ sym (append_assoc read (row_bytes r) new.rest)
            ∙ ap (λ (x : List ℕ). x ++ new.rest) (sym push);
        place = omega (arith, m.place, t.place, ap length push, length-append read (row_bytes r));
      }

  pub after_fits : AllByRecursion FitsRow before → AllByRecursion FitsRow after
  after_fits f = subst (λ (xs : List SummaryRow). AllByRecursion FitsRow xs) (sym m.kept) (all_append FitsRow before m.more f m.fits)

pub at_place : (r : Result ℕ CodecFault) (place : ℕ) (P : ℕ → Type 0) (Q : Type 0) → IfOk r (λ n. (n ≡ place) × Q) → P place → IfOk r P
at_place (Ok n) place P Q h p = subst P (sym h.0) p
at_place (Err fault) place P Q h p = tt

-- ---- what a piece adds

-- the head is known, and the cursor is after what was read
pub record Known (old : BodyFront) (h : HeadValue) (piece : List ℕ) (cur : Cursor) : Type 0 where
  pub fits : FitsHead old.is_snapshot h
  pub bytes : front_bytes old ++ piece ≡ bytes_read old.is_snapshot (Some h) old.rows ++ cur.rest
  pub size : length (front_bytes old) + cur.place ≡ length (bytes_read old.is_snapshot (Some h) old.rows)
  pub same : IfSome old.head (λ k. Some h ≡ Some k)

pub known : (b : Bool) (o : Option HeadValue) (rows : List SummaryRow) (h : HeadValue) (piece : List ℕ) (cur : Cursor) → HeadAllows b o rows
    → MatchOption o (Takes (head b) h (start piece) cur) (λ k. (h ≡ k) × (cur ≡ start piece))
    → Known (record { is_snapshot = b; head = o; rows = rows }) h piece cur
known b None rows h piece cur allows t =
    let none : flat_map row_bytes rows ≡ [] = ap (λ (xs : List SummaryRow). flat_map row_bytes xs) allows in
    let front : head_bytes b h ≡ bytes_read b (Some h) rows =
    sym (append-nil (head_bytes b h)) ∙ ap (λ (x : List ℕ). head_bytes b h ++ x) (sym none) in
    record {
      fits = t.fits;
      bytes = t.bytes ∙ ap (λ (x : List ℕ). x ++ cur.rest) front;
      size = omega (arith, t.place, ap length front);
      same = tt;
    }
known b (Some k) rows h piece cur allows t =
    let front = ap (λ (v : HeadValue). bytes_read b (Some v) rows) t.0 in
    record {
      fits = subst (λ (v : HeadValue). FitsHead b v) (sym t.0) allows.0;
      bytes = ap (λ (x : List ℕ). x ++ piece) (sym front) ∙ ap (λ (c : Cursor). bytes_read b (Some h) rows ++ c.rest) (sym t.1);
      size = omega (arith, ap length front, ap (λ (c : Cursor). c.place) t.1);
      same = ap (λ (v : HeadValue). Some v) t.0;
    }

pub head_never : (old : BodyFront) (piece : List ℕ) (is_last : Bool) (new : Cursor) (fault : CodecFault) (at : ℕ)
    → ReadsHead old.is_snapshot is_last old.head (start piece) new (Err fault) → fault ≡ NotInGrammar at
    → BeginsNone old.is_snapshot is_last (front_bytes old ++ piece)
head_never old piece is_last new NoMemory at r e = absurd cc
head_never old piece is_last new (NotInGrammar _) at r e =
    subst (λ (o : Option HeadValue). BeginsNone old.is_snapshot is_last (bytes_read old.is_snapshot o old.rows ++ piece)) (sym r.0)
    (begins_none_head old.is_snapshot piece is_last r.1)

regroup : (h o m r : List ℕ) → (h ++ o) ++ (m ++ r) ≡ (h ++ (o ++ m)) ++ r
regroup h o m r = simp append_assoc

taken : (done piece front rest : List ℕ) (n : ℕ) → done ++ piece ≡ front ++ rest → length front ≡ length done + n
    → (n ≤ length piece) × (front ≡ done ++ take n piece)
taken done piece front rest n e size =
    let k : length front - length done ≡ n = omega arith in
    let here : take (length front) (front ++ rest) ≡ front = take_at front rest (length front) refl in (
      omega (arith, ap length e, length-append done piece, length-append front rest),
      sym here ∙ ap (λ (x : List ℕ). take (length front) x) (sym e) ∙ take_past done piece (length front) (omega arith)
          ∙ ap (λ (m : ℕ). done ++ take m piece) k,
    )

module _ (old : BodyFront) (h : HeadValue) (after : List SummaryRow) (piece : List ℕ) (cur reached : Cursor) (k : Known old h piece cur)
    (m : MoreRows h.count old.rows after cur reached) where
  after_bytes : flat_map row_bytes after ≡ flat_map row_bytes old.rows ++ flat_map row_bytes m.more
  after_bytes = ap (λ (xs : List SummaryRow). flat_map row_bytes xs) m.kept ∙ flat_map-append row_bytes old.rows m.more

  bytes_reached : front_bytes old ++ piece ≡ bytes_read old.is_snapshot (Some h) after ++ reached.rest
  bytes_reached =
      let front = head_bytes old.is_snapshot h in
      let before = flat_map row_bytes old.rows in
      k.bytes ∙ ap (λ (x : List ℕ). (front ++ before) ++ x) m.bytes ∙ regroup front before (flat_map row_bytes m.more) reached.rest
      ∙ ap (λ (x : List ℕ). (front ++ x) ++ reached.rest) (sym after_bytes)

  pub piece_read : GoesOn reached.place piece old (record { is_snapshot = old.is_snapshot; head = Some h; rows = after })
  piece_read =
      let front = head_bytes old.is_snapshot h in
      let before = flat_map row_bytes old.rows in
      let size : length (bytes_read old.is_snapshot (Some h) after) ≡ length (front_bytes old) + reached.place = omega (
        arith,
        k.size,
        m.place,
        ap length after_bytes,
        length-append front (flat_map row_bytes after),
        length-append front before,
        length-append before (flat_map row_bytes m.more),
      ) in
      let t = taken (front_bytes old) piece (bytes_read old.is_snapshot (Some h) after) reached.rest reached.place bytes_reached size in
      record { within = t.0; kind = refl; head = k.same; bytes = t.1 }

  pub piece_refused : (is_last : Bool) → AllByRecursion FitsRow old.rows → length after < h.count → NeverNext row is_last reached.rest
      → BeginsNone old.is_snapshot is_last (front_bytes old ++ piece)
  piece_refused is_last fits lt never =
      let all = after_fits h.count old.rows after cur reached m fits in
      begins_none_rows old.is_snapshot h after reached.rest (front_bytes old ++ piece) is_last k.fits all lt never bytes_reached
