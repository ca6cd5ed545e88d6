-- Bodies whose rows were all read, and what follows those: with the entries they are whole, or there is none.
use Rattle.std.proofs.Common.{◌≡◌, ℕ, ◌+◌, Bool, true, false, List, [], ◌++◌, length, map, Option, None, Some, refl, sym, ap, ◌∙◌, subst}
use Rattle.std.specs.List.{AllByRecursion}
use Rattle.std.proofs.lemmas.Bool.{eqb-true}
use Rattle.ga_summary.specs.SummaryParts.{value_of}
use Rattle.ga_summary.specs.SummaryRows.{SummaryRow, SummaryValue}
use Rattle.ga_codec.specs.declared.fault.CodecFault.TheVariants.{NotInGrammar}
use Rattle.ga_codec.specs.declared.snapshot_reading.Body.{Body}
use Rattle.ga_codec.specs.Pieces.{HeadValue, BodyFront, HasNone, front_bytes, bytes_read, has_all, is_full}
use Rattle.ga_codec.specs.Shapes.{FitsRow, SpellDelta, SpellSnapshot}
use Rattle.ga_codec.specs.Steps.Grammar.{delta, entry, snapshot}
use Rattle.ga_codec.specs.Steps.Parts.{Part, Cursor, Takes, Refuses, listed}
use Rattle.ga_codec.specs.Steps.Pieces.{FitsHead, HeadAllows, IsFront}
use Rattle.ga_codec.specs.Steps.Shapes.{AreGood, shape_value}
use Rattle.ga_codec.specs.Values.{EntryValue, SnapshotValue, DeltaValue}
use Rattle.ga_codec.proofs.PartLaws.{IsMade}
use Rattle.ga_codec.proofs.Fronts.{all_entries, no_entries}
use Rattle.ga_codec.proofs.Heads.{body_inner, delta_from, delta_split, snapshot_from, snapshot_split}
use Rattle.ga_codec.proofs.Wholes.{start, is_delta, is_no_delta, is_no_snapshot, is_snapshot}

some_head : (o : Option HeadValue) (n : ℕ) → has_all o n ≡ true → (h : HeadValue) × (o ≡ Some h)
some_head None n e = absurd cc
some_head (Some h) n e = (h, refl)

-- a full reader, whose head is this
record IsFull (b : Bool) (h : HeadValue) (f : BodyFront) : Type 0 where
  fits : FitsHead b h
  rows : AllByRecursion FitsRow f.rows
  all : length f.rows ≡ h.count
  bytes : front_bytes f ≡ bytes_read b (Some h) f.rows

is_full_at : (b : Bool) (h : HeadValue) (f : BodyFront) → IsFront f → is_full f ≡ true → f.is_snapshot ≡ b → f.head ≡ Some h → IsFull b h f
is_full_at b h f front full kind e =
    let allows = subst (λ (x : Bool × Option HeadValue). HeadAllows x.0 x.1 f.rows) (λ i. (kind i, e i)) front.head in
    record {
      fits = allows.0;
      rows = front.rows;
      all = eqb-true (length f.rows) h.count (ap (λ (o : Option HeadValue). has_all o (length f.rows)) (sym e) ∙ full);
      bytes = λ i. bytes_read (kind i) (e i) f.rows;
    }

module _ {A : Type 0} (whole : Part A) (b : Bool) (made : HeadValue × (List SummaryRow × List EntryValue) → A) (m : IsMade whole (body_inner b) made)
    (f : BodyFront) (piece : List ℕ) where
  whole_taken : (h : HeadValue) (entries : List EntryValue) (new : Cursor) → IsFull b h f → Takes (listed entry) entries (start piece) new
      → Takes whole (made (h, (f.rows, entries))) (start (front_bytes f ++ piece))
      (record { place = length (bytes_read b (Some h) f.rows) + new.place; rest = new.rest })
  whole_taken h entries new i t =
      let end : Cursor = record { place = length (bytes_read b (Some h) f.rows) + new.place; rest = new.rest } in
      subst (λ (x : List ℕ). Takes whole (made (h, (f.rows, entries))) (start (x ++ piece)) end) (sym i.bytes)
      (all_entries whole b made m h f.rows i.fits i.rows piece i.all entries new t)

  none_whole : (at : ℕ) → IsFront f → is_full f ≡ true → f.is_snapshot ≡ b → Refuses (listed entry) (start piece) (NotInGrammar at)
      → (a : A) → whole.fits a → front_bytes f ++ piece ≡ whole.spell a → ⊥
  none_whole at front full kind r a fits e =
      let o = some_head f.head (length f.rows) full in
      let i = is_full_at b o.0 f front full kind o.1 in
      no_entries whole b made m o.0 f.rows i.fits i.rows piece i.all at r a fits (ap (λ (x : List ℕ). x ++ piece) (sym i.bytes) ∙ e)

module _ (f : BodyFront) (piece : List ℕ) (front : IsFront f) (full : is_full f ≡ true) where
  pub no_snapshot_entries : (at : ℕ) → f.is_snapshot ≡ true → Refuses (listed entry) (start piece) (NotInGrammar at)
      → HasNone true (front_bytes f ++ piece)
  no_snapshot_entries at kind r = λ s sp. none_whole snapshot true snapshot_from snapshot_split f piece at front full kind r s sp.fits sp.spelled

  pub no_delta_entries : (at : ℕ) → f.is_snapshot ≡ false → Refuses (listed entry) (start piece) (NotInGrammar at)
      → HasNone false (front_bytes f ++ piece)
  no_delta_entries at kind r = λ d sp. none_whole delta false delta_from delta_split f piece at front full kind r d sp.fits sp.spelled

  module _ (h : HeadValue) (body : Body) (new : Cursor) (e : f.head ≡ Some h)
      (same : value_of body.summary ≡ record { totals = h.totals; rows = f.rows })
      (t : Takes (listed entry) (map shape_value body.entries.items) (start piece) new) where
    snapshot_taken : f.is_snapshot ≡ true
        → Takes snapshot
        (record { generation = h.generation; keep = h.keep; summary = value_of body.summary; entries = map shape_value body.entries.items })
        (start (front_bytes f ++ piece)) (record { place = length (bytes_read true (Some h) f.rows) + new.place; rest = new.rest })
    snapshot_taken kind =
        let entries = map shape_value body.entries.items in
        let end : Cursor = record { place = length (bytes_read true (Some h) f.rows) + new.place; rest = new.rest } in
        let first = start (front_bytes f ++ piece) in
        subst (λ (s : SummaryValue). Takes snapshot (record { generation = h.generation; keep = h.keep; summary = s; entries = entries }) first end)
        (sym same) (whole_taken snapshot true snapshot_from snapshot_split f piece h entries new (is_full_at true h f front full kind e) t)

    delta_taken : f.is_snapshot ≡ false → Takes delta (record { summary = value_of body.summary; entries = map shape_value body.entries.items })
        (start (front_bytes f ++ piece)) (record { place = length (bytes_read false (Some h) f.rows) + new.place; rest = new.rest })
    delta_taken kind =
        let entries = map shape_value body.entries.items in
        let end : Cursor = record { place = length (bytes_read false (Some h) f.rows) + new.place; rest = new.rest } in
        subst (λ (s : SummaryValue). Takes delta (record { summary = s; entries = entries }) (start (front_bytes f ++ piece)) end)
        (sym same) (whole_taken delta false delta_from delta_split f piece h entries new (is_full_at false h f front full kind e) t)

    pub no_snapshot_of : f.is_snapshot ≡ true → (new.rest ≡ [] → AreGood body → ⊥) → HasNone true (front_bytes f ++ piece)
    no_snapshot_of kind bad =
        let none = is_no_snapshot (front_bytes f ++ piece) _ _ _ (snapshot_taken kind) refl
        (λ end sound good. bad end (record { summary = sound; entries = good })) in
        none.none

    pub no_delta_of : f.is_snapshot ≡ false → (new.rest ≡ [] → AreGood body → ⊥) → HasNone false (front_bytes f ++ piece)
    no_delta_of kind bad =
        let none = is_no_delta (front_bytes f ++ piece) _ _ _ (delta_taken kind) refl
        (λ end sound good. bad end (record { summary = sound; entries = good })) in
        none.none

    module _ (end : new.rest ≡ []) (good : AreGood body) (summary : SummaryValue) (entries : List EntryValue) (is : summary ≡ value_of body.summary)
        (are : entries ≡ map shape_value body.entries.items) where
      pub snapshot_of : f.is_snapshot ≡ true
          → SpellSnapshot (front_bytes f ++ piece) (record { generation = h.generation; keep = h.keep; summary = summary; entries = entries })
      snapshot_of kind =
          let family = λ (v : SnapshotValue). SpellSnapshot (front_bytes f ++ piece) v in
          subst family (λ i. record { generation = h.generation; keep = h.keep; summary = sym is i; entries = sym are i })
          (is_snapshot (front_bytes f ++ piece) _ _ (snapshot_taken kind) end good.summary good.entries)

      pub delta_of : f.is_snapshot ≡ false → SpellDelta (front_bytes f ++ piece) (record { summary = summary; entries = entries })
      delta_of kind =
          let family = λ (v : DeltaValue). SpellDelta (front_bytes f ++ piece) v in
          subst family (λ i. record { summary = sym is i; entries = sym are i })
          (is_delta (front_bytes f ++ piece) _ _ (delta_taken kind) end good.summary good.entries)
