-- Heads of bodies, and bodies as a head, rows and entries.
use Rattle.std.proofs.Common.{◌≡◌, ℕ, ◌^◌, ◌<◌, Bool, true, false, List, ◌++◌, length, None, refl, sym, ap, ◌∙◌, subst, append_assoc}
use Rattle.std.specs.List.{flat_map}
use Rattle.std.specs.Int.{w64}
use Rattle.ga_base.specs.declared.counts.Totals.{Totals}
use Rattle.ga_summary.specs.SummaryRows.{SummaryRow}
use Rattle.ga_codec.specs.declared.snapshot_start.Start.{Start}
use Rattle.ga_codec.specs.Pieces.{HeadValue, start_bytes}
use Rattle.ga_codec.specs.Shapes.{FitsSummary}
use Rattle.ga_codec.specs.Spelling.{eight_bytes, entry_bytes, list_bytes, row_bytes, snapshot_head, totals_bytes, version_bytes}
use Rattle.ga_codec.specs.Steps.Grammar.{delta, entry, number, row, snapshot, totals}
use Rattle.ga_codec.specs.Steps.Parts.{Part, followed_by, listed, times}
use Rattle.ga_codec.specs.Steps.Pieces.{FitsHead, head, start}
use Rattle.ga_codec.specs.Values.{EntryValue, SnapshotValue, DeltaValue}
use Rattle.ga_codec.proofs.PartLaws.{IsPart, IsMade, made_is_part}
use Rattle.ga_codec.proofs.Fields.{beside, beside_is_part, n64_is_part, totals_is_part}
use Rattle.ga_codec.proofs.Starts.{start_is_part}

-- ---- heads

abbrev pub head_2 : Part (Totals × ℕ)
head_2 = beside totals (number w64)

abbrev pub head_inner : Bool → Part (Start × (Totals × ℕ))
head_inner b = beside (start b) head_2

pub is_head_2 : IsPart head_2
is_head_2 = beside_is_part totals (number w64) totals_is_part n64_is_part

abbrev pub head_from : Start × (Totals × ℕ) → HeadValue
head_from v = record { generation = v.0.generation; keep = v.0.keep; totals = v.1.0; count = v.1.1 }

pub head_made : (b : Bool) → IsMade (head b) (head_inner b) head_from
unfolding followed_by
head_made b = record {
  completes = λ v f. (
    record { start = f.0; totals = f.1.0; count = f.1.1 },
    append_assoc (start_bytes b v.0.generation v.0.keep) (totals_bytes v.1.0) (eight_bytes v.1.1),
  );
  comes = λ h f. ((record { generation = h.generation; keep = h.keep }, (h.totals, h.count)), (f.start, (f.totals, f.count)), refl);
}

pub head_is_part : (b : Bool) → IsPart (head b)
head_is_part b = made_is_part (head b) (head_inner b) head_from (head_made b) (beside_is_part (start b) head_2 (start_is_part b) is_head_2)

-- ---- bodies

abbrev pub rows_and_entries : ℕ → Part (List SummaryRow × List EntryValue)
rows_and_entries n = beside (times n row) (listed entry)

abbrev pub body_inner : Bool → Part (HeadValue × (List SummaryRow × List EntryValue))
body_inner b = followed_by (head b) (λ h. rows_and_entries h.count)

abbrev pub snapshot_from : HeadValue × (List SummaryRow × List EntryValue) → SnapshotValue
snapshot_from v = record { generation = v.0.generation; keep = v.0.keep; summary = record { totals = v.0.totals; rows = v.1.0 }; entries = v.1.1 }

abbrev pub delta_from : HeadValue × (List SummaryRow × List EntryValue) → DeltaValue
delta_from v = record { summary = record { totals = v.0.totals; rows = v.1.0 }; entries = v.1.1 }

summary_fits : (b : Bool) (h : HeadValue) (rows : List SummaryRow) → FitsHead b h → (times h.count row).fits rows
    → FitsSummary (record { totals = h.totals; rows = rows })
unfolding times
summary_fits b h rows fh fr = record {
  totals = fh.totals;
  rows = record { number = subst (λ (n : ℕ). n < 2 ^ 64) (sym fr.0) fh.count; each = fr.1 };
}

regroup : (first totals count rows entries : List ℕ)
    → first ++ (totals ++ (count ++ rows)) ++ entries ≡ (first ++ totals ++ count) ++ (rows ++ entries)
regroup first totals count rows entries = simp append_assoc

body_bytes : (first totals : List ℕ) (n : ℕ) (rows : List SummaryRow) (entries : List EntryValue) → length rows ≡ n
    → first ++ (totals ++ list_bytes row_bytes rows) ++ list_bytes entry_bytes entries
    ≡ (first ++ totals ++ eight_bytes n) ++ (flat_map row_bytes rows ++ list_bytes entry_bytes entries)
body_bytes first totals n rows entries e =
    let last = list_bytes entry_bytes entries in
    regroup first totals (eight_bytes (length rows)) (flat_map row_bytes rows) last
    ∙ ap (λ (k : ℕ). (first ++ totals ++ eight_bytes k) ++ (flat_map row_bytes rows ++ last)) e

pub snapshot_split : IsMade snapshot (body_inner true) snapshot_from
unfolding followed_by times
snapshot_split = record {
  completes = λ v f. (
    record { generation = f.0.start.0; keep = f.0.start.1; summary = summary_fits true v.0 v.1.0 f.0 f.1.0; entries = f.1.1 },
    body_bytes (snapshot_head v.0.generation v.0.keep) (totals_bytes v.0.totals) v.0.count v.1.0 v.1.1 f.1.0.0,
  );
  comes = λ s f. (
    (
      record { generation = s.generation; keep = s.keep; totals = s.summary.totals; count = length s.summary.rows },
      (s.summary.rows, s.entries),
    ),
    (
      record { start = (f.generation, f.keep); totals = f.summary.totals; count = f.summary.rows.number },
      ((refl, f.summary.rows.each), f.entries),
    ),
    refl,
  );
}

pub delta_split : IsMade delta (body_inner false) delta_from
unfolding followed_by times
delta_split = record {
  completes = λ v f. (
    record { summary = summary_fits false v.0 v.1.0 f.0 f.1.0; entries = f.1.1 },
    body_bytes version_bytes (totals_bytes v.0.totals) v.0.count v.1.0 v.1.1 f.1.0.0,
  );
  comes = λ d f. (
    (record { generation = 0; keep = None; totals = d.summary.totals; count = length d.summary.rows }, (d.summary.rows, d.entries)),
    (
      record { start = (refl, refl); totals = f.summary.totals; count = f.summary.rows.number },
      ((refl, f.summary.rows.each), f.entries),
    ),
    refl,
  );
}
