-- Each kind of part as what it is made of.
use Rattle.std.proofs.Common.{◌≡◌, ℕ, ◌^◌, ◌<◌, List, ◌++◌, length, get_or, refl, sym, ap, subst, append_assoc, arith, rules}
use Rattle.std.specs.Int.{w16, w32, w64, to_be_bytes}
use Rattle.ga_base.specs.declared.counts.Sums.{Sums}
use Rattle.ga_base.specs.declared.counts.Totals.{Totals}
use Rattle.ga_base.specs.declared.key.Key.{Key}
use Rattle.ga_base.specs.declared.name.Name.{Name}
use Rattle.ga_base.specs.declared.panel.Panel.{Panel}
use Rattle.ga_base.specs.declared.panel.Panel.TheVariants.{Visitors}
use Rattle.ga_base.specs.Panels.{panel_number}
use Rattle.ga_summary.specs.SummaryRows.{SummaryRow, SummaryValue}
use Rattle.ga_codec.specs.declared.snapshot_start.Start.{Start}
use Rattle.ga_codec.specs.Values.{EntryValue, SnapshotValue, DeltaValue}
use Rattle.ga_codec.specs.Spelling.{two_bytes, four_bytes, eight_bytes, text_bytes, list_bytes, panel_bytes, key_bytes, sums_bytes, name_bytes, summary_bytes, entry_bytes, version_bytes, snapshot_head}
use Rattle.ga_codec.specs.Steps.Parts.{Part, followed_by, listed}
use Rattle.ga_codec.specs.Steps.Grammar.{any_bytes, number, utf8, text, version, snapshot_start, totals, panel, key, sums, name, row, summary, entry, snapshot, delta}
use Rattle.ga_codec.proofs.PartLaws.{IsPart, IsMade, made_is_part, followed_is_part}
use Rattle.ga_codec.proofs.Numbers.{wide16, wide32, wide64, number_is_part, any_is_part, listed_is_part}
use Rattle.ga_codec.proofs.Texts.{utf8_is_part}
use Rattle.ga_codec.proofs.Starts.{version_is_part, snapshot_start_is_part}

-- one part after another, whatever the first says
abbrev pub beside : {A B : Type 0} → Part A → Part B → Part (A × B)
beside first second = followed_by first (λ _. second)

pub beside_is_part : {A B : Type 0} (first : Part A) (second : Part B) → IsPart first → IsPart second → IsPart (beside first second)
beside_is_part first second p q = followed_is_part first (λ _. second) p (λ _ _. q)

pub n64_is_part : IsPart (number w64)
n64_is_part = number_is_part w64 wide64

-- ---- texts

abbrev pub text_inner : Part (ℕ × List ℕ)
text_inner = followed_by (number w64) utf8

pub text_made : IsMade text text_inner (λ v. v.1)
unfolding followed_by
text_made = record {
  completes = λ v f. (record { utf8 = f.1.0; size = subst (λ (n : ℕ). n < 2 ^ 64) (sym f.1.1) f.0 }, ap (λ (n : ℕ). to_be_bytes w64 n ++ v.1) f.1.1);
  comes = λ t f. ((length t, t), (f.size, (f.utf8, refl)), refl);
}

pub text_is_part : IsPart text
text_is_part = made_is_part text text_inner (λ v. v.1) text_made (followed_is_part (number w64) utf8 n64_is_part (λ n _. utf8_is_part n))

-- ---- names

abbrev pub name_inner : Part (List ℕ × List ℕ)
name_inner = beside text text

abbrev pub name_of : List ℕ × List ℕ → Name
name_of v = record { host = v.0; agent = v.1 }

pub name_made : IsMade name name_inner name_of
unfolding followed_by
name_made = record {
  completes = λ v f. (record { host = f.0; agent = f.1 }, refl);
  comes = λ n f. ((n.host, n.agent), (f.host, f.agent), refl);
}

pub name_is_part : IsPart name
name_is_part = made_is_part name name_inner name_of name_made (beside_is_part text text text_is_part text_is_part)

-- ---- four and six numbers

abbrev pub numbers_2 : Part (ℕ × ℕ)
numbers_2 = beside (number w64) (number w64)

abbrev pub numbers_3 : Part (ℕ × (ℕ × ℕ))
numbers_3 = beside (number w64) numbers_2

abbrev pub numbers_4 : Part (ℕ × (ℕ × (ℕ × ℕ)))
numbers_4 = beside (number w64) numbers_3

abbrev pub numbers_5 : Part (ℕ × (ℕ × (ℕ × (ℕ × ℕ))))
numbers_5 = beside (number w64) numbers_4

abbrev pub numbers_6 : Part (ℕ × (ℕ × (ℕ × (ℕ × (ℕ × ℕ)))))
numbers_6 = beside (number w64) numbers_5

pub are_2 : IsPart numbers_2
are_2 = beside_is_part (number w64) (number w64) n64_is_part n64_is_part

pub are_3 : IsPart numbers_3
are_3 = beside_is_part (number w64) numbers_2 n64_is_part are_2

pub are_4 : IsPart numbers_4
are_4 = beside_is_part (number w64) numbers_3 n64_is_part are_3

pub are_5 : IsPart numbers_5
are_5 = beside_is_part (number w64) numbers_4 n64_is_part are_4

pub are_6 : IsPart numbers_6
are_6 = beside_is_part (number w64) numbers_5 n64_is_part are_5

abbrev pub sums_of : ℕ × (ℕ × (ℕ × ℕ)) → Sums
sums_of v = record { hits = v.0; bytes = v.1.0; micros = v.1.1.0; max_micros = v.1.1.1 }

pub sums_made : IsMade sums numbers_4 sums_of
unfolding followed_by
sums_made = record {
  completes = λ v f. (record { hits = f.0; bytes = f.1.0; micros = f.1.1.0; max_micros = f.1.1.1 }, refl);
  comes = λ s f. ((s.hits, (s.bytes, (s.micros, s.max_micros))), (f.hits, (f.bytes, (f.micros, f.max_micros))), refl);
}

pub sums_is_part : IsPart sums
sums_is_part = made_is_part sums numbers_4 sums_of sums_made are_4

abbrev pub totals_of : ℕ × (ℕ × (ℕ × (ℕ × (ℕ × ℕ)))) → Totals
totals_of v = record { lines = v.0; failed = v.1.0; excluded = v.1.1.0; hits = v.1.1.1.0; bytes = v.1.1.1.1.0; micros = v.1.1.1.1.1 }

pub totals_made : IsMade totals numbers_6 totals_of
unfolding followed_by
totals_made = record {
  completes = λ v f. (record { lines = f.0; failed = f.1.0; excluded = f.1.1.0; hits = f.1.1.1.0; bytes = f.1.1.1.1.0; micros = f.1.1.1.1.1 }, refl);
  comes = λ t f. (
    (t.lines, (t.failed, (t.excluded, (t.hits, (t.bytes, t.micros))))),
    (f.lines, (f.failed, (f.excluded, (f.hits, (f.bytes, f.micros))))),
    refl,
  );
}

pub totals_is_part : IsPart totals
totals_is_part = made_is_part totals numbers_6 totals_of totals_made are_6

-- ---- keys

regroup_6 : (a b c d e f : List ℕ) → a ++ b ++ c ++ d ++ e ++ f ≡ a ++ (b ++ (c ++ (d ++ (e ++ f))))
regroup_6 a b c d e f = simp append_assoc

pub panel_one : (a b : Panel) → panel_number a ≡ panel_number b → a ≡ b
panel_one a b e = search rules

pub panel_is_part : IsPart panel
panel_is_part = record {
  one = λ a b x y f g e. panel_one a b (omega (arith, ap (λ (t : List ℕ). get_or t 0 0) e));
  some = (Visitors, tt);
}

abbrev pub key_5 : Part (List ℕ × List ℕ)
key_5 = beside text text

abbrev pub key_4 : Part (List ℕ × (List ℕ × List ℕ))
key_4 = beside text key_5

abbrev pub key_3 : Part (List ℕ × (List ℕ × (List ℕ × List ℕ)))
key_3 = beside text key_4

abbrev pub key_2 : Part (ℕ × (List ℕ × (List ℕ × (List ℕ × List ℕ))))
key_2 = beside (number w32) key_3

abbrev pub key_inner : Part (Panel × (ℕ × (List ℕ × (List ℕ × (List ℕ × List ℕ)))))
key_inner = beside panel key_2

pub is_key_5 : IsPart key_5
is_key_5 = beside_is_part text text text_is_part text_is_part

pub is_key_4 : IsPart key_4
is_key_4 = beside_is_part text key_5 text_is_part is_key_5

pub is_key_3 : IsPart key_3
is_key_3 = beside_is_part text key_4 text_is_part is_key_4

pub n32_is_part : IsPart (number w32)
n32_is_part = number_is_part w32 wide32

pub is_key_2 : IsPart key_2
is_key_2 = beside_is_part (number w32) key_3 n32_is_part is_key_3

abbrev pub key_of : Panel × (ℕ × (List ℕ × (List ℕ × (List ℕ × List ℕ)))) → Key
key_of v = record { panel = v.0; date = v.1.0; parent = v.1.1.0; label = v.1.1.1.0; method = v.1.1.1.1.0; protocol = v.1.1.1.1.1 }

pub key_made : IsMade key key_inner key_of
unfolding followed_by
key_made = record {
  completes = λ v f. (
    record { date = f.1.0; parent = f.1.1.0; label = f.1.1.1.0; method = f.1.1.1.1.0; protocol = f.1.1.1.1.1 },
    regroup_6 (panel_bytes v.0) (four_bytes v.1.0) (text_bytes v.1.1.0) (text_bytes v.1.1.1.0) (text_bytes v.1.1.1.1.0) (text_bytes v.1.1.1.1.1),
  );
  comes = λ k f. (
    (k.panel, (k.date, (k.parent, (k.label, (k.method, k.protocol))))),
    (tt, (f.date, (f.parent, (f.label, (f.method, f.protocol))))),
    refl,
  );
}

pub key_is_part : IsPart key
key_is_part = made_is_part key key_inner key_of key_made (beside_is_part panel key_2 panel_is_part is_key_2)

-- ---- rows and summaries

abbrev pub row_2 : Part (Sums × List Name)
row_2 = beside sums (listed name)

abbrev pub row_inner : Part (Key × (Sums × List Name))
row_inner = beside key row_2

pub names_are_part : IsPart (listed name)
names_are_part = listed_is_part name name_is_part

pub is_row_2 : IsPart row_2
is_row_2 = beside_is_part sums (listed name) sums_is_part names_are_part

abbrev pub row_of : Key × (Sums × List Name) → SummaryRow
row_of v = record { key = v.0; sums = v.1.0; names = v.1.1 }

pub row_made : IsMade row row_inner row_of
unfolding followed_by
row_made = record {
  completes = λ v f. (record { key = f.0; sums = f.1.0; names = f.1.1 }, append_assoc (key_bytes v.0) (sums_bytes v.1.0) (list_bytes name_bytes v.1.1));
  comes = λ r f. ((r.key, (r.sums, r.names)), (f.key, (f.sums, f.names)), refl);
}

pub row_is_part : IsPart row
row_is_part = made_is_part row row_inner row_of row_made (beside_is_part key row_2 key_is_part is_row_2)

pub rows_are_part : IsPart (listed row)
rows_are_part = listed_is_part row row_is_part

abbrev pub summary_inner : Part (Totals × List SummaryRow)
summary_inner = beside totals (listed row)

abbrev pub summary_of : Totals × List SummaryRow → SummaryValue
summary_of v = record { totals = v.0; rows = v.1 }

pub summary_made : IsMade summary summary_inner summary_of
unfolding followed_by
summary_made = record {
  completes = λ v f. (record { totals = f.0; rows = f.1 }, refl);
  comes = λ s f. ((s.totals, s.rows), (f.totals, f.rows), refl);
}

pub summary_is_part : IsPart summary
summary_is_part = made_is_part summary summary_inner summary_of summary_made (beside_is_part totals (listed row) totals_is_part rows_are_part)

-- ---- entries

abbrev pub entry_2 : Part (List ℕ × ℕ)
entry_2 = beside (any_bytes 32) (number w64)

abbrev pub entry_inner : Part (ℕ × (List ℕ × ℕ))
entry_inner = beside (number w16) entry_2

pub n16_is_part : IsPart (number w16)
n16_is_part = number_is_part w16 wide16

pub is_entry_2 : IsPart entry_2
is_entry_2 = beside_is_part (any_bytes 32) (number w64) (any_is_part 32) n64_is_part

abbrev pub entry_of : ℕ × (List ℕ × ℕ) → EntryValue
entry_of v = record { lead = v.0; digest = v.1.0; offset = v.1.1 }

pub entry_made : IsMade entry entry_inner entry_of
unfolding followed_by
entry_made = record {
  completes = λ v f. (record { lead = f.0; digest = f.1.0.0; bytes = f.1.0.1; offset = f.1.1 }, append_assoc (two_bytes v.0) v.1.0 (eight_bytes v.1.1));
  comes = λ e f. ((e.lead, (e.digest, e.offset)), (f.lead, ((f.digest, f.bytes), f.offset)), refl);
}

pub entry_is_part : IsPart entry
entry_is_part = made_is_part entry entry_inner entry_of entry_made (beside_is_part (number w16) entry_2 n16_is_part is_entry_2)

pub entries_are_part : IsPart (listed entry)
entries_are_part = listed_is_part entry entry_is_part

-- ---- wholes

abbrev pub body : Part (SummaryValue × List EntryValue)
body = beside summary (listed entry)

pub body_is_part : IsPart body
body_is_part = beside_is_part summary (listed entry) summary_is_part entries_are_part

abbrev pub snapshot_inner : Part (Start × (SummaryValue × List EntryValue))
snapshot_inner = beside snapshot_start body

abbrev pub snapshot_of : Start × (SummaryValue × List EntryValue) → SnapshotValue
snapshot_of v = record { generation = v.0.generation; keep = v.0.keep; summary = v.1.0; entries = v.1.1 }

pub snapshot_made : IsMade snapshot snapshot_inner snapshot_of
unfolding followed_by
snapshot_made = record {
  completes = λ v f. (
    record { generation = f.0.0; keep = f.0.1; summary = f.1.0; entries = f.1.1 },
    append_assoc (snapshot_head v.0.generation v.0.keep) (summary_bytes v.1.0) (list_bytes entry_bytes v.1.1),
  );
  comes = λ s f. (
    (record { generation = s.generation; keep = s.keep }, (s.summary, s.entries)),
    ((f.generation, f.keep), (f.summary, f.entries)),
    refl,
  );
}

pub snapshot_is_part : IsPart snapshot
snapshot_is_part = made_is_part snapshot snapshot_inner snapshot_of snapshot_made (beside_is_part snapshot_start body snapshot_start_is_part body_is_part)

abbrev pub delta_inner : Part (Unit {0} × (SummaryValue × List EntryValue))
delta_inner = beside version body

abbrev pub delta_of : Unit {0} × (SummaryValue × List EntryValue) → DeltaValue
delta_of v = record { summary = v.1.0; entries = v.1.1 }

pub delta_made : IsMade delta delta_inner delta_of
unfolding followed_by
delta_made = record {
  completes = λ v f. (record { summary = f.1.0; entries = f.1.1 }, append_assoc version_bytes (summary_bytes v.1.0) (list_bytes entry_bytes v.1.1));
  comes = λ d f. ((tt, (d.summary, d.entries)), (tt, (f.summary, f.entries)), refl);
}

pub delta_is_part : IsPart delta
delta_is_part = made_is_part delta delta_inner delta_of delta_made (beside_is_part version body version_is_part body_is_part)
