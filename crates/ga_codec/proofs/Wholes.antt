-- Snapshots and run records whole: what is read is one, and what is refused is none.
use Rattle.std.proofs.Common.{◌≡◌, ℕ, ◌-◌, List, [], ◌++◌, length, take, sym, ap, ◌∙◌, subst, inl, inr, append_assoc, arith}
use Rattle.std.specs.List.{AllByRecursion}
use Rattle.std.proofs.lemmas.Bool.{cases_lt}
use Rattle.std.proofs.lemmas.List.{append-nil, take_at, length-append, length-take, nil_from_length}
use Rattle.ga_summary.specs.Sound.{IsSummary}
use Rattle.ga_codec.specs.declared.fault.CodecFault.TheVariants.{NotInGrammar}
use Rattle.ga_codec.specs.Values.{SnapshotValue, DeltaValue}
use Rattle.ga_codec.specs.Spelling.{snapshot_bytes, delta_bytes}
use Rattle.ga_codec.specs.Shapes.{IsLongest, IsEntry, SpellSnapshot, SpellDelta, IsNoSnapshot, IsNoDelta}
use Rattle.ga_codec.specs.Steps.Parts.{Part, IsSpelled, Cursor, Takes, Refuses}
use Rattle.ga_codec.specs.Steps.Grammar.{snapshot, delta}
use Rattle.ga_codec.proofs.PartLaws.{IsPart, take_past}
use Rattle.ga_codec.proofs.Fields.{snapshot_is_part, delta_is_part}

-- a reader at the front of the bytes
abbrev pub start : List ℕ → Cursor
start bytes = record { place = 0; rest = bytes }

module _ {A : Type 0} (part : Part A) (p : IsPart part) (bytes : List ℕ) (a : A) (end : Cursor) (t : Takes part a (start bytes) end) where
  -- no bytes that begin one go past a whole one
  whole_longest : IsLongest (IsSpelled part) bytes end.place
  whole_longest = record {
    within = omega (arith, t.place, ap length t.bytes, length-append (part.spell a) end.rest);
    begins =
        let here : take end.place bytes ≡ part.spell a =
        ap (λ (x : List ℕ). take end.place x) t.bytes ∙ take_at (part.spell a) end.rest end.place (omega (arith, t.place)) in
        ([], (a, t.fits, append-nil (take end.place bytes) ∙ here));
    longest = λ n le b. elim (cases_lt end.place n) [
      | inr ge ↦ ge
      | inl lt ↦
          let size : length (part.spell a) ≡ end.place = omega (arith, t.place) in
          let past : take n bytes ≡ part.spell a ++ take (n - length (part.spell a)) end.rest =
          ap (λ (x : List ℕ). take n x) t.bytes ∙ take_past (part.spell a) end.rest n (omega (arith, size)) in
          let more = take (n - length (part.spell a)) end.rest in
          let e : part.spell b.1.0 ++ [] ≡ part.spell a ++ (more ++ b.0) =
          append-nil (part.spell b.1.0) ∙ sym b.1.2 ∙ ap (λ (x : List ℕ). x ++ b.0) past ∙ append_assoc (part.spell a) more b.0 in
          let same = p.one b.1.0 a [] (more ++ b.0) b.1.1 t.fits e in
          absurd (omega (
            arith,
            size,
            ap length e,
            ap (λ (v : A). length (part.spell v)) same,
            length-append (part.spell b.1.0) [],
            length-append (part.spell a) (more ++ b.0),
            length-append more b.0,
            length-take (n - length (part.spell a)) end.rest,
            ap length t.bytes,
            length-append (part.spell a) end.rest,
          ))
    ];
  }

  -- a value that the bytes spell is the one that was read, and nothing is left
  whole_same : (b : A) → part.fits b → bytes ≡ part.spell b → (b ≡ a) × (end.rest ≡ [])
  whole_same b f e =
      let e' : part.spell b ++ [] ≡ part.spell a ++ end.rest = append-nil (part.spell b) ∙ sym e ∙ t.bytes in
      let same = p.one b a [] end.rest f t.fits e' in
      (same, nil_from_length end.rest (omega (arith, ap length e', ap (λ (v : A). length (part.spell v)) same, length-append (part.spell b) [], length-append (part.spell a) end.rest)))

-- ---- snapshots

pub is_snapshot : (bytes : List ℕ) (s : SnapshotValue) (end : Cursor) → Takes snapshot s (start bytes) end → end.rest ≡ [] → IsSummary s.summary → AllByRecursion IsEntry s.entries → SpellSnapshot bytes s
is_snapshot bytes s end t none sound good = record {
  spelled = t.bytes ∙ ap (λ (x : List ℕ). snapshot_bytes s ++ x) none ∙ append-nil (snapshot_bytes s);
  fits = t.fits;
  summary = sound;
  entries = good;
}

pub is_no_snapshot : (bytes : List ℕ) (s : SnapshotValue) (end : Cursor) (at : ℕ) → Takes snapshot s (start bytes) end → at ≡ end.place
    → (end.rest ≡ [] → IsSummary s.summary → AllByRecursion IsEntry s.entries → ⊥) → IsNoSnapshot bytes at
is_no_snapshot bytes s end at t e bad = record {
  none = λ other h.
      let same = whole_same snapshot snapshot_is_part bytes s end t other h.fits h.spelled in
      bad same.1 (subst (λ (v : SnapshotValue). IsSummary v.summary) same.0 h.summary) (subst (λ (v : SnapshotValue). AllByRecursion IsEntry v.entries) same.0 h.entries);
  place = subst (λ (n : ℕ). IsLongest (IsSpelled snapshot) bytes n) (sym e) (whole_longest snapshot snapshot_is_part bytes s end t);
}

pub refused_snapshot : (bytes : List ℕ) (at : ℕ) → Refuses snapshot (start bytes) (NotInGrammar at) → IsNoSnapshot bytes at
refused_snapshot bytes at r =
    let e : r.read ≡ at = omega (arith, r.place) in
    record {
      none = λ s h. r.stops.none s [] h.fits (h.spelled ∙ sym (append-nil (snapshot_bytes s)));
      place = subst (λ (n : ℕ). IsLongest (IsSpelled snapshot) bytes n) e r.stops.longest;
    }

-- ---- run records

pub is_delta : (bytes : List ℕ) (d : DeltaValue) (end : Cursor) → Takes delta d (start bytes) end → end.rest ≡ [] → IsSummary d.summary → AllByRecursion IsEntry d.entries → SpellDelta bytes d
is_delta bytes d end t none sound good = record {
  spelled = t.bytes ∙ ap (λ (x : List ℕ). delta_bytes d ++ x) none ∙ append-nil (delta_bytes d);
  fits = t.fits;
  summary = sound;
  entries = good;
}

pub is_no_delta : (bytes : List ℕ) (d : DeltaValue) (end : Cursor) (at : ℕ) → Takes delta d (start bytes) end → at ≡ end.place
    → (end.rest ≡ [] → IsSummary d.summary → AllByRecursion IsEntry d.entries → ⊥) → IsNoDelta bytes at
is_no_delta bytes d end at t e bad = record {
  none = λ other h.
      let same = whole_same delta delta_is_part bytes d end t other h.fits h.spelled in
      bad same.1 (subst (λ (v : DeltaValue). IsSummary v.summary) same.0 h.summary) (subst (λ (v : DeltaValue). AllByRecursion IsEntry v.entries) same.0 h.entries);
  place = subst (λ (n : ℕ). IsLongest (IsSpelled delta) bytes n) (sym e) (whole_longest delta delta_is_part bytes d end t);
}

pub refused_delta : (bytes : List ℕ) (at : ℕ) → Refuses delta (start bytes) (NotInGrammar at) → IsNoDelta bytes at
refused_delta bytes at r =
    let e : r.read ≡ at = omega (arith, r.place) in
    record {
      none = λ d h. r.stops.none d [] h.fits (h.spelled ∙ sym (append-nil (delta_bytes d)));
      place = subst (λ (n : ℕ). IsLongest (IsSpelled delta) bytes n) e r.stops.longest;
    }
