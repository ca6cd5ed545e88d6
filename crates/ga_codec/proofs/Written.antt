-- Writing one part after another.
use Rattle.std.proofs.Common.{◌≡◌, ℕ, zero, suc, ◌+◌, ◌<◌, List, [], ◌∷◌, ◌++◌, length, map, take, get_or, Option, Some, refl, sym, ap, ◌∙◌, subst, append_assoc, arith}
use Rattle.std.specs.Prelude.{slice_get}
use Rattle.std.specs.Int.{w64}
use Rattle.std.specs.List.{flat_map, AllByRecursion}
use Rattle.std.proofs.lemmas.List.{append-nil, take_more, map_more, length_push}
use Rattle.std.proofs.lemmas.List.Concat.{flat_map-append}
use Rattle.ga_base.specs.declared.entry.Entry.{Entry}
use Rattle.ga_base.specs.declared.panel.Panel.{Panel}
use Rattle.ga_base.specs.Panels.{panel_number}
use Rattle.ga_summary.specs.Sound.{IsSummary}
use Rattle.ga_summary.specs.SummaryRows.{SummaryValue}
use Rattle.ga_codec.specs.Appending.{AppendsDelta, AppendsSnapshot}
use Rattle.ga_codec.specs.Values.{entry_value}
use Rattle.ga_codec.specs.Shapes.{IsEntry}
use Rattle.ga_codec.specs.Steps.Parts.{Part, Writes, followed_by, times, listed}
use Rattle.ga_codec.specs.Steps.Grammar.{number, panel, version, snapshot, delta}
use Rattle.ga_codec.proofs.PartLaws.{IsMade}
use Rattle.ga_codec.proofs.Numbers.{listed_made}
use Rattle.ga_codec.proofs.Entries.{all_push}

pub wrote_then : {A B : Type 0} (first : Part A) (next : A → Part B) {a : A} {b : B} {old mid new : List ℕ} → Writes first a old mid → Writes (next a) b mid new → Writes (followed_by first next) (a, b) old new
unfolding followed_by
wrote_then first next {a = a} {b = b} {old = old} v w = record {
  fits = (v.fits, w.fits);
  bytes = w.bytes ∙ ap (λ (x : List ℕ). x ++ (next a).spell b) v.bytes ∙ append_assoc old (first.spell a) ((next a).spell b);
}

pub wrote_made : {A B : Type 0} {whole : Part A} {inner : Part B} {made : B → A} {b : B} {old new : List ℕ} → IsMade whole inner made → Writes inner b old new → Writes whole (made b) old new
wrote_made {b = b} {old = old} m w =
    let c = m.completes b w.fits in
    record { fits = c.0; bytes = w.bytes ∙ ap (λ (x : List ℕ). old ++ x) (sym c.1) }

pub wrote_panel : (p : Panel) (byte : ℕ) (old new : List ℕ) → byte ≡ panel_number p + 1 → new ≡ old ++ byte ∷ [] → Writes panel p old new
wrote_panel p byte old new b e = record { fits = tt; bytes = e ∙ ap (λ (n : ℕ). old ++ n ∷ []) b }

-- ---- this many of one kind

pub wrote_none : {A : Type 0} (part : Part A) (out : List ℕ) → Writes (times 0 part) [] out out
unfolding times
wrote_none part out = record { fits = (refl, tt); bytes = sym (append-nil out) }

pub wrote_more : {A : Type 0} (part : Part A) (n : ℕ) (items : List A) (item : A) (old mid new : List ℕ) → Writes (times n part) items old mid → Writes part item mid new
    → Writes (times (n + 1) part) (items ++ item ∷ []) old new
unfolding times
wrote_more part n items item old mid new v w = record {
  fits = (omega (arith, v.fits.0, length_push items item), all_push part.fits items item v.fits.1 w.fits);
  bytes =
      let one : flat_map part.spell (items ++ item ∷ []) ≡ flat_map part.spell items ++ part.spell item =
      flat_map-append part.spell items (item ∷ []) ∙ ap (λ (x : List ℕ). flat_map part.spell items ++ x) (append-nil (part.spell item)) in
      w.bytes ∙ ap (λ (x : List ℕ). x ++ part.spell item) v.bytes ∙ append_assoc old (flat_map part.spell items) (part.spell item) ∙ ap (λ (x : List ℕ). old ++ x) (sym one);
}

-- the item at a place, as a look-up gives it
pub taken_more : {A : Type 0} (xs : List A) (i : ℕ) (x : A) → slice_get xs i ≡ Some x → take (i + 1) xs ≡ take i xs ++ x ∷ []
taken_more [] i x e = absurd cc
taken_more (y ∷ xs) zero x e = let same : y ≡ x = cc in ap (λ v. v ∷ []) same
taken_more (y ∷ xs) (suc i) x e =
    let step : suc i + 1 ≡ suc (i + 1) = omega arith in
    ap (λ n. take n (y ∷ xs)) step ∙ ap (λ v. y ∷ v) (taken_more xs i x e)

-- ---- entries

pub entries_good : (entries : List Entry) → AllByRecursion IsEntry (map entry_value entries)
entries_good [] = tt
entries_good (e ∷ entries) = (record { counted = e.counted; lead = e.leads }, entries_good entries)

pub wrote_next : {A : Type 0} (part : Part A) (n : ℕ) (items later : List A) (item : A) (old mid new : List ℕ) → later ≡ items ++ item ∷ [] → Writes (times n part) items old mid → Writes part item mid new
    → Writes (times (n + 1) part) later old new
wrote_next {A = A} part n items later item old mid new e v w = subst (λ (xs : List A). Writes (times (n + 1) part) xs old new) (sym e) (wrote_more part n items item old mid new v w)

pub next_taken : {A : Type 0} (xs : List A) (i : ℕ) (x : A) → i < length xs → x ≡ get_or xs i x → take (i + 1) xs ≡ take i xs ++ x ∷ []
next_taken {A = A} xs i x lt e = take_more xs i x lt ∙ ap (λ (y : A). take i xs ++ y ∷ []) (sym e)

pub next_mapped : {A B : Type 0} (f : A → B) (xs : List A) (i : ℕ) (x : A) → i < length xs → x ≡ get_or xs i x → map f (take (i + 1) xs) ≡ map f (take i xs) ++ f x ∷ []
next_mapped {A = A} f xs i x lt e = map_more f xs i x lt ∙ ap (λ (y : A). map f (take i xs) ++ f y ∷ []) (sym e)

wrote_size : {A : Type 0} (part : Part A) (i : ℕ) (items : List A) (old new : List ℕ) → Writes (times i part) items old new → length items ≡ i
unfolding times
wrote_size part i items old new w = w.fits.0

-- the number of items, and all of them
pub wrote_list : {A : Type 0} (part : Part A) (n i : ℕ) (items all : List A) (old mid new : List ℕ) → items ≡ all → n ≡ length all → Writes (number w64) n old mid → Writes (times i part) items mid new
    → Writes (listed part) all old new
wrote_list {A = A} part n i items all old mid new e size v w =
    let same : i ≡ n = sym (wrote_size part i items mid new w) ∙ ap length e ∙ sym size in
    let w' = subst (λ (k : ℕ). Writes (times k part) items mid new) same w in
    subst (λ (xs : List A). Writes (listed part) xs old new) e (wrote_made (listed_made part) (wrote_then (number w64) (λ k. times k part) v w'))

-- ---- wholes

pub wrote_version : (old new : List ℕ) → new ≡ old ++ 1 ∷ [] → Writes version tt old new
wrote_version old new e = record { fits = tt; bytes = e }

pub appended_snapshot : (g : ℕ) (keep : Option ℕ) (s : SummaryValue) (entries : List Entry) (old new : List ℕ) → Writes snapshot (record { generation = g; keep = keep; summary = s; entries = map entry_value entries }) old new → IsSummary s
    → AppendsSnapshot g keep s entries old new
appended_snapshot g keep s entries old new w sound = record {
  bytes = snapshot.spell (record { generation = g; keep = keep; summary = s; entries = map entry_value entries });
  spells = record { spelled = refl; fits = w.fits; summary = sound; entries = entries_good entries };
  appended = w.bytes;
}

pub appended_delta : (s : SummaryValue) (entries : List Entry) (old new : List ℕ) → Writes delta (record { summary = s; entries = map entry_value entries }) old new → IsSummary s → AppendsDelta s entries old new
appended_delta s entries old new w sound = record {
  bytes = delta.spell (record { summary = s; entries = map entry_value entries });
  spells = record { spelled = refl; fits = w.fits; summary = sound; entries = entries_good entries };
  appended = w.bytes;
}
