-- Two sides say one thing.
use Rattle.std.proofs.Common.{◌≡◌, ℕ, ◌+◌, ◌<◌, Bool, true, false, List, length, refl, sym, ap, ◌∙◌, subst, arith}
use Rattle.std.proofs.lemmas.Bool.{true≢false}
use Rattle.ga_summary.specs.SummaryRows.{SummaryValue}
use Rattle.ga_summary.specs.Sums.{IsMerged}
use Rattle.ga_summary.proofs.Unique.{one_merged}
use Rattle.ga_codec.specs.Shapes.{SpellDelta, SpellSnapshot}
use Rattle.ga_codec.specs.Values.{DeltaValue, SnapshotValue}
use Rattle.ga_disk.specs.Sides.{Sides}
use Rattle.ga_store.specs.SideParts.{part_bytes}
use Rattle.ga_store.specs.Database.{DbOf, DbValue, HasSnapshot, IsWhole, LacksSnapshot, Reading, ReadsOn, TakesOn, YieldsTo, of_snapshot}
use Rattle.ga_store.specs.Database.DbOf.{chosen0, chosen1, equal, lacks0, lacks1, nothing}
use Rattle.ga_store.specs.Database.IsWhole.{unused, used}
use Rattle.ga_store.specs.Database.ReadsOn.{breaks, ends, goes_on}
use Rattle.ga_store.specs.Database.YieldsTo.{closed, older}
use Rattle.ga_store.proofs.RecoverParts.{one-part}
use Rattle.ga_store.proofs.RecoverRecords.{OneDelta}

-- a row of bytes spells one snapshot
abbrev pub OneSnapshot : Type 0
OneSnapshot = (bytes : List ℕ) (a b : SnapshotValue) → SpellSnapshot bytes a → SpellSnapshot bytes b → a ≡ b

-- a gate isn't both open and closed
both-gates : {A : Type 0} (b : Bool) → b ≡ true → b ≡ false → A
both-gates b e f = absurd (true≢false (sym e ∙ f))

-- ---- one side

one-snapshot : OneSnapshot → (side : List ℕ) (s t : SnapshotValue) (m n : ℕ) → HasSnapshot side s m → HasSnapshot side t n → (s ≡ t) × (m ≡ n)
one-snapshot law side s t m n h k =
    let same = one-part side h.body k.body 1 h.part k.part in (
      law k.body s t (subst (λ (b : List ℕ). SpellSnapshot b s) same h.spells) k.spells,
      h.behind ∙ ap (λ (b : List ℕ). 1 + length (part_bytes b)) same ∙ sym k.behind,
    )

-- a side that has a snapshot doesn't lack one
has-and-lacks : {A : Type 0} {side : List ℕ} {s : SnapshotValue} {next : ℕ} → HasSnapshot side s next → LacksSnapshot side → A
has-and-lacks h l = absurd (l.none h.body _ h.part h.spells)

whole-and-lacks : {A : Type 0} {side : List ℕ} → IsWhole side → LacksSnapshot side → A
whole-and-lacks (unused gate) l = both-gates _ l.gate gate
whole-and-lacks (used h) l = has-and-lacks h l

yields-and-lacks : {A : Type 0} {side : List ℕ} {generation : ℕ} → YieldsTo generation side → LacksSnapshot side → A
yields-and-lacks (closed gate) l = both-gates _ l.gate gate
yields-and-lacks (older h less) l = has-and-lacks h l

-- a side that yields to a generation has no later snapshot, nor one as late
yields-to-less : {A : Type 0} → OneSnapshot → {side : List ℕ} {generation next : ℕ} {s : SnapshotValue} → YieldsTo generation side → HasSnapshot side s next
    → (s.generation < generation → A) → A
yields-to-less law (closed gate) h step = both-gates _ h.gate gate
yields-to-less law (older {snapshot = t} k less) h step =
    let same = ap (λ (x : SnapshotValue). x.generation) (one-snapshot law _ _ _ _ _ h k).0 in
    step (omega arith)

one-step : OneDelta → (side : List ℕ) (old x y : DbValue) → TakesOn side old x → TakesOn side old y → x ≡ y
one-step law side old x y t u =
    let body = one-part side t.body u.body (old.slot + 1) t.part u.part in
    let delta = law u.body t.delta u.delta (subst (λ (b : List ℕ). SpellDelta b t.delta) body t.spells) u.spells in
    let summary = one_merged old.summary u.delta.summary x.summary y.summary (subst (λ (d : DeltaValue). IsMerged old.summary d.summary x.summary) delta t.merged) u.merged in
    let made : (SummaryValue × DeltaValue × List ℕ) → DbValue =
    λ p. record old { summary = p.0; entries = p.1.entries; records = old.records + 1; slot = old.slot + 1 + length (part_bytes p.2) } in
    t.others ∙ ap made (λ i. (summary i, delta i, body i)) ∙ sym u.others

one-end : OneDelta → {number : ℕ} {side : List ℕ} {db : DbValue} {x y : Reading} → ReadsOn number side db x → ReadsOn number side db y → x ≡ y
one-end law (ends gate) (ends other) = refl
one-end law (ends gate) (goes_on t on) = both-gates _ t.gate gate
one-end law (ends gate) (breaks gate_open none) = both-gates _ gate_open gate
one-end law (goes_on t on) (ends gate) = both-gates _ t.gate gate
one-end law {number} {side} {db} {x} {y} (goes_on {new = m} t on) (goes_on {new = n} u other) =
    one-end law (subst (λ (d : DbValue). ReadsOn number side d x) (one-step law side db m n t u) on) other
one-end law (goes_on t on) (breaks gate_open none) = absurd (none _ t)
one-end law (breaks gate_open none) (ends gate) = both-gates _ gate_open gate
one-end law (breaks gate_open none) (goes_on t on) = absurd (none _ t)
one-end law (breaks gate_open none) (breaks other nothing_there) = refl

-- ---- both sides

one-choice : OneSnapshot → OneDelta → {number m n : ℕ} {side : List ℕ} {s t : SnapshotValue} {x y : Reading} → HasSnapshot side s m → HasSnapshot side t n
    → ReadsOn number side (of_snapshot number m s) x → ReadsOn number side (of_snapshot number n t) y → x ≡ y
one-choice law law' {number} {m} {n} {side} {s} {t} {x} {y} h k on other =
    let same = one-snapshot law side s t m n h k in
    one-end law' (subst (λ (p : ℕ × SnapshotValue). ReadsOn number side (of_snapshot number p.0 p.1) x) (λ i. (same.1 i, same.0 i)) on) other

-- both sides have a snapshot, and yield to each other
both-yield : {A : Type 0} → OneSnapshot → {side0 side1 : List ℕ} {s t : SnapshotValue} {m n : ℕ} → HasSnapshot side0 s m → HasSnapshot side1 t n
    → YieldsTo s.generation side1 → YieldsTo t.generation side0 → A
both-yield law h k yields other =
    yields-to-less law yields k (λ less. yields-to-less law other h (λ more. absurd (omega arith)))

-- the snapshots are of one generation, and yet one side yields to the other
equal-yields : {A : Type 0} → OneSnapshot → {side other : List ℕ} {s t u : SnapshotValue} {m n k : ℕ} → HasSnapshot side s m → HasSnapshot other t n
    → s.generation ≡ t.generation → HasSnapshot side u k → YieldsTo u.generation other → A
equal-yields law h k same has yields =
    let one = ap (λ (x : SnapshotValue). x.generation) (one-snapshot law _ _ _ _ _ h has).0 in
    yields-to-less law yields k (λ less. absurd (omega arith))

pub one-database : OneSnapshot → OneDelta → (sides : Sides) (x y : Reading) → DbOf sides x → DbOf sides y → x ≡ y
one-database law law' sides x y (nothing a0 a1) (nothing b0 b1) = refl
one-database law law' sides x y (nothing a0 a1) (lacks0 bl) = both-gates _ bl.gate a0
one-database law law' sides x y (nothing a0 a1) (lacks1 bw bl) = both-gates _ bl.gate a1
one-database law law' sides x y (nothing a0 a1) (equal bh bk be) = both-gates _ bh.gate a0
one-database law law' sides x y (nothing a0 a1) (chosen0 bh by bon) = both-gates _ bh.gate a0
one-database law law' sides x y (nothing a0 a1) (chosen1 bh by bon) = both-gates _ bh.gate a1
one-database law law' sides x y (lacks0 al) (nothing b0 b1) = both-gates _ al.gate b0
one-database law law' sides x y (lacks0 al) (lacks0 bl) = refl
one-database law law' sides x y (lacks0 al) (lacks1 bw bl) = whole-and-lacks bw al
one-database law law' sides x y (lacks0 al) (equal bh bk be) = has-and-lacks bh al
one-database law law' sides x y (lacks0 al) (chosen0 bh by bon) = has-and-lacks bh al
one-database law law' sides x y (lacks0 al) (chosen1 bh by bon) = yields-and-lacks by al
one-database law law' sides x y (lacks1 aw al) (nothing b0 b1) = both-gates _ al.gate b1
one-database law law' sides x y (lacks1 aw al) (lacks0 bl) = whole-and-lacks aw bl
one-database law law' sides x y (lacks1 aw al) (lacks1 bw bl) = refl
one-database law law' sides x y (lacks1 aw al) (equal bh bk be) = has-and-lacks bk al
one-database law law' sides x y (lacks1 aw al) (chosen0 bh by bon) = yields-and-lacks by al
one-database law law' sides x y (lacks1 aw al) (chosen1 bh by bon) = has-and-lacks bh al
one-database law law' sides x y (equal ah ak ae) (nothing b0 b1) = both-gates _ ah.gate b0
one-database law law' sides x y (equal ah ak ae) (lacks0 bl) = has-and-lacks ah bl
one-database law law' sides x y (equal ah ak ae) (lacks1 bw bl) = has-and-lacks ak bl
one-database law law' sides x y (equal ah ak ae) (equal bh bk be) = refl
one-database law law' sides x y (equal ah ak ae) (chosen0 bh by bon) = equal-yields law ah ak ae bh by
one-database law law' sides x y (equal ah ak ae) (chosen1 bh by bon) = equal-yields law ak ah (sym ae) bh by
one-database law law' sides x y (chosen0 ah ay aon) (nothing b0 b1) = both-gates _ ah.gate b0
one-database law law' sides x y (chosen0 ah ay aon) (lacks0 bl) = has-and-lacks ah bl
one-database law law' sides x y (chosen0 ah ay aon) (lacks1 bw bl) = yields-and-lacks ay bl
one-database law law' sides x y (chosen0 ah ay aon) (equal bh bk be) = equal-yields law bh bk be ah ay
one-database law law' sides x y (chosen0 ah ay aon) (chosen0 bh by bon) = one-choice law law' ah bh aon bon
one-database law law' sides x y (chosen0 ah ay aon) (chosen1 bh by bon) = both-yield law ah bh ay by
one-database law law' sides x y (chosen1 ah ay aon) (nothing b0 b1) = both-gates _ ah.gate b1
one-database law law' sides x y (chosen1 ah ay aon) (lacks0 bl) = yields-and-lacks ay bl
one-database law law' sides x y (chosen1 ah ay aon) (lacks1 bw bl) = has-and-lacks ah bl
one-database law law' sides x y (chosen1 ah ay aon) (equal bh bk be) = equal-yields law bk bh (sym be) ah ay
one-database law law' sides x y (chosen1 ah ay aon) (chosen0 bh by bon) = both-yield law bh ah by ay
one-database law law' sides x y (chosen1 ah ay aon) (chosen1 bh by bon) = one-choice law law' ah bh aon bon
