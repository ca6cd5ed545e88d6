-- Records that are added to the last days of a database: what is kept in the end is what it is where all days were there.
use Rattle.std.proofs.Common.{◌≡◌, ℕ, ◌+◌, false, List, length, None, refl, sym, ◌∙◌, ap, subst}
use Rattle.std.specs.Prelude.{unwrap_or}
use Rattle.ga_base.specs.declared.counts.Totals.{Totals}
use Rattle.ga_base.specs.Totals.{totals_plus}
use Rattle.ga_summary.specs.Limits.{passes}
use Rattle.ga_summary.specs.Sound.{IsSummary}
use Rattle.ga_summary.specs.Steps.Joined.{merged_value}
use Rattle.ga_summary.specs.SummaryRows.{SummaryValue}
use Rattle.ga_summary.specs.Sums.{IsMerged}
use Rattle.ga_summary.proofs.LastDays.{trimmed-totals}
use Rattle.ga_summary.proofs.Soundness.{IsMerged-merged_value, IsSound-merged_value}
use Rattle.ga_summary.proofs.TrimmedMerge.{trimmed-merge}
use Rattle.ga_summary.proofs.Unique.{one_merged}
use Rattle.ga_store.specs.SideParts.{is_open_at, part_bytes}
use Rattle.ga_store.specs.Database.{DbValue, ReadsOn, TakesOn, with_last_days}
use Rattle.ga_store.specs.Database.Reading.{stored}
use Rattle.ga_store.specs.Database.ReadsOn.{ends, goes_on}
use Rattle.ga_store.proofs.MergedRecords.{all-within}

-- two summaries that fit together are one
pub good-merge : (a b both : SummaryValue) → IsSummary a → IsSummary b → passes (totals_plus a.totals b.totals) ≡ None → IsMerged a b both → IsSummary both
good-merge a b both good more limits merged =
    let value = IsMerged-merged_value a b good.ordered more.ordered in
    let sound = IsSound-merged_value a b good.ordered more.ordered good.sound more.sound (all-within (totals_plus a.totals b.totals) limits) in
    subst (λ (s : SummaryValue). IsSummary s) (one_merged a b (merged_value a b) both value merged) (record { ordered = value.ordered; sound = sound })

-- a summary takes on records as one
pub good-next : {side : List ℕ} {old new : DbValue} → IsSummary old.summary → TakesOn side old new → IsSummary new.summary
good-next {side} {old} {new} good t = good-merge old.summary t.delta.summary new.summary good t.spells.summary t.limits t.merged

-- a record more after the last days of a database is one after all its days
pub adds-more : {number : ℕ} {side : List ℕ} {all next : DbValue} → IsSummary all.summary → TakesOn side (with_last_days all) next → is_open_at side next.slot ≡ false
    → ReadsOn number side all (stored (with_last_days next))
adds-more {number} {side} {all} {next} good t gate =
    let more = t.spells.summary in
    let run = t.delta.summary in
    let keep = unwrap_or all.keep 0 in
    let merged = IsMerged-merged_value all.summary run good.ordered more.ordered in
    let whole : DbValue = record all { summary = merged_value all.summary run; entries = t.delta.entries; records = all.records + 1; slot = all.slot + 1 + length (part_bytes t.body) } in
    let takes : TakesOn side all whole = record {
      gate = t.gate;
      body = t.body;
      delta = t.delta;
      part = t.part;
      spells = t.spells;
      limits = subst (λ (a : Totals). passes (totals_plus a run.totals) ≡ None) (trimmed-totals keep all.summary) t.limits;
      merged = merged;
      others = refl;
    } in
    let same = trimmed-merge keep all.summary run (merged_value all.summary run) next.summary good more merged t.merged in
    let kept : with_last_days whole ≡ with_last_days next =
    ap (λ (s : SummaryValue). let db : DbValue = record whole { summary = s } in db) (sym same) ∙ sym (ap with_last_days t.others) in
    let shut = subst (λ (at : ℕ). is_open_at side at ≡ false) (ap (λ (d : DbValue). d.slot) t.others) gate in
    subst (λ (d : DbValue). ReadsOn number side all (stored d)) kept (goes_on takes (ends shut))
