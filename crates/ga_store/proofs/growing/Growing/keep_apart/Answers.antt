use Rattle.std.proofs.Common.{◌≡◌, Option, None, IfSome, subst, sym}
use Rattle.ga_base.specs.Totals.{TotalsFit, totals_plus}
use Rattle.ga_summary.specs.Limits.{passes}
use Rattle.ga_summary.specs.Steps.Joined.{merged_value}
use Rattle.ga_summary.specs.SummaryRows.{SummaryValue}
use Rattle.ga_summary.specs.Sums.{IsMerged}
use Rattle.ga_store.specs.Database.{DbValue}
use Rattle.ga_store.specs.Steps.Records.{IsTogether}
use Rattle.ga_store.proofs.MergedRecords.{fits-apart, kept-apart, room-together}
use Rattle.ga_store.proofs.growing.Growing.keep_apart.Goals as goal

pub together-requires : goal.together-requires
together-requires c =
    let s = c.self.inside.db.summary in
    let more = c.args.more in
    let room = subst (λ (d : DbValue). passes (totals_plus d.summary.totals more.totals) ≡ None) (sym c.self.view_is) c.requires.room in
    subst (λ (o : Option SummaryValue). IfSome o (λ one. TotalsFit (totals_plus one.totals more.totals))) (sym c.take.ensures.value) (room-together s c.self.inside.apart more room)

pub returns-clause-merged : goal.returns-clause-merged
returns-clause-merged c =
    let s = c.self.inside.db.summary in
    let more = c.args.more in
    let all = c.in_ok-apart.apart in
    let both = subst (λ (o : Option SummaryValue). IsTogether o more all) c.take.ensures.value c.in_ok-apart.ensures in
    subst (λ (d : DbValue). IsMerged d.summary more (merged_value s all)) c.self.view_is (kept-apart s c.self.inside.apart more all c.totals.ensures.sound.ordered c.totals-2.ensures.sound.ordered both)

pub invariant_of-self-2 : goal.invariant_of-self-2
invariant_of-self-2 c =
    let s = c.self.inside.db.summary in
    let more = c.args.more in
    let all = c.in_ok-apart.apart in
    let both = subst (λ (o : Option SummaryValue). IsTogether o more all) c.take.ensures.value c.in_ok-apart.ensures in
    let room = subst (λ (d : DbValue). passes (totals_plus d.summary.totals more.totals) ≡ None) (sym c.self.view_is) c.requires.room in
    fits-apart s c.self.inside.apart more all room both
