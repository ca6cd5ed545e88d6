use Rattle.std.proofs.Common.{ap, subst, sym, ◌∙◌}
use Rattle.ga_summary.specs.Sums.{IsMerged}
use Rattle.ga_store.specs.Database.{DbValue}
use Rattle.ga_store.proofs.growing.Growing.add.Goals as goal

pub returns : goal.returns
returns c =
    let old = c.args.self.now in
    let same = c.in_ok-join_large.ensures in
    let kept = c.in_ok-keep_apart.ensures in
    record {
      merged = subst (λ (d : DbValue). IsMerged old.summary c.args.more d.summary) (sym same) kept.merged;
      others = same ∙ kept.others ∙ ap (λ (d : DbValue). record old { summary = d.summary }) (sym same);
    }
