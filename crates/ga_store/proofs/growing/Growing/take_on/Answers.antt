use Rattle.std.proofs.Common.{◌+◌, ap, subst, sym, ◌∙◌}
use Rattle.ga_summary.specs.Sums.{IsMerged}
use Rattle.ga_codec.specs.Values.{delta_value}
use Rattle.ga_store.specs.Database.{DbValue}
use Rattle.ga_store.specs.Steps.Records.{with_apart}
use Rattle.ga_store.proofs.growing.Growing.take_on.Goals as goal

pub returns : goal.returns
returns c =
    let old = c.args.self.now in
    let delta = delta_value c.args.found.delta in
    let now = with_apart c.self.inside.db.summary c.self.inside.apart in
    record {
      limits = c.has_room.ensures.0 c.if-not-has_room.false;
      merged = subst (λ (d : DbValue). IsMerged old.summary delta.summary d.summary) (sym c.self.view_is) c.in_ok-add.ensures.merged;
      others = ap (λ (d : DbValue). record d { summary = now; entries = delta.entries; records = d.records + 1; slot = c.args.found.next }) (c.self.view_is ∙ c.in_ok-add.ensures.others);
    }
