use Rattle.std.proofs.Common.{subst}
use Rattle.ga_base.specs.declared.counts.Totals.{Totals}
use Rattle.ga_codec.specs.Steps.Parts.{Writes, listed}
use Rattle.ga_codec.specs.Steps.Grammar.{row, totals}
use Rattle.ga_codec.proofs.Fields.{summary_made}
use Rattle.ga_codec.proofs.Written.{wrote_then, wrote_made}
use Rattle.ga_codec.proofs.writing.put_summary.Goals as goal

pub returns-clause-bytes : goal.returns-clause-bytes
returns-clause-bytes c =
    let w1 = subst (λ (t : Totals). Writes totals t c.args.out.now.items c.put_totals.new.out.items) c.totals.ensures.totals c.in_ok-put_totals.ensures in
    wrote_made summary_made (wrote_then totals (λ _. listed row) w1 c.in_ok-put_rows.ensures)
