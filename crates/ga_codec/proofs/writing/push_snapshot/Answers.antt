use Rattle.ga_codec.specs.Steps.Parts.{listed}
use Rattle.ga_codec.specs.Steps.Grammar.{snapshot_start, summary, entry}
use Rattle.ga_codec.proofs.Fields.{body, snapshot_made}
use Rattle.ga_codec.proofs.Written.{appended_snapshot, wrote_then, wrote_made}
use Rattle.ga_codec.proofs.writing.push_snapshot.Goals as goal

pub returns : goal.returns
returns c =
    let w2 = wrote_then summary (λ _. listed entry) c.in_ok-put_summary.ensures.bytes c.in_ok-put_entries.ensures in
    let w1 = wrote_then snapshot_start (λ _. body) c.in_ok-put_snapshot_start.ensures w2 in
    appended_snapshot c.args.generation c.args.keep c.args.summary.now c.args.entries.now _ _ (wrote_made snapshot_made w1) c.in_ok-put_summary.ensures.sound
