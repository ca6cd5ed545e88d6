use Rattle.ga_codec.specs.Steps.Parts.{listed}
use Rattle.ga_codec.specs.Steps.Grammar.{version, summary, entry}
use Rattle.ga_codec.proofs.Fields.{body, delta_made}
use Rattle.ga_codec.proofs.Written.{appended_delta, wrote_then, wrote_made, wrote_version}
use Rattle.ga_codec.proofs.writing.push_delta.Goals as goal

pub returns : goal.returns
returns c =
    let w1 = wrote_version c.args.out.now.items c.push.new.self.items c.in_ok-push.ensures.items in
    let w3 = wrote_then summary (λ _. listed entry) c.in_ok-put_summary.ensures.bytes c.in_ok-put_entries.ensures in
    appended_delta c.args.summary.now c.args.entries.now _ _ (wrote_made delta_made (wrote_then version (λ _. body) w1 w3)) c.in_ok-put_summary.ensures.sound
