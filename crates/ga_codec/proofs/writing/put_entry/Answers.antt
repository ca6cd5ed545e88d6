use Rattle.std.specs.Int.{w16, w64}
use Rattle.ga_codec.specs.Steps.Grammar.{any_bytes, number}
use Rattle.ga_codec.proofs.Fields.{entry_2, entry_made}
use Rattle.ga_codec.proofs.Written.{wrote_then, wrote_made}
use Rattle.ga_codec.proofs.writing.put_entry.Goals as goal

pub returns : goal.returns
returns c =
    let w2 = wrote_then (any_bytes 32) (λ _. number w64) c.in_ok-put_digest.ensures c.in_ok-put_u64.ensures in
    wrote_made entry_made (wrote_then (number w16) (λ _. entry_2) c.in_ok-put_u16.ensures w2)
