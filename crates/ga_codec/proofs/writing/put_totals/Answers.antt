use Rattle.std.specs.Int.{w64}
use Rattle.ga_codec.specs.Steps.Grammar.{number}
use Rattle.ga_codec.proofs.Fields.{numbers_2, numbers_3, numbers_4, numbers_5, totals_made}
use Rattle.ga_codec.proofs.Written.{wrote_then, wrote_made}
use Rattle.ga_codec.proofs.writing.put_totals.Goals as goal

pub returns : goal.returns
returns c =
    let w5 = wrote_then (number w64) (λ _. number w64) c.in_ok-put_u64-5.ensures c.in_ok-put_u64-6.ensures in
    let w4 = wrote_then (number w64) (λ _. numbers_2) c.in_ok-put_u64-4.ensures w5 in
    let w3 = wrote_then (number w64) (λ _. numbers_3) c.in_ok-put_u64-3.ensures w4 in
    let w2 = wrote_then (number w64) (λ _. numbers_4) c.in_ok-put_u64-2.ensures w3 in
    wrote_made totals_made (wrote_then (number w64) (λ _. numbers_5) c.in_ok-put_u64.ensures w2)
