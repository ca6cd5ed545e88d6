use Rattle.std.proofs.Common.{◌≡◌, ◌∙◌, refl, sym}
use Rattle.ga_summary.specs.SummaryParts.{value_of}
use Rattle.ga_summary.proofs.PrefixRows.{no_break}
use Rattle.ga_codec.specs.declared.fault.CodecFault.TheVariants.{NotInGrammar}
use Rattle.ga_codec.proofs.Faults.{place_is}
use Rattle.ga_codec.proofs.snapshot_reading.Body.finish.Goals as goal

pub returns-in-Err-NotSound-clause-bad : goal.returns-in-Err-NotSound-clause-bad
returns-in-Err-NotSound-clause-bad c =
    let bad = rw c.in-Err-NotSound.field-0-is at c.in-Err-NotSound.ensures.bad in
    let first = (bad c.in-Err-NotSound.field-0-0).0 refl in
    λ at e.
    let same : c.fault-in-Err-NotSound.result ≡ NotInGrammar at = cc in
    let f = sym c.fault-in-Err-NotSound.ensures ∙ same in
    (place_is _ _ f, λ _ good. no_break (value_of c.args.self.summary) c.in-Err-NotSound.field-0-0 good.summary first)
