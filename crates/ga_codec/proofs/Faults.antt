-- A result has one fault.
use Rattle.std.proofs.Common.{◌≡◌, ℕ, ◌+◌, Result, Err, arith}
use Rattle.ga_codec.specs.declared.fault.CodecFault.{CodecFault}
use Rattle.ga_codec.specs.declared.fault.CodecFault.TheVariants.{NotInGrammar}

pub one_fault : {T : Type 0} (r : Result T CodecFault) (a b : CodecFault) → r ≡ Err a → r ≡ Err b → a ≡ b
one_fault r a b e f = cc

pub place_is : (place at : ℕ) → NotInGrammar (place + 0) ≡ NotInGrammar at → at ≡ place
place_is place at e = let same : place + 0 ≡ at = cc in omega arith
