use Rattle.std.proofs.lemmas.Nat.{be_bytes_8}
use Rattle.ga_store.proofs.side_parts.number.Goals as goal

pub returns : goal.returns
returns c = be_bytes_8 c.args.front.now c.from_be_bytes.result c.told-front c.fits-front c.from_be_bytes.ensures
