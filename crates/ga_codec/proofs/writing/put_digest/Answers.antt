use Rattle.ga_codec.proofs.Numbers.{bytes_by_place}
use Rattle.ga_codec.proofs.writing.put_digest.Goals as goal

pub returns : goal.returns
returns c = record { fits = (c.told-digest, bytes_by_place c.args.digest.now c.fits-digest); bytes = c.in_ok-extend_from_slice.ensures.items }
