use Rattle.std.proofs.Common.{[], rules}
use Rattle.ga_store.proofs.body_digest.BodyDigest.new.Goals as goal

pub returns : goal.returns
returns c = record { digested = []; holds = c.new.ensures; is = search rules }
