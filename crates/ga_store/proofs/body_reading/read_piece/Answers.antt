use Rattle.std.proofs.Common.{ℕ, List, sym, subst, arith}
use Rattle.ga_codec.specs.Pieces.{front_bytes}
use Rattle.ga_store.specs.Steps.SideParts.{HoldsBytes}
use Rattle.ga_store.proofs.body_reading.read_piece.Goals as goal

pub returns-clause-read : goal.returns-clause-read
returns-clause-read g c =
    let old = front_bytes c.args.body.now.reader in
    let goes = c.in_ok-count.ensures.reads.read in
    let digested = c.in_ok-count.ensures.digests old c.requires.hashed in
    record {
      goes_on = goes;
      hashed = subst (λ (t : List ℕ). HoldsBytes c.keep.new.self t) (sym goes.bytes) (c.in_ok-keep.ensures old digested);
      left = omega (arith, goes.within);
    }
