use Rattle.std.proofs.Common.{ℕ, List, ◌++◌, sym, ap, ◌∙◌}
use Rattle.ga_store.proofs.body_digest.BodyDigest.keep.Goals as goal

pub returns : goal.returns
returns c = λ before holds. record {
  digested = before;
  holds = holds;
  is = ap (λ (t : List ℕ). before ++ t) (sym (c.in_ok-extend_from_slice.ensures.items ∙ ap (λ (t : List ℕ). t ++ c.args.bytes.now) c.clear.ensures.items));
}
