use Rattle.std.proofs.Common.{ℕ, List, ◌++◌, sym, ap, ◌∙◌, subst}
use Rattle.sha2.specs.Hashers.{Holds256}
use Rattle.ga_store.proofs.body_digest.BodyDigest.finish.Goals as goal

pub returns : goal.returns
returns c = λ bytes held.
    c.update-2.ensures bytes
    (subst (λ (t : List ℕ). Holds256 c.update.new.self t) (ap (λ (t : List ℕ). held.digested ++ t) c.as_slice.ensures.value ∙ sym held.is)
    (c.update.ensures held.digested held.holds))
