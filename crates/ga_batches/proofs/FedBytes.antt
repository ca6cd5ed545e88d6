-- Bytes that are fed piece by piece, and the batches that are taken in between.
use Rattle.std.proofs.Common.{◌≡◌, ℕ, List, [], ◌∷◌, ◌++◌, refl, sym, ap, ◌∙◌, subst, append_assoc, append-nil}
use Rattle.std.specs.List.{AllByRecursion, concat}
use Rattle.ga_base.specs.Lines.{IsEnded}
use Rattle.ga_batches.specs.Batches.{BatcherSeen, Holds}
use Rattle.ga_batches.specs.Fed.{AreItsBatches, IsFed}
use Rattle.ga_batches.specs.Fed.IsFed.{fed_nothing, fed_more, batch_taken}
use Rattle.ga_batches.proofs.Feeding.{holds-fresh, holds-on, holds-taken}

concat-more : (batches : List (List ℕ)) (batch : List ℕ) → concat (batches ++ batch ∷ []) ≡ concat batches ++ batch
concat-more [] batch = append-nil batch
concat-more (first ∷ batches) batch = ap (λ (x : List ℕ). first ++ x) (concat-more batches batch) ∙ sym (append_assoc first (concat batches) batch)

ended-more : (batches : List (List ℕ)) (batch : List ℕ) → AllByRecursion IsEnded batches → IsEnded batch → AllByRecursion IsEnded (batches ++ batch ∷ [])
ended-more [] batch all is = (is, tt)
ended-more (first ∷ batches) batch all is = (all.0, ended-more batches batch all.1 is)

pub its-batches : (stream : List ℕ) (batches : List (List ℕ)) (v : BatcherSeen) → IsFed stream batches v → AreItsBatches stream batches v
its-batches _ _ _ (fed_nothing limit) = record { whole = tt; holds = holds-fresh limit }
its-batches _ _ _ (fed_more fed feeds) =
    let so_far = its-batches _ _ _ fed in
    record { whole = so_far.whole; holds = holds-on _ _ _ feeds _ _ so_far.holds }
its-batches _ _ _ (batch_taken {stream} {batches} {old} fed is) =
    let so_far = its-batches _ _ _ fed in
    record {
      whole = ended-more batches old.batch so_far.whole (is.whole so_far.holds.going);
      holds = subst (λ (taken : List ℕ). Holds stream taken (record old { batch = [] })) (sym (concat-more batches old.batch))
          (holds-taken old is stream (concat batches) so_far.holds);
    }
