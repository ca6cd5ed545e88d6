-- The lines of a stream that was fed piece by piece, while batches were taken in between.
use Rattle.std.proofs.Common.{◌≡◌, ℕ, Bool, true, List, [], ◌∷◌, ◌++◌, refl, sym, ap, ◌∙◌, subst, append_assoc}
use Rattle.std.specs.List.{AllByRecursion, concat}
use Rattle.ga_base.specs.Lines.{IsEnded}
use Rattle.ga_batches.specs.Batches.{BatcherSeen, held}
use Rattle.ga_batches.specs.Fed.{AreItsBatches}
use Rattle.ga_batches.specs.Laws.{CutsEachPiece}
use Rattle.ga_line.specs.Lines.{lines}
use Rattle.ga_logs.proofs.Batches.{EndedKeep, whole-lines}
use Rattle.ga_logs.proofs.Held.{SayTheSame, held-lines}
use Rattle.ga_logs.specs.Streams.{batch_lines}

-- batches of whole lines keep their lines before others
of-batches : EndedKeep → (batches : List (List ℕ)) (rest : List ℕ) (keep : Bool) → AllByRecursion IsEnded batches
    → lines (concat batches ++ rest) keep ≡ batch_lines batches ++ lines rest keep
of-batches law [] rest keep all = refl
of-batches law (batch ∷ batches) rest keep (ended, all) =
    ap (λ (t : List ℕ). lines t keep) (append_assoc batch (concat batches) rest)
    ∙ law batch ended (concat batches ++ rest) keep
    ∙ ap (λ (ls : List (List ℕ)). ls ++ lines (concat batches ++ rest) keep) (sym (whole-lines law batch ended))
    ∙ ap (λ (ls : List (List ℕ)). lines batch true ++ ls) (of-batches law batches rest keep all)
    ∙ sym (append_assoc (lines batch true) (batch_lines batches) (lines rest keep))

-- the lines of the batches and of the rest say what those of the stream say
pub stream-lines : EndedKeep → CutsEachPiece → (stream : List ℕ) (batches : List (List ℕ)) (v : BatcherSeen) (keep : Bool) → AreItsBatches stream batches v
    → SayTheSame (batch_lines batches ++ lines (held v) keep) (lines stream keep)
stream-lines law pieces stream batches v keep are =
    subst (λ (ls : List (List ℕ)). SayTheSame ls (lines stream keep))
    (ap (λ (t : List ℕ). lines t keep) are.holds.lines ∙ of-batches law batches (held v) keep are.whole) (held-lines pieces stream keep)
