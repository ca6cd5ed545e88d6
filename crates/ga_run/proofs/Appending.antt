-- Logs only grow at their ends.
use Rattle.std.proofs.Common.{◌≡◌, ℕ, Bool, true, false, List, [], ◌∷◌, ◌++◌, refl, ap, sym, subst, Option, Some, None, if◌then◌else◌}
use Rattle.std.proofs.lemmas.List.{append-nil}
use Rattle.std.specs.Str.{bytes_eq}
use Rattle.ga_ports.specs.Files.{Contents}
use Rattle.ga_ports.specs.MemFiles.{can_move, grown, moved, only_these, renamed}
use Rattle.ga_run.specs.Headline.{OnlyAppended}

same-log : (bytes : List ℕ) → (more : List ℕ) × (bytes ≡ bytes ++ more)
same-log bytes = ([], sym (append-nil bytes))

pub same-logs : (logs : List (List ℕ × List ℕ)) → OnlyAppended logs logs
same-logs [] = tt
same-logs (log ∷ logs) = (same-log log.1, same-logs logs)

grown-by : (name more : List ℕ) (log : List ℕ × List ℕ) (logs : List (List ℕ × List ℕ)) → OnlyAppended logs (grown name more logs)
    → (b : Bool) → OnlyAppended (log ∷ logs) (if b then (log.0, log.1 ++ more) ∷ logs else log ∷ grown name more logs)
grown-by name more log logs later true = ((more, refl), same-logs logs)
grown-by name more log logs later false = (same-log log.1, later)

pub grown-logs : (name more : List ℕ) (logs : List (List ℕ × List ℕ)) → OnlyAppended logs (grown name more logs)
grown-logs name more [] = tt
grown-logs name more (log ∷ logs) = grown-by name more log logs (grown-logs name more logs) (bytes_eq log.0 name)

moved-by : (from to : List ℕ) (log : List ℕ × List ℕ) (logs : List (List ℕ × List ℕ)) → OnlyAppended logs (moved from to logs)
    → (b : Bool) → OnlyAppended (log ∷ logs) (if b then (to, log.1) ∷ logs else log ∷ moved from to logs)
moved-by from to log logs later true = (same-log log.1, same-logs logs)
moved-by from to log logs later false = (same-log log.1, later)

moved-logs : (from to : List ℕ) (logs : List (List ℕ × List ℕ)) → OnlyAppended logs (moved from to logs)
moved-logs from to [] = tt
moved-logs from to (log ∷ logs) = moved-by from to log logs (moved-logs from to logs) (bytes_eq log.0 from)

pub renamed-logs : (from to : List ℕ) (logs : List (List ℕ × List ℕ)) → OnlyAppended logs (renamed from to logs)
renamed-logs from to logs = go (can_move from to logs)
  where
    go : (b : Bool) → OnlyAppended logs (if b then moved from to logs else logs)
    go true = moved-logs from to logs
    go false = same-logs logs

abbrev named : Option Contents → List (List ℕ × List ℕ)
named None = []
named (Some contents) = contents.named

-- logs that are the same as a program sees them are
pub kept-logs : (a b : List (List ℕ × List ℕ)) → Some (only_these a) ≡ Some (only_these b) → OnlyAppended b a
kept-logs a b e = subst (λ (logs : List (List ℕ × List ℕ)). OnlyAppended b logs) (sym (ap named e)) (same-logs b)
