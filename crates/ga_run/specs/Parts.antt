-- Which parts of which logs runs counted, and what it is that each byte of a log was counted once. A log is known by its place
-- among the files, which growth and a change of name leave.
use Rattle.std.specs.Prelude.{◌≡◌, ◌≢◌, ◌⊎◌, ◌==◌, ◌<◌, ◌≤◌, ℕ, zero, suc, false, List, [], ◌∷◌, length, take, drop, min, filter, if◌then◌else◌, Option, Some, None, option_map}
use Rattle.std.specs.List.{AllByRecursion, flat_map}
use Rattle.std.specs.Str.{bytes_eq}
use Rattle.sha2.specs.Sha256.{sha256}
use Rattle.ga_base.specs.Lines.{IsEnded}
use Rattle.ga_base.specs.declared.limits.TheConstants.{FRONT}
use Rattle.ga_line.specs.Lines.{lines}
use Rattle.ga_logs.specs.Portions.{IsCountedTo}
use Rattle.ga_resume.specs.declared.follow.Follow.{Follow}
use Rattle.ga_logs.specs.declared.portion.Portion.{Portion}

-- ---- logs by their places

-- the bytes of the log at a place
abbrev pub log_at : List (List ℕ × List ℕ) → ℕ → Option (List ℕ)
log_at [] place = None
log_at (log ∷ logs) zero = Some log.1
log_at (log ∷ logs) (suc place) = log_at logs place

-- the place of the first log of a name
abbrev pub place_of : List ℕ → List (List ℕ × List ℕ) → Option ℕ
place_of name [] = None
place_of name (log ∷ logs) = if bytes_eq log.0 name then Some 0 else option_map (λ place. suc place) (place_of name logs)

-- ---- parts

-- the bytes of a log from one offset to another
pub record Part : Type 0 where
  pub log : ℕ
  pub from : ℕ
  pub to : ℕ

-- a portion of the log of this name was read, and counted as this part
pub record IsPartOf (follow : Follow) (logs : List (List ℕ × List ℕ)) (name : List ℕ) (portion : Portion) (part : Part)
    : Type 0 where
  pub log : place_of name logs ≡ Some part.log
  pub from : part.from ≡ portion.segment.from
  pub to : IsCountedTo follow portion part.to

-- the same of the portions of several logs, one after the other
pub data ArePartsOf (follow : Follow) (logs : List (List ℕ × List ℕ)) : List (List ℕ) → List Portion → List Part → Type 0 where
  no_parts : ArePartsOf follow logs [] [] []
  parts_then : {name : List ℕ} {names : List (List ℕ)} {portion : Portion} {portions : List Portion} {part : Part}
      {parts : List Part}
      → IsPartOf follow logs name portion part → ArePartsOf follow logs names portions parts
      → ArePartsOf follow logs (name ∷ names) (portion ∷ portions) (part ∷ parts)

-- ---- each once

-- the first bytes of a log, up to an offset, end after a line feed
pub record EndsAt (log : List ℕ) (offset : ℕ) : Type 0 where
  pub some : 0 < offset
  pub within : offset ≤ length log
  pub ended : IsEnded (take offset log)

-- parts of one log, of which the first begins at an offset: each begins where the one before it ended, and is empty or ends
-- after a line feed
abbrev pub Adjoin : List ℕ → ℕ → List Part → Type 0
Adjoin log offset [] = Unit {0}
Adjoin log offset (part ∷ parts) = (part.from ≡ offset)
    × ((part.to ≡ offset) ⊎ ((offset < part.to) × EndsAt log part.to)) × Adjoin log part.to parts

-- the offset up to which parts of one log go, from an offset on
abbrev pub end_of : ℕ → List Part → ℕ
end_of offset [] = offset
end_of offset (part ∷ parts) = end_of part.to parts

-- the parts of the log at a place
abbrev pub parts_at : ℕ → List Part → List Part
parts_at place parts = filter (λ part. part.log == place) parts

-- a log that isn't there has none; those of a log adjoin from its first byte on
abbrev pub AreOnce : Option (List ℕ) → List Part → Type 0
AreOnce None parts = parts ≡ []
AreOnce (Some log) parts = Adjoin log 0 parts

-- no byte of a log was counted twice, or passed over
abbrev pub EachOnce : List (List ℕ × List ℕ) → List Part → Type 0
EachOnce logs parts = (place : ℕ) → AreOnce (log_at logs place) (parts_at place parts)

-- the lines of a part of a log
abbrev pub part_lines : List ℕ → Part → List (List ℕ)
part_lines log part = lines (drop part.from (take part.to log)) false

-- the lines of parts of a log are those of one pass over it, up to the end of the last part
abbrev pub AreOnePass : List ℕ → List Part → Type 0
AreOnePass log parts = flat_map (part_lines log) parts ≡ lines (take (end_of 0 parts) log) false

-- ---- the premise on digests

-- the bytes of a log up to the end of a part are told from as many bytes of every other log by their digest, which is over the
-- first FRONT of them at the most
abbrev pub IsToldApart : List (List ℕ × List ℕ) → Part → Type 0
IsToldApart logs part = (other : ℕ) (log own : List ℕ) → other ≢ part.log → log_at logs part.log ≡ Some log
    → log_at logs other ≡ Some own → 0 < part.to → part.to ≤ length log → part.to ≤ length own
    → sha256 (take (min part.to FRONT) log) ≢ sha256 (take (min part.to FRONT) own)

-- so a digest that was stored for a log fits no other
abbrev pub AreToldApart : List (List ℕ × List ℕ) → List Part → Type 0
AreToldApart logs parts = AllByRecursion (IsToldApart logs) parts
