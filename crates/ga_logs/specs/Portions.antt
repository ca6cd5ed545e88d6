-- Which part of a log a run counts, by the entries that the runs before it left, and what becomes of these.
use Rattle.std.specs.Prelude.{◌≡◌, ℕ, ◌+◌, true, List, [], length, min, take, drop, ◌++◌, Option, Some, None}
use Rattle.std.specs.List.{flat_map}
use Rattle.ga_base.specs.declared.entry.Entry.{Entry}
use Rattle.ga_generate.specs.Lines.{generated}
use Rattle.ga_line.specs.Lines.{lines}
use Rattle.ga_base.specs.Lines.{AreEnded}
use Rattle.ga_base.specs.declared.limits.TheConstants.{FRONT}
use Rattle.ga_resume.specs.Entries.{IsAdvanced}
use Rattle.ga_resume.specs.Following.{keeps}
use Rattle.ga_resume.specs.Segment.{IsSegment}
use Rattle.ga_resume.specs.declared.segment.Segment.{Segment}
use Rattle.ga_resume.specs.declared.follow.Follow.{Follow}
use Rattle.ga_resume.specs.declared.follow.Follow.TheVariants.{Whole, ToEnd, ToLastLine}
use Rattle.ga_logs.specs.declared.portion.Portion.{Portion}

-- where a run begins a log: at its first byte, or where the entry ends that it continues
abbrev pub Begins : Follow → List Entry → Segment → Type 0
Begins Whole entries segment = (segment.from ≡ 0) × (segment.front ≡ []) × (segment.entry ≡ None)
Begins ToEnd entries segment = IsSegment entries segment
Begins ToLastLine entries segment = IsSegment entries segment

-- by how many of its first bytes a log is known again
abbrev pub front_of : Follow → List ℕ → List ℕ
front_of Whole log = []
front_of ToEnd log = take FRONT log
front_of ToLastLine log = take FRONT log

-- how many they are, of a log of this size
abbrev pub front_size : Follow → ℕ → ℕ
front_size Whole size = 0
front_size ToEnd size = min size FRONT
front_size ToLastLine size = min size FRONT

-- the part of this log that a run reads
pub record IsPortionOf (follow : Follow) (entries : List Entry) (log : List ℕ) (portion : Portion) : Type 0 where
  pub begins : Begins follow entries portion.segment
  pub front : portion.segment.front ≡ front_of follow log
  pub end : portion.segment.end ≡ length log
  pub bytes : portion.bytes ≡ drop portion.segment.from log

-- up to which offset of its log a portion is counted
abbrev pub IsCountedTo : Follow → Portion → ℕ → Type 0
IsCountedTo Whole portion offset = offset ≡ portion.segment.end
IsCountedTo ToEnd portion offset = offset ≡ portion.segment.end
IsCountedTo ToLastLine portion offset = (count : ℕ) × AreEnded portion.bytes count × (offset ≡ portion.segment.from + count)

-- the entries once a portion was counted
abbrev pub Follows : Follow → Portion → List Entry → List Entry → Type 0
Follows Whole portion old new = new ≡ old
Follows follow portion old new = (offset : ℕ) × IsCountedTo follow portion offset
    × IsAdvanced portion.segment.front portion.segment.entry offset old new

-- the generator's lines, where this many are asked for
abbrev pub generated_lines : Option ℕ → List (List ℕ)
generated_lines None = []
generated_lines (Some n) = lines (generated n) true

-- the lines that a run counts: the generator's, and then those of the portions of its logs
abbrev pub counted_lines : Option ℕ → Follow → List Portion → List (List ℕ)
counted_lines n follow portions = generated_lines n ++ flat_map (λ portion. lines portion.bytes (keeps follow)) portions
