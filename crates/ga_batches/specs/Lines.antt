-- A text with each of its lines cut to a length that no line has that is read: a longer one fails, and the front of it too.
use Rattle.std.specs.Prelude.{◌==◌, ℕ, Bool, true, false, List, take, map}
use Rattle.std.specs.List.{join_with_byte, slice_split}
use Rattle.ga_base.specs.declared.limits.TheConstants.{LINE_FEED}
use Rattle.ga_batches.specs.declared.batcher.TheConstants.{LINE_HELD}

-- what stands before, between and after the line feeds of a text
abbrev pub pieces : List ℕ → List (List ℕ)
pieces text = slice_split (λ b. b == LINE_FEED) text

-- a line as it is held: its front, and all of it where it is short
abbrev pub cut_line : List ℕ → List ℕ
cut_line line = take LINE_HELD line

-- the text with each line as it is held
abbrev pub cut_lines : List ℕ → List ℕ
cut_lines text = join_with_byte LINE_FEED (map cut_line (pieces text))

-- what of a text is counted: all of it, or its ended lines alone
abbrev pub kept_part : List ℕ → ℕ → Bool → List ℕ
kept_part text ended true = text
kept_part text ended false = take ended text
