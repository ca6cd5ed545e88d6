-- The lines of a log: the pieces before each line feed, each without one carriage return before that
-- line feed; then what follows the last line feed, where it is kept and isn't empty. A log that still grows
-- is read without what follows its last line feed.
use Rattle.std.specs.Prelude.{◌≡◌, ℕ, Bool, false, ◌==◌, List, [], ◌∷◌, ◌++◌, if◌then◌else◌}
use Rattle.std.specs.List.{slice_split}
use Rattle.std.specs.Str.Lines.{strip_carriage_return}
use Rattle.ga_base.specs.declared.limits.TheConstants.{LINE_FEED}

-- what follows the last line feed, as a line with its bytes unchanged: none where it is empty or isn't kept
abbrev pub unended_line : List ℕ → Bool → List (List ℕ)
unended_line [] keep = []
unended_line (b ∷ rest) keep = if keep then (b ∷ rest) ∷ [] else []

-- the lines in the pieces between line feeds: a line feed follows each piece but the last
abbrev pub lines_of_pieces : List (List ℕ) → Bool → List (List ℕ)
lines_of_pieces [] keep = []
lines_of_pieces (rest ∷ []) keep = unended_line rest keep
lines_of_pieces (piece ∷ next ∷ more) keep = strip_carriage_return piece ∷ lines_of_pieces (next ∷ more) keep

-- the lines of a text, with what follows its last line feed where `keep` says so
abbrev pub lines : List ℕ → Bool → List (List ℕ)
lines text keep = lines_of_pieces (slice_split (λ b. b == LINE_FEED) text) keep

-- the lines of a text that was added to are the lines that it had, and then those of what was added
abbrev pub KeepsItsLines : List ℕ → Type 0
KeepsItsLines text = (more : List ℕ) (keep : Bool) → lines (text ++ more) keep ≡ lines text false ++ lines more keep
