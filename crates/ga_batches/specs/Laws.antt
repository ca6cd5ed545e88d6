-- What holds of all texts with their lines cut. Whoever reads lines needs these, and that a line and its front say the same.
use Rattle.std.specs.Prelude.{◌≡◌, List, ◌++◌, map, ℕ}
use Rattle.ga_batches.specs.Lines.{cut_line, cut_lines, pieces}
use Rattle.ga_base.specs.Lines.{IsEnded}

-- the pieces of a text with its lines cut are those of the text, each cut
abbrev pub CutsEachPiece : Type 0
CutsEachPiece = (text : List ℕ) → pieces (cut_lines text) ≡ map cut_line (pieces text)

-- whether lines are cut before more is added makes no difference
abbrev pub CutsOnce : Type 0
CutsOnce = (text more : List ℕ) → cut_lines (cut_lines text ++ more) ≡ cut_lines (text ++ more)

-- after whole lines the others are cut by themselves
abbrev pub CutsApart : Type 0
CutsApart = (text more : List ℕ) → IsEnded text → cut_lines (text ++ more) ≡ cut_lines text ++ cut_lines more
