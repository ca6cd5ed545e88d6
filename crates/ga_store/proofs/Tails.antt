-- A part that is made in place: its front, and then its body.
use Rattle.std.proofs.Common.{◌≡◌, ℕ, List, ◌++◌, length, drop, ap, sym, ◌∙◌}
use Rattle.std.proofs.Math.Seq.{drop-append_seam}

-- what was appended to a front of this length is what follows it
pub drop-appended : (n : ℕ) (front more whole : List ℕ) → length front ≡ n → whole ≡ front ++ more → drop n whole ≡ more
drop-appended n front more whole is e = ap (λ (k : ℕ). drop k whole) (sym is) ∙ ap (λ (xs : List ℕ). drop (length front) xs) e ∙ drop-append_seam front more
