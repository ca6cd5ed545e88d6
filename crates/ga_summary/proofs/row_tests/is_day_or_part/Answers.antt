use Rattle.std.proofs.Common.{rules, ◌≡◌, ◌∙◌, sym, refl, ◌==◌, ◌↔◌, inl, inr, IsTrue, true, Bool, [], ◌∷◌, length, ℕ, List}
use Rattle.ga_base.specs.Days.{eight_digits}
use Rattle.ga_base.specs.Layers.{IsDayOrPart}
use Rattle.ga_summary.proofs.row_tests.is_day_or_part.Goals as goal

none_there : (bytes : List ℕ) → (length bytes == 0) ≡ true → bytes ≡ []
none_there [] e = refl
none_there (byte ∷ bytes) e = search (rules)

of_day : (date : ℕ) (parent label : List ℕ) (result : Bool) → parent ≡ [] → IsTrue result ↔ (label ≡ eight_digits date) → IsTrue result ↔ IsDayOrPart date parent label
of_day date parent label result none same = (λ is. inl (none, same.0 is), same_back)
  where
    same_back : IsDayOrPart date parent label → IsTrue result
    same_back (inl day) = same.1 day.1
    same_back (inr part) = let clash : [] ≡ eight_digits date = sym none ∙ part.0 in cc

pub returns-then-is_empty : goal.returns-then-is_empty
returns-then-is_empty c =
    of_day c.args.date c.args.parent.now c.args.label.now c.eq.result (none_there c.args.parent.now (sym c.is_empty.ensures ∙ c.if-is_empty.true)) (search (rules))
