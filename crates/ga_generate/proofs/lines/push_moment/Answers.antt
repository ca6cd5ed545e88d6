use Rattle.std.proofs.Common.{List, ℕ, [], ◌∷◌, ◌++◌, ◌≡◌, ◌%◌, subst, codes}
use Rattle.std.specs.List.{concat}
use Rattle.std.specs.Prelude.{OnOk}
use Rattle.ga_base.specs.Days.{two_digits}
use Rattle.ga_generate.specs.Lines.{moment}
use Rattle.ga_generate.proofs.lines.push_moment.Goals as goal

pub returns : goal.returns
unfolding moment
returns c =
    let with : List ℕ → List ℕ → List ℕ = λ day hour. concat (codes " - - [" ∷ day ∷ codes "/Jan/2024:" ∷ hour ∷ codes ":00:00 +0000] " ∷ []) in
    let Says : List ℕ → List ℕ → Type 0 = λ day hour. OnOk c.push_all.result (c.push_all.new.text.items ≡ c.args.lines.now.items ++ with day hour) in
    subst (λ (day : List ℕ). Says day (two_digits (c.args.i % 24))) c.two_digits-day.ensures
    (subst (λ (hour : List ℕ). Says c.two_digits-day.result hour) c.two_digits-hour.ensures c.push_all.ensures)
