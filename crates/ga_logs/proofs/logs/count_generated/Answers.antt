use Rattle.std.proofs.Common.{◌≡◌, ◌∙◌, ℕ, List, true, OnOk, ap, sym, subst}
use Rattle.ga_generate.specs.Lines.{generated}
use Rattle.ga_line.specs.Lines.{lines}
use Rattle.ga_logs.specs.Portions.{generated_lines}
use Rattle.ga_logs.specs.Steps.Streaming.{Adds}
use Rattle.ga_logs.proofs.logs.count_generated.Goals as goal

pub returns : goal.returns
returns g c =
    let log : c.bytes.result.now ≡ generated c.in-Some.n = c.bytes.ensures ∙ c.in_ok-log.ensures in
    let whole : lines c.bytes.result.now true ≡ generated_lines c.args.generated = ap (λ (l : List ℕ). lines l true) log ∙ ap generated_lines (sym c.in-Some.is) in
    subst (λ (all : List (List ℕ)). OnOk c.count_text.result (Adds c.args.crew.now.setup.now all c.args.counting.now c.count_text.new.counting)) whole c.count_text.ensures
