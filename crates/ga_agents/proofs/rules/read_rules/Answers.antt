use Rattle.std.proofs.Common.{◌∙◌, sym, subst, arith}
use Rattle.std.specs.Str.Lines.{lines}
use Rattle.ga_agents.proofs.LineLemmas.{same_lines}
use Rattle.ga_agents.proofs.FileLemmas.{ReadTo, read_none, read_more, read_count}
use Rattle.ga_agents.proofs.rules.read_rules.Goals as goal

pub loop-line-init : goal.loop-line-init
loop-line-init c =
    let whole = c.into_iter-line-iterator.ensures.into_iter_gives ∙ c.lines-line-items.ensures.value ∙ same_lines c.args.text.now in
    subst (λ left. ReadTo c.args.text.now left 0 c.new-rules.result) (sym whole) (subst (λ rules. ReadTo c.args.text.now (lines c.args.text.now) 0 rules) (sym c.new-rules.ensures) (read_none c.args.text.now))

pub overflow_add-number : goal.overflow_add-number
overflow_add-number c =
    let read = subst (λ left. ReadTo c.args.text.now left c.loop-line.number c.loop-line.rules) c.in-Some.ensures.steps c.loop-line.invariant in
    let within = read_count c.args.text.now c.in-Some.line.now c.next.new.self c.loop-line.number c.loop-line.rules read in
    omega (arith, within)

pub loop-line-preserved : goal.loop-line-preserved
loop-line-preserved c =
    let read = subst (λ left. ReadTo c.args.text.now left c.loop-line.number c.loop-line.rules) c.in-Some.ensures.steps c.loop-line.invariant in
    let given = c.in_ok-read_line.ensures.ok in
    read_more c.args.text.now c.in-Some.line.now c.next.new.self c.loop-line.number c.loop-line.rules given.0 c.read_line.new.rules read given.1 given.2
