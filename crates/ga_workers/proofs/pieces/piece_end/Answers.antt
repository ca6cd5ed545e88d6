use Rattle.std.proofs.Common.{◌≡◌, ◌-◌, ◌≤◌, List, ℕ, arith, drop, length, length-drop, subst, sym, take, take_all, true}
use Rattle.ga_line.specs.Lines.{lines}
use Rattle.ga_workers.proofs.PieceLines.{apart, ended-more, line-more, rest-more, within-more}
use Rattle.ga_workers.proofs.pieces.piece_end.Goals as goal

-- what is left of the bytes
rest-is : (at : ℕ) (bytes : List ℕ) → take (length bytes - at) (drop at bytes) ≡ drop at bytes
rest-is at bytes = take_all (length bytes - at) (drop at bytes) (omega (arith, length-drop at bytes))

pub returns-in-None-clause-short : goal.returns-in-None-clause-short
returns-in-None-clause-short c =
    let bytes = c.args.bytes.now in
    let at = c.loop-passed.at in
    let few = c.loop-passed.invariant.few in
    let test = c.loop-passed-test.true in
    let most : length (lines bytes true) ≤ c.args.chunk = omega (arith, few, test, rest-more bytes _ at (rest-is at bytes) (c.lines_added.ensures _ c.loop-passed.invariant.ended) c.in-None.ensures) in
    subst (λ (t : List ℕ). length (lines t true) ≤ c.args.chunk) (sym (take_all (length bytes) bytes (omega arith))) most

pub loop-passed-preserved : goal.loop-passed-preserved
loop-passed-preserved c =
    let bytes = c.args.bytes.now in
    let at = c.loop-passed.at in
    let before = c.loop-passed.invariant in
    let end = c.in-Some.end in
    let keeps = c.lines_added.ensures _ before.ended in
    record {
      within = within-more bytes _ at (rest-is at bytes) keeps end c.in-Some.ensures;
      moved = omega (arith, before.moved);
      few = omega (arith, before.few, line-more bytes _ at (rest-is at bytes) keeps end c.in-Some.ensures);
      ended = ended-more bytes _ at (rest-is at bytes) keeps end c.in-Some.ensures;
    }

pub returns-clause-apart : goal.returns-clause-apart
returns-clause-apart c = apart c.loop-passed.at c.args.bytes.now (c.lines_added.ensures _ c.loop-passed.invariant.ended)
