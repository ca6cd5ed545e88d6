use Rattle.std.proofs.Common.{drop, sym, arith}
use Rattle.ga_codec.specs.Steps.Grammar.{version}
use Rattle.ga_codec.proofs.Going.{refuses_byte}
use Rattle.ga_codec.proofs.Starts.{version_is_part}
use Rattle.ga_codec.proofs.cursor.Cursor.read_version.Goals as goal

pub returns-then-branch-ne-VERSION : goal.returns-then-branch-ne-VERSION
returns-then-branch-ne-VERSION c =
    let other = c.if-branch-ne-VERSION.true in
    refuses_byte version c.args.self.now c.fault.result c.in_ok-peek.field-0 (drop 1 c.args.self.now.rest) version_is_part (λ _. omega arith)
    (λ _ _ e. other (sym e)) c.in_ok-peek.ensures c.fault.ensures
