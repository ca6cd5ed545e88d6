use Rattle.std.specs.Option.{option_copied, unwrap_or}
use Rattle.ga_storing_tests.proofs.TestLines.{may_count}
use Rattle.ga_storing_tests.proofs.summary.count.Goals as goal

pub add-requires : goal.add-requires
add-requires c = rw (c.in_ok-keys.ensures, c.in_ok-rec.ensures.date, c.in_ok-rec.ensures.bytes, c.in_ok-rec.ensures.micros)
    (may_count c.args.label.now (option_copied c.args.by) c.args.bytes (unwrap_or c.args.micros 0) c.requires.by c.requires.bytes c.requires.micros)
