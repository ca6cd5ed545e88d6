-- Whether two entries are of one log, as it is tested.
use Rattle.std.specs.Prelude.{Bool, ◌==◌, ◌&&◌}
use Rattle.std.specs.Str.{bytes_eq}
use Rattle.ga_base.specs.declared.entry.Entry.{Entry}

abbrev pub is_one_log : Entry → Entry → Bool
is_one_log x y = (x.lead == y.lead) && bytes_eq x.digest y.digest
