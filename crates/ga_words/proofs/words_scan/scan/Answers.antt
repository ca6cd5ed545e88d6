use Rattle.std.proofs.Common.{refl}
use Rattle.ga_words.proofs.words_scan.scan.Goals as goal

pub returns-clause-ok : goal.returns-clause-ok
returns-clause-ok c =
    let read = c.in_ok-settings.ensures.ok in record { units = read.units; settings = c.in_ok-settings.field-0.settings; are_units = read.are_units; is = refl }
