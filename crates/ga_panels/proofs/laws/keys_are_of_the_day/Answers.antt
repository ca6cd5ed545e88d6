use Rattle.std.proofs.Common.{sym, subst}
use Rattle.ga_panels.specs.Form.{AreKeysOfDay}
use Rattle.ga_panels.proofs.DayKeys.{keys_of_day}
use Rattle.ga_panels.proofs.laws.keys_are_of_the_day.Goals as goal

pub returns : goal.returns
returns c = λ setup rec keys named can are.
    subst (AreKeysOfDay rec.date) (sym are.2) (keys_of_day setup rec are.0 can.date can.minute (c.names.ensures.agents setup.rules rec.agent are.0.agent named are.1.agent))
