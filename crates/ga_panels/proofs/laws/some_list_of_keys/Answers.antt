use Rattle.ga_panels.proofs.SomeList.{some-list}
use Rattle.ga_panels.proofs.laws.some_list_of_keys.Goals as goal

pub returns : goal.returns
returns c = some-list c.one_class.ensures.some
