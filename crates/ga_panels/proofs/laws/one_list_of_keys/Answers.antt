use Rattle.ga_panels.proofs.OneList.{one_list}
use Rattle.ga_panels.proofs.laws.one_list_of_keys.Goals as goal

pub returns : goal.returns
returns c = one_list c.one_class.ensures.one c.one_site.ensures c.one_keyphrase.ensures
