use Rattle.std.proofs.Common.{false}
use Rattle.std.proofs.lemmas.Bool.{eqb-false}
use Rattle.std.proofs.lemmas.List.{get_or-set_other}
use Rattle.ga_base.specs.Panels.{is_same_panel, panel_number}
use Rattle.ga_base.proofs.panel_set.PanelSet.set.Goals as goal

pub returns-clause-others : goal.returns-clause-others
unfolding is_same_panel
returns-clause-others c other differs =
    rw (c.number.ensures, ← c.self.view_is) (get_or-set_other c.self.inside.flags (panel_number c.args.panel) (panel_number other) c.args.on false (eqb-false _ _ differs))
