use Rattle.ga_words.proofs.panel_names.panel_named.Goals as goal

pub returns : goal.returns
returns c = c.lookup.ensures
