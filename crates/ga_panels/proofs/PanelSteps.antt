-- The keys of panels one after another.
use Rattle.std.proofs.Common.{◌≡◌, ℕ, ◌+◌, ◌<◌, List, [], ◌++◌, length, take, get_or, Option, ap, sym, ◌∙◌}
use Rattle.std.specs.Prelude.{flat_map}
use Rattle.std.proofs.lemmas.List.{flat_map_more, take_more}
use Rattle.ga_base.specs.declared.key.Key.{Key}
use Rattle.ga_base.specs.declared.panel.Panel.{Panel}
use Rattle.ga_base.specs.declared.record.Record.{Record}
use Rattle.ga_panels.specs.Facts.{Facts}
use Rattle.ga_panels.specs.Table.{entry_in, keys_in, with_group}
use Rattle.ga_panels.specs.declared.setup.PanelSetup.{PanelSetup}

module _ (setup : PanelSetup) (rec : Record) (facts : Facts) where
  -- the keys so far and those of the next panel
  pub one_panel_more : (panels : List Panel) (i : ℕ) (d : Panel) (old new : List Key) (entry : Option Key) → i < length panels → entry ≡ entry_in setup rec facts (get_or panels i d) → new ≡ old ++ with_group entry
      → old ≡ flat_map (keys_in setup rec facts) (take i panels) → new ≡ flat_map (keys_in setup rec facts) (take (i + 1) panels)
  one_panel_more panels i d old new entry inside is added so_far =
      added ∙ ap (λ e. old ++ with_group e) is ∙ ap (λ ks. ks ++ keys_in setup rec facts (get_or panels i d)) so_far
      ∙ flat_map_more (keys_in setup rec facts) [] (take i panels) (get_or panels i d)
      ∙ ap (flat_map (keys_in setup rec facts)) (sym (take_more panels i d inside))
