-- Keys that are noted after others.
use Rattle.std.proofs.Common.{◌≡◌, ℕ, ◌+◌, ◌<◌, List, [], ◌∷◌, ◌++◌, Option, ap, sym, ◌∙◌, length, take, get_or, subst}
use Rattle.std.specs.Prelude.{flat_map}
use Rattle.std.proofs.lemmas.List.{flat_map_more, take_more}
use Rattle.ga_base.specs.declared.counts.Sums.{Sums}
use Rattle.ga_base.specs.declared.key.Key.{Key}
use Rattle.ga_base.specs.declared.panel.Panel.{Panel}
use Rattle.ga_base.specs.declared.record.Record.{Record}
use Rattle.ga_panels.specs.Facts.{Facts}
use Rattle.ga_panels.specs.Table.{entry_in, keys_in, with_group}
use Rattle.ga_panels.specs.declared.setup.PanelSetup.{PanelSetup}
use Rattle.ga_tallies.specs.Steps.Notes.{NotesKeys}
use Rattle.ga_tallies.specs.Tallies.{TallySeen}

pub notes-both : (first more : List Key) (visitor : Option ℕ) (line : Sums) (old mid new : TallySeen) → NotesKeys first visitor line old mid → NotesKeys more visitor line mid new
    → NotesKeys (first ++ more) visitor line old new
notes-both [] more visitor line old mid new same notes = subst (λ (t : TallySeen). NotesKeys more visitor line t new) same notes
notes-both (key ∷ first) more visitor line old mid new (one, note, rest) notes = (one, note, notes-both first more visitor line one mid new rest notes)

module _ (setup : PanelSetup) (rec : Record) (facts : Facts) where
  abbrev pub keys_up_to : List Panel → ℕ → List Key
  keys_up_to panels i = flat_map (keys_in setup rec facts) (take i panels)

  -- the keys in the panels so far, and those in the next one
  pub one-panel-more : (panels : List Panel) (i : ℕ) (d : Panel) (entry : Option Key) → i < length panels → entry ≡ entry_in setup rec facts (get_or panels i d)
      → keys_up_to panels i ++ with_group entry ≡ keys_up_to panels (i + 1)
  one-panel-more panels i d entry inside is =
      ap (λ e. keys_up_to panels i ++ with_group e) is ∙ flat_map_more (keys_in setup rec facts) [] (take i panels) (get_or panels i d)
      ∙ ap (flat_map (keys_in setup rec facts)) (sym (take_more panels i d inside))
