use Rattle.std.proofs.Common.{sym, ◌∙◌, subst}
use Rattle.std.specs.List.Sorted.{IsStrictlySortedBy}
use Rattle.ga_base.specs.Orders.{name_cmp}
use Rattle.ga_summary.proofs.NameLists.{put_name_found, put_name_missing, rising_put_name}
use Rattle.ga_summary.proofs.names.insert_name.Goals as goal

pub returns-in-Ok-clause-items : goal.returns-in-Ok-clause-items
returns-in-Ok-clause-items c = c.in-Ok.ensures.items ∙ sym (put_name_missing _ c.requires.rising c.args.name c.in-Err.at (rw (← c.deref.ensures.value) c.in-Err.ensures))

pub returns-in-Ok-clause-rising : goal.returns-in-Ok-clause-rising
returns-in-Ok-clause-rising c = subst (IsStrictlySortedBy name_cmp) (sym (returns-in-Ok-clause-items c)) (rising_put_name _ c.requires.rising c.args.name)

pub returns-in_default-clause-items : goal.returns-in_default-clause-items
returns-in_default-clause-items c = sym (put_name_found _ c.requires.rising c.args.name c.in_default.field-0 (rw (← c.deref.ensures.value) c.in_default.ensures))
