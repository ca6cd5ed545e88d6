use Rattle.std.proofs.Common.{sym, subst, inr, List, ◌≡◌, true}
use Rattle.std.specs.List.{list_any}
use Rattle.ga_base.specs.declared.formats.FormatItem.{FormatItem}
use Rattle.ga_base.specs.declared.formats.Needed.{Needed}
use Rattle.ga_format.specs.FieldKinds.{gives}
use Rattle.ga_format.specs.FormatOf.{IsFormat}
use Rattle.ga_format.specs.FieldKinds.{IsFirstMissing}
use Rattle.ga_format.proofs.Answering.{first_is_missing, whole_is_format, formats_are_sound}
use Rattle.ga_format.proofs.compiling.compile_bytes.Goals as goal

pub returns-in-Some-clause-fault : goal.returns-in-Some-clause-fault
returns-in-Some-clause-fault c =
    inr (first_is_missing c.args.text.now c.in_ok-items.items.items c.in-Some.field c.in_ok-items.ensures.whole
    (subst (λ (xs : List FormatItem). IsFirstMissing xs c.in-Some.field) c.deref.ensures.value c.in-Some.ensures))

pub new-requires : goal.new-requires
new-requires c =
    formats_are_sound c.args.text.now c.in_ok-items.items.items
    (whole_is_format c.args.text.now c.in_ok-items.items.items c.in_ok-items.ensures.whole
    (subst (λ (xs : List FormatItem). (need : Needed) → list_any (gives need) xs ≡ true) c.deref.ensures.value c.in-None.ensures))

pub returns-in-None-clause-format : goal.returns-in-None-clause-format
returns-in-None-clause-format c =
    subst (λ (xs : List FormatItem). IsFormat c.args.text.now xs) (sym c.new.ensures)
    (whole_is_format c.args.text.now c.in_ok-items.items.items c.in_ok-items.ensures.whole
    (subst (λ (xs : List FormatItem). (need : Needed) → list_any (gives need) xs ≡ true) c.deref.ensures.value c.in-None.ensures))
