use Rattle.std.proofs.Common.{◌≡◌, ◌∙◌, ℕ, false, List, [], ◌∷◌, refl, sym, ap}
use Rattle.std.specs.Prelude.{not}
use Rattle.std.specs.List.{list_any}
use Rattle.ga_base.specs.declared.formats.FormatItem.{FormatItem}
use Rattle.ga_format.specs.FieldKinds.{kinds_of, share}
use Rattle.ga_format.proofs.Faults.{no_bytes}
use Rattle.ga_format.proofs.field_kinds.repeats.Goals as goal

-- no kind is shared with any item
none_shared : (items : List FormatItem) → list_any (λ item. share [] (kinds_of item)) items ≡ false
none_shared [] = refl
none_shared (item ∷ items) = none_shared items

pub returns-else-not-is_empty : goal.returns-else-not-is_empty
returns-else-not-is_empty c =
    let none = no_bytes c.kinds_of-kinds.result.now (sym c.is_empty.ensures ∙ c.if-not-is_empty.false) in
    let kinds = sym c.kinds_of-kinds.ensures ∙ none in
    ap not c.if-not-is_empty.false ∙ sym (ap (λ (these : List ℕ). list_any (λ item. share these (kinds_of item)) c.args.earlier.now) kinds ∙ none_shared c.args.earlier.now)
