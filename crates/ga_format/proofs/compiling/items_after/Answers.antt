use Rattle.std.proofs.Common.{ℕ, List, Ok, Err, IfOk, IfErr, ◌≡◌, ◌⊎◌, subst}
use Rattle.ga_base.specs.declared.formats.FormatFault.TheVariants.{NoMemory}
use Rattle.ga_format.specs.FormatOf.{ItemsOf}
use Rattle.ga_format.proofs.Answering.{only_items}
use Rattle.ga_format.proofs.compiling.items_after.Goals as goal

pub returns-clause-only : goal.returns-clause-only
returns-clause-only c =
    only_items c.args.earlier.now c.args.text.now c.items_in.result
    (subst (λ (t : List ℕ). IfOk c.items_in.result (λ items. ItemsOf c.args.earlier.now t (Ok items))) c.bytes.ensures.value c.items_in.ensures.items)
    (subst (λ (t : List ℕ). IfErr c.items_in.result (λ fault. (fault ≡ NoMemory) ⊎ ItemsOf c.args.earlier.now t (Err fault))) c.bytes.ensures.value c.items_in.ensures.fault)
