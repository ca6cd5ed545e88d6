use Rattle.std.proofs.Common.{ℕ, List, Ok, Err, IfOk, IfErr, ◌≡◌, ◌⊎◌, subst}
use Rattle.ga_base.specs.declared.formats.FormatFault.TheVariants.{NoMemory}
use Rattle.ga_jsonlog.specs.JsonFormats.{JsonFormatOf}
use Rattle.ga_jsonlog.proofs.Leaves.{only-answer}
use Rattle.ga_jsonlog.proofs.compiling.compile_json.Goals as goal

pub returns-clause-only : goal.returns-clause-only
returns-clause-only c =
    only-answer c.one_list_of_items.ensures c.args.text.now c.compile_bytes.result
    (subst (λ (t : List ℕ). IfOk c.compile_bytes.result (λ leaves. JsonFormatOf t (Ok leaves))) c.bytes.ensures.value c.compile_bytes.ensures.format)
    (subst (λ (t : List ℕ). IfErr c.compile_bytes.result (λ fault. (fault ≡ NoMemory) ⊎ JsonFormatOf t (Err fault))) c.bytes.ensures.value c.compile_bytes.ensures.fault)
