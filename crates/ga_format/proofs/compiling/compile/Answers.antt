use Rattle.std.proofs.Common.{ℕ, List, Ok, Err, IfOk, IfErr, ◌≡◌, ◌⊎◌, subst}
use Rattle.ga_base.specs.declared.formats.FormatFault.TheVariants.{NoMemory}
use Rattle.ga_format.specs.FormatOf.{FormatOf}
use Rattle.ga_format.proofs.Answering.{only_result}
use Rattle.ga_format.proofs.compiling.compile.Goals as goal

pub returns-clause-only : goal.returns-clause-only
returns-clause-only c =
    only_result c.args.text.now c.compile_bytes.result
    (subst (λ (t : List ℕ). IfOk c.compile_bytes.result (λ format. FormatOf t (Ok format))) c.bytes.ensures.value c.compile_bytes.ensures.format)
    (subst (λ (t : List ℕ). IfErr c.compile_bytes.result (λ fault. (fault ≡ NoMemory) ⊎ FormatOf t (Err fault))) c.bytes.ensures.value c.compile_bytes.ensures.fault)
