use Rattle.std.proofs.Common.{◌≡◌, ◌⊎◌, ℕ, Bool, List, Ok, Err, IfOk, IfErr, sym, ◌∙◌, ap, subst}
use Rattle.ga_base.specs.declared.formats.FormatFault.TheVariants.{NoMemory}
use Rattle.ga_line.specs.ShapeTexts.{ShapeBy, is_json}
use Rattle.ga_line.proofs.compiling.compile_shape.Goals as goal

pub returns-then-is_json-clause-shape : goal.returns-then-is_json-clause-shape
returns-then-is_json-clause-shape c =
    let kind = sym c.if-is_json.true ∙ (c.is_json.ensures ∙ ap is_json c.bytes.ensures.value) in
    subst (λ (json : Bool). IfOk c.json_shape.result (λ shape. ShapeBy json c.args.text.now (Ok shape))) kind c.json_shape.ensures.shape

pub returns-then-is_json-clause-fault : goal.returns-then-is_json-clause-fault
returns-then-is_json-clause-fault c =
    let kind = sym c.if-is_json.true ∙ (c.is_json.ensures ∙ ap is_json c.bytes.ensures.value) in
    subst (λ (json : Bool). IfErr c.json_shape.result (λ fault. (fault ≡ NoMemory) ⊎ ShapeBy json c.args.text.now (Err fault))) kind c.json_shape.ensures.fault

pub returns-else-is_json-clause-shape : goal.returns-else-is_json-clause-shape
returns-else-is_json-clause-shape c =
    let kind = sym c.if-is_json.false ∙ (c.is_json.ensures ∙ ap is_json c.bytes.ensures.value) in
    subst (λ (json : Bool). IfOk c.plain_shape.result (λ shape. ShapeBy json c.args.text.now (Ok shape))) kind c.plain_shape.ensures.shape

pub returns-else-is_json-clause-fault : goal.returns-else-is_json-clause-fault
returns-else-is_json-clause-fault c =
    let kind = sym c.if-is_json.false ∙ (c.is_json.ensures ∙ ap is_json c.bytes.ensures.value) in
    subst (λ (json : Bool). IfErr c.plain_shape.result (λ fault. (fault ≡ NoMemory) ⊎ ShapeBy json c.args.text.now (Err fault))) kind c.plain_shape.ensures.fault
