use Rattle.std.proofs.Common.{ℕ, List, ◌∷◌, [], ◌++◌, ◌-◌, ◌≡◌, Bool, false, Option, length, sym, ◌∙◌, ap, subst, inr, arith}
use Rattle.std.specs.Bool.{then_some}
use Rattle.std.proofs.lemmas.Result.{err_from_is_err_and}
use Rattle.ga_base.specs.declared.formats.FormatItem.{FormatItem}
use Rattle.ga_format.specs.FieldKinds.{repeats}
use Rattle.ga_format.specs.Steps.Checks.{IsRefused}
use Rattle.ga_format.proofs.RowLemmas.{begins_shorter}
use Rattle.ga_format.proofs.Reading.{HasRead, opened, read_more}
use Rattle.ga_format.proofs.Faults.{unit_fault, first_is_refusal, reads_whole, no_bytes}
use Rattle.ga_format.proofs.compiling.read_items.Goals as goal

pub returns-in_err-item-clause-fault : goal.returns-in_err-item-clause-fault
returns-in_err-item-clause-fault c =
    let earlier = c.args.earlier.now in
    let text = c.args.text.now in
    let rest = c.loop-rest.rest.now in
    let p = err_from_is_err_and c.from_residual.result c.from_residual.ensures.1 in
    rw (p.1, p.2) (unit_fault earlier text c.loop-rest.items.items c.loop-rest.field rest (length text - length rest) c.in_err-item.field-0.0 c.loop-rest.invariant.read (omega (arith, c.loop-rest.invariant.within)) c.in_err-item.ensures.fault)

pub returns-in_err-check-clause-fault : goal.returns-in_err-check-clause-fault
returns-in_err-check-clause-fault c =
    let earlier = c.args.earlier.now in
    let text = c.args.text.now in
    let rest = c.loop-rest.rest.now in
    let p = err_from_is_err_and c.from_residual-in_err-check.result c.from_residual-in_err-check.ensures.1 in
    rw (p.1, p.2) (inr (first_is_refusal earlier text c.loop-rest.items.items c.loop-rest.field rest (length text - length rest) c.in_ok-item.item c.in_ok-item.after.now c.in_err-check.field-0.0 c.loop-rest.invariant.read (omega (arith, c.loop-rest.invariant.within)) c.in_ok-item.ensures.unit
    (subst (λ (xs : List FormatItem). IsRefused (earlier ++ xs) c.loop-rest.field c.in_ok-item.item (length text - length rest) c.in_err-check.field-0.0) c.deref.ensures.value c.in_err-check.ensures.fault)))

pub loop-rest-preserved : goal.loop-rest-preserved
loop-rest-preserved c =
    let earlier = c.args.earlier.now in
    let text = c.args.text.now in
    let rest = c.loop-rest.rest.now in
    let after = c.in_ok-item.after.now in
    let items = c.loop-rest.items.items in
    let item = c.in_ok-item.item in
    let at : ℕ = length text - length rest in
    let unit = c.in_ok-item.ensures.unit in
    let fresh : repeats (earlier ++ items) item ≡ false = ap (λ (xs : List FormatItem). repeats (earlier ++ xs) item) (sym c.deref.ensures.value) ∙ c.in_ok-check.ensures.ok.1 in
    let read : HasRead earlier text (items ++ (item ∷ [])) (opened item at) after =
    read_more earlier text items c.loop-rest.field rest at item after c.loop-rest.invariant.read (omega (arith, c.loop-rest.invariant.within)) unit c.in_ok-check.ensures.ok.0 fresh in
    let field : opened item at ≡ c.then_some-field.result = sym (c.then_some-field.ensures ∙ ap (λ (b : Bool). then_some b at) c.is_field.ensures) in
    record {
      read = subst (λ (f : Option ℕ). HasRead earlier text c.push.new.self.items f after) field (subst (λ (xs : List FormatItem). HasRead earlier text xs (opened item at) after) (sym c.in_ok-push.ensures.items) read);
      within = omega (arith, c.loop-rest.invariant.within, begins_shorter unit.unit rest after unit.begins);
    }

pub returns-clause-whole : goal.returns-clause-whole
returns-clause-whole c = reads_whole c.args.earlier.now c.args.text.now c.loop-rest.items.items c.loop-rest.field c.loop-rest.rest.now c.loop-rest.invariant.read
    (no_bytes c.loop-rest.rest.now (sym c.is_empty.ensures ∙ c.loop-rest-test.false))
