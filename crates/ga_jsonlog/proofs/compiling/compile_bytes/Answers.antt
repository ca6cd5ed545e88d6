use Rattle.std.proofs.Common.{◌≡◌, ◌∙◌, ℕ, [], List, Option, Some, Err, MatchOption, refl, sym, ap, subst, inl, inr, ◌⊎◌, true}
use Rattle.std.specs.List.{list_any}
use Rattle.std.proofs.lemmas.Result.{err_from_is_err_and}
use Rattle.serde_json.specs.Data.{Data, Members, object}
use Rattle.serde_json.specs.View.{view}
use Rattle.serde_json.specs.declared.value.Value.{Value}
use Rattle.ga_base.specs.declared.formats.FormatItem.{FormatItem}
use Rattle.ga_base.specs.declared.formats.Needed.{Needed}
use Rattle.ga_format.specs.FieldKinds.{IsFirstMissing, gives}
use Rattle.ga_jsonlog.specs.declared.leaf.JsonLeaf.{JsonLeaf}
use Rattle.ga_jsonlog.specs.declared.places.Place.{Place}
use Rattle.ga_jsonlog.specs.Objects.{IsObject}
use Rattle.ga_jsonlog.specs.Places.{places}
use Rattle.ga_jsonlog.specs.JsonFormats.{AreLeaves, IsJsonFormat, all_items, places_of}
use Rattle.ga_jsonlog.proofs.Leaves.{bad-place}
use Rattle.ga_jsonlog.proofs.compiling.compile_bytes.Goals as goal

-- the object that was read, and its places as they were found
read-as : (text : List ℕ) (read : Option Value) (value : Value) → read ≡ Some value → MatchOption read ((ms : Members) → ¬ IsObject text ms) (λ v. (ms : Members) × (view v ≡ object ms) × IsObject text ms)
    → (ms : Members) × (view value ≡ object ms) × IsObject text ms
read-as text read value is m = subst (λ (o : Option Value). MatchOption o ((ms : Members) → ¬ IsObject text ms) (λ v. (ms : Members) × (view v ≡ object ms) × IsObject text ms)) is m

pub returns-in_err-read-clause-fault : goal.returns-in_err-read-clause-fault
returns-in_err-read-clause-fault c =
    let p = err_from_is_err_and c.from_residual-in_err-read.result c.from_residual-in_err-read.ensures.1 in
    let found = read-as c.args.text.now c.in_ok-value.field-0 c.in-Some.value c.in-Some.is c.in_ok-value.ensures in
    let same = c.deref.ensures.value ∙ (c.in_ok-places.ensures ∙ ap (places []) found.1) in
    rw (p.1, p.2) (bad-place c.args.text.now found.0 found.2 c.deref.result.now c.in_err-read.field-0.0 same c.in_err-read.ensures.fault)

pub returns-in-Some-first_missing-clause-fault : goal.returns-in-Some-first_missing-clause-fault
returns-in-Some-first_missing-clause-fault c =
    let found = read-as c.args.text.now c.in_ok-value.field-0 c.in-Some.value c.in-Some.is c.in_ok-value.ensures in
    let same = c.deref.ensures.value ∙ (c.in_ok-places.ensures ∙ ap (places []) found.1) in
    let read = c.in_ok-read.read in
    let given = c.deref-2.ensures.value ∙ c.in_ok-read.ensures.leaves.1 in
    inr (
      found.0,
      found.2,
      (
        read.leaves.items,
        subst (λ (ps : List Place). AreLeaves [] ps read.leaves.items) same c.in_ok-read.ensures.leaves.0,
        subst (λ (items : List FormatItem). IsFirstMissing items c.in-Some-first_missing.field) given c.in-Some-first_missing.ensures,
      ),
    )

pub returns-clause-format : goal.returns-clause-format
returns-clause-format c =
    let found = read-as c.args.text.now c.in_ok-value.field-0 c.in-Some.value c.in-Some.is c.in_ok-value.ensures in
    let same = c.deref.ensures.value ∙ (c.in_ok-places.ensures ∙ ap (places []) found.1) in
    let read = c.in_ok-read.read in
    let given = c.deref-2.ensures.value ∙ c.in_ok-read.ensures.leaves.1 in
    let own = c.deref-2.result.now in
    let none = subst (λ (missing : Option Needed). MatchOption missing ((need : Needed) → list_any (gives need) own ≡ true) (IsFirstMissing own)) c.in-None.is c.first_missing.ensures in
    subst (IsJsonFormat c.args.text.now) (sym c.new.ensures) (record {
      members = found.0;
      is_object = found.2;
      good = subst (λ (ps : List Place). AreLeaves [] ps read.leaves.items) same c.in_ok-read.ensures.leaves.0;
      given = subst (λ (items : List FormatItem). (need : Needed) → list_any (gives need) items ≡ true) given none;
    })
