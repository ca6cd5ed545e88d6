use Rattle.std.proofs.Common.{arith, refl, sym, ap, ◌∙◌, ◌≡◌, ◌<◌, ◌++◌, ◌∷◌, [], length, Some, None}
use Rattle.ga_ports.specs.Places.{pairs, place_of}
use Rattle.ga_ports.specs.MemFiles.{bytes_of}
use Rattle.ga_ports.proofs.Places.{grown-at, grown-absent, same-at}
use Rattle.std.proofs.lemmas.List.{map-append}
use Rattle.ga_ports.proofs.Results.{on_err}
use Rattle.ga_ports.proofs.contents.append.Goals as goal

pub returns-in_err-extend_from_slice-clause-err : goal.returns-in_err-extend_from_slice-clause-err
returns-in_err-extend_from_slice-clause-err c =
    on_err c.from_residual.result
    (same-at c.args.contents.now.items c.in-Some.place c.index_mut.result.now _ c.index_mut.ensures.value refl c.in_err-extend_from_slice.ensures.items)

pub returns-in-Some-clause-ok : goal.returns-in-Some-clause-ok
returns-in-Some-clause-ok c =
    let p : place_of c.args.name.now c.args.contents.now.items ≡ Some c.in-Some.place = grind arith in
    let l : c.in-Some.place < length c.args.contents.now.items = grind arith in
    grown-at c.args.name.now c.args.bytes.now c.args.contents.now.items c.in-Some.place c.index_mut.result.now _ p l c.index_mut.ensures.value refl
    c.in_ok-extend_from_slice.ensures.items

pub returns-clause-ok : goal.returns-clause-ok
returns-clause-ok c =
    let absent : bytes_of c.args.name.now (pairs c.args.contents.now.items) ≡ None = sym (rw c.deref.ensures.value at c.in_default.ensures.bytes) in
    let named : c.in_ok-name.name ≡ c.args.name.now = grind arith in
    let pushed = ap pairs c.in_ok-push.ensures.items in
    let pushed_pairs : pairs c.push.new.self.items ≡ pairs c.args.contents.now.items ++ (c.args.name.now, c.args.bytes.now) ∷ [] =
    rw (← named, ← c.in_ok-bytes.ensures.items) (pushed ∙ map-append _ c.args.contents.now.items _) in
    pushed_pairs ∙ sym (grown-absent c.args.name.now c.args.bytes.now (pairs c.args.contents.now.items) absent)
