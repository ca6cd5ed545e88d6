use Rattle.std.proofs.Common.{false, true, arith, refl, sym, ap, ◌∙◌, ◌≡◌, ◌<◌, length, Some, None, is_none}
use Rattle.ga_ports.specs.Places.{pairs, place_of, bytes_at}
use Rattle.ga_ports.specs.MemFiles.{bytes_of}
use Rattle.ga_ports.proofs.Places.{moved-at, renamed-absent, renamed-free, bytes_at-renamed}
use Rattle.ga_ports.proofs.contents.change_name.Goals as goal

pub returns-in-Some-clause-names : goal.returns-in-Some-clause-names
returns-in-Some-clause-names c =
    let there : is_none (bytes_of c.args.from.now (pairs c.args.contents.now.items)) ≡ false =
    sym (rw (c.deref-2.ensures.value, c.in-Some.is) at c.find-2.ensures.absent) in
    let unseen : is_none c.find.result ≡ true = grind arith in
    let free : is_none (bytes_of c.args.to (pairs c.args.contents.now.items)) ≡ true =
    sym (rw (c.deref.ensures.value, unseen) at c.find.ensures.absent) in
    let p : place_of c.args.from.now c.args.contents.now.items ≡ Some c.in-Some.place = grind arith in
    let l : c.in-Some.place < length c.args.contents.now.items = grind arith in
    moved-at c.args.from.now c.args.to c.args.contents.now.items c.in-Some.place c.index_mut.result.now _ p l c.index_mut.ensures.value refl refl
    ∙ sym (renamed-free c.args.from.now c.args.to (pairs c.args.contents.now.items) there free)

pub returns-in-Some-clause-bytes : goal.returns-in-Some-clause-bytes
returns-in-Some-clause-bytes c = λ place.
    ap (λ files. bytes_at place files) (returns-in-Some-clause-names c)
    ∙ bytes_at-renamed c.args.from.now c.args.to (pairs c.args.contents.now.items) place

pub returns-in_default-clause-names : goal.returns-in_default-clause-names
returns-in_default-clause-names c =
    let absent : bytes_of c.args.from.now (pairs c.args.contents.now.items) ≡ None = sym (rw c.deref-2.ensures.value at c.in_default.ensures.bytes) in
    sym (renamed-absent c.args.from.now c.args.to (pairs c.args.contents.now.items) absent)
