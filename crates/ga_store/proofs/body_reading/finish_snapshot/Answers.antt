use Rattle.std.proofs.Common.{◌≡◌, ◌≤◌, ℕ, List, [], true, Err, length, take, ap, arith, length-take}
use Rattle.std.proofs.lemmas.Result.{err_from_is_err_and}
use Rattle.ga_codec.specs.Pieces.{front_bytes}
use Rattle.ga_codec.specs.Shapes.{SpellSnapshot}
use Rattle.ga_codec.specs.Values.{snapshot_value}
use Rattle.ga_store.proofs.BodyReads.{has-rest, lacks-rest, own-number, refused-rest}
use Rattle.ga_store.proofs.Streaming.{streams-fail, took-as, took-then}
use Rattle.ga_store.proofs.body_reading.finish_snapshot.Goals as goal

pub returns-in-Err-NotInGrammar : goal.returns-in-Err-NotInGrammar
returns-in-Err-NotInGrammar g c =
    let law = g.D.Disk.counts_now c.args.disk.now in
    let next = c.in_ok-load.ensures.took in
    let loaded = took-as next.0 [] next.2.0 next.1 in
    let s = c.load.new.self in
    let front = front_bytes c.args.body.reader in
    let of-body = c.args.body.left in
    let piece : List ℕ = take of-body c.window.result.now in
    let is : piece ≡ take of-body s.window = ap (λ (t : List ℕ). take of-body t) c.window.ensures in
    let le : of-body ≤ length s.window = omega (arith, next.2.1, loaded.off.long, c.requires.room) in
    let none = c.in-Err-NotInGrammar.ensures.refused c.in-Err-NotInGrammar.field-0-0 (ap Err c.in-Err-NotInGrammar.field-0-is) in
    record { looks = next.1.looks; took = ([], loaded, λ rest at. refused-rest true front piece s.window rest of-body le is at.front none); outside = tt }

pub returns-in_err-take_rest : goal.returns-in_err-take_rest
returns-in_err-take_rest g c =
    let p = err_from_is_err_and c.from_residual-in_err-take_rest.result c.from_residual-in_err-take_rest.ensures.1 in
    let law = g.D.Disk.counts_now c.args.disk.now in
    let next = c.in_ok-load.ensures.took in
    let loaded = took-as next.0 [] next.2.0 next.1 in
    rw (p.1, p.2) (streams-fail c.take_rest.result _ c.in_err-take_rest.was law loaded c.take_rest.ensures)

pub returns-then-branch : goal.returns-then-branch
returns-then-branch g c =
    let law = g.D.Disk.counts_now c.args.disk.now in
    let next = c.in_ok-load.ensures.took in
    let loaded = took-as next.0 [] next.2.0 next.1 in
    let s = c.load.new.self in
    let of-body = c.args.body.left in
    let piece : List ℕ = take of-body c.window.result.now in
    let is : piece ≡ take of-body s.window = ap (λ (t : List ℕ). take of-body t) c.window.ensures in
    let le : of-body ≤ length s.window = omega (arith, next.2.1, loaded.off.long, c.requires.room) in
    let long : length (take of-body s.window) ≡ of-body = omega (arith, length-take of-body s.window, le) in
    let rest = c.in_ok-take_rest.ensures.took in
    let took = took-then law loaded rest.1 in
    let has = has-rest SpellSnapshot (snapshot_value c.in-Ok.snapshot) c.args.body c.args.body.digest piece (take of-body s.window) rest.0 _ is long c.in-Ok.ensures.read c.requires.hashed rest.2 c.if-branch.true in
    record {
      looks = took.looks;
      took = (rest.0, took, record { has = has; number = own-number c.args.body.reader.head c.in-Ok.snapshot.generation c.in-Ok.ensures.generation });
      outside = tt;
    }

pub returns-else-branch : goal.returns-else-branch
returns-else-branch g c =
    let law = g.D.Disk.counts_now c.args.disk.now in
    let next = c.in_ok-load.ensures.took in
    let loaded = took-as next.0 [] next.2.0 next.1 in
    let s = c.load.new.self in
    let of-body = c.args.body.left in
    let le : of-body ≤ length s.window = omega (arith, next.2.1, loaded.off.long, c.requires.room) in
    let long : length (take of-body s.window) ≡ of-body = omega (arith, length-take of-body s.window, le) in
    let rest = c.in_ok-take_rest.ensures.took in
    let took = took-then law loaded rest.1 in
    record {
      looks = took.looks;
      took = (
        rest.0,
        took,
        λ more at. lacks-rest true c.args.body c.args.body.digest (take of-body s.window) rest.0 more _ long c.requires.hashed rest.2 c.if-branch.false,
      );
      outside = tt;
    }
