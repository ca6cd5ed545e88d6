use Rattle.std.proofs.Common.{◌≡◌, ◌+◌, ◌++◌, Bool, true, Option, length, refl, sym, ◌∙◌, subst, arith}
use Rattle.std.proofs.lemmas.Result.{err_from_is_err_and}
use Rattle.ga_codec.specs.Pieces.{front_bytes}
use Rattle.ga_codec.specs.Values.{snapshot_value}
use Rattle.ga_codec.specs.declared.snapshot.Snapshot.{Snapshot}
use Rattle.ga_store.specs.Steps.Bodies.{LacksBody, SaysRows, SaysSnapshot, size_of}
use Rattle.ga_store.proofs.BodyReads.{lacks-before}
use Rattle.ga_store.proofs.RecoverDisk.{seen-same}
use Rattle.ga_store.proofs.StartReads.{damaged-start, own-later, snapshot-start}
use Rattle.ga_store.proofs.Streaming.{streams-fail, took-none, took-then}
use Rattle.ga_store.proofs.TakenParts.{of-later}
use Rattle.ga_store.proofs.start_reading.finish_body.Goals as goal

pub returns-in_err-read_rows : goal.returns-in_err-read_rows
returns-in_err-read_rows g c =
    let p = err_from_is_err_and c.from_residual.result c.from_residual.ensures.1 in
    rw (p.1, p.2) (streams-fail c.read_rows.result _ c.in_err-read_rows.was (g.D.Disk.counts_now c.args.disk.now) (took-none _ _ _) c.read_rows.ensures)

pub returns-then-not-branch : goal.returns-then-not-branch
returns-then-not-branch g c =
    let law = g.D.Disk.counts_now c.args.disk.now in
    let rows = c.in_ok-read_rows.ensures.took in
    let body = c.args.body in
    let mid = c.read_rows.new.body in
    let bad = subst (λ (b : Bool). SaysRows c.read_rows.new.stream body mid b rows.0) c.if-not-branch.true rows.2 in
    record {
      looks = rows.1.looks;
      took = (rows.0, rows.1, (tt, λ before rest begun at is. damaged-start body before (rows.0 ++ rest) begun c.requires.good.kind (bad rest is)));
      outside = tt;
    }

pub returns-in_err-snapshot : goal.returns-in_err-snapshot
returns-in_err-snapshot g c =
    let p = err_from_is_err_and c.from_residual-in_err-snapshot.result c.from_residual-in_err-snapshot.ensures.1 in
    let law = g.D.Disk.counts_now c.args.disk.now in
    let rows = c.in_ok-read_rows.ensures.took in
    let body = c.args.body in
    let mid = c.read_rows.new.body in
    rw (p.1, p.2) (streams-fail c.finish_snapshot.result _ c.in_err-snapshot.was law rows.1 c.finish_snapshot.ensures)

pub returns-in_default : goal.returns-in_default
returns-in_default g c =
    let law = g.D.Disk.counts_now c.args.disk.now in
    let rows = c.in_ok-read_rows.ensures.took in
    let body = c.args.body in
    let mid = c.read_rows.new.body in
    let read = subst (λ (b : Bool). SaysRows c.read_rows.new.stream body mid b rows.0) c.if-not-branch.false rows.2 in
    let ended = c.in_ok-snapshot.ensures.took in
    let took = took-then law rows.1 ended.1 in
    let none = subst (λ (o : Option Snapshot). SaysSnapshot c.finish_snapshot.new.stream mid o ended.0) c.in_default.is ended.2 in
    let kind : true ≡ mid.reader.is_snapshot = sym (read.0.kind ∙ c.requires.good.kind) in
    record {
      looks = took.looks;
      took = (
        rows.0 ++ ended.0,
        took,
        (
          tt,
          λ before rest begun at is.
              let lacks = subst (λ (b : Bool). LacksBody b (size_of mid) (front_bytes mid.reader ++ (ended.0 ++ rest))) kind (none rest is) in
              damaged-start body before ((rows.0 ++ ended.0) ++ rest) begun c.requires.good.kind (lacks-before body mid rows.0 ended.0 rest read.0 lacks),
        ),
      );
      outside = tt;
    }

pub returns-then-is_later : goal.returns-then-is_later
returns-then-is_later g c =
    let law = g.D.Disk.counts_now c.args.disk.now in
    let rows = c.in_ok-read_rows.ensures.took in
    let body = c.args.body in
    let mid = c.read_rows.new.body in
    let read = subst (λ (b : Bool). SaysRows c.read_rows.new.stream body mid b rows.0) c.if-not-branch.false rows.2 in
    let ended = c.in_ok-snapshot.ensures.took in
    let took = took-then law rows.1 ended.1 in
    let s = c.in-Some.snapshot in
    let is = subst (λ (o : Option Snapshot). SaysSnapshot c.finish_snapshot.new.stream mid o ended.0) c.in-Some.is ended.2 in
    let own = own-later body.reader.head mid.reader.head s.generation read.0.head is.number in
    record {
      looks = took.looks;
      took = (
        rows.0 ++ ended.0,
        took,
        (
          tt,
          λ before rest begun at here. record {
            snapshot = snapshot_value s;
            next = length before + length (rows.0 ++ ended.0);
            has = snapshot-start body mid before rows.0 ended.0 rest (snapshot_value s) (length before + length (rows.0 ++ ended.0)) begun read.0 is.has refl;
            own_number = own;
            older = c.is_later.ensures.0 c.if-is_later.true;
          },
        ),
      );
      outside = tt;
    }

pub returns : goal.returns
returns g c =
    let law = g.D.Disk.counts_now c.args.disk.now in
    let rows = c.in_ok-read_rows.ensures.took in
    let body = c.args.body in
    let mid = c.read_rows.new.body in
    let read = subst (λ (b : Bool). SaysRows c.read_rows.new.stream body mid b rows.0) c.if-not-branch.false rows.2 in
    let ended = c.in_ok-snapshot.ensures.took in
    let took = took-then law rows.1 ended.1 in
    let s = c.in-Some.snapshot in
    let is = subst (λ (o : Option Snapshot). SaysSnapshot c.finish_snapshot.new.stream mid o ended.0) c.in-Some.is ended.2 in
    let own = own-later body.reader.head mid.reader.head s.generation read.0.head is.number in
    let of = of-later (seen-same took.looks) c.requires.told took.off in
    record {
      looks = took.looks;
      took = (
        rows.0 ++ ended.0,
        took,
        (
          omega (arith, c.place.ensures, of.within),
          λ before rest begun at here.
              let next : c.place.result ≡ length before + length (rows.0 ++ ended.0) = omega (arith, c.place.ensures, at) in
              (snapshot-start body mid before rows.0 ended.0 rest (snapshot_value s) c.place.result begun read.0 is.has next, next, own),
        ),
      );
      outside = tt;
    }
