use Rattle.std.proofs.Common.{◌≡◌, ◌==◌, ◌+◌, ◌-◌, ◌*◌, ◌≤◌, ◌^◌, ℕ, List, [], length, take, min, inl, inr, refl, sym, ap, ◌∙◌, subst, arith, length-take, Err}
use Rattle.std.proofs.lemmas.Bool.{cases_lt, true≢false}
use Rattle.ga_store.specs.Steps.Stream.{StreamView, Took, asked}
use Rattle.ga_store.proofs.BodyReads.{more-asked, piece-has, refused-piece, shown-part}
use Rattle.ga_store.proofs.Streaming.{took-as, took-past, took-then}
use Rattle.ga_store.proofs.body_reading.read_next.Goals as goal

pub returns-in-Ok : goal.returns-in-Ok
returns-in-Ok g c =
    let law = g.D.Disk.counts_now c.args.disk.now in
    let next = c.in_ok-load.ensures.took in
    let loaded = took-as next.0 [] next.2.0 next.1 in
    let s = c.load.new.self in
    let w = s.window in
    let count = c.in-Ok.count in
    let of-body = c.args.body.now.left in
    let view = g.D.Disk.view c.load.new.disk in
    let images = g.D.Disk.images c.load.new.disk in
    let piece : List ℕ = take c.min.result c.window-window.result.now in
    let shown : piece ≡ take (min (length w) of-body) w = shown-part c.min.result of-body c.window-window.result.now w c.window-window.ensures c.min.ensures in
    let read = c.in-Ok.ensures.read in
    let has = piece-has c.args.body.now c.read_piece.new.body count piece w shown read in
    let long : length piece ≡ min (length w) of-body = omega (arith, ap length shown, length-take (min (length w) of-body) w) in
    let le : count ≤ length w = omega (arith, read.goes_on.within, long) in
    let past = subst (λ (v : StreamView). Took view view images images s v (take count w)) (sym c.take.ensures) (took-past view images count s le) in
    let same-asked : asked c.take.new.self ≡ asked s = ap (λ (v : StreamView). asked v) c.take.ensures in
    record {
      looks = next.1.looks;
      took = (
        take count w,
        took-then law loaded past,
        record {
          has = has;
          more = λ e. elim (cases_lt (length w) of-body) [
            | inl short ↦
                let want : c.saturating_add-want.result ≡ min (min (length c.args.stream.now.window * 2) (2 ^ 64 - 1) + 1) (2 ^ 64 - 1) =
                omega (arith, c.saturating_add-want.ensures, c.saturating_mul.ensures, ap length c.window.ensures) in
                let more = more-asked c.args.stream.now s c.saturating_add-want.result of-body loaded.off.size (omega (arith, loaded.off.long)) next.2.1 want short c.requires.room (omega (arith, c.requires.told.within, c.requires.told.fits)) in
                omega (arith, more, same-asked)
            | inr all ↦
                let whole : length piece ≡ of-body = omega (arith, long, all) in
                absurd (true≢false (sym (c.in-Ok.ensures.last whole) ∙ e))
          ];
        },
      );
      outside = tt;
    }

pub returns-in-Err-NotInGrammar : goal.returns-in-Err-NotInGrammar
returns-in-Err-NotInGrammar g c =
    let next = c.in_ok-load.ensures.took in
    let loaded = took-as next.0 [] next.2.0 next.1 in
    let s = c.load.new.self in
    let w = s.window in
    let of-body = c.args.body.now.left in
    let piece : List ℕ = take c.min.result c.window-window.result.now in
    let shown : piece ≡ take (min (length w) of-body) w = shown-part c.min.result of-body c.window-window.result.now w c.window-window.ensures c.min.ensures in
    let none = c.in-Err-NotInGrammar.ensures.refused c.in-Err-NotInGrammar.field-0-0 (ap Err c.in-Err-NotInGrammar.field-0-is) in
    record {
      looks = next.1.looks;
      took = ([], loaded, λ rest is. refused-piece c.args.body.now.reader.is_snapshot (length piece == of-body) _ piece w rest of-body refl shown is.front none);
      outside = tt;
    }
