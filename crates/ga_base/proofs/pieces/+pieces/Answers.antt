use Rattle.std.proofs.Common.{[], append-nil, refl, rules, sym}
use Rattle.std.proofs.lemmas.Result.{IfOk-at_ok}
use Rattle.ga_base.specs.Pieces.{MakesPieces, TakesPieces, halves}
use Rattle.ga_base.proofs.InPieces.{one-piece, takes-high, takes-low}
use Rattle.ga_base.proofs.pieces.+pieces.Goals as goal

pub work-requires : goal.work-requires
work-requires g t c = c.requires.each c.args.items [] [] (sym (append-nil c.args.items.now))

pub returns-then-pieces-lt2 : goal.returns-then-pieces-lt2
returns-then-pieces-lt2 g t c = one-piece g.W.Fn c.args.work.now c.args.items.now c.work.result (record { shown = c.args.items; shows = refl; says = record { met = c.work.ensures } })

pub join-front-requires-after_bounds : goal.join-front-requires-after_bounds
join-front-requires-after_bounds g t c κs within =
    let cut = c.split_at.ensures.by_index.0 in
    let low : TakesPieces g.W.Fn c.args.work.now c.split_at.result.0.now = takes-low g.W.Fn c.args.work.now c.args.items.now c.split_at.result.0.now c.split_at.result.1.now cut c.requires in
    let high : TakesPieces g.W.Fn c.args.work.now c.split_at.result.1.now = takes-high g.W.Fn c.args.work.now c.args.items.now c.split_at.result.0.now c.split_at.result.1.now cut c.requires in
    search rules

pub returns : goal.returns
returns g t c =
    let work = c.args.work.now in
    halves c.split_at.result.0.now c.split_at.result.1.now c.in_ok-made.made.items c.in_ok-back.field-0.items c.split_at.ensures.by_index.0
    (IfOk-at_ok (λ v. MakesPieces g.W.Fn work c.split_at.result.0.now v.items) c.in_ok-made.was c.join-front.ensures.first)
    (IfOk-at_ok (λ v. MakesPieces g.W.Fn work c.split_at.result.1.now v.items) c.in_ok-back.was c.join-front.ensures.second) c.in_ok-append.ensures.items
