use Rattle.std.proofs.Common.{◌≡◌, ◌<◌, ◌-◌, ℕ, List, length, get_or, ap, ◌∙◌, subst, arith}
use Rattle.std.specs.List.Sorted.{IsPermutation}
use Rattle.std.proofs.lemmas.List.{get_or_default}
use Rattle.ga_report.proofs.Bars.{from-bar, none-goes}
use Rattle.ga_report.proofs.kept_days.first_kept.Goals as goal

pub returns-then-len-keep : goal.returns-then-len-keep
returns-then-len-keep g c =
    let rows = (g.T.RowSource.view c.args.source.now).rows in
    none-goes c.args.keep rows c.totals-totals.ensures.sound (omega (arith, c.if-len-keep.true, c.len.ensures, c.in_ok-dates.dates.ok, ap length c.in_ok-dates.ensures))

pub returns : goal.returns
returns g c =
    let rows = (g.T.RowSource.view c.args.source.now).rows in
    let sorted = c.sort_unstable.new.self.items in
    let moved = subst (λ (dates : List ℕ). IsPermutation dates sorted) c.in_ok-dates.ensures c.sort_unstable.ensures.permutation in
    let long : c.args.keep < length sorted = omega (arith, c.if-len-keep.false, c.len.ensures, c.in_ok-dates.dates.ok, c.sort_unstable.ensures.len) in
    let place : c.len-2.result - c.args.keep ≡ length sorted - c.args.keep = omega (arith, c.len-2.ensures, c.sort_unstable.new.self.ok) in
    let last : c.index.result.now ≡ get_or sorted (length sorted - c.args.keep) 0 =
    c.index.ensures ∙ ap (λ k. get_or sorted k c.index.result.now) place ∙ get_or_default sorted (length sorted - c.args.keep) c.index.result.now 0 (omega (arith, long, c.requires)) in
    from-bar c.args.keep rows c.totals-totals.ensures.sound c.requires sorted moved c.sort_unstable.ensures.sorted long c.index.result.now last
