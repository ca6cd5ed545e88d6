use Rattle.std.proofs.Common.{◌≡◌, ◌∙◌, ◌++◌, ℕ, List, ap, arith, drop, length, subst, sym, take}
use Rattle.std.proofs.lemmas.List.{take-append-le, take_all}
use Rattle.smallvec.specs.SmallVec.{SmallVec}
use Rattle.ga_tallies.specs.Steps.Adding.{HoldTheSame}
use Rattle.ga_tallies.specs.Steps.Absorbing.{AddsSuch, IsBrought, remapped_seen}
use Rattle.ga_tallies.specs.Tallies.{lists_in, pairs_in}
use Rattle.ga_tallies.proofs.AllParts.{among-all}
use Rattle.ga_tallies.proofs.pairs.PairList.with.Goals as goal

pub returns : goal.returns
returns g c =
    let P = IsBrought (remapped_seen c.args.remapped.now) in
    let made = c.make_rows.new.rows.items in
    let lent = c.deref_mut.result.now in
    let rows = c.add_in_parts.new.rows in
    let is : lent ≡ made = c.deref_mut.ensures.value in
    let many : c.make_rows.new.rows.len ≡ length rows = omega (arith, c.add_in_parts.auto.rows, c.deref_mut.ensures.len) in
    let back : take c.make_rows.new.rows.len (rows ++ drop (length rows) made) ≡ rows = ap (λ n. take n (rows ++ drop (length rows) made)) many ∙ take-append-le (length rows) rows (drop (length rows) made) (omega arith) ∙ take_all (length rows) rows (omega arith) in
    let same : HoldTheSame c.args.self (pairs_in (lists_in lent)) =
    subst (λ (l : List (SmallVec ℕ)). HoldTheSame c.args.self (pairs_in (lists_in l))) (sym is)
    (subst (λ (l : List (ℕ × ℕ)). HoldTheSame l (pairs_in (lists_in made))) c.self.view_is c.in_ok-make_rows.ensures.same) in
    subst (λ (l : List (SmallVec ℕ)). AddsSuch P c.args.self (pairs_in (lists_in l))) (sym back)
    (among-all P (length lent) c.args.self (pairs_in (lists_in lent)) (pairs_in (lists_in rows)) same
    (λ p is. omega (arith, c.requires p is, c.in_ok-make_rows.ensures.there, c.deref_mut.ensures.len)) c.in_ok-add_in_parts.ensures)
