use Rattle.std.proofs.Common.{◌≡◌, ◌≤◌, ◌<◌, ◌+◌, ◌++◌, List, ℕ, Some, get_or, length, set, take, ap, arith, sym, subst, ◌∙◌}
use Rattle.std.specs.Prelude.{slice_get}
use Rattle.smallvec.specs.SmallVec.{SmallVec}
use Rattle.ga_tallies.specs.Steps.Absorbing.{AddsSuch, IsAmong, IsMapped, IsMappedItem}
use Rattle.ga_tallies.specs.Tallies.{lists_in, pairs_from, pairs_in, row_pairs}
use Rattle.ga_tallies.proofs.AddedVisits.{no-rows, row-elsewhere, row-more, written-such}
use Rattle.ga_tallies.proofs.PairLists.{next-row}
use Rattle.ga_tallies.proofs.visiting.add_rows.Goals as goal
use Rattle.ga_tallies.proofs.visiting.add_rows.Goals.{in-Some+in_ok-add_row, in_default}

pub loop-key-init : goal.loop-key-init
loop-key-init c = no-rows c.args.keys.now c.args.visitors.now c.args.first (length c.args.rows.now) (pairs_from c.args.first (lists_in c.args.rows.now))

pub loop-key-preserved : goal.loop-key-preserved
loop-key-preserved c =
    let keys = c.args.keys.now in
    let visitors = c.args.visitors.now in
    let s = c.args.first in
    let many = length c.args.rows.now in
    let k = c.loop-key.key in
    let others = c.args.others.now in
    let row = c.index-others-key.result in
    let before = pairs_in (lists_in (take k others)) in
    let old = pairs_from s (lists_in c.args.rows.now) in
    let rows = c.loop-key.rows in
    let now = pairs_from s (lists_in rows) in
    let so_far : AddsSuch (IsAmong s many (IsMapped keys visitors before)) old now = c.loop-key.invariant in
    let more : pairs_in (lists_in (take (k + 1) others)) ≡ before ++ row_pairs k row.items =
    next-row others k row c.loop-key-test.true ∙ ap (λ (r : SmallVec ℕ). before ++ row_pairs k r.items) (sym c.index-others-key.is) in
    subst (λ (l : List (ℕ × ℕ)). AddsSuch (IsAmong s many (IsMapped keys visitors l)) old (pairs_from s (lists_in c.match-place_among.rows))) (sym more)
    (elim c.match-place_among.branch [
      | in-Some+in_ok-add_row w ↦
          let place = w.in-Some.place in
          let at = w.in-Some.ensures.some in
          let own = w.index-rows-place.result in
          let adds = subst (λ (r : SmallVec ℕ). AddsSuch (IsMappedItem visitors row.items) r.items w.add_row.new.row.items) (sym w.index-rows-place.is)
          (subst (λ (r : List ℕ). AddsSuch (IsMappedItem visitors r) (get_or rows place own).items w.add_row.new.row.items) w.deref.ensures w.in_ok-add_row.ensures) in
          let one = written-such s rows place own w.add_row.new.row visitors row.items at.0 w.index-rows-place.is adds in
          subst (λ (l : List (SmallVec ℕ)). AddsSuch (IsAmong s many (IsMapped keys visitors (before ++ row_pairs k row.items))) old (pairs_from s (lists_in l))) (sym w.rows-is)
          (row-more keys visitors before k row.items s many old now so_far place (pairs_from s (lists_in (set rows place w.add_row.new.row))) (omega (arith, at.0, c.loop-key.auto.rows)) at.1 one)
      | in_default w ↦
          let off : (number : ℕ) → slice_get keys k ≡ Some number → s ≤ number → number < s + many → ⊥ =
          λ number has low high. w.in_default.ensures.none number has low (omega (arith, high, c.loop-key.auto.rows)) in
          subst (λ (l : List (SmallVec ℕ)). AddsSuch (IsAmong s many (IsMapped keys visitors (before ++ row_pairs k row.items))) old (pairs_from s (lists_in l))) (sym w.rows-is)
          (row-elsewhere keys visitors before k row.items s many old now so_far off)
    ])
