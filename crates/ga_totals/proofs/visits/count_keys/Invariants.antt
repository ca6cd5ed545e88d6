use Rattle.std.proofs.Common.{◌≡◌, ◌+◌, ◌<◌, ◌^◌, length, take}
use Rattle.ga_tallies.specs.Tallies.{lists_in}
use Rattle.ga_totals.specs.Steps.Visits.{AreMarks, counts_of}
use Rattle.ga_totals.proofs.visits.count_keys.Given as goal

abbrev pub invariant-loop-place : goal.invariant-loop-place
invariant-loop-place l = record {
  numbered : l.first + length l.visits < 2 ^ 32;
  marks : AreMarks l.visitors (l.first + l.place + 1) l.marks.items;
  visits : take l.place l.visits ≡ counts_of (lists_in l.rows) l.first l.place;
}
