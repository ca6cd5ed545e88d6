use Rattle.ga_words.proofs.JoinLemmas.{conflict-after, joined-alone, no-place, one-joined}
use Rattle.ga_words.proofs.laws.joined_words.Goals as goal

pub returns : goal.returns
returns c = record {
  whole = λ conf words name fault front back h. no-place c.one_range.ensures conf words name front back fault h;
  place = λ conf words name at front back h. conflict-after c.one_range.ensures conf words name front back at h;
  one = one-joined c.one_range.ensures;
  alone = joined-alone;
}
