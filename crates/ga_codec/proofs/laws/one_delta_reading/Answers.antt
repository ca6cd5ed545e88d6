use Rattle.ga_codec.specs.Shapes.{IsDeltaShape}
use Rattle.ga_codec.proofs.OneValue.{one_delta_value, one_longest}
use Rattle.ga_codec.proofs.laws.one_delta_reading.Goals as goal

pub returns-clause-value : goal.returns-clause-value
returns-clause-value c = one_delta_value

pub returns-clause-place : goal.returns-clause-place
returns-clause-place c = λ bytes m n h k. one_longest IsDeltaShape bytes m n h.place k.place

pub returns-clause-apart : goal.returns-clause-apart
returns-clause-apart c = λ bytes s at h k. k.none s h
