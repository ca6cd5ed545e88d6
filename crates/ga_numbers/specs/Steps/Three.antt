-- What holds place by place of three lists that are as long.
use Rattle.std.specs.Prelude.{◌≡◌, ◌<◌, ℕ, List, length, slice_index_or}

pub record AllThree {A B C : Type 0} (R : A → B → C → Type 0) (xs : List A) (ys : List B) (zs : List C) : Type 0 where
  pub second : length ys ≡ length xs
  pub third : length zs ≡ length xs
  pub each : (k : ℕ) (x : A) (y : B) (z : C) → k < length xs → R (slice_index_or xs k x) (slice_index_or ys k y) (slice_index_or zs k z)
