-- Which workers a run can have, and how many bytes a batch of theirs has.
use Rattle.std.specs.Prelude.{◌≤◌, ◌*◌, ℕ}
use Rattle.ga_base.specs.declared.limits.TheConstants.{MAX_CHUNK, MAX_JOBS}
use Rattle.ga_workers.specs.declared.workers.TheConstants.{JOB_BATCH}
use Rattle.ga_workers.specs.declared.workers.Workers.{Workers}

-- this many workers, and this many lines a piece
pub record AreWorkers (workers : Workers) : Type 0 where
  pub some : 1 ≤ workers.jobs
  pub jobs : workers.jobs ≤ MAX_JOBS
  pub line : 1 ≤ workers.chunk
  pub chunk : workers.chunk ≤ MAX_CHUNK

-- the most bytes of a batch that they count: this many for each
abbrev pub batch_limit : Workers → ℕ
batch_limit workers = workers.jobs * JOB_BATCH
