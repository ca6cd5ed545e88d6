-- Lists of steps in a world in memory: logs that grow and change their names, runs, and crashes.
use Rattle.std.specs.Prelude.{◌≡◌, ◌⊎◌, ℕ, List, [], ◌∷◌, ◌++◌, take, slice_get, Option, Some, None}
use Rattle.ga_disk.specs.MemDisk.{disk_images, disk_view}
use Rattle.ga_disk.specs.Images.{OnlyImage}
use Rattle.ga_disk.specs.Pick.{after_bound, after_crash}
use Rattle.ga_ports.specs.MemFiles.{after_growth, after_renaming, files_view}
use Rattle.ga_ports.specs.MemOuts.{outs_view}
use Rattle.ga_one_run.specs.Outside.{Outside, outside_of}
use Rattle.ga_one_run.specs.Configured.{IsRun}
use Rattle.ga_run.specs.declared.history.Step.{Step}
use Rattle.ga_run.specs.declared.history.Step.TheVariants.{Grow, Rename, Run, Crash}
use Rattle.ga_run.specs.declared.history.World.{World}
use Rattle.ga_one_run.specs.declared.status.Status.{Status}

-- what a run sees of a world
abbrev pub seen_of : World → Outside
seen_of world = outside_of (files_view world.files) (disk_view world.disk) (disk_images world.disk) (outs_view world.outs)

-- a run led from one world to another
abbrev pub Runs : List (List ℕ) → Status → World → World → Type 0
Runs words status old new = IsRun words (seen_of old) (seen_of new) status

-- every call of the disk fails that comes after this many more
abbrev pub with_bound : ℕ → World → World
with_bound calls world = record world { disk = after_bound calls world.disk }

-- a crash left one image
abbrev pub with_crash : List ℕ → World → World
with_crash pick world = record world { disk = after_crash pick world.disk }

-- one step, with the status of its run
abbrev pub Steps : Step → Option Status → World → World → Type 0
Steps (Grow name bytes) None old new = new ≡ record old { files = after_growth name bytes old.files }
Steps (Grow name bytes) (Some status) old new = ⊥
Steps (Rename from to) None old new = new ≡ record old { files = after_renaming from to old.files }
Steps (Rename from to) (Some status) old new = ⊥
Steps (Run words) None old new = ⊥
Steps (Run words) (Some status) old new = Runs words status old new
Steps (Crash words calls pick) None old new = ⊥
Steps (Crash words calls pick) (Some status) old new =
    (mid : World) × Runs words status (with_bound calls old) mid × (new ≡ with_crash pick mid)

-- the step changes a log
abbrev pub IsChange : Step → Type 0
IsChange (Grow name bytes) = Unit {0}
IsChange (Rename from to) = Unit {0}
IsChange (Run words) = ⊥
IsChange (Crash words calls pick) = ⊥

-- the statuses so far, and that of a step
abbrev pub and_status : Option Status → List Status → List Status
and_status None statuses = statuses
and_status (Some status) statuses = status ∷ statuses

-- the statuses before, and that of a later step
abbrev pub then_status : List Status → Option Status → List Status
then_status statuses None = statuses
then_status statuses (Some status) = statuses ++ status ∷ []

-- one step after the other
pub data History : List Step → List Status → World → World → Type 0 where
  no_step : {world : World} → History [] [] world world
  step_then : {step : Step} {steps : List Step} {statuses : List Status} {old mid new : World} (status : Option Status)
      → Steps step status old mid → History steps statuses mid new
      → History (step ∷ steps) (and_status status statuses) old new

-- nothing is in the world: no file, no byte on any side, and nothing that a target took
pub record IsBlank (world : World) : Type 0 where
  pub files : world.files.contents ≡ []
  pub disk : OnlyImage (disk_images world.disk) (record { side0 = []; side1 = [] })
  pub stdout : world.outs.stdout.taken ≡ 0
  pub stderr : world.outs.stderr.taken ≡ 0
  pub file : world.outs.file.taken ≡ 0

-- no step was made, or those before one that changes a log
pub record StopsAtChange (steps : List Step) (old new : World) : Type 0 where
  pub made : ℕ
  pub statuses : List Status
  pub history : History (take made steps) statuses old new
  pub stopped : (made ≡ 0) ⊎ ((step : Step) × (slice_get steps made ≡ Some step) × IsChange step)
