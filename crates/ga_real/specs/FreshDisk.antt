-- The disk of the system: what it is before the first call, and what it tells of a crash.
use Rattle.std.specs.Prelude.{Option, Some, None, false, IfSome}
use Rattle.ga_disk.specs.Sides.{Sides}
use Rattle.ga_disk.specs.Disk.{DiskView}
use Rattle.ga_disk.specs.Images.{Images}
use Rattle.ga_disk.specs.MemDisk.{no_counts}

-- it isn't open, and nothing is counted
abbrev pub no_disk_open : DiskView
no_disk_open = record { is_open = false; seen = None; path = None; steady = false; listed = None; bound = None; counts = no_counts }

-- a crash may leave anything at any moment
abbrev pub any_images : Images
any_images = record { moment = 0; now = λ image. Unit {0}; since = λ t image. Unit {0} }

-- what a read gives is one of them
pub reads-as-any : (seen : Option Sides) → IfSome seen any_images.now
reads-as-any None = tt
reads-as-any (Some image) = tt
