-- That a disk holds a database, or has damage.
use Rattle.std.specs.Prelude.{◌≡◌, ℕ, ◌≤◌, length, IfSome}
use Rattle.ga_disk.specs.Disk.{DiskView, max_size}
use Rattle.ga_disk.specs.Images.{Images, OnlyImage}
use Rattle.ga_disk.specs.Sides.{Sides}
use Rattle.ga_store.specs.Database.{DbOf, DbValue}
use Rattle.ga_store.specs.Database.Reading.{damaged, stored}

-- the disk as it reads has this database, and is its one image
pub record Holds (disk : DiskView) (images : Images) (db : DbValue) : Type 0 where
  -- the bytes of the sides, also where the disk doesn't tell them
  pub sides : Sides
  pub told : IfSome disk.seen (λ seen. seen ≡ sides)
  pub only : IfSome disk.seen (OnlyImage images)
  pub size0 : length sides.side0 ≤ max_size
  pub size1 : length sides.side1 ≤ max_size
  pub has : DbOf sides (stored db)

-- the disk as it reads has this damage, and is its one image
pub record IsDamaged (disk : DiskView) (images : Images) (side at : ℕ) : Type 0 where
  -- the bytes of the sides, also where the disk doesn't tell them
  pub sides : Sides
  pub told : IfSome disk.seen (λ seen. seen ≡ sides)
  pub only : IfSome disk.seen (OnlyImage images)
  pub has : DbOf sides (damaged side at)
