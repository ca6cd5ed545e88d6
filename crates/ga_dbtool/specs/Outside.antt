-- The outside of a run of the tool: the disks of two databases, of which the second is for `merge` alone, and the targets.
use Rattle.ga_disk.specs.Disk.{DiskView}
use Rattle.ga_disk.specs.Images.{Images}
use Rattle.ga_ports.specs.Outs.{OutsView}

-- a disk, and what a crash may leave of it
pub record DiskSeen : Type 1 where
  pub view : DiskView
  pub images : Images

abbrev pub disk_of : DiskView → Images → DiskSeen
disk_of view images = record { view = view; images = images }

pub record Disks : Type 1 where
  pub first : DiskSeen
  pub second : DiskSeen

abbrev pub disks_of : DiskSeen → DiskSeen → Disks
disks_of first second = record { first = first; second = second }

pub record Outside : Type 1 where
  pub disks : Disks
  pub outs : OutsView

abbrev pub outside_of : DiskSeen → DiskSeen → OutsView → Outside
outside_of first second outs = record { disks = disks_of first second; outs = outs }
