-- The outside of a run: the files that it reads, the disk of its database and the targets that it writes to, as it sees them.
use Rattle.ga_disk.specs.Disk.{DiskView}
use Rattle.ga_disk.specs.Images.{Images}
use Rattle.ga_ports.specs.Files.{FilesView}
use Rattle.ga_ports.specs.Outs.{OutsView}

pub record Outside : Type 1 where
  pub files : FilesView
  pub disk : DiskView
  -- what a crash may leave of the disk
  pub images : Images
  pub outs : OutsView

abbrev pub outside_of : FilesView → DiskView → Images → OutsView → Outside
outside_of files disk images outs = record { files = files; disk = disk; images = images; outs = outs }
