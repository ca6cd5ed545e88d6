-- Nothing is in a new world.
use Rattle.std.proofs.Common.{◌≡◌, ◌≤◌, ℕ, List, [], ◌∷◌, length, ap, sym, subst, refl, arith}
use Rattle.ga_disk.specs.Images.{OnlyImage}
use Rattle.ga_disk.specs.MemDisk.{AreImages, DiskState, disk_images, new_disk, states}
use Rattle.ga_disk.specs.Sides.{Sides}
use Rattle.ga_ports.specs.MemFiles.{FilesState, no_files}
use Rattle.ga_ports.specs.MemOuts.{OutsState, no_outs}
use Rattle.ga_run.specs.History.{IsBlank}
use Rattle.ga_run.specs.declared.history.World.{World}

nil-of : (bytes : List ℕ) → length bytes ≤ 0 → bytes ≡ []
nil-of [] least = refl
nil-of (byte ∷ bytes) least = absurd (omega arith)

empty-sides : (a b : List ℕ) → a ≡ [] → b ≡ [] → let image : Sides = record { side0 = a; side1 = b } in image ≡ record { side0 = []; side1 = [] }
empty-sides a b e f = cc

only-empty : (image : Sides) → AreImages (states new_disk) image → image ≡ record { side0 = []; side1 = [] }
only-empty image h = empty-sides image.side0 image.side1 (nil-of image.side0 h.side0.no_longer) (nil-of image.side1 h.side1.no_longer)

pub blank : (w : World) → w.files ≡ no_files → w.disk ≡ new_disk → w.outs ≡ no_outs → IsBlank w
blank w files disk outs = record {
  files = ap (λ (f : FilesState). f.contents) files;
  disk = subst (λ (d : DiskState). OnlyImage (disk_images d) (record { side0 = []; side1 = [] })) (sym disk) only-empty;
  stdout = ap (λ (o : OutsState). o.stdout.taken) outs;
  stderr = ap (λ (o : OutsState). o.stderr.taken) outs;
  file = ap (λ (o : OutsState). o.file.taken) outs;
}
