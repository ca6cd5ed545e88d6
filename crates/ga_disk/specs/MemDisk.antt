-- A disk in memory as one plain record: what its sides held at first, and the calls that changed or synced a side since.
use Rattle.std.specs.Prelude.{◌≡◌, ℕ, ◌≤◌, Bool, true, false, List, [], ◌∷◌, ◌++◌, length, take, Option, Some, None}
use Rattle.ga_disk.specs.Sides.{Both, Sides, of_side, with_side}
use Rattle.ga_disk.specs.Disk.{DiskView}
use Rattle.ga_disk.specs.Images.{Images}
use Rattle.ga_disk.specs.SideState.{SideState, IsImage, synced, writes, cuts}
use Rattle.ga_disk.specs.declared.change.Change.{Change}
use Rattle.ga_disk.specs.declared.change.Change.TheVariants.{Write, Cut, Sync}
use Rattle.ga_disk.specs.declared.disk_counts.DiskCounts.{DiskCounts}

pub record DiskState : Type 0 where
  -- what the sides held when it was made or last crashed, all of it synced
  pub start : Sides
  -- the calls since then that changed or synced a side
  pub changes : List Change
  pub is_open : Bool
  -- the path opened last; None before the first
  pub path : Option (List ℕ)
  -- the calls, counted from 1, that are listed to fail
  pub listed : List ℕ
  -- the number of calls after which every one fails, where there is one
  pub bound : Option ℕ
  pub counts : DiskCounts

-- both sides with all bytes synced
abbrev pub all_synced : Sides → Both SideState
all_synced sides = record { side0 = synced sides.side0; side1 = synced sides.side1 }

-- both sides after one call that changed or synced one
abbrev pub apply : Change → Both SideState → Both SideState
apply (Write side at piece) s = with_side side (writes at piece (of_side side s)) s
apply (Cut side len) s = with_side side (cuts len (of_side side s)) s
apply (Sync side) s = with_side side (synced (of_side side s).bytes) s

-- both sides after such calls in order
abbrev pub replay : Both SideState → List Change → Both SideState
replay s [] = s
replay s (change ∷ changes) = replay (apply change s) changes

-- both sides now
abbrev pub states : DiskState → Both SideState
states d = replay (all_synced d.start) d.changes

abbrev pub bytes_of : Both SideState → Sides
bytes_of s = record { side0 = s.side0.bytes; side1 = s.side1.bytes }

-- the sides of a disk in memory: what they held when it was made or last crashed, and their states now
pub record MemSides : Type 0 where
  pub start : Sides
  pub state : Both SideState

-- sides that hold nothing but these bytes, all of them synced
abbrev pub fresh_sides : Sides → MemSides
fresh_sides sides = record { start = sides; state = all_synced sides }

-- what it is to the program
abbrev pub disk_view : DiskState → DiskView
disk_view d = record {
  is_open = d.is_open;
  seen = Some (bytes_of (states d));
  path = Some d.path;
  steady = true;
  listed = Some d.listed;
  bound = d.bound;
  counts = d.counts;
}

-- what a crash may leave of both sides
pub record AreImages (s : Both SideState) (image : Sides) : Type 0 where
  pub side0 : IsImage s.side0 image.side0
  pub side1 : IsImage s.side1 image.side1

-- what a crash may have left after this many of the calls or more
pub record LeftSince (start : Sides) (changes : List Change) (t : ℕ) (image : Sides) : Type 0 where
  pub after : ℕ
  pub no_earlier : t ≤ after
  pub no_later : after ≤ length changes
  pub left : AreImages (replay (all_synced start) (take after changes)) image

abbrev pub images_of : Sides → List Change → Images
images_of start changes = record {
  moment = length changes;
  now = AreImages (replay (all_synced start) changes);
  since = LeftSince start changes;
}

abbrev pub disk_images : DiskState → Images
disk_images d = images_of d.start d.changes

abbrev pub no_counts : DiskCounts
no_counts = record { calls = 0; faults = 0; opened = 0; starved = 0 }

-- empty sides, not opened, nothing listed, nothing counted
abbrev pub new_disk : DiskState
new_disk = record {
  start = record { side0 = []; side1 = [] };
  changes = [];
  is_open = false;
  path = None;
  listed = [];
  bound = None;
  counts = no_counts;
}

-- one more call is listed to fail
abbrev pub after_listing : ℕ → DiskState → DiskState
after_listing call d = record d { listed = d.listed ++ call ∷ [] }

-- the call is kept in the record
abbrev pub after_change : Change → DiskState → DiskState
after_change change d = record d { changes = d.changes ++ change ∷ [] }

-- a call that changed nothing but the counts
abbrev pub KeepsSides : DiskState → DiskState → Type 0
KeepsSides old new = new ≡ record old { counts = new.counts }
