-- Views over which no call can fail, whatever form has them, and what that says of a trace of calls.
use Rattle.std.specs.Prelude.{◌≡◌, [], Some, None, is_some, true}
use Rattle.std.specs.Option.{ForSome}
use Rattle.ga_ports.specs.Files.{FilesView}
use Rattle.ga_ports.specs.Outs.{OutsView, target}
use Rattle.ga_ports.specs.declared.outs.To.{To}

-- no call is listed to fail, and each name gives a file
pub record AreSureFiles (v : FilesView) : Type 0 where
  pub listed : v.listed ≡ Some []
  pub names : ForSome v.contents (λ contents. is_some contents.others ≡ true)

-- no fault was counted, and no name that is absent
pub record NoFileFaults (old new : FilesView) : Type 0 where
  pub faults : new.counts.faults ≡ old.counts.faults
  pub absent : new.counts.absent ≡ old.counts.absent

-- no call is listed to fail, and no target has a room
pub record AreSureOuts (v : OutsView) : Type 0 where
  pub listed : v.listed ≡ Some []
  pub rooms : (to : To) → (target to v).room ≡ None

-- no fault of any target was counted
abbrev pub NoOutFaults : OutsView → OutsView → Type 0
NoOutFaults old new = (to : To) → (target to new).faults ≡ (target to old).faults
