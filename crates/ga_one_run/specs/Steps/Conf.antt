-- Why the words of a configuration file weren't read.
use Rattle.std.specs.Prelude.{◌≡◌, ◌⊎◌, ℕ, List, []}
use Rattle.ga_conf.specs.ConfFile.{IsBadLine}
use Rattle.ga_logs.specs.Following.{MissesLog, ReadsPortion}
use Rattle.ga_logs.specs.declared.portion.Portion.{Portion}
use Rattle.ga_ports.specs.Files.{FilesView}
use Rattle.ga_resume.specs.declared.fault.PlaceFault.TheVariants.{FileFault as PlaceFailed, FileShort as PlaceShort, NoMemory as PlaceNoMemory}
use Rattle.ga_resume.specs.declared.follow.Follow.TheVariants.{Whole}
use Rattle.ga_one_run.specs.declared.conf.ConfFileFault.{ConfFileFault}
use Rattle.ga_one_run.specs.declared.conf.ConfFileFault.TheVariants.{Unread, Bad}
use Rattle.ga_one_run.specs.declared.status.Input.TheVariants.{Conf}
use Rattle.ga_one_run.specs.declared.status.Status.{Status}
use Rattle.ga_one_run.specs.declared.status.Status.TheVariants.{BadConf, FileFault, FileShort, NoMemory}

abbrev pub MissesConf : List ℕ → FilesView → FilesView → ConfFileFault → Type 0
MissesConf name old new (Unread fault) = MissesLog Whole [] name old new fault
    ⊎ ((fault ≡ PlaceNoMemory) × ((text : Portion) × ReadsPortion Whole [] name old new text))
MissesConf name old new (Bad line) = (text : Portion) × ReadsPortion Whole [] name old new text × IsBadLine text.bytes line

abbrev pub status_of_conf : ConfFileFault → Status
status_of_conf (Unread PlaceFailed) = FileFault Conf
status_of_conf (Unread (PlaceShort at)) = FileShort Conf at
status_of_conf (Unread PlaceNoMemory) = NoMemory
status_of_conf (Bad line) = BadConf line
