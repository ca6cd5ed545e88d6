-- How the faults of a merge and of parts are told.
use Rattle.std.specs.Prelude.{ℕ, List, ◌++◌, codes, decimal}
use Rattle.ga_base.specs.declared.counts.Counter.{Counter}
use Rattle.ga_base.specs.declared.counts.Counter.TheVariants.{Lines, Bytes, Micros, Generations}
use Rattle.ga_summary.specs.declared.fault.MergeFault.{MergeFault}
use Rattle.ga_summary.specs.declared.fault.MergeFault.TheVariants.{CounterFull, NoMemory}
use Rattle.ga_summary.specs.declared.not_sound.NotSound.{NotSound as PartsFault}
use Rattle.ga_summary.specs.declared.not_sound.NotSound.TheVariants.{NotSound, NoMemory as NotSoundNoMemory}

abbrev pub counter_name : Counter → List ℕ
counter_name Lines = codes "lines"
counter_name Bytes = codes "bytes"
counter_name Micros = codes "microseconds"
counter_name Generations = codes "generations"

abbrev pub fault_line : MergeFault → List ℕ
fault_line (CounterFull which total) = counter_name which ++ codes " would be " ++ decimal total
fault_line NoMemory = codes "no memory"

abbrev pub not_sound_line : PartsFault → List ℕ
not_sound_line (NotSound at) = codes "not sound at row " ++ decimal at
not_sound_line NotSoundNoMemory = codes "no memory"
