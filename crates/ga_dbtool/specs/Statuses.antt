-- The exit status of a run of the tool, and the line that it writes to standard error.
use Rattle.std.specs.Prelude.{ℕ, List, [], ◌∷◌, codes, decimal}
use Rattle.ga_base.specs.declared.counts.Counter.{Counter}
use Rattle.ga_base.specs.declared.counts.Counter.TheVariants.{Lines, Bytes, Micros, Generations}
use Rattle.ga_targets.specs.Printing.{joined}
use Rattle.ga_dbtool.specs.declared.status.DbStatus.{DbStatus}
use Rattle.ga_dbtool.specs.declared.status.DbStatus.TheVariants.{Done, BadWords, DiskFault, OutFault, CounterFull, DbDamaged, NoMemory, KeepDiffers, SharedEntry}

-- 0 where all is done, 1 for the words, 3 for a disk, 4 for standard output, 5 for a full counter, 6 for a damaged database, 7 for
-- lack of memory, 8 for databases that keep different numbers of days, 9 for a log that is in both
abbrev pub code_of : DbStatus → ℕ
code_of Done = 0
code_of (BadWords at) = 1
code_of (DiskFault db) = 3
code_of (OutFault to at) = 4
code_of (CounterFull which total) = 5
code_of (DbDamaged db side at) = 6
code_of NoMemory = 7
code_of (KeepDiffers stored given) = 8
code_of (SharedEntry left right) = 9

abbrev pub counter_name : Counter → List ℕ
counter_name Lines = codes "lines "
counter_name Bytes = codes "bytes "
counter_name Micros = codes "micros "
counter_name Generations = codes "generations "

-- the pieces of the line
abbrev pub fault_pieces : DbStatus → List (List ℕ)
fault_pieces Done = []
fault_pieces (BadWords at) = codes "goaccess_db: word " ∷ decimal at ∷ codes ": usage\n" ∷ []
fault_pieces (DiskFault db) = codes "goaccess_db: database " ∷ decimal db ∷ codes ": device failed\n" ∷ []
fault_pieces (OutFault to at) = codes "goaccess_db: standard output: write failed after " ∷ decimal at ∷ codes " bytes\n" ∷ []
fault_pieces (CounterFull which total) =
    codes "goaccess_db: counter full: " ∷ counter_name which ∷ decimal total ∷ codes "\n" ∷ []
fault_pieces (DbDamaged db side at) =
    codes "goaccess_db: database " ∷ decimal db ∷ codes ": side " ∷ decimal side ∷ codes " damaged at " ∷ decimal at ∷ codes "\n" ∷ []
fault_pieces NoMemory = codes "goaccess_db: no memory\n" ∷ []
fault_pieces (KeepDiffers stored given) =
    codes "goaccess_db: keep-last: stored " ∷ decimal stored ∷ codes ", given " ∷ decimal given ∷ codes "\n" ∷ []
fault_pieces (SharedEntry left right) =
    codes "goaccess_db: entries " ∷ decimal left ∷ codes " and " ∷ decimal right ∷ codes " are one log\n" ∷ []

abbrev pub fault_line : DbStatus → List ℕ
fault_line status = joined (fault_pieces status)
