-- What the words of the tool are read as, word by word.
use Rattle.std.specs.Prelude.{ℕ, List, [], ◌∷◌, codes, if◌then◌else◌, Result, Ok, Err}
use Rattle.std.specs.Str.{bytes_eq}
use Rattle.ga_dbtool.specs.Words.{AreBadAt, Say, Task}
use Rattle.ga_dbtool.specs.Words.Task.{checking, dumping, merging}
use Rattle.ga_dbtool.specs.declared.words.Task.{Task as TaskRead}
use Rattle.ga_dbtool.specs.declared.words.Task.TheVariants.{Check, Dump, Merge}

-- what a task that was read is
abbrev pub task_value : TaskRead → Task
task_value (Check dir) = checking dir.now
task_value (Dump dir) = dumping dir.now
task_value (Merge dir other) = merging dir.now other.now

-- the one name that follows a word, or where the words stop
abbrev pub one_name : List (List ℕ) → Result (List ℕ) ℕ
one_name [] = Err 1
one_name ([] ∷ more) = Err 1
one_name ((byte ∷ bytes) ∷ []) = Ok (byte ∷ bytes)
one_name ((byte ∷ bytes) ∷ next ∷ more) = Err 2

-- the two names that follow `merge`
abbrev pub two_names : List (List ℕ) → Result Task ℕ
two_names [] = Err 1
two_names ([] ∷ more) = Err 1
two_names ((byte ∷ bytes) ∷ []) = Err 2
two_names ((byte ∷ bytes) ∷ [] ∷ more) = Err 2
two_names ((byte ∷ bytes) ∷ (char ∷ chars) ∷ []) =
    if bytes_eq (char ∷ chars) (byte ∷ bytes) then Err 2 else Ok (merging (byte ∷ bytes) (char ∷ chars))
two_names ((byte ∷ bytes) ∷ (char ∷ chars) ∷ next ∷ more) = if bytes_eq (char ∷ chars) (byte ∷ bytes) then Err 2 else Err 3

-- the task of a name
abbrev pub named : (List ℕ → Task) → Result (List ℕ) ℕ → Result Task ℕ
named task (Ok dir) = Ok (task dir)
named task (Err at) = Err at

-- the first word says what the names are for
abbrev pub read_words : List (List ℕ) → Result Task ℕ
read_words [] = Err 0
read_words (verb ∷ names) = if bytes_eq verb (codes "check") then named checking (one_name names)
    else (if bytes_eq verb (codes "dump") then named dumping (one_name names)
    else (if bytes_eq verb (codes "merge") then two_names names else Err 0))

-- what words mean: a task, or where they stop
abbrev pub Mean : List (List ℕ) → Result Task ℕ → Type 0
Mean words (Ok task) = Say words task
Mean words (Err at) = AreBadAt words at
