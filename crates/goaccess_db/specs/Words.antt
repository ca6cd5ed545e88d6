-- What the program says where the words of its command line can't be had: a line and an exit status of each fault.
use Rattle.std.specs.Prelude.{◌≡◌, ◌≢◌, ℕ, List, codes}
use Rattle.std.specs.IoError.{error_kind}
use Rattle.std.specs.declared.io.Error.{Error}
use Rattle.std.specs.declared.io.ErrorKind.TheVariants.{InvalidData}
use Rattle.goaccess_db.specs.declared.words.WordsFault.{WordsFault}
use Rattle.goaccess_db.specs.declared.words.WordsFault.TheVariants.{NotText, NoMemory}

abbrev pub words_line : WordsFault → List ℕ
words_line NotText = codes "goaccess_db: words are not UTF-8\n"
words_line NoMemory = codes "goaccess_db: no memory\n"

abbrev pub words_code : WordsFault → ℕ
words_code NotText = 1
words_code NoMemory = 7

-- what an error of the system, asked for the arguments, means: they aren't text, or there is no memory for them
pub record IsFaultOf (error : Error) (fault : WordsFault) : Type 0 where
  pub not_text : error_kind error ≡ InvalidData → fault ≡ NotText
  pub no_memory : error_kind error ≢ InvalidData → fault ≡ NoMemory
