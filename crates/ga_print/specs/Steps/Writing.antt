-- What was written of a CSV text so far.
use Rattle.std.specs.Prelude.{◌≡◌, ℕ, List, Some, Vec, false}
use Rattle.std.specs.Global.{Global}
use Rattle.csv.specs.Writing.{default_writer, text_written, writer_setup, fields_written, has_written}
use Rattle.csv.specs.declared.writer.Writer.{Writer}

-- a writer with the defaults of `csv` has written this text, which ends with a row
pub record HasWritten (text : List ℕ) (writer : Writer (Vec ℕ Global)) : Type 0 where
  pub setup : writer_setup writer ≡ default_writer
  pub fields : fields_written writer ≡ 0
  pub clean : has_written writer ≡ false
  pub text_is : text_written (λ v. Some v.items) writer ≡ Some text
