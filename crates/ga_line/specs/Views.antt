-- What a line says as it is read without owning it: the line that it is, made owned.
use Rattle.std.specs.Prelude.{◌≡◌, ◌≤◌, ℕ, List, [], length, Some, codes}
use Rattle.std.specs.List.{Contains}
use Rattle.std.specs.Str.{IsUtf8}
use Rattle.std.specs.Cow.{cow_str_bytes}
use Rattle.ga_base.specs.Bytes.{byte_of}
use Rattle.ga_base.specs.declared.record.Line.{Line}
use Rattle.ga_base.specs.declared.record.Line.TheVariants.{Skipped, Failed, Good}
use Rattle.ga_base.specs.declared.record.Record.{Record}
use Rattle.ga_base.specs.declared.record.TheConstants.{MAX_LINE}
use Rattle.ga_jsonlog.specs.declared.pieces.Pieces.{Pieces}
use Rattle.ga_jsonlog.specs.Pieces.{PiecesOf}
use Rattle.ga_line.specs.declared.setup.LineSetup.{LineSetup}
use Rattle.ga_line.specs.declared.setup.Shape.{Shape}
use Rattle.ga_line.specs.declared.setup.Shape.TheVariants.{Plain, Json}
use Rattle.ga_line.specs.declared.view.LineView.{LineView}
use Rattle.ga_line.specs.declared.view.LineView.TheVariants as View
use Rattle.ga_line.specs.declared.view.RecordView.{RecordView}
use Rattle.ga_line.specs.Fits.{Part, field}
use Rattle.ga_line.specs.Letters.{query_letter}
use Rattle.ga_line.specs.Records.{IsPassedOver, SaysRequest, kept_of, said}

-- the record whose values a view has
abbrev pub record_of : RecordView → Record
record_of v = record {
  host = cow_str_bytes v.host;
  date = v.date;
  minute = v.minute;
  method = v.method.now;
  protocol = v.protocol.now;
  url = cow_str_bytes v.url;
  status = v.status;
  bytes = v.bytes;
  micros = v.micros;
  referrer = cow_str_bytes v.referrer;
  agent = cow_str_bytes v.agent;
  vhost = cow_str_bytes v.vhost;
  user = cow_str_bytes v.user;
  cache = cow_str_bytes v.cache;
  mime = cow_str_bytes v.mime;
  tls = cow_str_bytes v.tls;
}

-- what the line of a view says
abbrev pub line_in : LineView → Line
line_in View.Skipped = Skipped
line_in View.Failed = Failed
line_in (View.Good v) = Good (record_of v)

-- the byte that begins an escape
abbrev pub percent_sign : ℕ
percent_sign = byte_of (codes "%")

-- Nothing has to be made for a line with these fields: their texts are UTF-8, the query's field says nothing, and so much of
-- the target as is kept is UTF-8 and holds no percent sign.
pub record StandsInLine (setup : LineSetup) (parts : List Part) : Type 0 where
  pub texts : (letter : ℕ) (text : List ℕ) → field letter parts ≡ Some text → IsUtf8 text
  pub no_query : said (field query_letter parts) ≡ []
  pub target : (method target protocol : List ℕ) → SaysRequest parts method target protocol → IsUtf8 (kept_of setup target)
  pub no_escape : (method target protocol : List ℕ) → SaysRequest parts method target protocol → ¬ Contains (kept_of setup target) percent_sign

-- the pieces with which a line is read: for a JSON format those that it has at the leaves, unless it isn't looked into
abbrev pub HasPieces : Shape → List ℕ → Pieces → Type 0
HasPieces (Plain items) line pieces = Unit {0}
HasPieces (Json leaves) line pieces = ¬ IsPassedOver line → length line ≤ MAX_LINE → PiecesOf leaves line pieces
