-- The letters by which a log format names the fields that are read, after a percent sign, as in GoAccess's log formats.
use Rattle.std.specs.Prelude.{ℕ, Bool, ◌==◌, ◌||◌, codes}
use Rattle.ga_base.specs.Bytes.{byte_of}

-- `%h`, the client's address
abbrev pub host_letter : ℕ
host_letter = byte_of (codes "h")

-- `%d`, the date, `%t`, the time of day, and `%x`, both
abbrev pub date_letter : ℕ
date_letter = byte_of (codes "d")

abbrev pub time_letter : ℕ
time_letter = byte_of (codes "t")

abbrev pub both_letter : ℕ
both_letter = byte_of (codes "x")

-- `%r`, the request line; or its parts `%m`, the method, `%U`, the path, `%q`, the query, and `%H`, the protocol
abbrev pub request_letter : ℕ
request_letter = byte_of (codes "r")

abbrev pub method_letter : ℕ
method_letter = byte_of (codes "m")

abbrev pub path_letter : ℕ
path_letter = byte_of (codes "U")

abbrev pub query_letter : ℕ
query_letter = byte_of (codes "q")

abbrev pub protocol_letter : ℕ
protocol_letter = byte_of (codes "H")

-- `%s`, the status code, and `%b`, the size of the answer
abbrev pub status_letter : ℕ
status_letter = byte_of (codes "s")

abbrev pub size_letter : ℕ
size_letter = byte_of (codes "b")

-- `%R`, the referrer, `%u`, the user agent, `%v`, the virtual host, and `%e`, the remote user
abbrev pub referrer_letter : ℕ
referrer_letter = byte_of (codes "R")

abbrev pub agent_letter : ℕ
agent_letter = byte_of (codes "u")

abbrev pub vhost_letter : ℕ
vhost_letter = byte_of (codes "v")

abbrev pub user_letter : ℕ
user_letter = byte_of (codes "e")

-- `%C`, the cache status, `%M`, the MIME type, and `%K`, the TLS settings
abbrev pub cache_letter : ℕ
cache_letter = byte_of (codes "C")

abbrev pub mime_letter : ℕ
mime_letter = byte_of (codes "M")

abbrev pub tls_letter : ℕ
tls_letter = byte_of (codes "K")

-- the time that the answer took: `%D` in microseconds, `%L` in milliseconds and `%T` in seconds
abbrev pub micros_letter : ℕ
micros_letter = byte_of (codes "D")

abbrev pub millis_letter : ℕ
millis_letter = byte_of (codes "L")

abbrev pub seconds_letter : ℕ
seconds_letter = byte_of (codes "T")

-- whether the field has the time that the answer took
abbrev pub is_taken_letter : ℕ → Bool
is_taken_letter letter = letter == micros_letter || letter == millis_letter || letter == seconds_letter
