-- The generated lines (own profile). Line 0 is
-- 10.0.0.0 - - [01/Jan/2024:00:00:00 +0000] "GET /p0.css HTTP/1.1" 200 0 "-" "Mozilla/5.0 (X11; Linux x86_64; rv:100.0) Gecko/20100101 Firefox/100.0"
use Rattle.std.specs.Prelude.{ℕ, List, [], ◌∷◌, ◌++◌, ◌+◌, ◌%◌, ◌==◌, if◌then◌else◌, codes, decimal, zero, suc}
use Rattle.std.specs.List.{concat}
use Rattle.ga_base.specs.Days.{two_digits}

unfoldable pub host : ℕ → List ℕ
host i = concat (codes "10." ∷ decimal (i % 7) ∷ codes "." ∷ decimal (i % 11) ∷ codes "." ∷ decimal (i % 13) ∷ [])

unfoldable pub moment : ℕ → List ℕ
moment i = concat (codes " - - [" ∷ two_digits (1 + i % 28) ∷ codes "/Jan/2024:" ∷ two_digits (i % 24) ∷ codes ":00:00 +0000] " ∷ [])

unfoldable pub request : ℕ → List ℕ
request i = concat (codes "\"GET /p" ∷ decimal (i % 17) ∷ (if i % 5 == 0 then codes ".css" else []) ∷ codes " HTTP/1.1\" " ∷ [])

abbrev pub agent : List ℕ
agent = codes " \"-\" \"Mozilla/5.0 (X11; Linux x86_64; rv:100.0) Gecko/20100101 Firefox/"

unfoldable pub answer : ℕ → List ℕ
answer i =
    concat ((if i % 10 == 9 then codes "404 " else codes "200 ") ∷ decimal (i % 1000) ∷ agent ∷ decimal (100 + i % 3) ∷ codes ".0\"\n" ∷ [])

-- line i, ended by LF
unfoldable pub generated_line : ℕ → List ℕ
generated_line i = host i ++ moment i ++ request i ++ answer i

-- the lines 0 to n - 1
unfoldable pub generated : ℕ → List ℕ
generated zero = []
generated (suc n) = generated n ++ generated_line n
