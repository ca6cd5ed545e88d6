-- A read after what files have that are shorter than their size.
use Rattle.std.proofs.Common.{◌≡◌, ℕ, ◌-◌, ◌<◌, ◌≤◌, ◌&&◌, ◌==◌, true, Option, Some, Result, Ok, IfOk, IfSome, ap, ◌∙◌, subst, length, min, arith, nat_lt}
use Rattle.std.proofs.lemmas.Bool.{lt-ltb}
use Rattle.ga_counters.specs.declared.failed.Failed.{Failed}
use Rattle.ga_ports.specs.Files.{AreBytesAt, calls_once, gives, is_short}
use Rattle.ga_ports.specs.ShortFiles.{BehindCutFallsShort, short_files_view}

-- nothing that came below the size, where room was there, is short
short-there : (measured : Option ℕ) (at size room : ℕ) → measured ≡ Some size → at < size → 0 < room → is_short measured at room 0 ≡ true
short-there measured at size room is below some =
    ap (λ (m : Option ℕ). is_short m at room 0) is
    ∙ ap (λ b. b && (nat_lt 0 room && (0 == 0))) (lt-ltb at size below)
    ∙ ap (λ b. b && (0 == 0)) (lt-ltb 0 room some)

pub behind-cut : BehindCutFallsShort
behind-cut files files' at size buffer result is below behind some reads cut =
    let none : min (length buffer) (length files.bytes - at) ≡ 0 = omega (arith, behind) in
    let nothing : result ≡ Ok 0 = cut.count ∙ ap Ok none in
    let v = short_files_view files in
    let v' = short_files_view files' in
    let ok = subst (λ (r : Result ℕ Failed). IfOk r (λ n. (n ≤ length buffer) × IfSome v.bytes (AreBytesAt at n buffer)
    × (v' ≡ record v { counts = gives (is_short v.measured at (length buffer) n) at n (calls_once v.counts) }))) nothing reads.ok in
    record {
      nothing = nothing;
      counted = ok.2 ∙ ap (λ b. record v { counts = gives b at 0 (calls_once v.counts) }) (short-there files.measured at size (length buffer) is below some);
    }
