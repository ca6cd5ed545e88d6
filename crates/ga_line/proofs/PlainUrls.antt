-- Decoding changes nothing where there is no percent sign.
use Rattle.std.proofs.Common.{◌≡◌, ◌≢◌, ℕ, zero, suc, ◌<◌, Bool, true, List, [], ◌∷◌, length, get_or, Option, Some, None, refl, sym, ap, ◌∙◌, arith, is_some}
use Rattle.std.specs.Prelude.{not}
use Rattle.std.specs.Str.Lossy.{utf8_lossy}
use Rattle.std.proofs.lemmas.Bool.{false≢true, eq-eqb}
use Rattle.memchr.specs.Find.{IsFirstByte, is_byte}
use Rattle.percent_encoding.specs.Percent.{percent_decode}
use Rattle.percent_encoding.proofs.PercentLemmas.{percent_decode-nil, percent_decode_not_percent}
use Rattle.ga_requests.specs.Urls.{decoded, url_text}

plain-decode : (bytes : List ℕ) → ((k : ℕ) → k < length bytes → get_or bytes k 0 ≢ 37) → percent_decode bytes ≡ bytes
plain-decode [] none = percent_decode-nil
plain-decode (b ∷ bytes) none =
    percent_decode_not_percent b bytes (none 0 (omega arith)) ∙ ap (λ (bs : List ℕ). b ∷ bs) (plain-decode bytes (λ k lt. none (suc k) (omega arith)))

plain-decoded : (times : ℕ) (bytes : List ℕ) → ((k : ℕ) → k < length bytes → get_or bytes k 0 ≢ 37) → decoded times bytes ≡ bytes
plain-decoded zero bytes none = refl
plain-decoded (suc times) bytes none = ap percent_decode (plain-decoded times bytes none) ∙ plain-decode bytes none

pub plain-url : (times : ℕ) (bytes : List ℕ) (r : Option ℕ) (test : Bool) → IsFirstByte (is_byte 37) bytes r → is_some r ≡ not test → test ≡ true → url_text times bytes ≡ utf8_lossy bytes
plain-url times bytes None test none told on = ap utf8_lossy (plain-decoded times bytes (λ k lt is. none k (omega arith) lt (eq-eqb _ _ is)))
plain-url times bytes (Some k) test found told on = absurd (false≢true (sym (ap not on) ∙ sym told))
