-- What a run over generated lines prints in place of its report (own profile).
use Rattle.std.specs.Prelude.{ℕ, List, [], ◌∷◌, codes, decimal}
use Rattle.std.specs.List.{concat}
use Rattle.hex.specs.Hex.{encode_lower}
use Rattle.sha2.specs.Sha256.{sha256}
use Rattle.ga_report.specs.declared.report.General.{General}

unfoldable pub summary_text : ℕ → General → List ℕ → List ℕ
summary_text n general json =
    concat (codes "generated " ∷ decimal n
    ∷ codes "\nvalid " ∷ decimal general.valid_requests
    ∷ codes "\nfailed " ∷ decimal general.failed_requests
    ∷ codes "\nvisitors " ∷ decimal general.unique_visitors
    ∷ codes "\nbandwidth " ∷ decimal general.bandwidth
    ∷ codes "\nreport " ∷ encode_lower (sha256 json)
    ∷ codes "\n" ∷ [])
