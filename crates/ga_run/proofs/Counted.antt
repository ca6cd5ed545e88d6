-- The parts of logs that portions are.
use Rattle.std.proofs.Common.{◌≡◌, ℕ, zero, suc, Bool, true, false, List, [], ◌∷◌, refl, ap, Some, None, if◌then◌else◌}
use Rattle.std.specs.Prelude.{option_map}
use Rattle.std.specs.Str.{bytes_eq}
use Rattle.ga_base.specs.declared.entry.Entry.{Entry}
use Rattle.ga_logs.specs.Following.{AreTold}
use Rattle.ga_logs.specs.Following.AreTold.{told_all, told_then}
use Rattle.ga_logs.specs.Portions.{Follows, IsCountedTo}
use Rattle.ga_resume.specs.declared.follow.Follow.{Follow}
use Rattle.ga_resume.specs.declared.follow.Follow.TheVariants.{Whole, ToEnd, ToLastLine}
use Rattle.ga_logs.specs.declared.portion.Portion.{Portion}
use Rattle.ga_ports.specs.Files.{found}
use Rattle.ga_ports.specs.MemFiles.{only_these}
use Rattle.ga_run.specs.Parts.{ArePartsOf, Part, log_at, place_of}
use Rattle.ga_run.specs.Parts.ArePartsOf.{no_parts, parts_then}

-- where a log of a name is
abbrev pub Placed : List ℕ → List (List ℕ × List ℕ) → List ℕ → Type 0
Placed name logs log = (place : ℕ) × (place_of name logs ≡ Some place) × (log_at logs place ≡ Some log)

placed-by : (name : List ℕ) (first : List ℕ × List ℕ) (logs : List (List ℕ × List ℕ)) (log : List ℕ) → (found name None logs ≡ Some log → Placed name logs log)
    → (b : Bool) → (if b then Some first.1 else found name None logs) ≡ Some log
    → (place : ℕ) × ((if b then Some 0 else option_map (λ place. suc place) (place_of name logs)) ≡ Some place) × (log_at (first ∷ logs) place ≡ Some log)
placed-by name first logs log later true e = (zero, refl, e)
placed-by name first logs log later false e = let h = later e in (suc h.0, ap (option_map (λ (place : ℕ). suc place)) h.1, h.2)

-- a log that is there has a place
pub placed : (name : List ℕ) (logs : List (List ℕ × List ℕ)) (log : List ℕ) → found name None logs ≡ Some log → Placed name logs log
placed name [] log e = cc
placed name (first ∷ logs) log e = placed-by name first logs log (placed name logs log) (bytes_eq first.0 name) e

abbrev pub counted-to : (follow : Follow) (portion : Portion) (old new : List Entry) → Follows follow portion old new → (offset : ℕ) × IsCountedTo follow portion offset
counted-to Whole portion old new h = (portion.segment.end, refl)
counted-to ToEnd portion old new h = (h.0, h.1)
counted-to ToLastLine portion old new h = (h.0, h.1)

abbrev pub parts-of : (follow : Follow) (logs : List (List ℕ × List ℕ)) (names : List (List ℕ)) (old new : List Entry) (portions : List Portion)
    → AreTold follow (Some (only_these logs)) names old new portions → (parts : List Part) × ArePartsOf follow logs names portions parts
parts-of follow logs [] old new portions told_all = ([], no_parts)
parts-of follow logs (name ∷ names) old new portions (told_then {log = log} {mid = mid} {portion = portion} {portions = rest} is reads goes more) =
    let place = placed name logs log is in
    let to = counted-to follow portion old mid goes in
    let later = parts-of follow logs names mid new rest more in (
      record { log = place.0; from = portion.segment.from; to = to.0 } ∷ later.0,
      parts_then (record { log = place.1; from = refl; to = to.1 }) later.1,
    )
