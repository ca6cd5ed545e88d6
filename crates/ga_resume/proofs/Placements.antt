-- What a size and a read of the front say together.
use Rattle.std.proofs.Common.{◌≡◌, ◌⊎◌, ◌<◌, ◌≤◌, ◌-◌, ◌∙◌, ℕ, List, length, take, drop, min, ap, sym, arith, take_all, inl, inr, Some}
use Rattle.std.proofs.lemmas.Bool.{cases_lt}
use Rattle.ga_ports.specs.Files.{FilesView, calls_once, measures}
use Rattle.ga_resume.specs.ReadPart.{after_reads}
use Rattle.ga_resume.specs.Segment.{measured_as}

pub sized-and-read : (end n : ℕ) (v w u : FilesView) → w ≡ record v { measured = Some end; counts = measures end (calls_once v.counts) }
    → u ≡ after_reads u.counts.calls n w → u ≡ after_reads u.counts.calls n (measured_as end v)
sized-and-read end n v w u e h = h ∙ ap (after_reads u.counts.calls n) e

pub sized-bytes : (end : ℕ) (v w : FilesView) → w ≡ record v { measured = Some end; counts = measures end (calls_once v.counts) } → w.bytes ≡ v.bytes
sized-bytes end v w e = ap (λ (x : FilesView). x.bytes) e

-- the first bytes up to the size, 4096 at most, are the first 4096
pub front-is : (end : ℕ) (bytes front : List ℕ) → front ≡ take (min end 4096 - 0) (drop 0 bytes) → end ≡ length bytes → front ≡ take 4096 bytes
front-is end bytes front e size = by (cases_lt 4096 (length bytes))
  where
    by : (4096 < length bytes) ⊎ (length bytes ≤ 4096) → front ≡ take 4096 bytes
    by (inl long) =
        let most : min end 4096 - 0 ≡ 4096 = omega (arith, long, size) in
        e ∙ ap (λ (n : ℕ). take n bytes) most
    by (inr short) =
        let all : min end 4096 - 0 ≡ length bytes = omega (arith, short, size) in
        e ∙ ap (λ (n : ℕ). take n bytes) all ∙ take_all (length bytes) bytes (omega arith) ∙ sym (take_all 4096 bytes short)
