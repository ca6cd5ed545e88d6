use Rattle.std.proofs.Common.{◌≡◌, ◌∙◌, ℕ, false, get_or, replicate, sym, arith, ⊎_elim}
use Rattle.std.proofs.lemmas.Bool.{cases_lt, false≢true}
use Rattle.std.proofs.lemmas.List.{get_or-replicate, get_or_past, length-replicate}
use Rattle.ga_agents.proofs.pair_set.PairSet.of.Goals as goal

none_marked : (n slot : ℕ) → get_or (replicate n false) slot false ≡ false
none_marked n slot =
    ⊎_elim
    (λ inside. get_or-replicate n slot false false inside)
    (λ past. get_or_past (replicate n false) slot false (omega (arith, past, length-replicate n false)))
    (cases_lt slot n)

pub loop-i-init : goal.loop-i-init
loop-i-init c = record {
  long = length-replicate 256 false;
  pairs = λ slot. (λ marked. absurd (false≢true (sym (none_marked 256 slot) ∙ marked)), λ has. absurd (omega (arith, has.1, has.3)));
}
