use Rattle.std.proofs.Common.{◌≡◌, ◌↔◌, Ok, List, ℕ, subst}
use Rattle.ga_hosts.specs.Ranges.{SpellsRange}
use Rattle.ga_hosts.specs.declared.range.Range.{Range}
use Rattle.ga_words.proofs.ValueLemmas.{no-range}
use Rattle.ga_words.proofs.values.range_of.Goals as goal

pub returns-in-Err : goal.returns-in-Err
returns-in-Err c =
    no-range c.read.result c.in-Err.field-0 c.args.text.now c.in-Err.is
    (subst (λ (text : List ℕ). (range : Range) → (c.read.result ≡ Ok range) ↔ SpellsRange text range) c.as_bytes.ensures.value c.read.ensures.ok)
