use Rattle.std.proofs.Common.{List, subst}
use Rattle.ga_base.specs.declared.name.Name.{Name}
use Rattle.ga_codec.specs.Steps.Parts.{Writes, listed}
use Rattle.ga_codec.specs.Steps.Grammar.{key, name, sums}
use Rattle.ga_codec.proofs.Fields.{row_2, row_made}
use Rattle.ga_codec.proofs.Written.{wrote_then, wrote_made}
use Rattle.ga_codec.proofs.writing.put_row.Goals as goal

pub returns : goal.returns
returns c =
    let w3 = subst (λ (names : List Name). Writes (listed name) names c.put_sums.new.out.items c.put_names.new.out.items) c.items.ensures c.in_ok-put_names.ensures in
    let w2 = wrote_then sums (λ _. listed name) c.in_ok-put_sums.ensures w3 in
    wrote_made row_made (wrote_then key (λ _. row_2) c.in_ok-put_key.ensures w2)
