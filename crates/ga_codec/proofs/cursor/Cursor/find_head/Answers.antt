use Rattle.std.proofs.Common.{Option, Err, sym, ap, ◌∙◌, subst}
use Rattle.std.specs.Option.{option_map}
use Rattle.ga_codec.specs.declared.body_reader.Head.{Head}
use Rattle.ga_codec.specs.declared.fault.CodecFault.TheVariants.{NotInGrammar}
use Rattle.ga_codec.specs.Steps.Pieces.{ReadsHead, head_value}
use Rattle.ga_codec.proofs.Pieces.{head_refused, not_needed}
use Rattle.ga_codec.proofs.cursor.Cursor.find_head.Goals as goal

pub returns-else-needs_more : goal.returns-else-needs_more
returns-else-needs_more c =
    let b = c.args.is_snapshot in
    let is_last = c.args.is_last in
    let fault = c.in-Err.fault in
    let new = c.read_head.new.self in
    let refused = head_refused b is_last c.args.self.now new fault c.in-Err.ensures
    (λ l e.
    let at_end = e ∙ ap NotInGrammar (sym c.end-end.ensures) in
    not_needed c.needs_more.result is_last fault c.end-end.result c.needs_more.ensures c.if-needs_more.false l at_end) in
    subst (λ (known : Option Head). ReadsHead b is_last (option_map head_value known) c.args.self.now new (Err fault)) (sym c.in_default.is) refused
