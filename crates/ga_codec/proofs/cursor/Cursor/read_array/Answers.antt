use Rattle.std.proofs.Common.{◌+◌, length, drop, subst}
use Rattle.ga_codec.specs.declared.fault.CodecFault.TheVariants.{NotInGrammar}
use Rattle.ga_codec.specs.Steps.Parts.{Cursor, Takes, Refuses}
use Rattle.ga_codec.specs.Steps.Grammar.{any_bytes}
use Rattle.ga_codec.proofs.Numbers.{bytes_taken, bytes_ended}
use Rattle.ga_codec.proofs.cursor.Cursor.read_array.Goals as goal

pub returns-in-Some : goal.returns-in-Some
returns-in-Some g c =
    let first = c.in-Some.ensures.cases in
    let v = c.self.view_is in
    let read = bytes_taken g.row.N c.self.inside.place c.self.inside.rest.now c.in-Some.front.now first.same first.enough c.self.invariant.1 in
    rw c.skip.ensures (subst (λ (s : Cursor). Takes (any_bytes g.row.N) c.in-Some.front.now s (record { place = s.place + g.row.N; rest = drop g.row.N s.rest })) v read)

pub returns-in-None : goal.returns-in-None
returns-in-None g c =
    let short = c.in-None.ensures.cases in
    let v = c.self.view_is in
    let ended = bytes_ended g.row.N c.self.inside.place c.self.inside.rest.now short c.self.invariant.1 in
    rw c.fault_at_end.ensures (subst (λ (s : Cursor). Refuses (any_bytes g.row.N) s (NotInGrammar (s.place + length s.rest))) v ended)
