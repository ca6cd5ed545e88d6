use Rattle.std.proofs.Common.{List, ℕ, drop}
use Rattle.ga_dates.specs.declared.date_parts.DateParts.{DateParts}
use Rattle.ga_dates.proofs.ReadLemmas.{Reads}
use Rattle.ga_dates.proofs.read.read_parts.Given as goal

abbrev pub invariant-loop-item : goal.invariant-loop-item
invariant-loop-item l = record {
  forth : (g : DateParts) (rest : List ℕ) → Reads l.items l.text l.initial.parts g rest → Reads (drop l.item-index l.items) l.rest l.parts g rest;
  back : (g : DateParts) (rest : List ℕ) → Reads (drop l.item-index l.items) l.rest l.parts g rest → Reads l.items l.text l.initial.parts g rest;
}
