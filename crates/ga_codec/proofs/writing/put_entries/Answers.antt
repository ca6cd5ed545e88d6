use Rattle.std.proofs.Common.{List, map, take, ap, sym}
use Rattle.std.proofs.lemmas.List.{take_all, length-map}
use Rattle.ga_base.specs.declared.entry.Entry.{Entry}
use Rattle.ga_codec.specs.Values.{entry_value}
use Rattle.ga_codec.specs.Steps.Grammar.{entry}
use Rattle.ga_codec.proofs.Written.{wrote_none, wrote_next, wrote_list, next_mapped}
use Rattle.ga_codec.proofs.writing.put_entries.Goals as goal

pub loop-entry-init : goal.loop-entry-init
loop-entry-init c = wrote_none entry _

pub loop-entry-preserved : goal.loop-entry-preserved
loop-entry-preserved c = wrote_next entry c.loop-entry.entry-index (map entry_value (take c.loop-entry.entry-index c.args.entries.now)) _ (entry_value c.entry-item.result) c.put_u64.new.out.items c.loop-entry.out.items c.put_entry.new.out.items
    (next_mapped entry_value c.args.entries.now c.loop-entry.entry-index c.entry-item.result c.loop-entry-test.true c.entry-item.is) c.loop-entry.invariant c.in_ok-put_entry.ensures

pub returns : goal.returns
returns c = wrote_list entry _ c.loop-entry.entry-index (map entry_value (take c.loop-entry.entry-index c.args.entries.now)) (map entry_value c.args.entries.now) c.args.out.now.items c.put_u64.new.out.items c.loop-entry.out.items
    (ap (λ (xs : List Entry). map entry_value xs) (take_all c.loop-entry.entry-index c.args.entries.now c.loop-entry-test.false)) (sym (length-map c.args.entries.now entry_value)) c.in_ok-put_u64.ensures c.loop-entry.invariant
