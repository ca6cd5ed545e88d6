use Rattle.std.proofs.Common.{take, refl}
use Rattle.std.proofs.lemmas.List.{take_all}
use Rattle.ga_codec.specs.Steps.Grammar.{name}
use Rattle.ga_codec.proofs.Written.{wrote_none, wrote_next, wrote_list, next_taken}
use Rattle.ga_codec.proofs.writing.put_names.Goals as goal

pub loop-name-init : goal.loop-name-init
loop-name-init c = wrote_none name _

pub loop-name-preserved : goal.loop-name-preserved
loop-name-preserved c = wrote_next name c.loop-name.name-index (take c.loop-name.name-index c.args.names.now) _ c.name-item.result c.put_u64.new.out.items c.loop-name.out.items c.put_name.new.out.items
    (next_taken c.args.names.now c.loop-name.name-index c.name-item.result c.loop-name-test.true c.name-item.is) c.loop-name.invariant c.in_ok-put_name.ensures

pub returns : goal.returns
returns c = wrote_list name _ c.loop-name.name-index (take c.loop-name.name-index c.args.names.now) c.args.names.now c.args.out.now.items c.put_u64.new.out.items c.loop-name.out.items
    (take_all c.loop-name.name-index c.args.names.now c.loop-name-test.false) refl c.in_ok-put_u64.ensures c.loop-name.invariant
