use Rattle.std.proofs.Common.{Option, subst}
use Rattle.std.proofs.lemmas.Result.{err_from_is_err_and}
use Rattle.ga_codec.specs.declared.snapshot.Delta.{Delta}
use Rattle.ga_store.specs.Steps.Records.{SaysDelta}
use Rattle.ga_store.proofs.RecordLemmas.{Behind, lacks-says, takes-says}
use Rattle.ga_store.proofs.record_reading.take_record.Goals as goal

pub returns-in_default : goal.returns-in_default
returns-in_default g c =
    let first = c.in_ok-delta.ensures.took in
    let none = subst (λ (o : Option Delta). SaysDelta c.read_delta.new.stream o first.0) c.in_default.is first.2 in
    record {
      looks = c.in_ok-delta.ensures.looks;
      took = (first.0, first.1, lacks-says c.read_delta.new.stream c.args.growing.now c.args.growing.now first.0 none);
      outside = tt;
    }

pub returns-in_err-take_on : goal.returns-in_err-take_on
returns-in_err-take_on g c =
    let p = err_from_is_err_and c.from_residual-in_err-take_on.result c.from_residual-in_err-take_on.ensures.1 in
    rw (p.1, p.2) (record { looks = c.in_ok-delta.ensures.looks; took = tt; outside = tt })

pub returns : goal.returns
returns g c =
    let first = c.in_ok-delta.ensures.took in
    let has = subst (λ (o : Option Delta). SaysDelta c.read_delta.new.stream o first.0) c.in-Some.is first.2 in
    let behind : Behind (g.D.Disk.view c.args.disk.now).seen c.args.stream.now c.read_delta.new.stream c.args.growing.now.slot c.in-Some.delta first.0 c.place-next.result =
    record {
      gate = c.requires.gate;
      at = c.requires.place;
      off = first.1.off;
      has = has;
      next_is = c.place-next.ensures;
      fits = c.place-next.type_inv;
    } in
    record {
      looks = c.in_ok-delta.ensures.looks;
      took = (
        first.0,
        first.1,
        takes-says c.args.growing.now c.take_on.new.self c.in_ok-take_on.field-0 c.one_delta_reading.ensures.value c.requires.few behind c.in_ok-take_on.ensures,
      );
      outside = tt;
    }
