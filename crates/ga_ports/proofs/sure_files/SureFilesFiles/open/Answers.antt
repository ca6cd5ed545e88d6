use Rattle.std.proofs.Common.{[], refl, sym}
use Rattle.ga_ports.specs.Places.{pairs}
use Rattle.ga_ports.proofs.Sure.{found-or_empty, is_none-found}
use Rattle.ga_ports.proofs.sure_files.SureFilesFiles.open.Goals as goal

pub returns-clause-opens : goal.returns-clause-opens
returns-clause-opens c =
    let named = pairs c.self.inside.contents.items in
    let place = rw c.deref.ensures.value at c.find-self-inside.ensures.bytes in
    rw (← c.self.view_is) (record {
      ok = (
        is_none-found c.args.name.now [] named,
        rw (c.call.ensures, c.ask.ensures, found-or_empty c.args.name.now named, place) refl,
      );
      failed = tt;
    })

pub returns-clause-exact : goal.returns-clause-exact
returns-clause-exact c = sym (is_none-found c.args.name.now [] c.args.self.now.contents)
