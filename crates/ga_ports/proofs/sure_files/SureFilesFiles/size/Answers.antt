use Rattle.std.proofs.Common.{◌≡◌, refl, ap, length}
use Rattle.ga_ports.proofs.Results.{if_some-cond}
use Rattle.ga_ports.proofs.sure_files.SureFilesFiles.size.Goals as goal

pub returns-clause-sizes : goal.returns-clause-sizes
returns-clause-sizes c =
    let bytes = rw c.deref.ensures.value at c.open_bytes.ensures in
    rw (← c.self.view_is) (record {
      ok = (
        rw (c.measure.ensures, c.call.ensures) refl,
        if_some-cond (λ bytes. length c.open_bytes.result.now ≡ length bytes) c.self.inside.is_open _ (ap length bytes),
      );
      failed = tt;
    })
