use Rattle.std.proofs.Common.{refl, ◌≡◌, length, []}
use Rattle.ga_ports.proofs.Results.{if_some-unwrap}
use Rattle.ga_ports.proofs.mem_files.MemFilesFiles.size.Goals as goal

pub returns-clause-sizes : goal.returns-clause-sizes
returns-clause-sizes c =
    let bytes = rw c.deref-2.ensures.value at c.open_bytes.ensures in
    rw (← c.self.view_is) (record {
      ok = (rw (c.measure.ensures, c.call.ensures) refl, if_some-unwrap (λ bytes. length c.open_bytes.result.now ≡ length bytes) _ [] c.open_bytes.result.now bytes refl);
      failed = tt;
    })
