use Rattle.std.proofs.Common.{◌≡◌, ◌-◌, min, length, refl, arith}
use Rattle.ga_ports.specs.Files.{AreBytesAt}
use Rattle.ga_ports.proofs.Results.{if_some-cond}
use Rattle.ga_ports.proofs.sure_files.SureFilesFiles.read_at.Goals as goal

pub returns-clause-reads : goal.returns-clause-reads
returns-clause-reads c =
    let bytes = rw c.deref.ensures.value at c.open_bytes.ensures in
    let same = rw bytes at c.copy_from-count.ensures.bytes in
    rw (← c.self.view_is) (record {
      ok = (
        omega (arith, c.copy_from-count.ensures.all),
        if_some-cond (AreBytesAt c.args.at c.copy_from-count.result c.copy_from-count.new.into) c.self.inside.is_open _ same,
        rw (c.give.ensures, c.call.ensures, c.is_short-short.ensures) refl,
      );
      failed = tt;
    })

pub returns-clause-exact : goal.returns-clause-exact
returns-clause-exact c =
    let bytes = rw c.deref.ensures.value at c.open_bytes.ensures in
    let count : c.copy_from-count.result ≡ min (length c.copy_from-count.new.into) (length c.open_bytes.result.now - c.args.at) = omega (arith, c.copy_from-count.ensures.all) in
    rw (← c.self.view_is) (record {
      fails = refl;
      fits = if_some-cond (λ bytes. c.copy_from-count.result ≡ min (length c.copy_from-count.new.into) (length bytes - c.args.at)) c.self.inside.is_open _ (rw bytes at count);
    })
