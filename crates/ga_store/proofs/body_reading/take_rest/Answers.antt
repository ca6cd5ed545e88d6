use Rattle.std.proofs.Common.{◌≡◌, ℕ, List, ◌++◌, true, take, refl, sym, ap, subst}
use Rattle.std.specs.Prelude.{◌↔◌}
use Rattle.sha2.specs.Sha256.{sha256}
use Rattle.ga_store.specs.Steps.Stream.{StreamView, Took}
use Rattle.ga_store.proofs.Streaming.{streams-then, took-past}
use Rattle.ga_store.proofs.body_reading.take_rest.Goals as goal

pub returns : goal.returns
returns g c =
    let law = g.D.Disk.counts_now c.args.disk.now in
    let view = g.D.Disk.view c.args.disk.now in
    let images = g.D.Disk.images c.args.disk.now in
    let s = c.args.stream.now in
    let size = c.args.size in
    let rest : List ℕ = take size s.window in
    let piece : List ℕ = take size c.window.result.now in
    let is : piece ≡ rest = ap (λ (t : List ℕ). take size t) c.window.ensures in
    let past = subst (λ (v : StreamView). Took view view images images s v rest) (sym c.take.ensures) (took-past view images size s c.requires.loaded) in
    streams-then c.take_digest.result law past c.take_digest.ensures
    (λ same digest e says. record {
      digest = digest;
      is = refl;
      long = says.long;
      says = λ bytes holds. subst (λ (t : List ℕ). (same ≡ true) ↔ (digest ≡ sha256 (bytes ++ t))) is (says.says (bytes ++ piece) (c.finish-hasher.ensures bytes holds));
    })
