use Rattle.std.proofs.Common.{◌≡◌, ◌+◌, ◌<◌, ◌-◌, min, ℕ, List, [], Ok, drop, refl, sym, ap, subst, arith}
use Rattle.ga_store.specs.Store.{most_read}
use Rattle.ga_store.specs.Steps.Slice.{Gets}
use Rattle.ga_store.specs.Steps.Stream.{StreamView, Streams, asked}
use Rattle.ga_store.proofs.Streaming.{slice-took}
use Rattle.ga_store.proofs.side_stream.SideStream.load_slice.Goals as goal

pub returns : goal.returns
returns g c =
    let s : StreamView = record { side = c.self.inside.side; size = c.self.inside.size; reads = c.self.inside.reads; window = drop c.self.inside.taken c.self.inside.buffer.items } in
    let same : s ≡ c.args.self.now = c.self.view_is in
    let from : asked s ≡ c.asked-from.result = omega (arith, c.asked-from.ensures, ap (λ (v : StreamView). asked v) same) in
    let some : asked s < s.size = omega (arith, c.requires.more, ap (λ (v : StreamView). asked v) same, ap (λ (v : StreamView). v.size) same) in
    let count = c.min-count.result in
    let few : count ≡ min most_read (s.size - asked s) = omega (arith, c.min-count.ensures, from) in
    let raw = c.in_ok-read_slice.ensures.reads.ok in
    let view = g.D.Disk.view c.args.disk.now in
    let view' = g.D.Disk.view c.read_slice.new.disk in
    let images = g.D.Disk.images c.args.disk.now in
    let images' = g.D.Disk.images c.read_slice.new.disk in
    let end = c.read_slice.new.buffer.items in
    let gets = subst (λ (p : ℕ × List ℕ). Gets s.side p.0 count view view' p.1 end) (λ i. (sym from i, c.remove_front.ensures i)) raw in
    let took = slice-took {view = view} {view' = view'} {images = images} {images' = images'} s count end c.in_ok-read_slice.ensures.looks gets few some in
    let next : StreamView = record { side = s.side; size = s.size; reads = s.reads + 1; window = end } in
    subst (λ (v : StreamView). Streams view view' images images' v next (λ _ taken. (taken ≡ []) × (s.reads + 1 ≡ v.reads + 1)) (Ok tt)) same
    (record { looks = c.in_ok-read_slice.ensures.looks; took = ([], took, (refl, refl)); outside = tt })
