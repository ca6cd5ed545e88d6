use Rattle.std.proofs.Common.{◌≡◌, ◌++◌, refl, arith, ◌∙◌, sym, ap, subst, length, take, drop, List, ℕ}
use Rattle.std.specs.Result.{IsOk}
use Rattle.std.proofs.lemmas.List.{take_at}
use Rattle.ga_disk.specs.SideState.{MemSide, SideState, fresh, synced}
use Rattle.ga_disk.specs.Pick.{bytes_left, length_left}
use Rattle.ga_disk.proofs.Picked.{few-below, all-left-lent, sized-same}
use Rattle.ga_disk.proofs.side.Side.crash.Goals as goal

fresh-by : (start bytes all : List ℕ) → start ≡ all → bytes ≡ all → (let side : MemSide = record { start = start; state = synced bytes } in side) ≡ fresh all
fresh-by start bytes all s b =
    ap (λ (l : List ℕ). let side : MemSide = record { start = l; state = synced bytes } in side) s
    ∙ ap (λ (l : List ℕ). let side : MemSide = record { start = all; state = synced l } in side) b

pub returns-clause-left : goal.returns-clause-left
returns-clause-left c =
    let was = c.self.inside in
    let s : SideState = record { bytes = was.bytes.items; changed = was.changed.items; synced = was.synced; least = was.least; most = was.most } in
    let sized = c.resize.new.self.items in
    let left = c.scramble-used.new.bytes in
    let lent = c.deref_mut.ensures.value in
    let size = rw c.unwrap.ensures at c.resize.ensures.len in
    let ok : IsOk c.resize.result = subst IsOk (sym c.unwrap.ensures) refl in
    let len : c.length_left-len.result ≡ length_left c.args.pick.now s =
    c.length_left-len.ensures.value ∙ ap (λ (m : MemSide). length_left c.args.pick.now m.state) (sym c.self.view_is) in
    let to : length sized ≡ length_left c.args.pick.now s = omega (arith, ap length lent, c.deref_mut.ensures.len, size, len) in
    let kept : length left ≡ length sized = omega (arith, ap length lent, c.scramble-used.auto.bytes) in
    let full : length left ≡ c.resize.new.self.len = omega (arith, c.scramble-used.auto.bytes, c.deref_mut.ensures.len) in
    let is : left ≡ bytes_left c.args.pick.now c.args.used s = all-left-lent c.args.pick.now c.args.used s _ sized _ left c.deref.ensures.value lent to
    (sized-same was.bytes.items sized _ (λ i before first. c.resize.ensures.by_index.0 i 0 (omega arith) (omega (arith, was.bytes.ok.0)))
    (λ i past before. c.resize.ensures.by_index.1 i 0 ok (omega (arith, was.bytes.ok.0)) (omega arith)))
    kept c.scramble-used.ensures.bytes in
    let taken : take c.resize.new.self.len (left ++ drop (length left) sized) ≡ left = take_at left (drop (length left) sized) c.resize.new.self.len full in
    let copied = rw (c.unwrap-2.ensures, c.clear.ensures.items, c.deref-2.ensures.value) at c.extend_from_slice.ensures.items in
    let bytes : take c.resize.new.self.len (left ++ drop (length left) sized) ≡ bytes_left c.args.pick.now c.args.used s = taken ∙ is in
    c.sync.ensures ∙ fresh-by _ _ _ (copied ∙ bytes) bytes ∙ ap (λ (m : MemSide). fresh (bytes_left c.args.pick.now c.args.used m.state)) c.self.view_is

pub returns-clause-few : goal.returns-clause-few
returns-clause-few c =
    let len = rw c.unwrap.ensures at c.resize.ensures.len in
    omega (arith, c.scramble-used.ensures.used, few-below c.deref.result.now c.self.inside.synced (length c.deref_mut.result.now), c.deref_mut.ensures.len)
