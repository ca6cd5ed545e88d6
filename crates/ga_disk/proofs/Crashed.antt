-- What a crash leaves is an image.
use Rattle.std.proofs.Common.{◌≡◌, ℕ, ◌<◌, ◌≤◌, Bool, true, false, List, length, get_or, refl, ◌∙◌, ap, arith, cond}
use Rattle.std.proofs.lemmas.List.FromFn.{get_or-map-range_with_len, length-map-range_with_len}
use Rattle.ga_disk.specs.Sides.{Sides}
use Rattle.ga_disk.specs.SideState.{SideState, IsImage, is_unsure}
use Rattle.ga_disk.specs.MemDisk.{AreImages, DiskState, all_synced, states}
use Rattle.ga_disk.specs.Pick.{byte_left, bytes_left, crashed, is_long, length_left}
use Rattle.ga_disk.specs.Laws.{IsSound, sound-states}
use Rattle.ga_disk.proofs.Images.{only-synced}

between : (long : Bool) (most least : ℕ) → least ≤ most → (least ≤ cond long most least) × (cond long most least ≤ most)
between true most least le = (le, omega arith)
between false most least le = (omega arith, le)

sure-stays : (pick : List ℕ) (used : ℕ) (s : SideState) (i : ℕ) → is_unsure s.changed s.synced i ≡ false
    → byte_left pick used s.changed s.synced s.bytes i ≡ get_or s.bytes i 0
sure-stays pick used s i e = rw e refl

left-one : (pick : List ℕ) (used : ℕ) (s : SideState) → IsSound s → IsImage s (bytes_left pick used s)
left-one pick used s sound =
    let n : ℕ = length_left pick s in
    let f = byte_left pick used s.changed s.synced s.bytes in
    let low = sound.no_shorter in
    let high = sound.no_longer in
    let in_range = between (is_long pick) s.most s.least (omega arith) in
    let long : length (bytes_left pick used s) ≡ length_left pick s = length-map-range_with_len f 0 n in
    record {
      no_shorter = omega (arith, long, in_range.0);
      no_longer = omega (arith, long, in_range.1);
      kept = λ i before sure.
          let within : i < length_left pick s = omega (arith, long) in
          get_or-map-range_with_len f 0 n i i 0 within (omega arith) ∙ sure-stays pick used s i sure;
    }

pub left-both : (pick : List ℕ) (d : DiskState) → AreImages (states d) (crashed pick (states d))
left-both pick d =
    let sound = sound-states d in
    record { side0 = left-one pick _ _ sound.side0; side1 = left-one pick _ _ sound.side1 }

pub only-left : (sides image : Sides) → AreImages (all_synced sides) image → image ≡ sides
only-left sides image are =
    ap (λ (b : List ℕ). let both : Sides = record { side0 = b; side1 = image.side1 } in both) (only-synced sides.side0 image.side0 are.side0)
    ∙ ap (λ (b : List ℕ). let both : Sides = record { side0 = sides.side0; side1 = b } in both) (only-synced sides.side1 image.side1 are.side1)
