-- What the images of both sides are after each call, now and since a moment.
use Rattle.std.proofs.Common.{◌≡◌, ◌⊎◌, ℕ, ◌<◌, ◌≤◌, Bool, zero, suc, List, [], ◌∷◌, ◌++◌, length, refl, sym, ◌∙◌, ap, subst, inl, inr, arith, length-append, Some, Ok}
use Rattle.std.proofs.lemmas.Bool.{cases_lt}
use Rattle.std.proofs.lemmas.List.{take_all, take-append-le}
use Rattle.ga_disk.specs.Sides.{Both, Sides, of_side}
use Rattle.ga_disk.specs.Disk.{Steps, TornAt, CutAt}
use Rattle.ga_disk.specs.Images.{Elapses, LeavesSteps, LeavesSynced}
use Rattle.ga_disk.specs.SideState.{SideState, IsImage}
use Rattle.ga_disk.specs.MemDisk.{AreImages, LeftSince, all_synced, apply, replay, bytes_of, images_of}
use Rattle.ga_disk.specs.Laws.{AreSound, sound-replay, sound-all_synced, seen-is-image}
use Rattle.ga_disk.specs.declared.change.Change.{Change}
use Rattle.ga_disk.specs.declared.change.Change.TheVariants.{Write, Cut, Sync}
use Rattle.ga_disk.proofs.Images.{Came, came-by-writes, came-by-cuts, only-synced}

pub replay-more : (s : Both SideState) (changes : List Change) (change : Change) → replay s (changes ++ change ∷ []) ≡ apply change (replay s changes)
replay-more s [] change = refl
replay-more s (first ∷ changes) change = replay-more (apply first s) changes change

-- the record and the sides go on together
pub replays-more : (start start' : Sides) (state state' : Both SideState) (changes changes' : List Change) (change : Change)
    → replay (all_synced start) changes ≡ state → start' ≡ start → state' ≡ apply change state → changes' ≡ changes ++ change ∷ []
    → replay (all_synced start') changes' ≡ state'
replays-more start start' state state' changes changes' change now same step kept =
    let more = replay-more (all_synced start) changes change in
    rw (same, kept) (more ∙ ap (apply change) now ∙ sym step)

left-at : (start : Sides) (changes others : List Change) (image : Sides) → changes ≡ others → AreImages (replay (all_synced start) changes) image
    → AreImages (replay (all_synced start) others) image
left-at start changes others image e left = subst (λ (c : List Change). AreImages (replay (all_synced start) c) image) e left

since-more : (start : Sides) (changes : List Change) (change : Change) (t : ℕ) (image : Sides) → LeftSince start changes t image
    → LeftSince start (changes ++ change ∷ []) t image
since-more start changes change t image since =
    let within : since.after ≤ length changes = since.no_later in
    record {
      after = since.after;
      no_earlier = since.no_earlier;
      no_later = omega (arith, length-append changes (change ∷ []));
      left = left-at start _ _ image (sym (take-append-le since.after changes (change ∷ []) within)) since.left;
    }

since-either : (start : Sides) (changes : List Change) (change : Change) (t : ℕ) (image : Sides) (since : LeftSince start (changes ++ change ∷ []) t image)
    → (length changes < since.after) ⊎ (since.after ≤ length changes)
    → LeftSince start changes t image ⊎ AreImages (replay (all_synced start) (changes ++ change ∷ [])) image
since-either start changes change t image since (inl last) =
    let all : length (changes ++ change ∷ []) ≤ since.after = omega (arith, length-append changes (change ∷ [])) in
    inr (left-at start _ _ image (take_all since.after (changes ++ change ∷ []) all) since.left)
since-either start changes change t image since (inr within) = inl (record {
  after = since.after;
  no_earlier = since.no_earlier;
  no_later = within;
  left = left-at start _ _ image (take-append-le since.after changes (change ∷ []) within) since.left;
})

-- one call more
pub elapses-more : (start : Sides) (changes : List Change) (change : Change) → Elapses (images_of start changes) (images_of start (changes ++ change ∷ []))
elapses-more start changes change = record {
  later = omega (arith, length-append changes (change ∷ []));
  nothing_else = λ t image le since. since-either start changes change t image since (cases_lt (length changes) since.after);
  keeps = λ t image le since. since-more start changes change t image since;
}

sound-of : (start : Sides) (changes : List Change) → AreSound (replay (all_synced start) changes)
sound-of start changes = sound-replay (all_synced start) changes (sound-all_synced start)

-- an image of both sides and the step of one that led to it
abbrev CameBoth : ℕ → (List ℕ → List ℕ → Type 0) → Both SideState → Sides → Type 0
CameBoth side step s image = (before : Sides) × AreImages s before × Steps side step before image

came-0 : (step : List ℕ → List ℕ → Type 0) (s : Both SideState) (image : Sides) → Came step s.side0 image.side0 → IsImage s.side1 image.side1
    → CameBoth zero step s image
came-0 step s image came other =
    (record { side0 = came.from; side1 = image.side1 }, record { side0 = came.was; side1 = other }, record { one = came.stepped; other = refl })

came-1 : (n : ℕ) (step : List ℕ → List ℕ → Type 0) (s : Both SideState) (image : Sides) → Came step s.side1 image.side1 → IsImage s.side0 image.side0
    → CameBoth (suc n) step s image
came-1 n step s image came other =
    (record { side0 = image.side0; side1 = came.from }, record { side0 = other; side1 = came.was }, record { one = came.stepped; other = refl })

both-by-write : (side at : ℕ) (piece : List ℕ) (s : Both SideState) (image : Sides) → at ≤ length (of_side side (bytes_of s)) → AreSound s
    → AreImages (apply (Write side at piece) s) image → CameBoth side (TornAt at (length piece)) s image
both-by-write zero at piece s image le sound are = came-0 _ s image (came-by-writes at piece s.side0 image.side0 le sound.side0 are.side0) are.side1
both-by-write (suc n) at piece s image le sound are = came-1 n _ s image (came-by-writes at piece s.side1 image.side1 le sound.side1 are.side1) are.side0

both-by-cut : (side len : ℕ) (s : Both SideState) (image : Sides) → AreSound s → AreImages (apply (Cut side len) s) image → CameBoth side (CutAt len) s image
both-by-cut zero len s image sound are = came-0 _ s image (came-by-cuts len s.side0 image.side0 sound.side0 are.side0) are.side1
both-by-cut (suc n) len s image sound are = came-1 n _ s image (came-by-cuts len s.side1 image.side1 sound.side1 are.side1) are.side0

both-by-sync : (side : ℕ) (s : Both SideState) (image : Sides) → AreSound s → AreImages (apply (Sync side) s) image → AreImages s image
both-by-sync zero s image sound are = record {
  side0 = subst (IsImage s.side0) (sym (only-synced s.side0.bytes image.side0 are.side0)) (seen-is-image s.side0 sound.side0);
  side1 = are.side1;
}
both-by-sync (suc n) s image sound are = record {
  side0 = are.side0;
  side1 = subst (IsImage s.side1) (sym (only-synced s.side1.bytes image.side1 are.side1)) (seen-is-image s.side1 sound.side1);
}

synced-side : (side : ℕ) (s : Both SideState) (image : Sides) → AreImages (apply (Sync side) s) image → of_side side image ≡ of_side side (bytes_of s)
synced-side zero s image are = only-synced s.side0.bytes image.side0 are.side0
synced-side (suc n) s image are = only-synced s.side1.bytes image.side1 are.side1

module _ (start : Sides) (changes : List Change) where
  unrolled : (change : Change) (image : Sides) → AreImages (replay (all_synced start) (changes ++ change ∷ [])) image
      → AreImages (apply change (replay (all_synced start) changes)) image
  unrolled change image left = subst (λ (s : Both SideState). AreImages s image) (replay-more (all_synced start) changes change) left

  pub leaves-written : {E : Type 0} (side at : ℕ) (piece : List ℕ) (steady : Bool) → at ≤ length (of_side side (bytes_of (replay (all_synced start) changes)))
      → LeavesSteps {E = E} side (TornAt at (length piece)) steady (images_of start changes) (images_of start (changes ++ Write side at piece ∷ [])) (Ok tt)
  leaves-written side at piece steady le = record {
    follows = λ image now. both-by-write side at piece _ image le (sound-of start changes) (unrolled _ image now);
    kept = λ e. tt;
    time = elapses-more start changes _;
  }

  pub leaves-cut : {E : Type 0} (side len : ℕ) (steady : Bool)
      → LeavesSteps {E = E} side (CutAt len) steady (images_of start changes) (images_of start (changes ++ Cut side len ∷ [])) (Ok tt)
  leaves-cut side len steady = record {
    follows = λ image now. both-by-cut side len _ image (sound-of start changes) (unrolled _ image now);
    kept = λ e. tt;
    time = elapses-more start changes _;
  }

  pub leaves-synced : {E : Type 0} (side : ℕ)
      → LeavesSynced {E = E} side (Some (bytes_of (replay (all_synced start) changes))) (images_of start changes) (images_of start (changes ++ Sync side ∷ [])) (Ok tt)
  leaves-synced side = record {
    durable = λ image now. synced-side side _ image (unrolled _ image now);
    none_added = λ image now. both-by-sync side _ image (sound-of start changes) (unrolled _ image now);
    time = elapses-more start changes _;
  }
