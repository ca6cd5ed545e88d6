-- What the images of one side are after a write, a cut and a sync.
use Rattle.std.proofs.Common.{◌≡◌, ◌⊎◌, inl, inr, ℕ, ◌+◌, ◌<◌, ◌≤◌, ◌||◌, Bool, true, false, cond, List, [], ◌∷◌, ◌++◌, length, get_or, take, map, max, min, refl, sym, ◌∙◌, arith, nat_le}
use Rattle.std.proofs.lemmas.Bool.Decides.{nat_tests}
use Rattle.std.proofs.lemmas.List.{get_or-take}
use Rattle.std.proofs.lemmas.Grind.{same_number_lists}
use Rattle.std.specs.List.{range_with_len}
use Rattle.std.proofs.lemmas.List.FromFn.{get_or-map-range_with_len, length-map-range_with_len}
use Rattle.ga_disk.specs.Disk.{written, TornAt, CutAt}
use Rattle.ga_disk.specs.SideState.{SideState, IsImage, is_within, is_unsure, synced, writes, cuts}
use Rattle.ga_disk.specs.Laws.{IsSound, is_unsure-more, after_write}
use Rattle.ga_disk.specs.declared.span.Span.{Span}
use Rattle.ga_disk.proofs.Written.{written-before, written-behind}

-- an image of before a change: the later one's bytes where they were unsure then, and else what a read gave
earlier_at : SideState → List ℕ → ℕ → ℕ
earlier_at s image i = cond (is_unsure s.changed s.synced i) (get_or image i 0) (get_or s.bytes i 0)

earlier : SideState → List ℕ → ℕ → List ℕ
earlier s image n = map (earlier_at s image) (range_with_len 0 n)

length-earlier : (s : SideState) (image : List ℕ) (n : ℕ) → length (earlier s image n) ≡ n
unfolding earlier
length-earlier s image n = length-map-range_with_len (earlier_at s image) 0 n

at-earlier : (s : SideState) (image : List ℕ) (n i : ℕ) → i < n → get_or (earlier s image n) i 0 ≡ earlier_at s image i
unfolding earlier
at-earlier s image n i before = get_or-map-range_with_len (earlier_at s image) 0 n i i 0 before (omega arith)

at-sure : (s : SideState) (image : List ℕ) (i : ℕ) → is_unsure s.changed s.synced i ≡ false → earlier_at s image i ≡ get_or s.bytes i 0
unfolding earlier_at
at-sure s image i e = rw e refl

-- where the change makes no place unsure and no read gives another byte, the image has the earlier one's
same-at : (s : SideState) (image : List ℕ) (i : ℕ) (unsure : Bool) → is_unsure s.changed s.synced i ≡ unsure
    → (unsure ≡ false → get_or image i 0 ≡ get_or s.bytes i 0) → get_or image i 0 ≡ earlier_at s image i
unfolding earlier_at
same-at s image i true e kept = rw e refl
same-at s image i false e kept = rw e (kept refl)

earlier-is-image : (s : SideState) (image : List ℕ) (n : ℕ) → s.least ≤ n → n ≤ s.most → IsImage s (earlier s image n)
earlier-is-image s image n least most =
    let long = length-earlier s image n in
    record {
      no_shorter = omega arith;
      no_longer = omega arith;
      kept = λ i before sure.
          let in_range : i < n = omega arith in
          at-earlier s image n i in_range ∙ at-sure s image i sure;
    }

outside : (i : ℕ) (span : Span) → (i < span.start) ⊎ (span.end ≤ i) → is_within i span ≡ false
outside i span (inl before) = grind (arith, nat_tests)
outside i span (inr behind) = grind (arith, nat_tests)

neither : (a b : Bool) → a ≡ false → b ≡ false → (a || b) ≡ false
neither true b e f = cc
neither false b e f = f

still-sure : (changed : List Span) (span : Span) (synced i : ℕ) → is_unsure changed synced i ≡ false → is_within i span ≡ false
    → is_unsure (changed ++ span ∷ []) synced i ≡ false
still-sure changed span synced i sure out =
    is_unsure-more changed span synced i ∙ neither (is_unsure changed synced i) (is_within i span) sure out

-- an image and the earlier one have the same byte outside of the range of the change
kept-outside : (s : SideState) (span : Span) (bytes image : List ℕ) (i : ℕ) → (i < span.start) ⊎ (span.end ≤ i)
    → (is_unsure (s.changed ++ span ∷ []) s.synced i ≡ false → get_or image i 0 ≡ get_or bytes i 0) → get_or bytes i 0 ≡ get_or s.bytes i 0
    → get_or image i 0 ≡ earlier_at s image i
kept-outside s span bytes image i out kept same = same-at s image i (is_unsure s.changed s.synced i) refl
    (λ sure. kept (still-sure s.changed span s.synced i sure (outside i span out)) ∙ same)

-- an image and the step that led to it
pub record Came (step : List ℕ → List ℕ → Type 0) (s : SideState) (image : List ℕ) : Type 0 where
  pub from : List ℕ
  pub was : IsImage s from
  pub stepped : step from image

came-by-write : (at : ℕ) (piece : List ℕ) (s : SideState) (image : List ℕ) → at ≤ length s.bytes → IsSound s
    → IsImage (after_write at piece s) image → Came (TornAt at (length piece)) s image
came-by-write at piece s image le sound is =
    let n : ℕ = min (length image) s.most in
    let span : Span = record { start = at; end = at + length piece } in
    let low = sound.no_shorter in
    let high = sound.no_longer in
    let least = is.no_shorter in
    let most = is.no_longer in
    let long = length-earlier s image n in
    record {
      from = earlier s image n;
      was = earlier-is-image s image n (omega arith) (omega arith);
      stepped = record {
        before = λ i first in_image.
            let within : i < n = omega arith in (
              omega arith,
              kept-outside s span (written at piece s.bytes) image i (inl first) (is.kept i in_image) (written-before at piece s.bytes i le first)
                  ∙ sym (at-earlier s image n i within),
            );
        behind = λ i last in_image.
            let within : i < n = omega arith in (
              omega arith,
              kept-outside s span (written at piece s.bytes) image i (inr last) (is.kept i in_image) (written-behind at piece s.bytes i le last)
                  ∙ sym (at-earlier s image n i within),
            );
        no_shorter = omega arith;
        no_longer = omega arith;
      };
    }

came-by : (at : ℕ) (piece : List ℕ) (s : SideState) (image : List ℕ) (fits : Bool) → fits ≡ true → at ≤ length s.bytes → IsSound s
    → IsImage (cond fits (after_write at piece s) s) image → Came (TornAt at (length piece)) s image
came-by at piece s image true e le sound is = came-by-write at piece s image le sound is
came-by at piece s image false e le sound is = cc

pub came-by-writes : (at : ℕ) (piece : List ℕ) (s : SideState) (image : List ℕ) → at ≤ length s.bytes → IsSound s
    → IsImage (writes at piece s) image → Came (TornAt at (length piece)) s image
came-by-writes at piece s image le sound is =
    let fits : nat_le at (length s.bytes) ≡ true = grind (arith, nat_tests) in
    came-by at piece s image (nat_le at (length s.bytes)) fits le sound is

pub came-by-cuts : (len : ℕ) (s : SideState) (image : List ℕ) → IsSound s → IsImage (cuts len s) image → Came (CutAt len) s image
came-by-cuts len s image sound is =
    let n : ℕ = max (length image) s.least in
    let span : Span = record { start = len; end = length s.bytes } in
    let low = sound.no_shorter in
    let high = sound.no_longer in
    let least = is.no_shorter in
    let most = is.no_longer in
    let long = length-earlier s image n in
    record {
      from = earlier s image n;
      was = earlier-is-image s image n (omega arith) (omega arith);
      stepped = record {
        before = λ i first in_image.
            let within : i < n = omega arith in (
              omega arith,
              kept-outside s span (take len s.bytes) image i (inl first) (is.kept i in_image) (get_or-take len s.bytes i 0 first)
                  ∙ sym (at-earlier s image n i within),
            );
        no_shorter = omega arith;
        no_longer = omega arith;
      };
    }

-- after a sync a crash leaves what a read gives
pub only-synced : (bytes image : List ℕ) → IsImage (synced bytes) image → image ≡ bytes
only-synced bytes image is =
    let least = is.no_shorter in
    let most = is.no_longer in
    let long : length image ≡ length bytes = omega arith in
    same_number_lists image bytes long (λ k before.
    let past : nat_le (length bytes) k ≡ false = grind (arith, nat_tests) in
    is.kept k before (neither (nat_le (length bytes) k) false past refl))
