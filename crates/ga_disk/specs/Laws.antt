-- What holds of every disk in memory, whatever its record of calls: what the trait's laws cite.
use Rattle.std.specs.Prelude.{◌≡◌, ℕ, ◌+◌, ◌<◌, ◌≤◌, ◌||◌, ◌++◌, Bool, true, false, List, [], ◌∷◌, length, take, max, nat_le, cond, zero, suc, refl, ◌⊎◌}
use Rattle.std.specs.List.{list_any}
use Rattle.std.proofs.Common.{sym, ◌∙◌, ap, subst, arith, length-append, length-take, length-drop, inl, inr}
use Rattle.std.proofs.lemmas.Bool.Decides.{nat_tests}
use Rattle.std.proofs.lemmas.Bool.{cases_lt}
use Rattle.std.proofs.lemmas.List.{take_all}
use Rattle.std.proofs.lemmas.List.Folds.{list_any-append}
use Rattle.ga_disk.specs.Sides.{Both, Sides}
use Rattle.ga_disk.specs.Disk.{written}
use Rattle.ga_disk.specs.SideState.{SideState, IsImage, is_within, is_unsure, synced, writes, cuts}
use Rattle.ga_disk.specs.MemDisk.{DiskState, AreImages, LeftSince, all_synced, apply, replay, states, bytes_of}
use Rattle.ga_disk.specs.declared.span.Span.{Span}
use Rattle.ga_disk.specs.declared.change.Change.{Change}
use Rattle.ga_disk.specs.declared.change.Change.TheVariants.{Write, Cut, Sync}

-- the length is between the least and the greatest, and each place past the end is unsure
pub record IsSound (s : SideState) : Type 0 where
  pub no_shorter : s.least ≤ length s.bytes
  pub no_longer : length s.bytes ≤ s.most
  pub behind : (i : ℕ) → length s.bytes ≤ i → is_unsure s.changed s.synced i ≡ true

regroup : (a b c : Bool) → (a || (b || (c || false))) ≡ ((a || b) || c)
regroup true b c = refl
regroup false true c = refl
regroup false false true = refl
regroup false false false = refl

-- a range more makes its places unsure
pub is_unsure-more : (changed : List Span) (span : Span) (synced i : ℕ)
    → is_unsure (changed ++ span ∷ []) synced i ≡ (is_unsure changed synced i || is_within i span)
is_unsure-more changed span synced i =
    ap (λ b. nat_le synced i || b) (list_any-append (is_within i) changed (span ∷ []))
    ∙ regroup (nat_le synced i) (list_any (is_within i) changed) (is_within i span)

pub or-left : (a b : Bool) → a ≡ true → (a || b) ≡ true
or-left true b e = refl
or-left false b e = cc

pub or-right : (a b : Bool) → b ≡ true → (a || b) ≡ true
or-right true b e = refl
or-right false b e = e

pub stays-unsure : (changed : List Span) (span : Span) (synced i : ℕ) → is_unsure changed synced i ≡ true
    → is_unsure (changed ++ span ∷ []) synced i ≡ true
stays-unsure changed span synced i e = is_unsure-more changed span synced i ∙ or-left _ (is_within i span) e

pub within : (i : ℕ) (span : Span) → span.start ≤ i → i < span.end → is_within i span ≡ true
within i span from before = grind (arith, nat_tests)

pub becomes-unsure : (changed : List Span) (span : Span) (synced i : ℕ) → span.start ≤ i → i < span.end
    → is_unsure (changed ++ span ∷ []) synced i ≡ true
becomes-unsure changed span synced i from before =
    is_unsure-more changed span synced i ∙ or-right (is_unsure changed synced i) _ (within i span from before)

pub past-synced : (changed : List Span) (synced i : ℕ) → synced ≤ i → is_unsure changed synced i ≡ true
past-synced changed synced i le =
    let past : nat_le synced i ≡ true = grind (arith, nat_tests) in
    or-left (nat_le synced i) _ past

pub sound-synced : (bytes : List ℕ) → IsSound (synced bytes)
sound-synced bytes = record {
  no_shorter = omega arith;
  no_longer = omega arith;
  behind = λ i le. past-synced [] (length bytes) i le;
}

pub length-written : (at : ℕ) (piece bytes : List ℕ) → at ≤ length bytes
    → length (written at piece bytes) ≡ max (length bytes) (at + length piece)
length-written at piece bytes le = omega (arith, length-append {A = ℕ}, length-take {A = ℕ}, length-drop {A = ℕ})

-- what a write at a place that the side reaches makes of it
abbrev pub after_write : ℕ → List ℕ → SideState → SideState
after_write at piece s = record {
  bytes = written at piece s.bytes;
  changed = s.changed ++ record { start = at; end = at + length piece } ∷ [];
  synced = s.synced;
  least = s.least;
  most = max s.most (at + length piece);
}

sound-write : (at : ℕ) (piece : List ℕ) (s : SideState) → at ≤ length s.bytes → IsSound s → IsSound (after_write at piece s)
sound-write at piece s le sound =
    let long = length-written at piece s.bytes le in
    record {
      no_shorter = omega (arith, sound.no_shorter);
      no_longer = omega (arith, sound.no_longer);
      behind = λ i past. stays-unsure s.changed _ s.synced i (sound.behind i (omega arith));
    }

sound-writes-by : (at : ℕ) (piece : List ℕ) (s : SideState) (fits : Bool) → nat_le at (length s.bytes) ≡ fits → IsSound s
    → IsSound (cond fits (after_write at piece s) s)
sound-writes-by at piece s true e sound =
    let le : at ≤ length s.bytes = grind (arith, nat_tests) in
    sound-write at piece s le sound
sound-writes-by at piece s false e sound = sound

pub sound-writes : (at : ℕ) (piece : List ℕ) (s : SideState) → IsSound s → IsSound (writes at piece s)
sound-writes at piece s sound = sound-writes-by at piece s (nat_le at (length s.bytes)) refl sound

cut-behind : (len : ℕ) (s : SideState) (i : ℕ) → IsSound s → (i < length s.bytes) ⊎ (length s.bytes ≤ i) → length (take len s.bytes) ≤ i
    → is_unsure (s.changed ++ record { start = len; end = length s.bytes } ∷ []) s.synced i ≡ true
cut-behind len s i sound (inr past) le = stays-unsure s.changed _ s.synced i (sound.behind i past)
cut-behind len s i sound (inl before) le =
    let from : len ≤ i = omega (arith, length-take len s.bytes) in
    becomes-unsure s.changed (record { start = len; end = length s.bytes }) s.synced i from before

pub sound-cuts : (len : ℕ) (s : SideState) → IsSound s → IsSound (cuts len s)
sound-cuts len s sound = record {
  no_shorter = omega (arith, length-take len s.bytes, sound.no_shorter);
  no_longer = omega (arith, length-take len s.bytes, sound.no_longer);
  behind = λ i le. cut-behind len s i sound (cases_lt i (length s.bytes)) le;
}

-- both sides are sound
pub record AreSound (s : Both SideState) : Type 0 where
  pub side0 : IsSound s.side0
  pub side1 : IsSound s.side1

pub sound-all_synced : (sides : Sides) → AreSound (all_synced sides)
sound-all_synced sides = record { side0 = sound-synced sides.side0; side1 = sound-synced sides.side1 }

pub sound-apply : (change : Change) (s : Both SideState) → AreSound s → AreSound (apply change s)
sound-apply (Write zero at piece) s sound = record { side0 = sound-writes at piece s.side0 sound.side0; side1 = sound.side1 }
sound-apply (Write (suc n) at piece) s sound = record { side0 = sound.side0; side1 = sound-writes at piece s.side1 sound.side1 }
sound-apply (Cut zero len) s sound = record { side0 = sound-cuts len s.side0 sound.side0; side1 = sound.side1 }
sound-apply (Cut (suc n) len) s sound = record { side0 = sound.side0; side1 = sound-cuts len s.side1 sound.side1 }
sound-apply (Sync zero) s sound = record { side0 = sound-synced s.side0.bytes; side1 = sound.side1 }
sound-apply (Sync (suc n)) s sound = record { side0 = sound.side0; side1 = sound-synced s.side1.bytes }

pub sound-replay : (s : Both SideState) (changes : List Change) → AreSound s → AreSound (replay s changes)
sound-replay s [] sound = sound
sound-replay s (change ∷ changes) sound = sound-replay (apply change s) changes (sound-apply change s sound)

pub sound-states : (d : DiskState) → AreSound (states d)
sound-states d = sound-replay (all_synced d.start) d.changes (sound-all_synced d.start)

-- what a read gives is an image
pub seen-is-image : (s : SideState) → IsSound s → IsImage s s.bytes
seen-is-image s sound = record { no_shorter = sound.no_shorter; no_longer = sound.no_longer; kept = λ i before sure. refl }

pub reads-as-image : (d : DiskState) → AreImages (states d) (bytes_of (states d))
reads-as-image d =
    let sound = sound-states d in
    record { side0 = seen-is-image _ sound.side0; side1 = seen-is-image _ sound.side1 }

pub counts-now : (d : DiskState) (t : ℕ) (image : Sides) → t ≤ length d.changes → AreImages (states d) image
    → LeftSince d.start d.changes t image
counts-now d t image le left = record {
  after = length d.changes;
  no_earlier = le;
  no_later = omega arith;
  left = subst (λ (changes : List Change). AreImages (replay (all_synced d.start) changes) image) (sym (take_all (length d.changes) d.changes (omega arith))) left;
}

pub only-now : (d : DiskState) (image : Sides) → LeftSince d.start d.changes (length d.changes) image → AreImages (states d) image
only-now d image since =
    let last : length d.changes ≤ since.after = since.no_earlier in
    subst (λ (changes : List Change). AreImages (replay (all_synced d.start) changes) image) (take_all since.after d.changes last) since.left
