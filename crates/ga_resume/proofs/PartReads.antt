-- What one more read does to the view of files that gave bytes already.
use Rattle.std.proofs.Common.{◌≡◌, ℕ, ◌+◌, ◌-◌, [], ◌≤◌, true, false, List, ◌++◌, ap, sym, ◌∙◌, Option, Some, None, IfSome, arith, take, drop}
use Rattle.std.proofs.Math.Seq.{take-add, drop-drop}
use Rattle.ga_counters.specs.Counts.{raised, NoneDue}
use Rattle.ga_ports.specs.Files.{FilesView, gives, calls_once, fails_once, is_short, Fails}
use Rattle.ga_resume.specs.ReadPart.{after_reads, StopsAfter, StopsWithin}
use Rattle.ga_resume.specs.declared.fault.PlaceFault.{PlaceFault}
use Rattle.ga_resume.specs.declared.fault.PlaceFault.TheVariants.{FileFault, FileShort, NoMemory}

-- what holds of a value that may be there
pub if_some-all : {A : Type 0} (P : A → Type 0) → (o : Option A) → ((x : A) → P x) → IfSome o P
if_some-all P None all = tt
if_some-all P (Some x) all = all x

pub if_some-map : {A : Type 0} (P Q : A → Type 0) → (o : Option A) → ((x : A) → P x → Q x) → IfSome o P → IfSome o Q
if_some-map P Q None step p = tt
if_some-map P Q (Some x) step p = step x p

pub if_some-both : {A : Type 0} (P Q R : A → Type 0) → (o : Option A) → ((x : A) → P x → Q x → R x) → IfSome o P → IfSome o Q → IfSome o R
if_some-both P Q R None step p q = tt
if_some-both P Q R (Some x) step p q = step x p q

raised-nothing : (c : ℕ) → raised c 0 ≡ c
raised-nothing c = omega arith

raised-twice : (c a b : ℕ) → raised (raised c a) b ≡ raised c (a + b)
raised-twice c a b = omega arith

-- the view with a number of bytes given, and of calls
abbrev pub set_given : ℕ → ℕ → FilesView → FilesView
set_given calls given v = record v { counts = record v.counts { calls = calls; given = given } }

-- nothing was read yet
pub reads-nil : (v : FilesView) → v ≡ after_reads v.counts.calls 0 v
reads-nil v = ap (λ (k : ℕ). set_given v.counts.calls k v) (sym (raised-nothing v.counts.given))

-- a read that failed
pub read-failed : (w u : FilesView) → Fails w u → StopsAfter 0 w u FileFault
read-failed w u h =
    let calls : u.counts.calls ≡ raised w.counts.calls 1 = ap (λ (x : FilesView). x.counts.calls) h in
    h ∙ ap (λ (k : ℕ). record w { counts = record (fails_once w.counts) { given = k } }) (sym (raised-nothing w.counts.given))
    ∙ ap (λ (k : ℕ). record w { counts = record (fails_once w.counts) { calls = k; given = raised w.counts.given 0 } }) (sym calls)

-- a short read
pub read-short : (at room n : ℕ) (w u : FilesView) → u ≡ record w { counts = gives (is_short w.measured at room n) at n (calls_once w.counts) }
    → is_short w.measured at room n ≡ true → n ≡ 0 → w.bytes ≡ None → StopsAfter 0 w u (FileShort at)
read-short at room n w u h short nothing untold =
    let step : u ≡ record w { counts = gives true at n (calls_once w.counts) } = h ∙ ap (λ (s : _). record w { counts = gives s at n (calls_once w.counts) }) short in
    let m : u ≡ record w { counts = gives true at 0 (calls_once w.counts) } = step ∙ ap (λ (k : ℕ). record w { counts = gives true at k (calls_once w.counts) }) nothing in
    let calls : u.counts.calls ≡ raised w.counts.calls 1 = ap (λ (x : FilesView). x.counts.calls) m in
    (untold, m ∙ ap (λ (k : ℕ). record w { counts = gives true at 0 (record w.counts { calls = k }) }) (sym calls))

-- a read that gave bytes
pub read-gives : (at room n : ℕ) (w u : FilesView) → u ≡ record w { counts = gives (is_short w.measured at room n) at n (calls_once w.counts) }
    → is_short w.measured at room n ≡ false → u ≡ after_reads u.counts.calls n w
read-gives at room n w u h long =
    let step : u ≡ record w { counts = gives false at n (calls_once w.counts) } = h ∙ ap (λ (s : _). record w { counts = gives s at n (calls_once w.counts) }) long in
    let calls : u.counts.calls ≡ raised w.counts.calls 1 = ap (λ (x : FilesView). x.counts.calls) step in
    step ∙ ap (λ (k : ℕ). set_given k (raised w.counts.given n) w) (sym calls)

-- bytes and then more
pub reads-more : (a n : ℕ) (v w u : FilesView) → w ≡ after_reads w.counts.calls a v → u ≡ after_reads u.counts.calls n w → u ≡ after_reads u.counts.calls (a + n) v
reads-more a n v w u e h =
    h ∙ ap (λ (x : FilesView). set_given u.counts.calls (raised x.counts.given n) x) e
    ∙ ap (λ (k : ℕ). set_given u.counts.calls k v) (raised-twice v.counts.given a n)

-- bytes and then a stop
pub stops-more : (a n : ℕ) (v w u : FilesView) (fault : PlaceFault) → w ≡ after_reads w.counts.calls a v → StopsAfter n w u fault → StopsAfter (a + n) v u fault
stops-more a n v w u FileFault e h =
    h ∙ ap (λ (x : FilesView). record x { counts = record (fails_once x.counts) { calls = u.counts.calls; given = raised x.counts.given n } }) e
    ∙ ap (λ (k : ℕ). record v { counts = record (fails_once v.counts) { calls = u.counts.calls; given = k } }) (raised-twice v.counts.given a n)
stops-more a n v w u (FileShort at) e h = (
  rw (← ap (λ (x : FilesView). x.bytes) e) h.0,
  h.1 ∙ ap (λ (x : FilesView). record x { counts = record x.counts { calls = u.counts.calls; given = raised x.counts.given n; shorts = raised x.counts.shorts 1; short_at = at } }) e
      ∙ ap (λ (k : ℕ). record v { counts = record v.counts { calls = u.counts.calls; given = k; shorts = raised v.counts.shorts 1; short_at = at } }) (raised-twice v.counts.given a n),
)
stops-more a n v w u NoMemory e h = reads-more a n v w u e h

-- the bytes of the open file stay
pub bytes-after_reads : (n : ℕ) (v w : FilesView) → w ≡ after_reads w.counts.calls n v → w.bytes ≡ v.bytes
bytes-after_reads n v w e = ap (λ (x : FilesView). x.bytes) e

-- nor does the size last answered change
pub measured-after_reads : (n : ℕ) (v w : FilesView) → w ≡ after_reads w.counts.calls n v → w.measured ≡ v.measured
measured-after_reads n v w e = ap (λ (x : FilesView). x.measured) e

pub listed-after_reads : (n : ℕ) (v w : FilesView) → w ≡ after_reads w.counts.calls n v → w.listed ≡ v.listed
listed-after_reads n v w e = ap (λ (x : FilesView). x.listed) e

-- no bytes between a place and itself
pub nothing : (from : ℕ) (bytes : List ℕ) → take (from - from) (drop from bytes) ≡ []
nothing from bytes =
    let none : from - from ≡ 0 = omega arith in
    ap (λ (k : ℕ). take k (drop from bytes)) none

-- a part of the bytes, and the next ones
pub part-more : (from at n : ℕ) (bytes part part' : List ℕ) → from ≤ at → part ≡ take (at - from) (drop from bytes)
    → part' ≡ part ++ take n (drop at bytes) → part' ≡ take (at + n - from) (drop from bytes)
part-more from at n bytes part part' le e h =
    let far : at ≡ from + (at - from) = omega (arith, le) in
    let longer : (at - from) + n ≡ at + n - from = omega (arith, le) in
    h ∙ ap (λ (x : List ℕ). x ++ take n (drop at bytes)) e
    ∙ ap (λ (k : ℕ). take (at - from) (drop from bytes) ++ take n (drop k bytes)) far
    ∙ ap (λ (x : List ℕ). take (at - from) (drop from bytes) ++ take n x) (sym (drop-drop (at - from) from bytes))
    ∙ sym (take-add (at - from) n (drop from bytes)) ∙ ap (λ (k : ℕ). take k (drop from bytes)) longer

-- bytes and then a stop within the size
pub stops-more-within : (a room size : ℕ) (v w u : FilesView) (fault : PlaceFault) → w ≡ after_reads w.counts.calls a v → a + room ≤ size
    → StopsWithin room w u fault → StopsWithin size v u fault
stops-more-within a room size v w u fault e fits m = (a + m.0, omega (arith, m.1, fits), stops-more a m.0 v w u fault e m.2)

-- what is due later is due from then on
pub none-later : (calls later : ℕ) (told : Option (List ℕ)) → calls ≤ later → NoneDue told calls → NoneDue told later
none-later calls later None le none = absurd none
none-later calls later (Some listed) le none = λ call from. none call (omega (arith, le, from))
