-- What a form of `Files` is to the program, and what each call does to that.
use Rattle.std.specs.Prelude.{◌≡◌, ℕ, ◌-◌, ◌<◌, ◌≤◌, ◌==◌, ◌&&◌, ◌||◌, Bool, true, false, if◌then◌else◌, List, [], ◌∷◌, length, take, drop, min, Option, Some, None, is_none, nat_lt, Result, OnOk, OnErr, IfOk, IfSome}
use Rattle.std.specs.Result.{is_err}
use Rattle.std.specs.Str.{bytes_eq}
use Rattle.ga_counters.specs.Counts.{raised, is_due}
use Rattle.ga_ports.specs.declared.file_counts.FileCounts.{FileCounts}

-- what each name gives: those that are named, the first of a name counting, and all the others
pub record Contents : Type 0 where
  pub named : List (List ℕ × List ℕ)
  -- None where nothing is there, Some [] where an empty file is
  pub others : Option (List ℕ)

pub record FilesView : Type 0 where
  -- None where the form doesn't tell
  pub contents : Option Contents
  -- the calls, counted from 1, that are listed to fail; None where the form doesn't tell
  pub listed : Option (List ℕ)
  pub is_open : Bool
  -- the bytes of the open file, where told
  pub bytes : Option (List ℕ)
  -- the size last answered for the open file
  pub measured : Option ℕ
  pub counts : FileCounts

-- the bytes of the first of that name, or what all others give
abbrev pub found : List ℕ → Option (List ℕ) → List (List ℕ × List ℕ) → Option (List ℕ)
found name others [] = others
found name others (c ∷ cs) = if bytes_eq c.0 name then Some c.1 else found name others cs

abbrev pub content_of : List ℕ → Contents → Option (List ℕ)
content_of name contents = found name contents.others contents.named

-- the contents of the file of this name, where told
abbrev pub told : List ℕ → Option Contents → Option (List ℕ)
told name None = None
told name (Some contents) = content_of name contents

-- contents are told, and nothing is there of that name
abbrev pub is_absent : List ℕ → Option Contents → Bool
is_absent name None = false
is_absent name (Some contents) = is_none (content_of name contents)

-- one more call
abbrev pub calls_once : FileCounts → FileCounts
calls_once c = record c { calls = raised c.calls 1 }

-- one more call, which failed
abbrev pub fails_once : FileCounts → FileCounts
fails_once c = record c { calls = raised c.calls 1; faults = raised c.faults 1 }

-- one more name was asked for, which is absent or not
abbrev pub asks : Bool → FileCounts → FileCounts
asks absent c = record c { asked = raised c.asked 1; absent = if absent then raised c.absent 1 else c.absent }

-- this many bytes were handed out from a place, as a short read or not
abbrev pub gives : Bool → ℕ → ℕ → FileCounts → FileCounts
gives short at n c = record c {
  given = raised c.given n;
  shorts = if short then raised c.shorts 1 else c.shorts;
  short_at = if short then at else c.short_at;
}

-- a size was answered
abbrev pub measures : ℕ → FileCounts → FileCounts
measures size c = record c { sizes = raised c.sizes size }

pub record Opens {E : Type 0} (name : List ℕ) (old new : FilesView) (result : Result (Unit {0}) E) : Type 0 where
  pub ok : OnOk result ((is_absent name old.contents ≡ false)
      × (new ≡ record old {
        is_open = true;
        bytes = told name old.contents;
        measured = None;
        counts = asks false (calls_once old.counts);
      }))
  -- the former file is let go all the same
  pub failed : OnErr result (new ≡ record old {
    is_open = false;
    bytes = None;
    measured = None;
    counts = asks (is_absent name old.contents) (fails_once old.counts);
  })

-- the call failed, and nothing else changed
abbrev pub Fails : FilesView → FilesView → Type 0
Fails old new = new ≡ record old { counts = fails_once old.counts }

pub record Sizes {E : Type 0} (old new : FilesView) (result : Result ℕ E) : Type 0 where
  pub ok : IfOk result (λ size. (new ≡ record old { measured = Some size; counts = measures size (calls_once old.counts) })
      × IfSome old.bytes (λ bytes. size ≡ length bytes))
  pub failed : OnErr result (Fails old new)

-- a short read: nothing came at a place below the size last answered, though room was there
abbrev pub is_short : Option ℕ → ℕ → ℕ → ℕ → Bool
is_short None at room n = false
is_short (Some size) at room n = nat_lt at size && (nat_lt 0 room && (n == 0))

-- the first n of the buffer are the bytes from a place on, at least one where one is there
pub record AreBytesAt (at n : ℕ) (buffer bytes : List ℕ) : Type 0 where
  pub same : take n buffer ≡ take n (drop at bytes)
  pub within : n ≤ length bytes - at
  pub some : at < length bytes → 0 < length buffer → 0 < n

pub record Reads {E : Type 0} (at : ℕ) (buffer : List ℕ) (old new : FilesView) (result : Result ℕ E) : Type 0 where
  pub ok : IfOk result (λ n. (n ≤ length buffer) × IfSome old.bytes (AreBytesAt at n buffer)
      × (new ≡ record old { counts = gives (is_short old.measured at (length buffer) n) at n (calls_once old.counts) }))
  pub failed : OnErr result (Fails old new)

-- where it is told which calls are listed, this one fails exactly where it is listed
abbrev pub FailsIfListed : {A E : Type 0} → FilesView → Result A E → Type 0
FailsIfListed old result = IfSome old.listed (λ listed. is_err result ≡ is_due listed old.counts.calls)

-- where it is told which calls are listed, a read fails exactly where it is listed, and else gives all that fits
pub record ReadsExactly {E : Type 0} (at : ℕ) (buffer listed : List ℕ) (old : FilesView) (result : Result ℕ E) : Type 0 where
  pub fails : is_err result ≡ is_due listed old.counts.calls
  pub fits : IfOk result (λ n. IfSome old.bytes (λ bytes. n ≡ min (length buffer) (length bytes - at)))

abbrev pub ReadsIfListed : {E : Type 0} → ℕ → List ℕ → FilesView → Result ℕ E → Type 0
ReadsIfListed at buffer old result = IfSome old.listed (λ listed. ReadsExactly at buffer listed old result)

-- as of a size, for an `open`, which fails for a name that isn't there too
abbrev pub OpenFailsIfListed : {A E : Type 0} → List ℕ → FilesView → Result A E → Type 0
OpenFailsIfListed name old result =
    IfSome old.listed (λ listed. is_err result ≡ (is_due listed old.counts.calls || is_absent name old.contents))
