-- From one slice of a log's part to the next.
use Rattle.std.proofs.Common.{◌≡◌, ℕ, ◌+◌, ◌-◌, ◌≤◌, Bool, false, List, [], ◌++◌, refl, ap, sym, ◌∙◌, subst, Option, IfSome, arith, length, length-append, length-take, take, take_all, drop, append_assoc, append-nil}
use Rattle.ga_batches.specs.Batches.{BatcherSeen, Feeds, Holds}
use Rattle.ga_base.specs.Lines.{AreEnded}
use Rattle.ga_line.specs.Lines.{lines}
use Rattle.ga_outcomes.specs.declared.setup.Setup.{Setup}
use Rattle.ga_ports.specs.Files.{FilesView}
use Rattle.ga_resume.specs.ReadPart.{after_reads, part_of, ReadsPart, ReadsSlice, StopsWithin}
use Rattle.ga_resume.specs.declared.fault.PlaceFault.TheVariants.{NoMemory}
use Rattle.ga_resume.proofs.PartReads.{if_some-all, if_some-map, if_some-both, reads-nil, reads-more, bytes-after_reads, part-more, nothing}
use Rattle.ga_logs.specs.Counting.{CountingSeen, HasCounted}
use Rattle.ga_logs.specs.Streams.{IsBehind, IsWithin}
use Rattle.ga_logs.proofs.Batches.{behind-none, behind-taken, within-fed}
use Rattle.ga_logs.specs.Steps.Streaming.{Adds, CountsTaken, FeedsPart, FillsBehind, FillsPart, HasCountedSome}

-- no bytes of a part were read
read-none : (from : ℕ) (v : FilesView) → ReadsPart from from v v []
read-none from v =
    let none : from - from ≡ 0 = omega arith in
    record {
      long = sym none;
      bytes = if_some-all (λ bytes. [] ≡ part_of from from bytes) v.bytes (λ bytes. sym (nothing from bytes));
      files = subst (λ (n : ℕ). v ≡ after_reads v.counts.calls n v) (sym none) (reads-nil v);
    }

-- a part and the next one are one part
pub read-then : (from at to : ℕ) (v w u : FilesView) (part next : List ℕ) → from ≤ at → at ≤ to → ReadsPart from at v w part → ReadsPart at to w u next → ReadsPart from to v u (part ++ next)
read-then from at to v w u part next begun on read more =
    let far : at + (to - at) ≡ to = omega (arith, on) in
    let long : (at - from) + (to - at) ≡ to - from = omega (arith, begun, on) in
    let same = bytes-after_reads (at - from) v w read.files in
    let later = subst (λ (o : Option (List ℕ)). IfSome o (λ bytes. next ≡ part_of at to bytes)) same more.bytes in
    record {
      long = length-append part next ∙ ap (λ (k : ℕ). k + length next) read.long ∙ ap (λ (k : ℕ). (at - from) + k) more.long ∙ long;
      bytes = if_some-both (λ bytes. part ≡ part_of from at bytes) (λ bytes. next ≡ part_of at to bytes) (λ bytes. part ++ next ≡ part_of from to bytes) v.bytes
          (λ bytes e h. part-more from at (to - at) bytes part (part ++ next) begun e (ap (λ (x : List ℕ). part ++ x) h) ∙ ap (λ (k : ℕ). take (k - from) (drop from bytes)) far) read.bytes later;
      files = subst (λ (n : ℕ). u ≡ after_reads u.counts.calls n v) long (reads-more (at - from) (to - at) v w u read.files more.files);
    }

-- a slice is a part
read-slice : (at n : ℕ) (buffer : List ℕ) (v w : FilesView) → ReadsSlice at n buffer v w → ReadsPart at (at + n) v w (take n buffer)
read-slice at n buffer v w slice =
    let long : n ≡ at + n - at = omega arith in
    record {
      long = omega (arith, length-take n buffer, slice.within);
      bytes = if_some-map (λ bytes. take n buffer ≡ take n (drop at bytes)) (λ bytes. take n buffer ≡ part_of at (at + n) bytes) v.bytes
          (λ bytes e. e ∙ ap (λ (k : ℕ). take k (drop at bytes)) long) slice.bytes;
      files = subst (λ (k : ℕ). w ≡ after_reads w.counts.calls k v) long slice.files;
    }

-- nothing was fed yet
pub fills-none : (from : ℕ) (v : FilesView) (batcher : BatcherSeen) → batcher.is_over ≡ false → FillsPart from from v v batcher batcher
fills-none from v batcher going = record {
  part = [];
  read = read-none from v;
  going = going;
  fed = omega arith;
  limit = refl;
  holds = λ stream taken h. subst (λ (s : List ℕ). Holds s taken batcher) (sym (append-nil stream)) h;
}

-- a part was fed, and then the next one
pub fills-then : (from at to : ℕ) (v w u : FilesView) (b0 b1 b2 : BatcherSeen) → from ≤ at → at ≤ to
    → FillsPart from at v w b0 b1 → FillsPart at to w u b1 b2 → FillsPart from to v u b0 b2
fills-then from at to v w u b0 b1 b2 begun on a b = record {
  part = a.part ++ b.part;
  read = read-then from at to v w u a.part b.part begun on a.read b.read;
  going = b.going;
  fed = omega (arith, a.fed, b.fed, length-append a.part b.part);
  limit = b.limit ∙ a.limit;
  holds = λ stream taken h. subst (λ (s : List ℕ). Holds s taken b2) (append_assoc stream a.part b.part) (b.holds (stream ++ a.part) taken (a.holds stream taken h));
}

-- a slice was fed
pub fills-slice : (at n : ℕ) (buffer : List ℕ) (v w : FilesView) (b0 b1 : BatcherSeen) (taken : ℕ) → ReadsSlice at n buffer v w → b0.is_over ≡ false → taken ≡ length (take n buffer)
    → Feeds (take taken (take n buffer)) b0 b1 → ((stream before : List ℕ) → Holds stream before b0 → Holds (stream ++ take taken (take n buffer)) before b1)
    → FillsPart at (at + n) v w b0 b1
fills-slice at n buffer v w b0 b1 taken slice going whole feeds holds =
    let all : take taken (take n buffer) ≡ take n buffer = take_all taken (take n buffer) (omega (arith, whole)) in
    record {
      part = take n buffer;
      read = read-slice at n buffer v w slice;
      going = feeds.going ∙ going;
      fed = feeds.fed ∙ ap (λ (xs : List ℕ). b0.fed + length xs) all;
      limit = feeds.limit;
      holds = λ stream before h. subst (λ (xs : List ℕ). Holds (stream ++ xs) before b1) all (holds stream before h);
    }

-- ---- a stream that is counted on the way

-- what was counted so far of what was fed, whose last batch waits
pub record Waits (setup : Setup) (part : List ℕ) (counting counting' : CountingSeen) (last : List ℕ) (batcher batcher' : BatcherSeen) : Type 0 where
  pub going : batcher'.is_over ≡ false
  pub fed : batcher'.fed ≡ batcher.fed + length part
  pub limit : batcher'.limit ≡ batcher.limit
  pub start : counting'.start ≡ counting.start
  pub within : (before : List (List ℕ)) (stream : List ℕ) → IsWithin setup before stream counting batcher
      → IsBehind setup before (stream ++ part) counting' last batcher'

-- nothing was fed yet
pub waits-none : (setup : Setup) (counting : CountingSeen) (batcher : BatcherSeen) → batcher.is_over ≡ false → Waits setup [] counting counting [] batcher batcher
waits-none setup counting batcher going = record {
  going = going;
  fed = omega arith;
  limit = refl;
  start = refl;
  within = λ before stream h. behind-none setup before (stream ++ []) counting batcher
      (subst (λ (s : List ℕ). IsWithin setup before s counting batcher) (sym (append-nil stream)) h);
}

-- the batch that waited was counted while more was fed, and the next one was taken
pub waits-on : (setup : Setup) (part more : List ℕ) (c0 c1 c2 : CountingSeen) (last next : List ℕ) (b0 b1 b2 b3 : BatcherSeen)
    → Waits setup part c0 c1 last b0 b1 → CountsTaken setup last c1 c2
    → b2.is_over ≡ false → b2.fed ≡ b1.fed + length more → b2.limit ≡ b1.limit → ((stream taken : List ℕ) → Holds stream taken b1 → Holds (stream ++ more) taken b2)
    → b3.is_over ≡ b2.is_over → b3.fed ≡ b2.fed → b3.limit ≡ b2.limit → ((stream taken : List ℕ) → Holds stream taken b2 → Holds stream (taken ++ next) b3)
    → Waits setup (part ++ more) c0 c2 next b0 b3
waits-on setup part more c0 c1 c2 last next b0 b1 b2 b3 a counts on fed wide holds going same kept takes = record {
  going = going ∙ on;
  fed = omega (arith, same, a.fed, fed, length-append part more);
  limit = kept ∙ wide ∙ a.limit;
  start = counts.start ∙ a.start;
  within = λ before stream h.
      let counted = counts.within before (stream ++ part) b1 (a.within before stream h) in
      let filled = within-fed setup c2 b1 b2 more holds before (stream ++ part) counted in
      subst (λ (s : List ℕ). IsBehind setup before s c2 next b3) (append_assoc stream part more)
      (behind-taken setup c2 b2 b3 next takes before ((stream ++ part) ++ more) filled);
}

-- what was counted so far of a part of a log, whose last batch waits
pub record FeedsBehind (setup : Setup) (from end : ℕ) (files files' : FilesView) (counting counting' : CountingSeen) (taken : List ℕ)
    (batcher batcher' : BatcherSeen) : Type 0 where
  pub part : List ℕ
  pub read : ReadsPart from end files files' part
  pub waits : Waits setup part counting counting' taken batcher batcher'

-- nothing was fed yet
pub feeds-none : (setup : Setup) (from : ℕ) (v : FilesView) (counting : CountingSeen) (batcher : BatcherSeen) → batcher.is_over ≡ false
    → FeedsBehind setup from from v v counting counting [] batcher batcher
feeds-none setup from v counting batcher going = record { part = []; read = read-none from v; waits = waits-none setup counting batcher going }

-- the batch that waited was counted while more was fed, and the next one was taken
pub feeds-on : (setup : Setup) (from at to most : ℕ) (v w u : FilesView) (c0 c1 c2 : CountingSeen) (last next : List ℕ) (b0 b1 b2 b3 : BatcherSeen) → from ≤ at → at ≤ to
    → FeedsBehind setup from at v w c0 c1 last b0 b1 → FillsBehind setup at most to w u c1 c2 last b1 b2
    → b3.is_over ≡ b2.is_over → b3.fed ≡ b2.fed → b3.limit ≡ b2.limit → ((stream taken : List ℕ) → Holds stream taken b2 → Holds stream (taken ++ next) b3)
    → FeedsBehind setup from to v u c0 c2 next b0 b3
feeds-on setup from at to most v w u c0 c1 c2 last next b0 b1 b2 b3 begun on a b going fed kept takes =
    let fills = b.fills.fills in
    record {
      part = a.part ++ fills.part;
      read = read-then from at to v w u a.part fills.part begun on a.read fills.read;
      waits = waits-on setup a.part fills.part c0 c1 c2 last next b0 b1 b2 b3 a.waits b.counts fills.going fills.fed fills.limit (λ s taken. fills.holds s taken) going fed kept takes;
    }

-- what stays once a batch was taken
pub after-taking : (b b' : BatcherSeen) → b' ≡ record b { batch = [] } → (b'.is_over ≡ b.is_over) × (b'.fed ≡ b.fed) × (b'.limit ≡ b.limit) × (length b'.batch ≡ 0)
after-taking b b' value = (ap (λ (v : BatcherSeen). v.is_over) value, ap (λ (v : BatcherSeen). v.fed) value, ap (λ (v : BatcherSeen). v.limit) value, ap (λ (v : BatcherSeen). length v.batch) value)

-- the last one was counted
pub within-all : (setup : Setup) (part : List ℕ) (c0 c1 c2 : CountingSeen) (last : List ℕ) (b0 b1 : BatcherSeen) → Waits setup part c0 c1 last b0 b1
    → ((before : List (List ℕ)) (stream : List ℕ) (b : BatcherSeen) → IsBehind setup before stream c1 last b → IsWithin setup before stream c2 b)
    → (before : List (List ℕ)) (stream : List ℕ) → IsWithin setup before stream c0 b0 → IsWithin setup before (stream ++ part) c2 b1
within-all setup part c0 c1 c2 last b0 b1 a counts before stream h = counts before (stream ++ part) b1 (a.within before stream h)

pub feeds-all : (setup : Setup) (from to : ℕ) (v w : FilesView) (c0 c1 c2 : CountingSeen) (last : List ℕ) (b0 b1 : BatcherSeen)
    → FeedsBehind setup from to v w c0 c1 last b0 b1 → c2.start ≡ c1.start
    → ((before : List (List ℕ)) (stream : List ℕ) (b : BatcherSeen) → IsBehind setup before stream c1 last b → IsWithin setup before stream c2 b)
    → FeedsPart setup from to v w c0 c2 b0 b1
feeds-all setup from to v w c0 c1 c2 last b0 b1 a start counts = record {
  part = a.part;
  read = a.read;
  going = a.waits.going;
  fed = a.waits.fed;
  limit = a.waits.limit;
  start = start ∙ a.waits.start;
  within = within-all setup a.part c0 c1 c2 last b0 b1 a.waits counts;
}

-- memory may be wanting before anything of a part is read, and once it is
pub wants-before : (room : ℕ) (v : FilesView) → StopsWithin room v v NoMemory
wants-before room v = (0, omega arith, reads-nil v)

pub wants-after : (n room : ℕ) (v w : FilesView) → n ≤ room → w ≡ after_reads w.counts.calls n v → StopsWithin room v w NoMemory
wants-after n room v w within files = (n, within, files)

-- ---- a stream from its beginning to its end

-- no lines are counted besides
pub adds-none : (setup : Setup) (c : CountingSeen) → Adds setup [] c c
adds-none setup c = record {
  start = refl;
  counted = λ before h. subst (λ (ls : List (List ℕ)). HasCounted setup ls c) (sym (append-nil before)) h;
}

begins : (setup : Setup) (before : List (List ℕ)) (counting : CountingSeen) (batcher : BatcherSeen) → Holds [] [] batcher → HasCounted setup before counting
    → IsWithin setup before [] counting batcher
begins setup before counting batcher holds counted = record {
  taken = [];
  holds = holds;
  counted = subst (λ (ls : List (List ℕ)). HasCounted setup ls counting) (sym (append-nil before)) counted;
}

module _ (setup : Setup) (text : List ℕ) (keep : Bool) (ended : ℕ) (c0 c1 c2 : CountingSeen) (b0 b1 : BatcherSeen) (holds : Holds [] [] b0)
    (fed : (before : List (List ℕ)) (stream : List ℕ) → IsWithin setup before stream c0 b0 → IsWithin setup before (stream ++ text) c1 b1)
    (over : (before : List (List ℕ)) (stream : List ℕ) → IsWithin setup before stream c1 b1 → AreEnded stream ended × HasCounted setup (before ++ lines stream keep) c2) where
  pub adds : c1.start ≡ c0.start → c2.start ≡ c1.start → Adds setup (lines text keep) c0 c2
  adds begun start = record {
    start = start ∙ begun;
    counted = λ before h. (over before text (fed before [] (begins setup before c0 b0 holds h))).1;
  }

  pub are-ended : HasCountedSome setup c0 → AreEnded text ended
  are-ended some = (over some.0 text (fed some.0 [] (begins setup some.0 c0 b0 holds some.1))).0
