-- One log more, read and counted after those before it.
use Rattle.std.proofs.Common.{◌≡◌, ◌≢◌, ℕ, zero, suc, ◌+◌, ◌<◌, ◌≤◌, List, [], ◌∷◌, ◌++◌, inl, inr, refl, ap, sym, ◌∙◌, subst, length, take, drop, slice_index_or, arith, append_assoc, append-nil, Option, Some, None}
use Rattle.std.specs.List.{flat_map}
use Rattle.ga_base.specs.declared.counts.Totals.{Totals}
use Rattle.ga_base.specs.declared.entry.Entry.{Entry}
use Rattle.ga_ports.specs.Files.{FilesView}
use Rattle.ga_resume.specs.declared.fault.PlaceFault.{PlaceFault}
use Rattle.ga_resume.specs.declared.fault.PlaceFault.TheVariants.{FileFault, FileShort, NoMemory}
use Rattle.ga_outcomes.specs.LineOutcomes.{FillsAmong}
use Rattle.ga_outcomes.specs.declared.setup.Setup.{Setup}
use Rattle.ga_logs.specs.Counting.{AreInTotal, CountingSeen, CountingStart, HasCounted, HasCountedBy, LinesAreCounted}
use Rattle.ga_logs.specs.declared.full.CountingFault.{CountingFault}
use Rattle.ga_logs.specs.declared.full.CountingFault.TheVariants.{Full as CounterFull, NoMemory as CountingNoMemory}
use Rattle.ga_logs.specs.declared.full.Full.{Full as TheFull}
use Rattle.ga_tallies.specs.Tallies.{TallySeen}
use Rattle.ga_logs.specs.Following.{MissesAt, MissesLog, ReadsAll, ReadsPortion, ReadsSome}
use Rattle.ga_logs.specs.Following.MissesAt.{misses_first, misses_later}
use Rattle.ga_logs.specs.Following.ReadsAll.{read_all, read_then}
use Rattle.ga_logs.specs.Following.ReadsSome.{read_none, read_last, read_on}
use Rattle.ga_logs.specs.Logs.{CountsLogs, NoneFailed, StopsLogs}
use Rattle.ga_logs.specs.Missing.{LinesFit, MissesLogs}
use Rattle.ga_logs.specs.Portions.{Follows, counted_lines, generated_lines}
use Rattle.ga_logs.specs.Steps.Logs.{CountsOneLog, HasCountedLogs, StopsOneLog, fault_of_counting, fault_of_full, fault_of_log, portion_lines}
use Rattle.ga_logs.specs.Steps.Streaming.{Adds}
use Rattle.ga_resume.specs.declared.follow.Follow.{Follow}
use Rattle.ga_logs.specs.declared.portion.Portion.{Portion}
use Rattle.ga_resume.specs.declared.start.Start.{Start}

-- a list up to a place and one further, and from there on
take-next : {A : Type 0} (xs : List A) (i : ℕ) (d : A) → i < length xs → take (suc i) xs ≡ take i xs ++ slice_index_or xs i d ∷ []
take-next [] i d h = absurd (omega (arith, h))
take-next (x ∷ xs) zero d h = refl
take-next (x ∷ xs) (suc i) d h = ap (λ ys. x ∷ ys) (take-next xs i d (omega (arith, h)))

pub take-more : {A : Type 0} (xs : List A) (i : ℕ) (d : A) → i < length xs → take (i + 1) xs ≡ take i xs ++ slice_index_or xs i d ∷ []
take-more xs i d h =
    let next : i + 1 ≡ suc i = omega arith in
    ap (λ n. take n xs) next ∙ take-next xs i d h

pub split-at : {A : Type 0} (xs : List A) (i : ℕ) (d : A) → i < length xs → xs ≡ take i xs ++ slice_index_or xs i d ∷ drop (suc i) xs
split-at [] i d h = absurd (omega (arith, h))
split-at (x ∷ xs) zero d h = refl
split-at (x ∷ xs) (suc i) d h = ap (λ ys. x ∷ ys) (split-at xs i d (omega (arith, h)))

pub taken-length : {A : Type 0} (xs : List A) (i : ℕ) → i ≤ length xs → i ≡ length (take i xs)
taken-length xs zero h = refl
taken-length [] (suc i) h = absurd (omega (arith, h))
taken-length (x ∷ xs) (suc i) h = ap suc (taken-length xs i (omega (arith, h)))

pub split-there : {A : Type 0} (xs : List A) (i : ℕ) → xs ≡ take i xs ++ drop i xs
split-there xs zero = refl
split-there [] (suc i) = refl
split-there (x ∷ xs) (suc i) = ap (λ ys. x ∷ ys) (split-there xs i)

read-more : {follow : Follow} {front : List (List ℕ)} {name : List ℕ} {old mid new : List Entry} {a b c : FilesView} {ps : List Portion} {p : Portion}
    → ReadsAll follow front old mid a b ps → ReadsPortion follow mid name b c p → Follows follow p mid new
    → ReadsAll follow (front ++ name ∷ []) old new a c (ps ++ p ∷ [])
read-more read_all reads went = read_then reads went read_all
read-more (read_then one goes more) reads went = read_then one goes (read-more more reads went)

some-more : {follow : Follow} {front : List (List ℕ)} (back : List (List ℕ)) {name : List ℕ} {old mid : List Entry} {a b c : FilesView} {ps : List Portion} {p : Portion}
    → ReadsAll follow front old mid a b ps → ReadsPortion follow mid name b c p → ReadsSome follow (front ++ name ∷ back) old a c (ps ++ p ∷ [])
some-more back read_all reads = read_last reads
some-more back (read_then one goes more) reads = read_on one goes (some-more back more reads)

some-of-all : {follow : Follow} {front : List (List ℕ)} (back : List (List ℕ)) {old mid : List Entry} {a b : FilesView} {ps : List Portion}
    → ReadsAll follow front old mid a b ps → ReadsSome follow (front ++ back) old a b ps
some-of-all back read_all = read_none
some-of-all back (read_then one goes more) = read_on one goes (some-of-all back more)

misses-more : {follow : Follow} {front : List (List ℕ)} (back : List (List ℕ)) {name : List ℕ} {old mid : List Entry} {a b c : FilesView} {ps : List Portion} {fault : PlaceFault}
    → ReadsAll follow front old mid a b ps → MissesLog follow mid name b c fault → MissesAt follow (front ++ name ∷ back) old (length front) a c ps fault
misses-more back read_all misses = misses_first misses
misses-more back (read_then one goes more) misses = misses_later one goes (misses-more back more misses)

flat-more : (f : Portion → List (List ℕ)) (ps : List Portion) (p : Portion) → flat_map f (ps ++ p ∷ []) ≡ flat_map f ps ++ f p
flat-more f [] p = append-nil (f p)
flat-more f (q ∷ ps) p = ap (λ (ls : List (List ℕ)). f q ++ ls) (flat-more f ps p) ∙ sym (append_assoc (f q) (flat_map f ps) (f p))

lines-more : (n : Option ℕ) (follow : Follow) (ps : List Portion) (p : Portion) → counted_lines n follow (ps ++ p ∷ []) ≡ counted_lines n follow ps ++ portion_lines follow p
lines-more n follow ps p =
    ap (λ (ls : List (List ℕ)). generated_lines n ++ ls) (flat-more (portion_lines follow) ps p)
    ∙ sym (append_assoc (generated_lines n) (flat_map (portion_lines follow) ps) (portion_lines follow p))

-- the generator's lines are counted, and no log was read
pub counted-none : (setup : Setup) (start : Start) (n : Option ℕ) (entries : List Entry) (files : FilesView) (old new : CountingSeen)
    → old.start.totals ≡ start.totals → HasCounted setup [] old → Adds setup (generated_lines n) old new → HasCountedLogs setup start n [] entries entries files files new
counted-none setup start n entries files old new begun none adds = record {
  portions = [];
  read = read_all;
  begun = ap (λ (s : CountingStart). s.totals) adds.start ∙ begun;
  counted = subst (λ (ls : List (List ℕ)). HasCounted setup ls new) (sym (append-nil (generated_lines n))) (adds.counted [] none);
}

-- one log more
pub counted-more : (setup : Setup) (start : Start) (n : Option ℕ) (front : List (List ℕ)) (name : List ℕ) (es es' es'' : List Entry) (a b c : FilesView) (old new : CountingSeen)
    → HasCountedLogs setup start n front es es' a b old → CountsOneLog setup start.follow name es' es'' b c old new
    → HasCountedLogs setup start n (front ++ name ∷ []) es es'' a c new
counted-more setup start n front name es es' es'' a b c old new h one = record {
  portions = h.portions ++ one.portion ∷ [];
  read = read-more h.read one.read one.follows;
  begun = ap (λ (s : CountingStart). s.totals) one.adds.start ∙ h.begun;
  counted = subst (λ (ls : List (List ℕ)). HasCounted setup ls new) (sym (lines-more n start.follow h.portions one.portion))
      (one.adds.counted (counted_lines n start.follow h.portions) h.counted);
}

-- all logs were counted
pub counts-logs : (setup : Setup) (start : Start) (n : Option ℕ) (names : List (List ℕ)) (es es' : List Entry) (a b : FilesView) (counting : CountingSeen) (total : TallySeen)
    → HasCountedLogs setup start n names es es' a b counting
    → ((s : Setup) (all : List (List ℕ)) → HasCounted s all counting → AreInTotal s counting.start.totals all total) → CountsLogs setup start n names es es' a b total
counts-logs setup start n names es es' a b counting total h sums = record {
  portions = h.portions;
  read = h.read;
  counts = rw h.begun at (sums setup (counted_lines n start.follow h.portions) h.counted);
}

-- memory is wanting before a log is read
pub wants-none : (setup : Setup) (start : Start) (n : Option ℕ) (names : List (List ℕ)) (es : List Entry) (a : FilesView) → StopsLogs setup start n names es a a (fault_of_log 0 NoMemory)
wants-none setup start n names es a = inr ([], read_none)

-- the faults that mean no failed call
pub none-failed : (fault : CountingFault) → NoneFailed (fault_of_counting fault)
none-failed (CounterFull full) = tt
none-failed CountingNoMemory = tt

pub none-failed-log : (place : ℕ) (fault : PlaceFault) → fault ≢ FileFault → NoneFailed (fault_of_log place fault)
none-failed-log place FileFault none = absurd (none refl)
none-failed-log place (FileShort at) none = tt
none-failed-log place NoMemory none = tt

-- there is no sum of what was counted of some logs
pub stops-sum : (setup : Setup) (start : Start) (n : Option ℕ) (names front back : List (List ℕ)) → names ≡ front ++ back → (es es' : List Entry) (a b : FilesView) (counting : CountingSeen)
    → HasCountedLogs setup start n front es es' a b counting → (fault : CountingFault)
    → ((full : TheFull) → fault ≡ CounterFull full → (s : Setup) (all : List (List ℕ)) → HasCounted s all counting → FillsAmong s counting.start.totals all full.which full.total)
    → StopsLogs setup start n names es a b (fault_of_counting fault)
stops-sum setup start n names front back split es es' a b counting h (CounterFull full) fills = record {
  portions = h.portions;
  read = rw split (some-of-all back h.read);
  fills = rw h.begun at (fills full refl setup (counted_lines n start.follow h.portions) h.counted);
}
stops-sum setup start n names front back split es es' a b counting h CountingNoMemory fills = inr (h.portions, rw split (some-of-all back h.read))

-- a counter is full once some logs were counted
pub stops-full : (setup : Setup) (start : Start) (n : Option ℕ) (names front back : List (List ℕ)) → names ≡ front ++ back → (es es' : List Entry) (a b : FilesView) (counting : CountingSeen)
    → HasCountedLogs setup start n front es es' a b counting → (full : TheFull) → counting.full ≡ Some full → StopsLogs setup start n names es a b (fault_of_full full)
stops-full setup start n names front back split es es' a b counting h full is =
    let fills = subst (λ (o : Option TheFull). HasCountedBy o setup counting.start.totals (counted_lines n start.follow h.portions) counting.tallies) is h.counted in
    record { portions = h.portions; read = rw split (some-of-all back h.read); fills = rw h.begun at fills }

-- lines that are counted fill no counter
lines-fit : {setup : Setup} {start : Totals} {all : List (List ℕ)} {tallies : List TallySeen} → LinesAreCounted setup start all tallies → LinesFit setup start all
lines-fit h = record { outcomes = h.outcomes; have_outcomes = h.have_outcomes; fits = h.tallied.fits }

-- a log is read only while no counter is full
module _ (setup : Setup) (start : Start) (n : Option ℕ) (names front back : List (List ℕ)) (name : List ℕ) (split : names ≡ front ++ name ∷ back)
    (es es' : List Entry) (a b c : FilesView) (old : CountingSeen) (h : HasCountedLogs setup start n front es es' a b old) (unfilled : old.full ≡ None) where
  fit : LinesFit setup start.totals (counted_lines n start.follow h.portions)
  fit =
      let lines = subst (λ (o : Option TheFull). HasCountedBy o setup old.start.totals (counted_lines n start.follow h.portions) old.tallies) unfilled h.counted in
      rw h.begun at (lines-fit lines)

  misses : (place : ℕ) (fault : PlaceFault) → place ≡ length front → MissesLog start.follow es' name b c fault → MissesLogs setup start n names es a c place fault
  misses place fault at one = record { portions = h.portions; misses = rw (split, at) (misses-more back h.read one); fits = fit }

  -- why one log more wasn't counted is why the logs weren't
  pub stops-more : (place : ℕ) (fault : PlaceFault) → place ≡ length front → StopsOneLog start.follow es' name b c fault → StopsLogs setup start n names es a c (fault_of_log place fault)
  stops-more place FileFault at (inl one) = misses place FileFault at one
  stops-more place FileFault at (inr (other, _)) = absurd (cc other)
  stops-more place (FileShort byte) at (inl one) = misses place (FileShort byte) at one
  stops-more place (FileShort byte) at (inr (other, _)) = absurd (cc other)
  stops-more place NoMemory at (inl one) = let h' = misses place NoMemory at one in inl (place, h'.portions, h'.misses)
  stops-more place NoMemory at (inr (same, (portion, reads))) = inr (h.portions ++ portion ∷ [], rw split (some-more back h.read reads))
