-- What a trace of calls of `Files` leaves, by the clauses of each call.
use Rattle.std.proofs.Common.{◌≡◌, ℕ, ◌<◌, ◌≤◌, ◌⊎◌, ◌||◌, Bool, true, false, List, refl, sym, ap, subst, ◌∙◌, inl, inr, arith, Option, Some, Result, Ok, Err}
use Rattle.std.specs.List.{Contains}
use Rattle.std.proofs.lemmas.Bool.{cases_lt}
use Rattle.ga_counters.specs.Counts.{HasListed, raised, Rose, is_due}
use Rattle.ga_ports.specs.Files.{FilesView, Opens, Sizes, Reads, OpenFailsIfListed, FailsIfListed, ReadsIfListed, is_absent, asks, gives, calls_once, fails_once, told}
use Rattle.ga_ports.specs.Trace.{FilesCall, FilesTrace, FilesStay, FilesFailAsListed}
use Rattle.ga_ports.specs.Trace.FilesCall.{open_call, size_call, read_call}
use Rattle.ga_ports.specs.Trace.FilesTrace.{no_files_call, one_files_call, files_then}
use Rattle.ga_ports.specs.declared.file_counts.FileCounts.{FileCounts}
use Rattle.ga_counters.proofs.Listing.{due-contains, contains-due, listed-wider, told-at}

-- one call, as far as the counts of calls, faults and absent names tell of it
pub record Once (old new : FilesView) : Type 0 where
  pub stay : FilesStay old new
  pub calls : new.counts.calls ≡ raised old.counts.calls 1

-- it failed, for it is listed or its name is absent, or it didn't, and neither holds
abbrev Outcome : List ℕ → FilesView → FilesView → Type 0
Outcome listed old new =
    ((new.counts.faults ≡ old.counts.faults) × (new.counts.absent ≡ old.counts.absent) × (is_due listed old.counts.calls ≡ false))
    ⊎ ((new.counts.faults ≡ raised old.counts.faults 1) × ((is_due listed old.counts.calls ≡ true) ⊎ (new.counts.absent ≡ raised old.counts.absent 1)))

-- a view with other counts, and perhaps another open file
once-by : (is_open : Bool) (bytes : Option (List ℕ)) (measured : Option ℕ) (counts : FileCounts) (old new : FilesView)
    → new ≡ record old { is_open = is_open; bytes = bytes; measured = measured; counts = counts }
    → counts.calls ≡ raised old.counts.calls 1 → old.counts.faults ≤ counts.faults → old.counts.given ≤ counts.given → old.counts.sizes ≤ counts.sizes
    → old.counts.asked ≤ counts.asked → old.counts.shorts ≤ counts.shorts → old.counts.absent ≤ counts.absent → Once old new
once-by is_open bytes measured counts old new e calls faults given sizes asked shorts absent =
    let calls' : old.counts.calls ≤ counts.calls = omega arith in
    subst (λ (v : FilesView). Once old v) (sym e) (record {
      stay = record { contents = refl; listed = refl; calls = calls'; faults = faults; given = given; sizes = sizes; asked = asked; shorts = shorts; absent = absent };
      calls = calls;
    })

absent-asked : (absent : Bool) (c : FileCounts) → c.absent ≤ (asks absent c).absent
absent-asked true c = omega arith
absent-asked false c = omega arith

shorts-given : (short : Bool) (at n : ℕ) (c : FileCounts) → c.shorts ≤ (gives short at n c).shorts
shorts-given true at n c = omega arith
shorts-given false at n c = omega arith

opens-once : {E : Type 0} → (name : List ℕ) (old new : FilesView) (r : Result (Unit {0}) E) → Opens name old new r → Once old new
opens-once name old new (Ok u) o =
    once-by _ _ _ _ old new o.ok.1 refl (omega arith) (omega arith) (omega arith) (omega arith) (omega arith) (absent-asked false (calls_once old.counts))
opens-once name old new (Err x) o =
    once-by _ _ _ _ old new o.failed refl (omega arith) (omega arith) (omega arith) (omega arith) (omega arith) (absent-asked (is_absent name old.contents) (fails_once old.counts))

fails-once : (old new : FilesView) → new ≡ record old { counts = fails_once old.counts } → Once old new
fails-once old new e = once-by _ _ _ _ old new e refl (omega arith) (omega arith) (omega arith) (omega arith) (omega arith) (omega arith)

sizes-once : {E : Type 0} → (old new : FilesView) (r : Result ℕ E) → Sizes old new r → Once old new
sizes-once old new (Ok size) s = once-by _ _ _ _ old new s.ok.0 refl (omega arith) (omega arith) (omega arith) (omega arith) (omega arith) (omega arith)
sizes-once old new (Err x) s = fails-once old new s.failed

reads-once : {E : Type 0} → (at : ℕ) (buffer : List ℕ) (old new : FilesView) (r : Result ℕ E) → Reads at buffer old new r → Once old new
reads-once at buffer old new (Ok n) s =
    once-by _ _ _ _ old new s.ok.2 refl (omega arith) (omega arith) (omega arith) (omega arith) (shorts-given _ at n (calls_once old.counts)) (omega arith)
reads-once at buffer old new (Err x) s = fails-once old new s.failed

pub once : {old new : FilesView} → FilesCall old new → Once old new
once (open_call o e) = opens-once _ _ _ _ o
once (size_call s e) = sizes-once _ _ _ s
once (read_call r e) = reads-once _ _ _ _ _ r

stays : (old : FilesView) → FilesStay old old
stays old = record {
  contents = refl;
  listed = refl;
  calls = omega arith;
  faults = omega arith;
  given = omega arith;
  sizes = omega arith;
  asked = omega arith;
  shorts = omega arith;
  absent = omega arith;
}

stays-then : (old mid new : FilesView) → FilesStay old mid → FilesStay mid new → FilesStay old new
stays-then old mid new a b = record {
  contents = b.contents ∙ a.contents;
  listed = b.listed ∙ a.listed;
  calls = omega (arith, a.calls, b.calls);
  faults = omega (arith, a.faults, b.faults);
  given = omega (arith, a.given, b.given);
  sizes = omega (arith, a.sizes, b.sizes);
  asked = omega (arith, a.asked, b.asked);
  shorts = omega (arith, a.shorts, b.shorts);
  absent = omega (arith, a.absent, b.absent);
}

pub files-stay : {old new : FilesView} → FilesTrace old new → FilesStay old new
files-stay no_files_call = stays _
files-stay (one_files_call call) = (once call).stay
files-stay (files_then a b) = stays-then _ _ _ (files-stay a) (files-stay b)

either : (a b : Bool) → true ≡ (a || b) → (a ≡ true) ⊎ (b ≡ true)
either true b e = inl refl
either false b e = inr (sym e)

neither : (a b : Bool) → false ≡ (a || b) → a ≡ false
neither true b e = cc
neither false b e = refl

opens-outcome : {E : Type 0} → (listed : List ℕ) (name : List ℕ) (old new : FilesView) (r : Result (Unit {0}) E) → old.listed ≡ Some listed → Opens name old new r
    → OpenFailsIfListed name old r → Outcome listed old new
opens-outcome listed name old new (Ok u) told o e =
    inl (ap (λ (v : FilesView). v.counts.faults) o.ok.1, ap (λ (v : FilesView). v.counts.absent) o.ok.1, neither _ _ (told-at _ _ listed told e))
opens-outcome listed name old new (Err x) told o e =
    inr (ap (λ (v : FilesView). v.counts.faults) o.failed, cause (is_due listed old.counts.calls) (is_absent name old.contents) refl refl (told-at _ _ listed told e))
  where
    cause : (due absent : Bool) → is_due listed old.counts.calls ≡ due → is_absent name old.contents ≡ absent → true ≡ (due || absent)
        → (is_due listed old.counts.calls ≡ true) ⊎ (new.counts.absent ≡ raised old.counts.absent 1)
    cause true absent is gone h = inl is
    cause false true is gone h =
        inr (ap (λ (v : FilesView). v.counts.absent) o.failed ∙ ap (λ (b : Bool). (asks b (fails_once old.counts)).absent) gone)
    cause false false is gone h = cc

fails-outcome : (listed : List ℕ) (old new : FilesView) → new ≡ record old { counts = fails_once old.counts } → true ≡ is_due listed old.counts.calls → Outcome listed old new
fails-outcome listed old new e due = inr (ap (λ (v : FilesView). v.counts.faults) e, inl (sym due))

sizes-outcome : {E : Type 0} → (listed : List ℕ) (old new : FilesView) (r : Result ℕ E) → old.listed ≡ Some listed → Sizes old new r → FailsIfListed old r → Outcome listed old new
sizes-outcome listed old new (Ok size) told s e =
    inl (ap (λ (v : FilesView). v.counts.faults) s.ok.0, ap (λ (v : FilesView). v.counts.absent) s.ok.0, sym (told-at _ _ listed told e))
sizes-outcome listed old new (Err x) told s e = fails-outcome listed old new s.failed (told-at _ _ listed told e)

reads-outcome : {E : Type 0} → (listed : List ℕ) (at : ℕ) (buffer : List ℕ) (old new : FilesView) (r : Result ℕ E) → old.listed ≡ Some listed → Reads at buffer old new r
    → ReadsIfListed at buffer old r → Outcome listed old new
reads-outcome listed at buffer old new (Ok n) told s e =
    inl (ap (λ (v : FilesView). v.counts.faults) s.ok.2, ap (λ (v : FilesView). v.counts.absent) s.ok.2, sym (told-at _ _ listed told e).fails)
reads-outcome listed at buffer old new (Err x) told s e = fails-outcome listed old new s.failed (told-at _ _ listed told e).fails

outcome : {old new : FilesView} (listed : List ℕ) → old.listed ≡ Some listed → FilesCall old new → Outcome listed old new
outcome listed told (open_call o e) = opens-outcome listed _ _ _ _ told o e
outcome listed told (size_call s e) = sizes-outcome listed _ _ _ told s e
outcome listed told (read_call r e) = reads-outcome listed _ _ _ _ _ told r e

fails-once-as-listed : (listed : List ℕ) (old new : FilesView) → new.counts.calls ≡ raised old.counts.calls 1 → Outcome listed old new → FilesFailAsListed listed old new
fails-once-as-listed listed old new calls (inl (faults, absent, fine)) = record {
  cause = λ rose. absurd (omega arith);
  at_listed = λ call has later within.
      let is : call ≡ raised old.counts.calls 1 = omega arith in
      let due = contains-due listed old.counts.calls call has is in
      absurd (cc);
  at_absent = λ rose. absurd (omega arith);
}
fails-once-as-listed listed old new calls (inr (faults, why)) = record {
  cause = λ rose. because why;
  at_listed = λ call has later within. omega arith;
  at_absent = λ rose. omega arith;
}
  where
    because : (is_due listed old.counts.calls ≡ true) ⊎ (new.counts.absent ≡ raised old.counts.absent 1)
        → HasListed listed old.counts.calls new.counts.calls ⊎ Rose old.counts.absent new.counts.absent
    because (inl due) = inl (record { call = raised old.counts.calls 1; is_listed = due-contains listed old.counts.calls due; later = omega arith; within = omega arith })
    because (inr absent) = inr (omega arith)

fails-none : (listed : List ℕ) (old : FilesView) → FilesFailAsListed listed old old
fails-none listed old = record { cause = λ rose. absurd (omega arith); at_listed = λ call has later within. absurd (omega arith); at_absent = λ rose. absurd (omega arith) }

fails-then : (listed : List ℕ) (old mid new : FilesView) → FilesStay old mid → FilesStay mid new → FilesFailAsListed listed old mid → FilesFailAsListed listed mid new
    → FilesFailAsListed listed old new
fails-then listed old mid new s t a b = record {
  cause = λ rose. by-half (cases_lt old.counts.faults mid.counts.faults) rose;
  at_listed = λ call has later within. at-half call has later within (cases_lt mid.counts.calls call);
  at_absent = λ rose. absent-half rose (cases_lt old.counts.absent mid.counts.absent);
}
  where
    before : HasListed listed old.counts.calls mid.counts.calls ⊎ Rose old.counts.absent mid.counts.absent
        → HasListed listed old.counts.calls new.counts.calls ⊎ Rose old.counts.absent new.counts.absent
    before (inl h) = inl (listed-wider listed _ _ _ _ (omega arith) t.calls h)
    before (inr h) = inr (omega (arith, h, t.absent))

    behind : HasListed listed mid.counts.calls new.counts.calls ⊎ Rose mid.counts.absent new.counts.absent
        → HasListed listed old.counts.calls new.counts.calls ⊎ Rose old.counts.absent new.counts.absent
    behind (inl h) = inl (listed-wider listed _ _ _ _ s.calls (omega arith) h)
    behind (inr h) = inr (omega (arith, h, s.absent))

    by-half : (old.counts.faults < mid.counts.faults) ⊎ (mid.counts.faults ≤ old.counts.faults) → old.counts.faults < new.counts.faults
        → HasListed listed old.counts.calls new.counts.calls ⊎ Rose old.counts.absent new.counts.absent
    by-half (inl first) rose = before (a.cause first)
    by-half (inr still) rose = behind (b.cause (omega arith))

    at-half : (call : ℕ) → Contains listed call → old.counts.calls < call → call ≤ new.counts.calls → (mid.counts.calls < call) ⊎ (call ≤ mid.counts.calls)
        → Rose old.counts.faults new.counts.faults
    at-half call has later within (inl second) = omega (arith, b.at_listed call has second within, s.faults)
    at-half call has later within (inr first) = omega (arith, a.at_listed call has later first, t.faults)

    absent-half : old.counts.absent < new.counts.absent → (old.counts.absent < mid.counts.absent) ⊎ (mid.counts.absent ≤ old.counts.absent) → Rose old.counts.faults new.counts.faults
    absent-half rose (inl first) = omega (arith, a.at_absent first, t.faults)
    absent-half rose (inr still) = let second : mid.counts.absent < new.counts.absent = omega arith in omega (arith, b.at_absent second, s.faults)

pub files-fail-as-listed : {old new : FilesView} (listed : List ℕ) → old.listed ≡ Some listed → FilesTrace old new → FilesFailAsListed listed old new
files-fail-as-listed listed told no_files_call = fails-none listed _
files-fail-as-listed listed told (one_files_call call) = fails-once-as-listed listed _ _ (once call).calls (outcome listed told call)
files-fail-as-listed listed told (files_then a b) =
    let kept = files-stay a in
    fails-then listed _ _ _ kept (files-stay b) (files-fail-as-listed listed told a) (files-fail-as-listed listed (kept.listed ∙ told) b)
