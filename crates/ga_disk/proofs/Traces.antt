-- What a trace of calls of a disk leaves, by the clauses of each call.
use Rattle.std.proofs.Common.{◌≡◌, ℕ, ◌<◌, ◌≤◌, ◌⊎◌, if◌then◌else◌, ◌||◌, Bool, true, false, List, refl, sym, subst, ◌∙◌, inl, inr, arith, Option, Some, None, is_some, option_map, Result, Ok, Err, nat_le}
use Rattle.std.specs.Result.{is_err}
use Rattle.std.specs.List.{Contains}
use Rattle.std.proofs.lemmas.Bool.{cases_lt}
use Rattle.std.proofs.lemmas.Bool.Decides.{nat_tests}
use Rattle.ga_counters.specs.Counts.{HasListed, Rose, is_due, raised}
use Rattle.ga_counters.proofs.Listing.{contains-due, due-contains, listed-wider, told-at}
use Rattle.ga_counters.specs.declared.failed.Failed.{Failed}
use Rattle.ga_disk.specs.Sides.{Sides}
use Rattle.ga_disk.specs.Disk.{DiskView, FailsExactly, Opens, Sizes, Reads, Writes, Cuts, Syncs, calls_once, fails_once, is_past, must_fail}
use Rattle.ga_disk.specs.Trace.{DiskCall, DiskTrace, DiskStays, DiskFailsAsListed, PassesBound}
use Rattle.ga_disk.specs.Trace.DiskCall.{open_call, size_call, read_call, write_call, cut_call, sync_call}
use Rattle.ga_disk.specs.Trace.DiskTrace.{no_disk_call, one_disk_call, disk_then}
use Rattle.ga_disk.specs.declared.disk_counts.DiskCounts.{DiskCounts}

-- one call, as far as the counts tell of it: it went well, or failed
pub record Once (failed : Bool) (old new : DiskView) : Type 0 where
  pub stay : DiskStays old new
  pub calls : new.counts.calls ≡ raised old.counts.calls 1
  pub faults : new.counts.faults ≡ (if failed then raised old.counts.faults 1 else old.counts.faults)
  pub starved : failed ≡ false → new.counts.starved ≡ old.counts.starved

once-by : (failed is_open : Bool) (seen : Option Sides) (path : Option (Option (List ℕ))) (counts : DiskCounts) (old new : DiskView)
    → new ≡ record old { is_open = is_open; seen = seen; path = path; counts = counts } → (old.is_open ≡ true → is_open ≡ true)
    → is_some path ≡ is_some old.path → counts.calls ≡ raised old.counts.calls 1
    → counts.faults ≡ (if failed then raised old.counts.faults 1 else old.counts.faults) → (failed ≡ false → counts.starved ≡ old.counts.starved)
    → old.counts.faults ≤ counts.faults → old.counts.opened ≤ counts.opened → old.counts.starved ≤ counts.starved → Once failed old new
once-by failed is_open seen path counts old new e stays_open tells calls faults starved faults' opened starved' =
    let calls' : old.counts.calls ≤ counts.calls = omega arith in
    subst (λ (v : DiskView). Once failed old v) (sym e) (record {
      stay = record {
        stays_open = stays_open;
        steady = refl;
        listed = refl;
        bound = refl;
        tells_path = tells;
        calls = calls';
        faults = faults';
        opened = opened;
        starved = starved';
      };
      calls = calls;
      faults = faults;
      starved = starved;
    })

tells-map : {A : Type 0} (path : Option A) (thing : A) → is_some (option_map (λ _. thing) path) ≡ is_some path
tells-map None thing = refl
tells-map (Some x) thing = refl

opens-once : (path : List ℕ) (old new : DiskView) (r : Result (Unit {0}) Failed) → Opens path old new r → Once (is_err r) old new
opens-once path old new (Ok u) o =
    once-by false true old.seen _ _ old new o.ok (λ e. refl) (tells-map old.path (Some path)) refl refl (λ e. refl) (omega arith) (omega arith) (omega arith)
opens-once path old new (Err x) o =
    once-by true old.is_open old.seen old.path _ old new o.failed.0 (λ e. e) refl refl refl (λ e. cc) (omega arith) (omega arith) o.failed.1

-- a call that changed what a read gives at most, and went well
well-once : (seen : Option Sides) (old new : DiskView) → new ≡ record old { seen = seen; counts = calls_once old.counts } → Once false old new
well-once seen old new e =
    once-by false old.is_open seen old.path _ old new e (λ e. e) refl refl refl (λ e. refl) (omega arith) (omega arith) (omega arith)

-- and failed
fails-once : (seen : Option Sides) (starved : ℕ) (old new : DiskView) → new ≡ record old { seen = seen; counts = fails_once starved old.counts }
    → old.counts.starved ≤ starved → Once true old new
fails-once seen starved old new e more =
    once-by true old.is_open seen old.path _ old new e (λ e. e) refl refl refl (λ e. cc) (omega arith) (omega arith) more

sizes-once : (side : ℕ) (old new : DiskView) (r : Result ℕ Failed) → Sizes side old new r → Once (is_err r) old new
sizes-once side old new (Ok size) s = well-once old.seen old new s.ok.2
sizes-once side old new (Err x) s = fails-once old.seen old.counts.starved old new s.failed (omega arith)

reads-once : (side at : ℕ) (buffer : List ℕ) (old new : DiskView) (r : Result (Unit {0}) Failed) → Reads side at buffer old new r → Once (is_err r) old new
reads-once side at buffer old new (Ok u) s = well-once old.seen old new s.ok.1
reads-once side at buffer old new (Err x) s = fails-once old.seen old.counts.starved old new s.failed (omega arith)

writes-once : (side at : ℕ) (piece : List ℕ) (old new : DiskView) (r : Result (Unit {0}) Failed) → Writes side at piece old new r → Once (is_err r) old new
writes-once side at piece old new (Ok u) s = well-once _ old new s.ok.1
writes-once side at piece old new (Err x) s = fails-once new.seen new.counts.starved old new s.failed.others s.failed.starved

cuts-once : (side len : ℕ) (old new : DiskView) (r : Result (Unit {0}) Failed) → Cuts side len old new r → Once (is_err r) old new
cuts-once side len old new (Ok u) s = well-once _ old new s.ok
cuts-once side len old new (Err x) s = fails-once new.seen new.counts.starved old new s.failed.others s.failed.starved

syncs-once : (old new : DiskView) (r : Result (Unit {0}) Failed) → Syncs old new r → Once (is_err r) old new
syncs-once old new (Ok u) s = well-once old.seen old new s.ok
syncs-once old new (Err x) s = fails-once old.seen new.counts.starved old new s.failed.0 s.failed.1

-- a call with what it must do, where that is told
pub record Told (listed : List ℕ) (failed : Bool) (old new : DiskView) : Type 0 where
  pub once : Once failed old new
  pub well : failed ≡ false → must_fail listed old.bound old.counts.calls ≡ false
  pub ill : failed ≡ true → (must_fail listed old.bound old.counts.calls ≡ true) ⊎ (new.counts.starved ≡ raised old.counts.starved 1)

exactly : {A : Type 0} (listed : List ℕ) (must : Bool) (old new : DiskView) (r : Result A Failed) → must_fail listed old.bound old.counts.calls ≡ must
    → FailsExactly must old new r → Once (is_err r) old new → Told listed (is_err r) old new
exactly listed true old new (Ok x) is e once = let fails = (e.due refl).0 in cc
exactly listed false old new (Ok x) is e once = record { once = once; well = λ f. is; ill = λ f. cc }
exactly listed true old new (Err x) is e once = record { once = once; well = λ f. cc; ill = λ f. inl is }
exactly listed false old new (Err x) is e once = record { once = once; well = λ f. cc; ill = λ f. inr (e.starved refl) }

as-listed : {A : Type 0} (listed : List ℕ) (old new : DiskView) (r : Result A Failed) → is_err r ≡ must_fail listed old.bound old.counts.calls
    → Once (is_err r) old new → Told listed (is_err r) old new
as-listed listed old new r e once = record { once = once; well = λ f. sym e ∙ f; ill = λ f. inl (sym e ∙ f) }

-- one call with whether it failed
abbrev Outcome : List ℕ → DiskView → DiskView → Type 0
Outcome listed old new = (failed : Bool) × Told listed failed old new

once : {old new : DiskView} → DiskCall old new → (failed : Bool) × Once failed old new
once (open_call o) = (_, opens-once _ _ _ _ o)
once (size_call s) = (_, sizes-once _ _ _ _ s)
once (read_call s) = (_, reads-once _ _ _ _ _ _ s)
once (write_call s) = (_, writes-once _ _ _ _ _ _ s)
once (cut_call s) = (_, cuts-once _ _ _ _ _ s)
once (sync_call s) = (_, syncs-once _ _ _ s)

outcome : {old new : DiskView} (listed : List ℕ) → old.listed ≡ Some listed → DiskCall old new → Outcome listed old new
outcome listed told (open_call o) = (_, exactly listed _ _ _ _ refl (told-at _ _ listed told o.exact) (opens-once _ _ _ _ o))
outcome listed told (size_call s) = (_, as-listed listed _ _ _ (told-at _ _ listed told s.exact) (sizes-once _ _ _ _ s))
outcome listed told (read_call s) = (_, as-listed listed _ _ _ (told-at _ _ listed told s.exact) (reads-once _ _ _ _ _ _ s))
outcome listed told (write_call s) = (_, exactly listed _ _ _ _ refl (told-at _ _ listed told s.exact) (writes-once _ _ _ _ _ _ s))
outcome listed told (cut_call s) = (_, exactly listed _ _ _ _ refl (told-at _ _ listed told s.exact) (cuts-once _ _ _ _ _ s))
outcome listed told (sync_call s) = (_, exactly listed _ _ _ _ refl (told-at _ _ listed told s.exact) (syncs-once _ _ _ s))

stays : (old : DiskView) → DiskStays old old
stays old = record {
  stays_open = λ e. e;
  steady = refl;
  listed = refl;
  bound = refl;
  tells_path = refl;
  calls = omega arith;
  faults = omega arith;
  opened = omega arith;
  starved = omega arith;
}

stays-then : (old mid new : DiskView) → DiskStays old mid → DiskStays mid new → DiskStays old new
stays-then old mid new a b = record {
  stays_open = λ e. b.stays_open (a.stays_open e);
  steady = b.steady ∙ a.steady;
  listed = b.listed ∙ a.listed;
  bound = b.bound ∙ a.bound;
  tells_path = b.tells_path ∙ a.tells_path;
  calls = omega (arith, a.calls, b.calls);
  faults = omega (arith, a.faults, b.faults);
  opened = omega (arith, a.opened, b.opened);
  starved = omega (arith, a.starved, b.starved);
}

pub disk-stays : {old new : DiskView} → DiskTrace old new → DiskStays old new
disk-stays no_disk_call = stays _
disk-stays (one_disk_call call) = (once call).1.stay
disk-stays (disk_then a b) = stays-then _ _ _ (disk-stays a) (disk-stays b)

either : (a b : Bool) → (a || b) ≡ true → (a ≡ true) ⊎ (b ≡ true)
either true b e = inl refl
either false b e = inr e

or-left : (a b : Bool) → a ≡ true → (a || b) ≡ true
or-left true b e = refl
or-left false b e = cc

or-right : (a b : Bool) → b ≡ true → (a || b) ≡ true
or-right true b e = refl
or-right false b e = e

passes : (bound : Option ℕ) (calls calls' : ℕ) → calls' ≡ raised calls 1 → is_past bound calls ≡ true → PassesBound bound calls'
passes None calls calls' more e = cc
passes (Some b) calls calls' more e =
    let past : b ≤ calls = grind (arith, nat_tests) in
    omega arith

passes-later : (bound bound' : Option ℕ) (calls calls' : ℕ) → bound' ≡ bound → calls ≤ calls' → PassesBound bound' calls → PassesBound bound calls'
passes-later bound bound' calls calls' e le h = go bound (subst (λ b. PassesBound b calls) e h)
  where
    go : (b : Option ℕ) → PassesBound b calls → PassesBound b calls'
    go None h = absurd h
    go (Some b) h = omega (arith, h)

fails-well : (listed : List ℕ) (old new : DiskView) → Told listed false old new → DiskFailsAsListed listed old new
fails-well listed old new told =
    let calls = told.once.calls in
    let faults = told.once.faults in
    let starved = told.once.starved refl in
    let fine = told.well refl in
    record {
      cause = λ rose. absurd (omega arith);
      at_listed = λ call has later within.
          let is : call ≡ raised old.counts.calls 1 = omega arith in
          let due = or-left _ (is_past old.bound old.counts.calls) (contains-due listed old.counts.calls call has is) in
          absurd (cc);
      at_bound = λ bound is behind made.
          let past : nat_le bound old.counts.calls ≡ true = grind (arith, nat_tests) in
          let due = or-right (is_due listed old.counts.calls) _ (subst (λ b. is_past b old.counts.calls ≡ true) (sym is) past) in
          absurd (cc);
      at_starved = λ rose. absurd (omega arith);
    }

fails-ill : (listed : List ℕ) (old new : DiskView) → Told listed true old new → DiskFailsAsListed listed old new
fails-ill listed old new told =
    let calls = told.once.calls in
    let faults = told.once.faults in
    record {
      cause = λ rose. because (told.ill refl);
      at_listed = λ call has later within. omega arith;
      at_bound = λ bound is behind made. omega arith;
      at_starved = λ rose. omega arith;
    }
  where
    by : (is_due listed old.counts.calls ≡ true) ⊎ (is_past old.bound old.counts.calls ≡ true)
        → HasListed listed old.counts.calls new.counts.calls ⊎ PassesBound old.bound new.counts.calls ⊎ Rose old.counts.starved new.counts.starved
    by (inl due) = let calls = told.once.calls in
        inl (record { call = raised old.counts.calls 1; is_listed = due-contains listed old.counts.calls due; later = omega arith; within = omega arith })
    by (inr past) = inr (inl (passes old.bound old.counts.calls new.counts.calls told.once.calls past))

    because : (must_fail listed old.bound old.counts.calls ≡ true) ⊎ (new.counts.starved ≡ raised old.counts.starved 1)
        → HasListed listed old.counts.calls new.counts.calls ⊎ PassesBound old.bound new.counts.calls ⊎ Rose old.counts.starved new.counts.starved
    because (inl must) = by (either _ _ must)
    because (inr starved) = inr (inr (omega arith))

fails-none : (listed : List ℕ) (old : DiskView) → DiskFailsAsListed listed old old
fails-none listed old = record {
  cause = λ rose. absurd (omega arith);
  at_listed = λ call has later within. absurd (omega arith);
  at_bound = λ bound is behind made. absurd (omega arith);
  at_starved = λ rose. absurd (omega arith);
}

fails-then : (listed : List ℕ) (old mid new : DiskView) → DiskStays old mid → DiskStays mid new → DiskFailsAsListed listed old mid → DiskFailsAsListed listed mid new
    → DiskFailsAsListed listed old new
fails-then listed old mid new s t a b = record {
  cause = λ rose. by-half (cases_lt old.counts.faults mid.counts.faults) rose;
  at_listed = λ call has later within. at-half call has later within (cases_lt mid.counts.calls call);
  at_bound = λ bound is behind made. bound-half bound is behind made (cases_lt mid.counts.calls new.counts.calls);
  at_starved = λ rose. starved-half rose (cases_lt old.counts.starved mid.counts.starved);
}
  where
    before : HasListed listed old.counts.calls mid.counts.calls ⊎ PassesBound old.bound mid.counts.calls ⊎ Rose old.counts.starved mid.counts.starved
        → HasListed listed old.counts.calls new.counts.calls ⊎ PassesBound old.bound new.counts.calls ⊎ Rose old.counts.starved new.counts.starved
    before (inl h) = inl (listed-wider listed _ _ _ _ (omega arith) t.calls h)
    before (inr (inl h)) = inr (inl (passes-later old.bound old.bound _ _ refl t.calls h))
    before (inr (inr h)) = inr (inr (omega (arith, h, t.starved)))

    behind : HasListed listed mid.counts.calls new.counts.calls ⊎ PassesBound mid.bound new.counts.calls ⊎ Rose mid.counts.starved new.counts.starved
        → HasListed listed old.counts.calls new.counts.calls ⊎ PassesBound old.bound new.counts.calls ⊎ Rose old.counts.starved new.counts.starved
    behind (inl h) = inl (listed-wider listed _ _ _ _ s.calls (omega arith) h)
    behind (inr (inl h)) = inr (inl (passes-later old.bound mid.bound _ _ s.bound (omega arith) h))
    behind (inr (inr h)) = inr (inr (omega (arith, h, s.starved)))

    by-half : (old.counts.faults < mid.counts.faults) ⊎ (mid.counts.faults ≤ old.counts.faults) → old.counts.faults < new.counts.faults
        → HasListed listed old.counts.calls new.counts.calls ⊎ PassesBound old.bound new.counts.calls ⊎ Rose old.counts.starved new.counts.starved
    by-half (inl first) rose = before (a.cause first)
    by-half (inr still) rose = behind (b.cause (omega arith))

    at-half : (call : ℕ) → Contains listed call → old.counts.calls < call → call ≤ new.counts.calls → (mid.counts.calls < call) ⊎ (call ≤ mid.counts.calls)
        → Rose old.counts.faults new.counts.faults
    at-half call has later within (inl second) = omega (arith, b.at_listed call has second within, s.faults)
    at-half call has later within (inr first) = omega (arith, a.at_listed call has later first, t.faults)

    bound-half : (bound : ℕ) → old.bound ≡ Some bound → bound < new.counts.calls → old.counts.calls < new.counts.calls
        → (mid.counts.calls < new.counts.calls) ⊎ (new.counts.calls ≤ mid.counts.calls) → Rose old.counts.faults new.counts.faults
    bound-half bound is past made (inl second) = omega (arith, b.at_bound bound (s.bound ∙ is) past second, s.faults)
    bound-half bound is past made (inr first) =
        let reached : bound < mid.counts.calls = omega arith in
        let moved : old.counts.calls < mid.counts.calls = omega arith in
        omega (arith, a.at_bound bound is reached moved, t.faults)

    starved-half : old.counts.starved < new.counts.starved → (old.counts.starved < mid.counts.starved) ⊎ (mid.counts.starved ≤ old.counts.starved)
        → Rose old.counts.faults new.counts.faults
    starved-half rose (inl first) = omega (arith, a.at_starved first, t.faults)
    starved-half rose (inr still) = let second : mid.counts.starved < new.counts.starved = omega arith in omega (arith, b.at_starved second, s.faults)

fails-once-as-listed : (listed : List ℕ) (old new : DiskView) → Outcome listed old new → DiskFailsAsListed listed old new
fails-once-as-listed listed old new (true, told) = fails-ill listed old new told
fails-once-as-listed listed old new (false, told) = fails-well listed old new told

pub disk-fails-as-listed : {old new : DiskView} (listed : List ℕ) → old.listed ≡ Some listed → DiskTrace old new → DiskFailsAsListed listed old new
disk-fails-as-listed listed told no_disk_call = fails-none listed _
disk-fails-as-listed listed told (one_disk_call call) = fails-once-as-listed listed _ _ (outcome listed told call)
disk-fails-as-listed listed told (disk_then a b) =
    let kept = disk-stays a in
    fails-then listed _ _ _ kept (disk-stays b) (disk-fails-as-listed listed told a) (disk-fails-as-listed listed (kept.listed ∙ told) b)
