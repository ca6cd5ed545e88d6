-- What a trace of calls of `Outs` leaves, by the clauses of each call.
use Rattle.std.proofs.Common.{◌≡◌, ℕ, ◌<◌, ◌≤◌, ◌-◌, ◌⊎◌, ◌||◌, Bool, true, false, List, length, take, refl, sym, ap, subst, ◌∙◌, inl, inr, arith, eq-eqb, eqb-true, Option, Some, None, option_map, Result, Ok, Err, IfSome}
use Rattle.std.specs.List.{Contains}
use Rattle.std.proofs.lemmas.Bool.{cases_lt}
use Rattle.ga_counters.specs.Counts.{HasListed, Rose, is_due, raised}
use Rattle.ga_ports.specs.Outs.{TargetView, OutsView, target, takes, fails_once, after, after_failure, after_making, is_full, Creates, Writes, FailsExactly, WritesExactly}
use Rattle.ga_ports.specs.Trace.{OutsCall, OutsTrace, TargetStays, OutsStay, OutsFailAsListed, Narrows, SomeTargetRose}
use Rattle.ga_ports.specs.Trace.OutsCall.{create_call, write_call}
use Rattle.ga_ports.specs.Trace.OutsTrace.{no_outs_call, one_outs_call, outs_then}
use Rattle.ga_ports.specs.declared.outs.To.{To}
use Rattle.ga_ports.specs.declared.outs.To.TheVariants.{Stdout, Stderr, File}
use Rattle.ga_counters.proofs.Listing.{contains-due, due-contains, listed-wider}

narrows-itself : (room : Option ℕ) → Narrows room room
narrows-itself None = tt
narrows-itself (Some n) = omega arith

narrows-less : (n : ℕ) (room : Option ℕ) → Narrows room (option_map (λ room. room - n) room)
narrows-less n None = tt
narrows-less n (Some room) = omega arith

narrows-then : (a b c : Option ℕ) → Narrows a b → Narrows b c → Narrows a c
narrows-then None None None h k = tt
narrows-then None None (Some c) h k = k
narrows-then None (Some b) c h k = absurd h
narrows-then (Some a) None c h k = absurd h
narrows-then (Some a) (Some b) None h k = k
narrows-then (Some a) (Some b) (Some c) h k = omega arith

-- a room that is used up stays so
full-later : (a b : Option ℕ) → Narrows a b → is_full a ≡ true → is_full b ≡ true
full-later None b h e = cc
full-later (Some a) None h e = absurd h
full-later (Some a) (Some b) h e =
    let none : a ≡ 0 = eqb-true a 0 e in
    let left : b ≡ 0 = omega arith in
    eq-eqb b 0 left

target-stays : (t : TargetView) → TargetStays t t
target-stays t = record { taken = omega arith; faults = omega arith; room = narrows-itself t.room }

target-takes : (more : List ℕ) (t : TargetView) → TargetStays t (takes more t)
target-takes more t = record { taken = omega arith; faults = omega arith; room = narrows-less (length more) t.room }

target-fails : (t : TargetView) → TargetStays t (fails_once t)
target-fails t = record { taken = omega arith; faults = omega arith; room = narrows-itself t.room }

target-then : (a b c : TargetView) → TargetStays a b → TargetStays b c → TargetStays a c
target-then a b c h k = record { taken = omega (arith, h.taken, k.taken); faults = omega (arith, h.faults, k.faults); room = narrows-then a.room b.room c.room h.room k.room }

pub each : (P : To → Type 0) → P Stdout → P Stderr → P File → (to : To) → P to
each P a b c Stdout = a
each P a b c Stderr = b
each P a b c File = c

record Once (old new : OutsView) : Type 0 where
  stay : OutsStay old new
  calls : new.calls ≡ raised old.calls 1

after-once : (to : To) (more : List ℕ) (old : OutsView) → Once old (after to more old)
after-once Stdout more old = record {
  stay = record {
    listed = refl;
    calls = omega arith;
    starved = omega arith;
    made = omega arith;
    targets = each _ (target-takes more old.stdout) (target-stays old.stderr) (target-stays old.file);
  };
  calls = refl;
}
after-once Stderr more old = record {
  stay = record {
    listed = refl;
    calls = omega arith;
    starved = omega arith;
    made = omega arith;
    targets = each _ (target-stays old.stdout) (target-takes more old.stderr) (target-stays old.file);
  };
  calls = refl;
}
after-once File more old = record {
  stay = record {
    listed = refl;
    calls = omega arith;
    starved = omega arith;
    made = omega arith;
    targets = each _ (target-stays old.stdout) (target-stays old.stderr) (target-takes more old.file);
  };
  calls = refl;
}

failure-once : (to : To) (starved : ℕ) (old : OutsView) → old.starved ≤ starved → Once old (after_failure to starved old)
failure-once Stdout starved old more = record {
  stay = record {
    listed = refl;
    calls = omega arith;
    starved = more;
    made = omega arith;
    targets = each _ (target-fails old.stdout) (target-stays old.stderr) (target-stays old.file);
  };
  calls = refl;
}
failure-once Stderr starved old more = record {
  stay = record {
    listed = refl;
    calls = omega arith;
    starved = more;
    made = omega arith;
    targets = each _ (target-stays old.stdout) (target-fails old.stderr) (target-stays old.file);
  };
  calls = refl;
}
failure-once File starved old more = record {
  stay = record {
    listed = refl;
    calls = omega arith;
    starved = more;
    made = omega arith;
    targets = each _ (target-stays old.stdout) (target-stays old.stderr) (target-fails old.file);
  };
  calls = refl;
}

making-once : (name : List ℕ) (old : OutsView) → Once old (after_making name old)
making-once name old = record {
  stay = record {
    listed = refl;
    calls = omega arith;
    starved = omega arith;
    made = omega arith;
    targets = each _ (target-stays old.stdout) (target-stays old.stderr) (record { taken = omega arith; faults = omega arith; room = narrows-itself old.file.room });
  };
  calls = refl;
}

unmade-once : (starved : ℕ) (old : OutsView) → old.starved ≤ starved → Once old (record (after_failure File starved old) { made = raised old.made 1 })
unmade-once starved old more = record {
  stay = record {
    listed = refl;
    calls = omega arith;
    starved = more;
    made = omega arith;
    targets = each _ (target-stays old.stdout) (target-stays old.stderr) (target-fails old.file);
  };
  calls = refl;
}

creates-once : {E : Type 0} → (name : List ℕ) (old new : OutsView) (r : Result (Unit {0}) E) → Creates name old new r → Once old new
creates-once name old new (Ok u) h = subst (λ (v : OutsView). Once old v) (sym h.ok) (making-once name old)
creates-once name old new (Err x) h = subst (λ (v : OutsView). Once old v) (sym h.failed.0) (unmade-once new.starved old h.failed.1)

writes-once : {E : Type 0} → (to : To) (piece : List ℕ) (old new : OutsView) (r : Result ℕ E) → Writes to piece old new r → Once old new
writes-once to piece old new (Ok n) h = subst (λ (v : OutsView). Once old v) (sym h.ok.2) (after-once to (take n piece) old)
writes-once to piece old new (Err x) h = subst (λ (v : OutsView). Once old v) (sym h.failed.0) (failure-once to new.starved old h.failed.1)

once : {old new : OutsView} → OutsCall old new → Once old new
once (create_call h e) = creates-once _ _ _ _ h
once (write_call h e) = writes-once _ _ _ _ _ h

stays : (old : OutsView) → OutsStay old old
stays old = record { listed = refl; calls = omega arith; starved = omega arith; made = omega arith; targets = λ to. target-stays (target to old) }

stays-then : (old mid new : OutsView) → OutsStay old mid → OutsStay mid new → OutsStay old new
stays-then old mid new a b = record {
  listed = b.listed ∙ a.listed;
  calls = omega (arith, a.calls, b.calls);
  starved = omega (arith, a.starved, b.starved);
  made = omega (arith, a.made, b.made);
  targets = λ to. target-then _ _ _ (a.targets to) (b.targets to);
}

pub outs-stay : {old new : OutsView} → OutsTrace old new → OutsStay old new
outs-stay no_outs_call = stays _
outs-stay (one_outs_call call) = (once call).stay
outs-stay (outs_then a b) = stays-then _ _ _ (outs-stay a) (outs-stay b)

-- how one call ended: well, as listed, for lack of memory, or at a room that is used up
abbrev Fine : List ℕ → OutsView → OutsView → Type 0
Fine listed old new = (is_due listed old.calls ≡ false) × (new.starved ≡ old.starved) × ((to : To) → (target to new).faults ≡ (target to old).faults)

record Full (old new : OutsView) : Type 0 where
  to : To
  used : is_full (target to new).room ≡ true
  rose : Rose (target to old).faults (target to new).faults
  others : (other : To) → (other ≡ to) ⊎ ((target other new).faults ≡ (target other old).faults)

abbrev Outcome : List ℕ → OutsView → OutsView → Type 0
Outcome listed old new =
    Fine listed old new ⊎ ((is_due listed old.calls ≡ true) × SomeTargetRose old new) ⊎ ((new.starved ≡ raised old.starved 1) × SomeTargetRose old new)
    ⊎ ((new.starved ≡ old.starved) × Full old new)

told-at : {A : Type 0} (P : A → Type 0) (o : Option A) (x : A) → o ≡ Some x → IfSome o P → P x
told-at P o x e h = subst (λ (o : Option _). IfSome o P) e h

after-faults : (to other : To) (more : List ℕ) (v : OutsView) → (target other (after to more v)).faults ≡ (target other v).faults
after-faults Stdout Stdout more v = refl
after-faults Stdout Stderr more v = refl
after-faults Stdout File more v = refl
after-faults Stderr Stdout more v = refl
after-faults Stderr Stderr more v = refl
after-faults Stderr File more v = refl
after-faults File Stdout more v = refl
after-faults File Stderr more v = refl
after-faults File File more v = refl

after-starved : (to : To) (more : List ℕ) (v : OutsView) → (after to more v).starved ≡ v.starved
after-starved Stdout more v = refl
after-starved Stderr more v = refl
after-starved File more v = refl

failure-others : (to other : To) (starved : ℕ) (v : OutsView) → (other ≡ to) ⊎ ((target other (after_failure to starved v)).faults ≡ (target other v).faults)
failure-others Stdout Stdout starved v = inl refl
failure-others Stdout Stderr starved v = inr refl
failure-others Stdout File starved v = inr refl
failure-others Stderr Stdout starved v = inr refl
failure-others Stderr Stderr starved v = inl refl
failure-others Stderr File starved v = inr refl
failure-others File Stdout starved v = inr refl
failure-others File Stderr starved v = inr refl
failure-others File File starved v = inl refl

failure-target : (to : To) (starved : ℕ) (v : OutsView) → target to (after_failure to starved v) ≡ fails_once (target to v)
failure-target Stdout starved v = refl
failure-target Stderr starved v = refl
failure-target File starved v = refl

rose-by : (old new : TargetView) → new ≡ fails_once old → Rose old.faults new.faults
rose-by old new e = subst (λ (t : TargetView). Rose old.faults t.faults) (sym e) (omega arith)

writes-outcome : {E : Type 0} → (listed : List ℕ) (to : To) (piece : List ℕ) (old new : OutsView) (r : Result ℕ E) → Writes to piece old new r
    → WritesExactly to piece listed old new r → Outcome listed old new
writes-outcome listed to piece old new (Ok n) h e =
    inl (
      due-not (is_due listed old.calls) refl,
      ap (λ (v : OutsView). v.starved) h.ok.2 ∙ after-starved to (take n piece) old,
      λ other. ap (λ (v : OutsView). (target other v).faults) h.ok.2 ∙ after-faults to other (take n piece) old,
    )
  where
    due-not : (due : Bool) → is_due listed old.calls ≡ due → is_due listed old.calls ≡ false
    due-not true is = let wrong = (e.fails.bound_to (ap (λ (b : Bool). b || is_full (target to old).room) is)).0 in absurd (cc)
    due-not false is = is
writes-outcome listed to piece old new (Err x) h e = by-cause (is_due listed old.calls) (is_full (target to old).room) refl refl
  where
    failed : target to new ≡ fails_once (target to old)
    failed = ap (λ (v : OutsView). target to v) h.failed.0 ∙ failure-target to new.starved old

    rose : SomeTargetRose old new
    rose = (to, rose-by (target to old) (target to new) failed)

    bound : (due full : Bool) → is_due listed old.calls ≡ due → is_full (target to old).room ≡ full → (is_due listed old.calls || is_full (target to old).room) ≡ (due || full)
    bound due full is used = ap (λ (b : Bool). b || is_full (target to old).room) is ∙ ap (λ (b : Bool). due || b) used

    by-cause : (due full : Bool) → is_due listed old.calls ≡ due → is_full (target to old).room ≡ full → Outcome listed old new
    by-cause true full is used = inr (inl (is, rose))
    by-cause false true is used =
        inr (inr (inr (
          (e.fails.bound_to (bound false true is used)).1,
          record {
            to = to;
            used = ap (λ (t : TargetView). is_full t.room) failed ∙ used;
            rose = rose.1;
            others = λ other. subst (λ (v : OutsView). (other ≡ to) ⊎ ((target other v).faults ≡ (target other old).faults)) (sym h.failed.0) (failure-others to other new.starved old);
          },
        )))
    by-cause false false is used = inr (inr (inl (e.fails.starved (bound false false is used), rose)))

creates-outcome : {E : Type 0} → (listed : List ℕ) (name : List ℕ) (old new : OutsView) (r : Result (Unit {0}) E) → Creates name old new r
    → FailsExactly (is_due listed old.calls) old new r → Outcome listed old new
creates-outcome listed name old new (Ok u) h e =
    inl (
      due-not (is_due listed old.calls) refl,
      ap (λ (v : OutsView). v.starved) h.ok,
      each _ (ap (λ (v : OutsView). v.stdout.faults) h.ok) (ap (λ (v : OutsView). v.stderr.faults) h.ok) (ap (λ (v : OutsView). v.file.faults) h.ok),
    )
  where
    due-not : (due : Bool) → is_due listed old.calls ≡ due → is_due listed old.calls ≡ false
    due-not true is = let wrong = (e.bound_to is).0 in absurd (cc)
    due-not false is = is
creates-outcome listed name old new (Err x) h e = by-cause (is_due listed old.calls) refl
  where
    rose : SomeTargetRose old new
    rose = (File, rose-by old.file new.file (ap (λ (v : OutsView). v.file) h.failed.0))

    by-cause : (due : Bool) → is_due listed old.calls ≡ due → Outcome listed old new
    by-cause true is = inr (inl (is, rose))
    by-cause false is = inr (inr (inl (e.starved is, rose)))

outcome : {old new : OutsView} (listed : List ℕ) → old.listed ≡ Some listed → OutsCall old new → Outcome listed old new
outcome listed told (create_call h e) = creates-outcome listed _ _ _ _ h (told-at _ _ listed told e)
outcome listed told (write_call h e) = writes-outcome listed _ _ _ _ _ h (told-at _ _ listed told e)

fails-once-as-listed : (listed : List ℕ) (old new : OutsView) → new.calls ≡ raised old.calls 1 → Outcome listed old new → OutsFailAsListed listed old new
fails-once-as-listed listed old new calls (inl (fine, fed, same)) = record {
  cause = λ to rose. absurd (omega (arith, same to));
  at_listed = λ call has later within.
      let is : call ≡ raised old.calls 1 = omega arith in
      let due = contains-due listed old.calls call has is in
      absurd (cc);
  at_starved = λ rose. absurd (omega arith);
}
fails-once-as-listed listed old new calls (inr (inl (due, some))) = record {
  cause = λ to rose. inl (record { call = raised old.calls 1; is_listed = due-contains listed old.calls due; later = omega arith; within = omega arith });
  at_listed = λ call has later within. some;
  at_starved = λ rose. some;
}
fails-once-as-listed listed old new calls (inr (inr (inl (starved, some)))) = record {
  cause = λ to rose. inr (inr (omega arith));
  at_listed = λ call has later within. some;
  at_starved = λ rose. some;
}
fails-once-as-listed listed old new calls (inr (inr (inr (fed, full)))) = record {
  cause = λ to rose. because to rose (full.others to);
  at_listed = λ call has later within. (full.to, full.rose);
  at_starved = λ rose. (full.to, full.rose);
}
  where
    because : (to : To) → (target to old).faults < (target to new).faults → (to ≡ full.to) ⊎ ((target to new).faults ≡ (target to old).faults)
        → HasListed listed old.calls new.calls ⊎ (is_full (target to new).room ≡ true) ⊎ Rose old.starved new.starved
    because to rose (inl same) = inr (inl (subst (λ (t : To). is_full (target t new).room ≡ true) (sym same) full.used))
    because to rose (inr still) = absurd (omega arith)

fails-none : (listed : List ℕ) (old : OutsView) → OutsFailAsListed listed old old
fails-none listed old = record { cause = λ to rose. absurd (omega arith); at_listed = λ call has later within. absurd (omega arith); at_starved = λ rose. absurd (omega arith) }

some-first : (old mid new : OutsView) → OutsStay mid new → SomeTargetRose old mid → SomeTargetRose old new
some-first old mid new t some = (some.0, omega (arith, some.1, (t.targets some.0).faults))

some-second : (old mid new : OutsView) → OutsStay old mid → SomeTargetRose mid new → SomeTargetRose old new
some-second old mid new s some = (some.0, omega (arith, some.1, (s.targets some.0).faults))

fails-then : (listed : List ℕ) (old mid new : OutsView) → OutsStay old mid → OutsStay mid new → OutsFailAsListed listed old mid → OutsFailAsListed listed mid new
    → OutsFailAsListed listed old new
fails-then listed old mid new s t a b = record {
  cause = λ to rose. by-half to (cases_lt (target to old).faults (target to mid).faults) rose;
  at_listed = λ call has later within. at-half call has later within (cases_lt mid.calls call);
  at_starved = λ rose. starved-half rose (cases_lt old.starved mid.starved);
}
  where
    before : (to : To) → HasListed listed old.calls mid.calls ⊎ (is_full (target to mid).room ≡ true) ⊎ Rose old.starved mid.starved
        → HasListed listed old.calls new.calls ⊎ (is_full (target to new).room ≡ true) ⊎ Rose old.starved new.starved
    before to (inl h) = inl (listed-wider listed _ _ _ _ (omega arith) t.calls h)
    before to (inr (inl h)) = inr (inl (full-later (target to mid).room (target to new).room (t.targets to).room h))
    before to (inr (inr h)) = inr (inr (omega (arith, h, t.starved)))

    behind : (to : To) → HasListed listed mid.calls new.calls ⊎ (is_full (target to new).room ≡ true) ⊎ Rose mid.starved new.starved
        → HasListed listed old.calls new.calls ⊎ (is_full (target to new).room ≡ true) ⊎ Rose old.starved new.starved
    behind to (inl h) = inl (listed-wider listed _ _ _ _ s.calls (omega arith) h)
    behind to (inr (inl h)) = inr (inl h)
    behind to (inr (inr h)) = inr (inr (omega (arith, h, s.starved)))

    by-half : (to : To) → ((target to old).faults < (target to mid).faults) ⊎ ((target to mid).faults ≤ (target to old).faults) → (target to old).faults < (target to new).faults
        → HasListed listed old.calls new.calls ⊎ (is_full (target to new).room ≡ true) ⊎ Rose old.starved new.starved
    by-half to (inl first) rose = before to (a.cause to first)
    by-half to (inr still) rose = behind to (b.cause to (omega arith))

    at-half : (call : ℕ) → Contains listed call → old.calls < call → call ≤ new.calls → (mid.calls < call) ⊎ (call ≤ mid.calls) → SomeTargetRose old new
    at-half call has later within (inl second) = some-second old mid new s (b.at_listed call has second within)
    at-half call has later within (inr first) = some-first old mid new t (a.at_listed call has later first)

    starved-half : old.starved < new.starved → (old.starved < mid.starved) ⊎ (mid.starved ≤ old.starved) → SomeTargetRose old new
    starved-half rose (inl first) = some-first old mid new t (a.at_starved first)
    starved-half rose (inr still) = some-second old mid new s (b.at_starved (omega arith))

pub outs-fail-as-listed : {old new : OutsView} (listed : List ℕ) → old.listed ≡ Some listed → OutsTrace old new → OutsFailAsListed listed old new
outs-fail-as-listed listed told no_outs_call = fails-none listed _
outs-fail-as-listed listed told (one_outs_call call) = fails-once-as-listed listed _ _ (once call).calls (outcome listed told call)
outs-fail-as-listed listed told (outs_then a b) =
    let kept = outs-stay a in
    fails-then listed _ _ _ kept (outs-stay b) (outs-fail-as-listed listed told a) (outs-fail-as-listed listed (kept.listed ∙ told) b)
