-- Views over which no call can fail: what a name gives, and stretches of calls.
use Rattle.std.proofs.Common.{◌≡◌, ℕ, ◌<◌, ◌≤◌, ◌-◌, ◌^◌, ◌⊎◌, true, false, cond, List, [], ◌∷◌, refl, sym, ap, subst, ◌∙◌, inl, inr, arith, Option, Some, None, Result, Ok, Err, is_none, is_some}
use Rattle.std.specs.Option.{unwrap_or, ForSome}
use Rattle.std.specs.Str.{bytes_eq}
use Rattle.std.proofs.lemmas.Bool.{cases_lt}
use Rattle.ga_counters.specs.Counts.{HasListed, Rose}
use Rattle.ga_ports.specs.Files.{Contents, FilesView, Opens, Sizes, Reads, OpenFailsIfListed, FailsIfListed, ReadsIfListed, found, is_absent}
use Rattle.ga_ports.specs.Outs.{OutsView, target, is_full}
use Rattle.ga_ports.specs.Trace.{FilesCall, FilesTrace, OutsTrace, Narrows}
use Rattle.ga_ports.specs.Trace.FilesCall.{open_call, size_call, read_call}
use Rattle.ga_ports.specs.Trace.FilesTrace.{no_files_call, one_files_call, files_then}
use Rattle.ga_ports.specs.Sure.{AreSureFiles, NoFileFaults, AreSureOuts, NoOutFaults}
use Rattle.ga_ports.specs.declared.outs.To.{To}
use Rattle.ga_ports.proofs.FileTraces.{files-stay}
use Rattle.ga_counters.proofs.Listing.{told-at}
use Rattle.ga_ports.proofs.OutTraces.{outs-stay, outs-fail-as-listed}

-- what a name gives where all others give an empty file
pub found-or_empty : (name : List ℕ) (named : List (List ℕ × List ℕ)) → found name (Some []) named ≡ Some (unwrap_or (found name None named) [])
found-or_empty name [] = refl
found-or_empty name (c ∷ cs) =
    elim (bytes_eq c.0 name) as (λ b. cond b (Some c.1) (found name (Some []) cs) ≡ Some (unwrap_or (cond b (Some c.1) (found name None cs)) []))
    [ true ↦ refl | false ↦ found-or_empty name cs ]

-- no name is absent where all others give a file
pub is_none-found : (name others : List ℕ) (named : List (List ℕ × List ℕ)) → is_none (found name (Some others) named) ≡ false
is_none-found name others [] = refl
is_none-found name others (c ∷ cs) =
    elim (bytes_eq c.0 name) as (λ b. is_none (cond b (Some c.1) (found name (Some others) cs)) ≡ false)
    [ true ↦ refl | false ↦ is_none-found name others cs ]

there-by : (name : List ℕ) (others : Option (List ℕ)) (named : List (List ℕ × List ℕ)) → is_some others ≡ true → is_none (found name others named) ≡ false
there-by name (Some others) named e = is_none-found name others named
there-by name None named e = cc

no-name-absent : (name : List ℕ) (contents : Option Contents) → ForSome contents (λ contents. is_some contents.others ≡ true) → is_absent name contents ≡ false
no-name-absent name None names = refl
no-name-absent name (Some contents) names = there-by name contents.others contents.named (names contents refl)

opens-fine : {E : Type 0} (name : List ℕ) (old new : FilesView) (r : Result (Unit {0}) E) → AreSureFiles old → Opens name old new r
    → OpenFailsIfListed name old r → NoFileFaults old new
opens-fine name old new (Ok u) sure o e =
    record { faults = ap (λ (v : FilesView). v.counts.faults) o.ok.1; absent = ap (λ (v : FilesView). v.counts.absent) o.ok.1 }
opens-fine name old new (Err x) sure o e =
    let there = no-name-absent name old.contents sure.names in
    let wrong = told-at _ old.listed [] sure.listed e in
    absurd (cc)

sizes-fine : {E : Type 0} (old new : FilesView) (r : Result ℕ E) → AreSureFiles old → Sizes old new r → FailsIfListed old r → NoFileFaults old new
sizes-fine old new (Ok size) sure s e =
    record { faults = ap (λ (v : FilesView). v.counts.faults) s.ok.0; absent = ap (λ (v : FilesView). v.counts.absent) s.ok.0 }
sizes-fine old new (Err x) sure s e = let wrong = told-at _ old.listed [] sure.listed e in absurd (cc)

reads-fine : {E : Type 0} (at : ℕ) (buffer : List ℕ) (old new : FilesView) (r : Result ℕ E) → AreSureFiles old → Reads at buffer old new r
    → ReadsIfListed at buffer old r → NoFileFaults old new
reads-fine at buffer old new (Ok n) sure s e =
    record { faults = ap (λ (v : FilesView). v.counts.faults) s.ok.2; absent = ap (λ (v : FilesView). v.counts.absent) s.ok.2 }
reads-fine at buffer old new (Err x) sure s e = let wrong = (told-at _ old.listed [] sure.listed e).fails in absurd (cc)

call-fine : {old new : FilesView} → AreSureFiles old → FilesCall old new → NoFileFaults old new
call-fine sure (open_call o e) = opens-fine _ _ _ _ sure o e
call-fine sure (size_call s e) = sizes-fine _ _ _ sure s e
call-fine sure (read_call r e) = reads-fine _ _ _ _ _ sure r e

files-stay-sure : (old new : FilesView) → AreSureFiles old → FilesTrace old new → AreSureFiles new
files-stay-sure old new sure went =
    let kept = files-stay went in
    record {
      listed = kept.listed ∙ sure.listed;
      names = subst (λ (contents : Option Contents). ForSome contents (λ contents. is_some contents.others ≡ true)) (sym kept.contents) sure.names;
    }

pub no-file-faults : {old new : FilesView} → AreSureFiles old → FilesTrace old new → NoFileFaults old new
no-file-faults sure no_files_call = record { faults = refl; absent = refl }
no-file-faults sure (one_files_call call) = call-fine sure call
no-file-faults sure (files_then a b) =
    let first = no-file-faults sure a in
    let second = no-file-faults (files-stay-sure _ _ sure a) b in
    record { faults = second.faults ∙ first.faults; absent = second.absent ∙ first.absent }

no-room-full : (a b : Option ℕ) → a ≡ None → Narrows a b → is_full b ≡ true → ⊥
no-room-full None None e h full = cc
no-room-full None (Some b) e h full = h
no-room-full (Some a) b e h full = cc

none-listed : (from to : ℕ) → HasListed [] from to → ⊥
none-listed from to h = absurd (omega (arith, h.is_listed.1))

-- a target's faults rise only with the number of calls that found no memory
pub no-out-faults : (old new : OutsView) → AreSureOuts old → OutsTrace old new → new.starved ≡ old.starved → old.starved < 2 ^ 64 - 1 → NoOutFaults old new
no-out-faults old new sure went fed below = λ to. by-half to (cases_lt (target to old).faults (target to new).faults)
  where
    because : (to : To) → HasListed [] old.calls new.calls ⊎ (is_full (target to new).room ≡ true) ⊎ Rose old.starved new.starved → ⊥
    because to (inl h) = none-listed _ _ h
    because to (inr (inl h)) = no-room-full (target to old).room (target to new).room (sure.rooms to) ((outs-stay went).targets to).room h
    because to (inr (inr h)) = omega (arith, h, fed, below)

    by-half : (to : To) → ((target to old).faults < (target to new).faults) ⊎ ((target to new).faults ≤ (target to old).faults) → (target to new).faults ≡ (target to old).faults
    by-half to (inl rose) = absurd (because to ((outs-fail-as-listed [] sure.listed went).cause to rose))
    by-half to (inr still) = omega (arith, still, ((outs-stay went).targets to).faults)
