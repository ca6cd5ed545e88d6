-- What a commit of prepared work says of a run.
use Rattle.std.proofs.Common.{◌≡◌, ◌⊎◌, inl, inr, ℕ, ◌+◌, ◌==◌, Bool, true, false, List, refl, ap, sym, ◌∙◌, subst, Option, Some, None, IfSome, Result, Ok, Err, OnOk, IfErr, map, length}
use Rattle.std.specs.Prelude.{if◌then◌else◌}
use Rattle.std.specs.Option.{unwrap_or}
use Rattle.std.proofs.lemmas.Bool.{eqb-true}
use Rattle.ga_base.specs.declared.entry.Entry.{Entry}
use Rattle.ga_codec.specs.Values.{entry_value}
use Rattle.ga_disk.specs.Disk.{DiskView}
use Rattle.ga_disk.specs.Images.{Images}
use Rattle.ga_disk.specs.Sides.{Sides, of_side}
use Rattle.ga_keep.specs.RunDatabase.{IsAfter, IsKept, IsNext, IsNextBy, IsUntouched, Keeps, MayKeep, differing, keeping_calls, keeping_calls_by, mode_of, other_than}
use Rattle.ga_keep.specs.Faults.{IsUnkept}
use Rattle.ga_codec.specs.Values.{EntryValue}
use Rattle.ga_store.specs.Commit.{Agrees, IsWorkBy, IsWorkOf, Makes, MergesBy, Work, adds_record, after_run, closing_calls, commit_calls, passes_generations, tail_calls}
use Rattle.ga_store.specs.Commits.{AllHave, Commits, CommitsFrom, HasEither, Takes}
use Rattle.ga_store.specs.Database.{DbOf, DbValue, of_snapshot}
use Rattle.ga_store.specs.Database.Reading.{stored as reads_as}
use Rattle.ga_store.specs.Holding.{Holds}
use Rattle.ga_base.specs.declared.counts.Counter.TheVariants.{Generations}
use Rattle.ga_base.specs.declared.counts.TheConstants.{LIMIT}
use Rattle.ga_store.specs.declared.fault.StoreFault.{StoreFault}
use Rattle.ga_store.specs.declared.fault.StoreFault.TheVariants.{CounterFull, NoMemory}
use Rattle.ga_store.specs.declared.mode.Mode.{Mode}
use Rattle.ga_store.specs.declared.mode.Mode.TheVariants.{Append, Overwrite}
use Rattle.ga_store.proofs.CommitMakes.{number-is}
use Rattle.ga_summary.specs.SummaryRows.{SummaryValue}
use Rattle.ga_words.specs.declared.settings.Settings.{Settings}

if_some-map : {A : Type 0} (P Q : A → Type 0) → (o : Option A) → ((x : A) → P x → Q x) → IfSome o P → IfSome o Q
if_some-map P Q None step p = tt
if_some-map P Q (Some x) step p = step x p

-- the calls of a commit are those of its side, its gate and its kind
abbrev calls-at : Sides → ℕ × ℕ × Bool → ℕ
calls-at sides at = closing_calls at.1 (of_side at.0 sides) + tail_calls at.2 + 2

calls-by : (adds : Bool) (keep : ℕ) (work : Work) (old : DbValue) (run whole : SummaryValue) (entries : List EntryValue) (sides : Sides) → IsWorkBy adds keep old run whole entries work
    → commit_calls work (of_side work.side sides) ≡ keeping_calls_by adds old sides
calls-by true keep work old run whole entries sides is =
    let side = sym (ap (λ (o : Option ℕ). unwrap_or o 0) is.side) in
    ap (calls-at sides) (λ i. (side i, is.gate i, is.kind i))
calls-by false keep work old run whole entries sides is = ap (calls-at sides) (λ i. (is.side i, is.gate i, is.kind i))

module _ (s : Settings) (work : Work) (old : DbValue) (mode : Mode) (whole : SummaryValue) (entries : List Entry) (d d' : DiskView) (i i' : Images)
    (holds : Holds d i old) (agrees : Agrees mode s.keep old) (makes : Makes work old (after_run mode s.keep old whole (map entry_value entries) work)) where
  after : IsAfter whole entries s.keep (after_run mode s.keep old whole (map entry_value entries) work)
  after = by-kind (adds_record mode old) (number-is mode s.keep old agrees)
    where
      by-kind : (adds : Bool) → (adds ≡ true → old.keep ≡ Some s.keep) → IsAfter whole entries s.keep (if adds
          then record old { summary = whole; entries = map entry_value entries; records = old.records + 1; slot = old.slot + length work.tail }
          else of_snapshot work.side (length work.tail) (record { generation = old.generation + 1; keep = Some s.keep; summary = whole; entries = map entry_value entries }))
      by-kind true number = record { summary = refl; entries = refl; number = number refl }
      by-kind false number = record { summary = refl; entries = refl; number = refl }

  next : IsNext mode old (after_run mode s.keep old whole (map entry_value entries) work)
  next = by-kind (adds_record mode old)
    where
      by-kind : (adds : Bool) → IsNextBy adds old (if adds
          then record old { summary = whole; entries = map entry_value entries; records = old.records + 1; slot = old.slot + length work.tail }
          else of_snapshot work.side (length work.tail) (record { generation = old.generation + 1; keep = Some s.keep; summary = whole; entries = map entry_value entries }))
      by-kind true = record { generation = refl; records = refl }
      by-kind false = record { generation = refl; records = refl }

  has-old : (seen : Sides) → d.seen ≡ Some seen → DbOf seen (reads_as old)
  has-old seen e =
      let same : seen ≡ holds.sides = subst (λ (o : Option Sides). IfSome o (λ told. told ≡ holds.sides)) e holds.told in
      subst (λ (sides : Sides). DbOf sides (reads_as old)) (sym same) holds.has

  pub kept : (run : SummaryValue) → mode_of s ≡ mode → IsWorkOf mode s.keep old run whole (map entry_value entries) work → passes_generations mode old ≡ false → (r : Result (Unit {0}) StoreFault) → Commits work d d' i i' r → IfSome d'.seen i'.now
      → OnOk r (IsKept s old whole entries d d' i i')
  kept run is prepared room (Err e) commits image = tt
  kept run is prepared room (Ok unit) commits image = record {
    new = after_run mode s.keep old whole (map entry_value entries) work;
    after = after;
    next = subst (λ (m : Mode). IsNext m old (after_run mode s.keep old whole (map entry_value entries) work)) (sym is) next;
    room = ap (λ (m : Mode). passes_generations m old) is ∙ room;
    keeps = by-seen d.seen refl;
    faults = commits.no_fault;
    calls = counted d.seen refl;
    frames = commits.frames;
  }
    where
      counted : (o : Option Sides) → d.seen ≡ o → IfSome o (λ seen. Takes (keeping_calls (mode_of s) old seen) d d')
      counted None e = tt
      counted (Some seen) e =
          let from = commits.told seen e old (after_run mode s.keep old whole (map entry_value entries) work) (has-old seen e) makes in
          let same = calls-by (adds_record mode old) s.keep work old run whole (map entry_value entries) seen prepared ∙ sym (ap (λ (m : Mode). keeping_calls m old seen) is) in
          subst (λ (n : ℕ). Takes n d d') same from.calls

      by-seen : (o : Option Sides) → d.seen ≡ o → IfSome o (λ seen. Keeps old (after_run mode s.keep old whole (map entry_value entries) work) d d' i i')
      by-seen None e = tt
      by-seen (Some seen) e =
          let from = commits.told seen e old (after_run mode s.keep old whole (map entry_value entries) work) (has-old seen e) makes in
          record {
            later = from.later;
            moments = from.moments;
            all = from.done;
            reads = if_some-map i'.now (λ sides. DbOf sides (reads_as (after_run mode s.keep old whole (map entry_value entries) work))) d'.seen from.done image;
          }

  pub unkept : (r : Result (Unit {0}) StoreFault) → Commits work d d' i i' r → IfErr r (IsUnkept s old whole entries d d' i i')
  unkept (Ok unit) commits = tt
  unkept (Err fault) commits = subst (λ (f : StoreFault). IsUnkept s old whole entries d d' i i' f) (sym commits.cause) (record {
    new = after_run mode s.keep old whole (map entry_value entries) work;
    after = after;
    may = by-seen d.seen refl;
    fault = commits.fault;
    frames = commits.frames;
  })
    where
      by-seen : (o : Option Sides) → d.seen ≡ o → IfSome o (λ seen. MayKeep old (after_run mode s.keep old whole (map entry_value entries) work) d d' i i')
      by-seen None e = tt
      by-seen (Some seen) e =
          record {
            later = told.later;
            moments = told.moments;
            either = told.either;
            reads = by-new d'.seen refl;
            stays = λ steady. stay d'.seen refl steady;
          }
        where
          told : CommitsFrom old (after_run mode s.keep old whole (map entry_value entries) work) work seen d d' i i' (Err fault)
          told = commits.told seen e old (after_run mode s.keep old whole (map entry_value entries) work) (has-old seen e) makes

          by-new : (o : Option Sides) → d'.seen ≡ o → IfSome o (HasEither old (after_run mode s.keep old whole (map entry_value entries) work))
          by-new None f = tt
          by-new (Some sides) f = told.reads sides f

          stay : (o : Option Sides) → d'.seen ≡ o → d.steady ≡ true → IfSome o (λ sides. DbOf sides (reads_as old) → AllHave i' old)
          stay None f steady = tt
          stay (Some sides) f steady = told.stays steady sides f

pub not-full : (b : Bool) → (b ≡ true → ⊥) → b ≡ false
not-full false none = refl
not-full true none = absurd (none refl)

-- ---- over any database that the run comes after

pub merges-as : (keep : ℕ) (stored run whole : SummaryValue) {mode mode' : Mode} → mode ≡ mode' → MergesBy mode keep stored run whole → MergesBy mode' keep stored run whole
merges-as keep stored run whole is h = subst (λ (m : Mode). MergesBy m keep stored run whole) is h

other-agrees : (keep : ℕ) (number : Option ℕ) → other_than keep number ≡ None → (number ≡ None) ⊎ (number ≡ Some keep)
other-agrees keep None e = inl refl
other-agrees keep (Some number) e = pick (number == keep) refl e
  where
    pick : (v : Bool) → (number == keep) ≡ v → (if v then None else Some number) ≡ None → (Some number ≡ None) ⊎ (Some number ≡ Some keep)
    pick true same f = inr (ap (λ (n : ℕ). Some n) (eqb-true number keep same))
    pick false other f = absurd (cc f)

-- where a run keeps no other number of days than what is stored, it may be added to that
pub agrees-with : (s : Settings) (stored : DbValue) → differing s stored ≡ None → Agrees (mode_of s) s.keep stored
agrees-with s stored e = by s.restore e
  where
    by : (b : Bool) → (if b then other_than s.keep stored.keep else None) ≡ None → Agrees (if b then Append else Overwrite) s.keep stored
    by true f = other-agrees s.keep stored.keep f
    by false f = tt

pub agrees-as : (keep : ℕ) (stored : DbValue) {mode mode' : Mode} → mode ≡ mode' → Agrees mode keep stored → Agrees mode' keep stored
agrees-as keep stored is h = subst (λ (m : Mode). Agrees m keep stored) is h

pub on_ok-each : {E X : Type 0} {P : X → Type 0} (Q : X → Type 0) (r : Result (Unit {0}) E) → ((x : X) → P x → OnOk r (Q x)) → OnOk r ((x : X) → P x → Q x)
on_ok-each Q (Ok unit) h = h
on_ok-each Q (Err fault) h = tt

pub if_err-each : {E X : Type 0} {P : X → Type 0} (Q : X → E → Type 0) (r : Result (Unit {0}) E) → ((x : X) → P x → IfErr r (Q x)) → IfErr r (λ fault. (x : X) → P x → Q x fault)
if_err-each Q (Ok unit) h = tt
if_err-each Q (Err fault) h = h

-- the disk wasn't touched, since memory ran out or the generation would be above the limit
pub unkept-early : (s : Settings) (old : DbValue) (whole : SummaryValue) (entries : List Entry) (d : DiskView) (i : Images) (mode : Mode) → mode ≡ mode_of s → (fault : StoreFault)
    → (fault ≡ NoMemory) ⊎ (fault ≡ CounterFull Generations (LIMIT + 1)) → (fault ≡ CounterFull Generations (LIMIT + 1) → passes_generations mode old ≡ true) → IsUnkept s old whole entries d d i i fault
unkept-early s old whole entries d i mode is fault cause full = by cause
  where
    still : IsUntouched d d i i
    still = record { view = refl; moment = refl; now = λ image h. h; since = λ t image h. h }

    by : (fault ≡ NoMemory) ⊎ (fault ≡ CounterFull Generations (LIMIT + 1)) → IsUnkept s old whole entries d d i i fault
    by (inl e) = subst (λ (f : StoreFault). IsUnkept s old whole entries d d i i f) (sym e) still
    by (inr e) =
        subst (λ (f : StoreFault). IsUnkept s old whole entries d d i i f) (sym e)
        (refl, refl, subst (λ (m : Mode). passes_generations m old ≡ true) is (full e), still)
