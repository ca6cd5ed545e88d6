-- What a commit of the work of a merge says of the disk since the run began.
use Rattle.std.proofs.Common.{◌≡◌, ◌⊎◌, inl, inr, ℕ, ◌+◌, ◌≤◌, Bool, true, false, List, ◌++◌, refl, ap, sym, subst, arith, Option, Some, None, IfSome, Result, Ok, Err, OnOk, length}
use Rattle.std.specs.Prelude.{if◌then◌else◌, unwrap_or}
use Rattle.ga_disk.specs.Disk.{DiskView}
use Rattle.ga_disk.specs.Images.{Images, LeavesOnly}
use Rattle.ga_disk.specs.Sides.{Sides}
use Rattle.ga_store.specs.Commit.{Agrees, Work, adds_record, after_run}
use Rattle.ga_store.specs.Commits.{AllHave, Commits, CommitsFrom, HasEither}
use Rattle.ga_store.specs.Database.{DbOf, DbValue, of_snapshot}
use Rattle.ga_store.specs.Database.Reading.{stored as reads_as}
use Rattle.ga_store.specs.declared.fault.StoreFault.{StoreFault}
use Rattle.ga_store.specs.declared.mode.Mode.TheVariants.{Append}
use Rattle.ga_store.proofs.CommitMakes.{number-is}
use Rattle.ga_dbtool.specs.Ends.{ComesToCommit, FailsAtCommit, FoundThere, KeepsNew, MayKeepNew, Merges}
use Rattle.ga_dbtool.specs.Merged.{ComesAfter, IsMergedDb, keep_of}
use Rattle.ga_dbtool.specs.Opening.{Opens}
use Rattle.ga_dbtool.specs.Outside.{DiskSeen, Disks}
use Rattle.ga_dbtool.specs.Steps.Parts.{IsPrepared, OpensBoth}

if_some-map : {A : Type 0} (P Q : A → Type 0) → (o : Option A) → ((x : A) → P x → Q x) → IfSome o P → IfSome o Q
if_some-map P Q None step p = tt
if_some-map P Q (Some x) step p = step x p

-- nothing is left besides after another trace that leaves nothing but what has P
leaves-then : (P : Sides → Type 0) (i j k : Images) → LeavesOnly i j i.now → LeavesOnly j k P → LeavesOnly i k (λ image. i.now image ⊎ P image)
leaves-then P i j k h g = record {
  later = omega (arith, h.later, g.later);
  each = λ image since. by-each image (g.before i.moment image h.later since);
  before = λ t image within since. by-before t image within (g.before t image (omega (arith, within, h.later)) since);
}
  where
    by-each : (image : Sides) → j.since i.moment image ⊎ P image → i.now image ⊎ P image
    by-each image (inl since) = inl (h.each image since)
    by-each image (inr p) = inr p

    one-or : (t : ℕ) (image : Sides) → i.since t image ⊎ i.now image → i.since t image ⊎ (i.now image ⊎ P image)
    one-or t image (inl since) = inl since
    one-or t image (inr now) = inr (inl now)

    by-before : (t : ℕ) (image : Sides) → t ≤ i.moment → j.since t image ⊎ P image → i.since t image ⊎ (i.now image ⊎ P image)
    by-before t image within (inl since) = one-or t image (h.before t image within since)
    by-before t image within (inr p) = inr (inr p)

-- the first one keeps as many days as both, where it says how many
agrees : (a b : DbValue) → Agrees Append (keep_of a b) a
agrees a b = by a.keep
  where
    by : (o : Option ℕ) → (o ≡ None) ⊎ (o ≡ Some (unwrap_or o (unwrap_or b.keep 0)))
    by None = inl refl
    by (Some n) = inr refl

pub agrees-as : (a b : DbValue) (keep : ℕ) → keep ≡ keep_of a b → Agrees Append keep a
agrees-as a b keep e = subst (λ (k : ℕ). Agrees Append k a) (sym e) (agrees a b)

-- the database before the commit is that of the sides, which stay
has-found : (old found : DiskSeen) (dir : List ℕ) (db : DbValue) → Opens dir old found db → IfSome found.view.seen (λ seen. DbOf seen (reads_as db))
has-found old found dir db h = if_some-map (λ seen. seen ≡ h.holds.sides) (λ seen. DbOf seen (reads_as db)) found.view.seen
    (λ seen same. subst (λ (sides : Sides). DbOf sides (reads_as db)) (sym same) h.holds.has) h.holds.told

pub found-there : (old found : DiskSeen) (dir : List ℕ) (db : DbValue) → Opens dir old found db → FoundThere dir old.view found.view db
found-there old found dir db h = record {
  view = h.looks.view;
  has = subst (λ (o : Option Sides). IfSome o (λ seen. DbOf seen (reads_as db))) (ap (λ (d : DiskView). d.seen) h.looks.view) (has-found old found dir db h);
  opened = h.opened;
  path = h.path;
  faults = h.faults;
  calls = h.calls;
}

module _ (dir other : List ℕ) (old mid : Disks) (now : DiskSeen) (left right : DbValue) (work : Work) (text : List ℕ) (opens : OpensBoth dir other old mid left right)
    (prepared : IsPrepared left right work text) where
  abbrev pub merged : DbValue
  merged = after_run Append (keep_of left right) left prepared.whole (left.entries ++ right.entries) work

  is-merged : IsMergedDb left right merged
  is-merged = by (adds_record Append left) (number-is Append (keep_of left right) left (agrees left right))
    where
      by : (adds : Bool) → (adds ≡ true → left.keep ≡ Some (keep_of left right)) → IsMergedDb left right (if adds
          then record left { summary = prepared.whole; entries = left.entries ++ right.entries; records = left.records + 1; slot = left.slot + length work.tail }
          else of_snapshot work.side (length work.tail) (record { generation = left.generation + 1; keep = Some (keep_of left right); summary = prepared.whole; entries = left.entries ++ right.entries }))
      by true number = record { both = prepared.both.0; merged = prepared.both.1; summary = prepared.both.2; entries = refl; number = number refl }
      by false number = record { both = prepared.both.0; merged = prepared.both.1; summary = prepared.both.2; entries = refl; number = refl }

  comes-after : ComesAfter left merged
  comes-after = let h = by (adds_record Append left) in record { generation = h.0; records = h.1 }
    where
      by : (adds : Bool) → let new : DbValue = (if adds
          then record left { summary = prepared.whole; entries = left.entries ++ right.entries; records = left.records + 1; slot = left.slot + length work.tail }
          else of_snapshot work.side (length work.tail) (record { generation = left.generation + 1; keep = Some (keep_of left right); summary = prepared.whole; entries = left.entries ++ right.entries })) in
          (new.generation ≡ (if adds then left.generation else left.generation + 1)) × (new.records ≡ (if adds then left.records + 1 else 0))
      by true = (refl, refl)
      by false = (refl, refl)

  comes : ComesToCommit dir other old (record mid { first = now }) mid.first.view left right merged
  comes = record {
    first = found-there old.first mid.first dir left opens.opened.first;
    second = opens.opened.second;
    can = opens.can;
    fits = prepared.fits;
    room = prepared.room;
    makes = is-merged;
    after = comes-after;
  }

  from-commit : (r : Result (Unit {0}) StoreFault) → Commits work mid.first.view now.view mid.first.images now.images r → (seen : Sides) → mid.first.view.seen ≡ Some seen
      → CommitsFrom left merged work seen mid.first.view now.view mid.first.images now.images r
  from-commit r commits seen e = commits.told seen e left merged (subst (λ (o : Option Sides). IfSome o (λ sides. DbOf sides (reads_as left))) e (has-found old.first mid.first dir left opens.opened.first)) prepared.makes

  pub merges : (r : Result (Unit {0}) StoreFault) → Commits work mid.first.view now.view mid.first.images now.images r → IfSome now.view.seen now.images.now
      → OnOk r (Merges dir other text old (record mid { first = now }))
  merges (Err fault) commits image = tt
  merges (Ok unit) commits image = record {
    found = mid.first.view;
    left = left;
    right = right;
    merged = merged;
    comes = comes;
    keeps = by-seen mid.first.view.seen refl;
    faults = commits.no_fault;
    frames = commits.frames;
    says = prepared.says;
  }
    where
      by-seen : (o : Option Sides) → mid.first.view.seen ≡ o → IfSome o (λ seen. KeepsNew left merged old.first now)
      by-seen None e = tt
      by-seen (Some seen) e =
          let from = from-commit (Ok unit) commits seen e in
          record {
            later = from.later;
            moments = leaves-then (HasEither left merged) old.first.images mid.first.images now.images opens.opened.first.looks.moments from.moments;
            all = from.done;
            reads = if_some-map now.images.now (λ sides. DbOf sides (reads_as merged)) now.view.seen from.done image;
          }

  pub fails : (fault : StoreFault) → Commits work mid.first.view now.view mid.first.images now.images (Err fault) → FailsAtCommit dir other old (record mid { first = now })
  fails fault commits = record {
    found = mid.first.view;
    left = left;
    right = right;
    merged = merged;
    comes = comes;
    may = by-seen mid.first.view.seen refl;
    fault = commits.fault;
    frames = commits.frames;
  }
    where
      by-seen : (o : Option Sides) → mid.first.view.seen ≡ o → IfSome o (λ seen. MayKeepNew left merged mid.first.view old.first now)
      by-seen None e = tt
      by-seen (Some seen) e = record {
        later = from.later;
        moments = leaves-then (HasEither left merged) old.first.images mid.first.images now.images opens.opened.first.looks.moments from.moments;
        either = from.either;
        reads = by-new now.view.seen refl;
        stays = λ steady. stay now.view.seen refl steady;
      }
        where
          from : CommitsFrom left merged work seen mid.first.view now.view mid.first.images now.images (Err fault)
          from = from-commit (Err fault) commits seen e

          by-new : (o : Option Sides) → now.view.seen ≡ o → IfSome o (HasEither left merged)
          by-new None f = tt
          by-new (Some sides) f = from.reads sides f

          stay : (o : Option Sides) → now.view.seen ≡ o → mid.first.view.steady ≡ true → IfSome o (λ sides. DbOf sides (reads_as left) → AllHave now.images left)
          stay None f steady = tt
          stay (Some sides) f steady = from.stays steady sides f
