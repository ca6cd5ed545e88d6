-- From one call of the files to the next, in the reading of a log's portion.
use Rattle.std.proofs.Common.{◌≡◌, ◌≢◌, ℕ, ◌+◌, ◌-◌, ◌≤◌, true, false, List, [], ◌∷◌, ◌++◌, refl, ap, sym, ◌∙◌, subst, inr, Option, Some, None, IfSome, arith, drop, length, length-drop, take_all, is_none}
use Rattle.std.specs.List.{AllByRecursion}
use Rattle.ga_base.specs.declared.entry.Entry.{Entry}
use Rattle.ga_counters.specs.Counts.{raised, NoneDue}
use Rattle.ga_ports.specs.Files.{Contents, FilesView, content_of, told, is_absent}
use Rattle.ga_ports.specs.Trace.{FilesStay}
use Rattle.ga_resume.specs.Entries.{IsChoice}
use Rattle.ga_resume.specs.ReadPart.{after_reads, part_of, ReadsPart, StopsAfter, StopsWithin}
use Rattle.ga_resume.specs.declared.fault.PlaceFault.{PlaceFault}
use Rattle.ga_resume.specs.declared.fault.PlaceFault.TheVariants.{FileFault, FileShort, NoMemory}
use Rattle.ga_resume.specs.declared.segment.Segment.{Segment}
use Rattle.ga_logs.specs.Following.{AsksFor, CanServe, CanServeOne, HandsOut, IsCause, MissesLog, ReadsPortion}
use Rattle.ga_logs.specs.Portions.{Begins, IsPortionOf, front_of, front_size}
use Rattle.ga_logs.specs.Steps.ReadPortion.{BeginsLog, OpensLog, opened}
use Rattle.ga_resume.specs.declared.follow.Follow.{Follow}
use Rattle.ga_resume.specs.declared.follow.Follow.TheVariants.{Whole, ToEnd, ToLastLine}

-- what is due later is due from then on
none-later : (calls later : ℕ) (listed : Option (List ℕ)) → calls ≤ later → NoneDue listed calls → NoneDue listed later
none-later calls later None le none = none
none-later calls later (Some l) le none = λ k from. none k (omega (arith, le, from))

one-of-all : {A : Type 0} (P : A → Type 0) (front back : List A) (x : A) → AllByRecursion P (front ++ x ∷ back) → P x
one-of-all P [] back x all = all.0
one-of-all P (y ∷ front) back x all = one-of-all P front back x all.1

pub serves-later : (a b : FilesView) → FilesStay a b → NoneDue a.listed a.counts.calls → NoneDue b.listed b.counts.calls
serves-later a b stay none = rw stay.listed (none-later a.counts.calls b.counts.calls a.listed stay.calls none)

-- files that can serve all logs can serve one of them later
pub serves-one : (names front back : List (List ℕ)) (name : List ℕ) (a b : FilesView) → names ≡ front ++ name ∷ back → FilesStay a b → CanServe names a → CanServeOne name b
serves-one names front back name a b split stay can = record {
  none_due = serves-later a b stay can.none_due;
  present = rw stay.contents (one-of-all (λ (n : List ℕ). told n a.contents ≢ None) front back name (rw (← split) can.present));
}

-- ---- one log

if_some-map : {A : Type 0} (P Q : A → Type 0) → (o : Option A) → ((x : A) → P x → Q x) → IfSome o P → IfSome o Q
if_some-map P Q None step p = tt
if_some-map P Q (Some x) step p = step x p

if_some-both : {A : Type 0} (P Q R : A → Type 0) → (o : Option A) → ((x : A) → P x → Q x → R x) → IfSome o P → IfSome o Q → IfSome o R
if_some-both P Q R None step p q = tt
if_some-both P Q R (Some x) step p q = step x p q

raised-twice : (c a b : ℕ) → raised (raised c a) b ≡ raised c (a + b)
raised-twice c a b = omega arith

-- a trace of reads of the open file, whatever came of it
pub record Went (count : ℕ) (old new : FilesView) : Type 0 where
  pub asked : new.counts.asked ≡ old.counts.asked
  pub absent : new.counts.absent ≡ old.counts.absent
  pub sizes : new.counts.sizes ≡ old.counts.sizes
  pub given : new.counts.given ≡ raised old.counts.given count
  pub others : new ≡ record old { counts = new.counts }

pub went-ok : (n : ℕ) (m c : FilesView) → c ≡ after_reads c.counts.calls n m → Went n m c
went-ok n m c e = record {
  asked = ap (λ (x : FilesView). x.counts.asked) e;
  absent = ap (λ (x : FilesView). x.counts.absent) e;
  sizes = ap (λ (x : FilesView). x.counts.sizes) e;
  given = ap (λ (x : FilesView). x.counts.given) e;
  others = e ∙ ap (λ (x : FilesView). record m { counts = x.counts }) (sym e);
}

pub went-stop : (n : ℕ) (m c : FilesView) (fault : PlaceFault) → StopsAfter n m c fault → Went n m c
went-stop n m c FileFault e = record {
  asked = ap (λ (x : FilesView). x.counts.asked) e;
  absent = ap (λ (x : FilesView). x.counts.absent) e;
  sizes = ap (λ (x : FilesView). x.counts.sizes) e;
  given = ap (λ (x : FilesView). x.counts.given) e;
  others = e ∙ ap (λ (x : FilesView). record m { counts = x.counts }) (sym e);
}
went-stop n m c (FileShort at) (untold, e) = record {
  asked = ap (λ (x : FilesView). x.counts.asked) e;
  absent = ap (λ (x : FilesView). x.counts.absent) e;
  sizes = ap (λ (x : FilesView). x.counts.sizes) e;
  given = ap (λ (x : FilesView). x.counts.given) e;
  others = e ∙ ap (λ (x : FilesView). record m { counts = x.counts }) (sym e);
}
went-stop n m c NoMemory e = went-ok n m c e

hands-out : (follow : Follow) (es : List Entry) (log : Option (List ℕ)) (s : Segment) (n : ℕ) → Begins follow es s → IfSome log (λ bytes. s.front ≡ front_of follow bytes)
    → n ≤ s.end - s.from → HandsOut follow es log s.end (front_size follow s.end + n)
hands-out Whole es log s n begins front le = omega (arith, le)
hands-out ToEnd es log s n begins front le =
    inr (s.from, omega (arith, le), if_some-map _ _ log (λ bytes e. (s.entry, subst (λ (f : List ℕ). IsChoice es f s.end s.entry s.from) e begins.choice)) front)
hands-out ToLastLine es log s n begins front le =
    inr (s.from, omega (arith, le), if_some-map _ _ log (λ bytes e. (s.entry, subst (λ (f : List ℕ). IsChoice es f s.end s.entry s.from) e begins.choice)) front)

choice-within : (es : List Entry) (front : List ℕ) (end from : ℕ) (place : Option ℕ) → IsChoice es front end place from → from ≤ end
choice-within es front end from None choice = omega (arith, choice.1)
choice-within es front end from (Some place) (entry, chosen, same) = omega (arith, same, chosen.fits.within)

pub starts-within : (follow : Follow) (es : List Entry) (s : Segment) → Begins follow es s → s.from ≤ s.end
starts-within Whole es s begins = omega (arith, begins.0)
starts-within ToEnd es s begins = choice-within es s.front s.end s.from s.entry begins.choice
starts-within ToLastLine es s begins = choice-within es s.front s.end s.from s.entry begins.choice

module _ (follow : Follow) (es : List Entry) (name : List ℕ) (a m c : FilesView) (s : Segment) (opens : OpensLog follow es name a m s) where
  there : is_absent name a.contents ≡ false
  there = opens.present

  begun : BeginsLog follow es (opened name a) m s
  begun = opens.begins

  front-told : IfSome (told name a.contents) (λ bytes. s.front ≡ front_of follow bytes)
  front-told = begun.front

  end-told : IfSome (told name a.contents) (λ bytes. s.end ≡ length bytes)
  end-told = begun.end

  -- nothing changed but which file is open and the counts
  others : {n : ℕ} → Went n m c → c ≡ record a { is_open = c.is_open; bytes = c.bytes; measured = c.measured; counts = c.counts }
  others went =
      let whole : c ≡ record a { is_open = true; bytes = told name a.contents; measured = Some s.end; counts = c.counts } =
      went.others ∙ ap (λ (x : FilesView). record x { counts = c.counts }) begun.files in
      whole ∙ ap (λ (x : FilesView). record a { is_open = x.is_open; bytes = x.bytes; measured = x.measured; counts = c.counts }) (sym whole)

  -- the log was asked for, and its segment or a part of it was read
  pub asks-for : (n : ℕ) → n ≤ s.end - s.from → Went n m c → AsksFor follow es name a c
  asks-for n le went =
      let size : c.measured ≡ Some s.end = ap (λ (x : FilesView). x.measured) went.others ∙ ap (λ (x : FilesView). x.measured) begun.files in
      record {
        asked = went.asked ∙ ap (λ (x : FilesView). x.counts.asked) begun.files;
        absent = rw there (went.absent ∙ ap (λ (x : FilesView). x.counts.absent) begun.files);
        sizes = rw size (went.sizes ∙ ap (λ (x : FilesView). x.counts.sizes) begun.files);
        given = (
          front_size follow s.end + n,
          rw size (hands-out follow es (told name a.contents) s n begun.begins front-told le),
          went.given ∙ ap (λ (x : FilesView). raised x.counts.given n) begun.files ∙ raised-twice a.counts.given (front_size follow s.end) n,
        );
        measured = rw size end-told;
        others = others went;
      }

  -- its segment was read whole
  pub reads-portion : (bytes : List ℕ) → ReadsPart s.from s.end m c bytes → ReadsPortion follow es name a c (record { segment = s; bytes = bytes })
  reads-portion bytes read =
      let within = starts-within follow es s begun.begins in
      let went = went-ok (s.end - s.from) m c read.files in
      let same : m.bytes ≡ told name a.contents = ap (λ (x : FilesView). x.bytes) begun.files in
      let part = subst (λ (o : Option (List ℕ)). IfSome o (λ log. bytes ≡ part_of s.from s.end log)) same read.bytes in
      record {
        asks = asks-for (s.end - s.from) (omega arith) went;
        begins = begun.begins;
        long = omega (arith, read.long, within);
        told = if_some-both (λ log. s.front ≡ front_of follow log) (λ log. (s.end ≡ length log) × (bytes ≡ part_of s.from s.end log))
            (λ log. IsPortionOf follow es log (record { segment = s; bytes = bytes })) (told name a.contents) (λ log e size. record {
              begins = begun.begins;
              front = e;
              end = size.0;
              bytes = size.1 ∙ take_all (s.end - s.from) (drop s.from log) (omega (arith, size.0, length-drop s.from log));
            }) front-told (if_some-both (λ log. s.end ≡ length log) (λ log. bytes ≡ part_of s.from s.end log) (λ log. (s.end ≡ length log) × (bytes ≡ part_of s.from s.end log))
            (told name a.contents) (λ log size e. (size, e)) end-told part);
        size = ap (λ (x : FilesView). x.measured) went.others ∙ ap (λ (x : FilesView). x.measured) begun.files;
        given = went.given ∙ ap (λ (x : FilesView). raised x.counts.given (s.end - s.from)) begun.files ∙ raised-twice a.counts.given (front_size follow s.end) (s.end - s.from);
        faults = ap (λ (x : FilesView). x.counts.faults) read.files ∙ ap (λ (x : FilesView). x.counts.faults) begun.files;
        shorts = ap (λ (x : FilesView). x.counts.shorts) read.files ∙ ap (λ (x : FilesView). x.counts.shorts) begun.files;
        short_at = ap (λ (x : FilesView). x.counts.short_at) read.files ∙ ap (λ (x : FilesView). x.counts.short_at) begun.files;
        present = there;
      }

  -- reading it stopped
  pub misses-rest : (fault : PlaceFault) → StopsWithin (s.end - s.from) m c fault → MissesLog follow es name a c fault
  misses-rest fault (n, le, stops) = record {
    asks = asks-for n le (went-stop n m c fault stops);
    cause = by-fault fault stops;
    absent = λ e. absurd (cc (sym e ∙ there));
  }
    where
      untold : m.bytes ≡ None → a.contents ≡ None
      untold e = by-contents a.contents (sym (ap (λ (x : FilesView). x.bytes) begun.files) ∙ e) there
        where
          by-contents : (contents : Option Contents) → told name contents ≡ None → is_absent name contents ≡ false → contents ≡ None
          by-contents None e absent = refl
          by-contents (Some contents) e absent = absurd (by-found (content_of name contents) e absent)
            where
              by-found : (o : Option (List ℕ)) → o ≡ None → is_none o ≡ false → ⊥
              by-found None e absent = absurd (cc absent)
              by-found (Some x) e absent = absurd (cc e)

      by-fault : (fault : PlaceFault) → StopsAfter n m c fault → IsCause name a c fault
      by-fault FileFault e = (
        ap (λ (x : FilesView). x.counts.faults) e ∙ ap (λ (x : FilesView). raised x.counts.faults 1) begun.files,
        ap (λ (x : FilesView). x.counts.shorts) e ∙ ap (λ (x : FilesView). x.counts.shorts) begun.files,
        ap (λ (x : FilesView). x.counts.short_at) e ∙ ap (λ (x : FilesView). x.counts.short_at) begun.files,
      )
      by-fault (FileShort at) (none, e) = (
        ap (λ (x : FilesView). x.counts.shorts) e ∙ ap (λ (x : FilesView). raised x.counts.shorts 1) begun.files,
        ap (λ (x : FilesView). x.counts.short_at) e,
        untold none,
        ap (λ (x : FilesView). x.counts.faults) e ∙ ap (λ (x : FilesView). x.counts.faults) begun.files,
      )
      by-fault NoMemory e = (ap (λ (x : FilesView). x.counts.faults) e ∙ ap (λ (x : FilesView). x.counts.faults) begun.files, ap (λ (x : FilesView). x.counts.shorts) e ∙ ap (λ (x : FilesView). x.counts.shorts) begun.files, ap (λ (x : FilesView). x.counts.short_at) e ∙ ap (λ (x : FilesView). x.counts.short_at) begun.files, there)
