-- What is prepared for a merge, and what is said of it.
use Rattle.std.proofs.Common.{◌≡◌, ◌⊎◌, ◌++◌, ◌∷◌, [], ◌+◌, ◌<◌, ◌&&◌, ℕ, Bool, true, false, List, length, map, Option, None, Some, nat_lt, take, append_assoc, inl, inr, refl, sym, ap, ◌∙◌, subst}
use Rattle.std.specs.Prelude.{if◌then◌else◌, is_some, slice_get}
use Rattle.std.proofs.lemmas.Bool.Decides.{Decides-ltb}
use Rattle.std.proofs.lemmas.List.{length-map, map-append}
use Rattle.ga_base.specs.Totals.{totals_plus}
use Rattle.ga_base.specs.declared.counts.Counter.{Counter}
use Rattle.ga_base.specs.declared.counts.Counter.TheVariants.{Generations}
use Rattle.ga_base.specs.declared.counts.TheConstants.{LIMIT}
use Rattle.ga_base.specs.declared.entry.Entry.{Entry}
use Rattle.ga_codec.proofs.Written.{taken_more}
use Rattle.ga_codec.specs.Values.{EntryValue, entry_value}
use Rattle.ga_store.specs.Commit.{IsWorkBy, IsWorkOf, Makes, Work, adds_record, after_run, most_records, passes_generations}
use Rattle.ga_store.specs.Database.{DbValue, of_snapshot}
use Rattle.ga_store.specs.declared.fault.StoreFault.{StoreFault}
use Rattle.ga_store.specs.declared.fault.StoreFault.TheVariants.{CounterFull as StoreFull, NoMemory as StoreNoMemory}
use Rattle.ga_store.specs.declared.mode.Mode.TheVariants.{Append}
use Rattle.ga_summary.specs.Limits.{passes}
use Rattle.ga_summary.specs.SummaryRows.{SummaryValue}
use Rattle.ga_summary.specs.declared.fault.MergeFault.{MergeFault}
use Rattle.ga_summary.specs.declared.fault.MergeFault.TheVariants.{CounterFull as SumFull, NoMemory as MergeNoMemory}
use Rattle.ga_dbtool.specs.Merged.{keep_of}
use Rattle.ga_dbtool.specs.Steps.Parts.{IsPrepared, MergesLastDays, StopsJoining, StopsPreparing, status_of_merge, status_of_store}
use Rattle.ga_dbtool.specs.Texts.{check_text, facts_text}
use Rattle.ga_dbtool.specs.declared.status.DbStatus.{DbStatus}

-- a record is added where there is room for one
room-in : (a b c : Bool) → (a && b && c) ≡ true → c ≡ true
room-in true true c e = e
room-in true false c e = cc
room-in false b c e = cc

pub record-room : (adds : Bool) (keep : ℕ) (a : DbValue) (run whole : SummaryValue) (entries : List EntryValue) (work : Work) → (adds ≡ true → nat_lt a.records most_records ≡ true)
    → IsWorkBy adds keep a run whole entries work → work.is_new ≡ false → a.records < most_records
record-room true keep a run whole entries work room is kind = (Decides-ltb a.records most_records).0 (room refl)
record-room false keep a run whole entries work room is kind = let clash : true ≡ false = sym is.kind ∙ kind in absurd (cc clash)

pub has-room : (a : DbValue) → adds_record Append a ≡ true → nat_lt a.records most_records ≡ true
has-room a e = room-in (is_some a.side) (is_some a.keep) (nat_lt a.records most_records) e

-- what is said of the database after the work
facts-say : (adds : Bool) (keep : ℕ) (a : DbValue) (run whole : SummaryValue) (entries : List EntryValue) (work : Work) → IsWorkBy adds keep a run whole entries work
    → facts_text (if work.is_new then a.generation + 1 else a.generation) (if work.is_new then 0 else a.records + 1) whole (length entries)
    ≡ check_text (if adds
    then record a { summary = whole; entries = entries; records = a.records + 1; slot = a.slot + length work.tail }
    else of_snapshot work.side (length work.tail) (record { generation = a.generation + 1; keep = Some keep; summary = whole; entries = entries }))
facts-say true keep a run whole entries work is =
    ap (λ (b : Bool). facts_text (if b then a.generation + 1 else a.generation) (if b then 0 else a.records + 1) whole (length entries)) is.kind
facts-say false keep a run whole entries work is =
    ap (λ (b : Bool). facts_text (if b then a.generation + 1 else a.generation) (if b then 0 else a.records + 1) whole (length entries)) is.kind

-- the entries of both, as they are stored
pub joined-values : (xs ys all : List Entry) → all ≡ xs ++ ys → map entry_value all ≡ map entry_value xs ++ map entry_value ys
joined-values xs ys all e = ap (λ (es : List Entry). map entry_value es) e ∙ map-append entry_value xs ys

-- one entry more is added
pub added-more : (old xs now new : List Entry) (i : ℕ) (x : Entry) → slice_get xs i ≡ Some x → now ≡ old ++ take i xs → new ≡ now ++ x ∷ [] → new ≡ old ++ take (i + 1) xs
added-more old xs now new i x at before e =
    e ∙ ap (λ (es : List Entry). es ++ x ∷ []) before ∙ append_assoc old (take i xs) (x ∷ []) ∙ ap (λ (es : List Entry). old ++ es) (sym (taken_more xs i x at))

module _ (a b : DbValue) (keep : ℕ) (whole : SummaryValue) (entries : List Entry) (work : Work) (text : List ℕ) (number : keep ≡ keep_of a b)
    (both : MergesLastDays keep a.summary b.summary whole) (fits : passes (totals_plus a.summary.totals b.summary.totals) ≡ None)
    (values : map entry_value entries ≡ a.entries ++ b.entries) (room : passes_generations Append a ≡ false)
    (is : IsWorkOf Append keep a b.summary whole (map entry_value entries) work) (makes : Makes work a (after_run Append keep a whole (map entry_value entries) work))
    (generation records : ℕ) (generation-is : generation ≡ (if work.is_new then a.generation + 1 else a.generation))
    (records-is : records ≡ (if work.is_new then 0 else a.records + 1)) (says : text ≡ facts_text generation records whole (length entries)) where
  said : text ≡ check_text (after_run Append keep a whole (map entry_value entries) work)
  said = says ∙ (λ i. facts_text (generation-is i) (records-is i) whole (sym (length-map entries entry_value) i))
      ∙ facts-say (adds_record Append a) keep a b.summary whole (map entry_value entries) work is

  pub prepared : IsPrepared a b work text
  prepared = record {
    whole = whole;
    both = subst (λ (k : ℕ). MergesLastDays k a.summary b.summary whole) number both;
    fits = fits;
    room = room;
    makes = subst (λ (es : List EntryValue). Makes work a (after_run Append (keep_of a b) a whole es work)) values
        (subst (λ (k : ℕ). Makes work a (after_run Append k a whole (map entry_value entries) work)) number makes);
    says = subst (λ (es : List EntryValue). text ≡ check_text (after_run Append (keep_of a b) a whole es work)) values
        (subst (λ (k : ℕ). text ≡ check_text (after_run Append k a whole (map entry_value entries) work)) number said);
  }

-- why it wasn't prepared
pub join-stops : (left right : SummaryValue) (fault : MergeFault)
    → ((which : Counter) (total : ℕ) → fault ≡ SumFull which total → passes (totals_plus left.totals right.totals) ≡ Some (which, total)) → StopsJoining left right (status_of_merge fault)
join-stops left right (SumFull which total) full = inr (which, total, refl, full which total refl)
join-stops left right MergeNoMemory full = inl refl

pub sum-stops : (a b : DbValue) (status : DbStatus) → StopsJoining a.summary b.summary status → StopsPreparing a b status
sum-stops a b status (inl is) = inl is
sum-stops a b status (inr (which, total, is, full)) = inr (which, total, is, inl full)

-- a sum that passes no limit
pub none-passes : (o : Option (Counter × ℕ)) → ((which : Counter) (total : ℕ) → o ≡ Some (which, total) → ⊥) → o ≡ None
none-passes None none = refl
none-passes (Some (which, total)) none = absurd (none which total refl)

pub work-stops : (a b : DbValue) (fault : StoreFault) → passes (totals_plus a.summary.totals b.summary.totals) ≡ None → (fault ≡ StoreNoMemory) ⊎ (fault ≡ StoreFull Generations (LIMIT + 1))
    → (fault ≡ StoreFull Generations (LIMIT + 1) → passes_generations Append a ≡ true) → StopsPreparing a b (status_of_store 0 fault)
work-stops a b fault fits cause full = by cause
  where
    by : (fault ≡ StoreNoMemory) ⊎ (fault ≡ StoreFull Generations (LIMIT + 1)) → StopsPreparing a b (status_of_store 0 fault)
    by (inl e) = inl (ap (status_of_store 0) e)
    by (inr e) = inr (Generations, LIMIT + 1, ap (status_of_store 0) e, inr (fits, full e, refl, refl))

pub not-full : (b : Bool) → (b ≡ true → ⊥) → b ≡ false
not-full false none = refl
not-full true none = absurd (none refl)
