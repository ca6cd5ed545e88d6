-- The rows of what two sides say are in order, and its entries are those of logs.
use Rattle.std.proofs.Common.{◌≡◌, ℕ, ◌==◌, Bool, true, false, if◌then◌else◌, List, [], ◌∷◌, refl, ap, sym, subst, inl, inr, arith, map}
use Rattle.std.specs.List.{AllByRecursion}
use Rattle.std.specs.Option.{unwrap_or}
use Rattle.std.specs.List.Sorted.{IsStrictlySortedBy}
use Rattle.ga_base.specs.declared.entry.Entry.{Entry}
use Rattle.ga_codec.specs.Shapes.{IsEntry}
use Rattle.ga_codec.specs.Values.{EntryValue, SnapshotValue, entry_value}
use Rattle.ga_disk.specs.Sides.{Sides}
use Rattle.ga_keep.specs.RunDatabase.{AreBase, SidesHave, base_of}
use Rattle.ga_store.specs.Database.{DbOf, DbValue, HasSnapshot, Reading, ReadsOn, TakesOn, empty_db, of_snapshot, with_last_days}
use Rattle.ga_store.specs.Database.DbOf.{chosen0, chosen1, equal, lacks0, lacks1, nothing}
use Rattle.ga_store.specs.Database.Reading.{damaged, stored as reads_as}
use Rattle.ga_store.specs.Database.ReadsOn.{breaks, ends, goes_on}
use Rattle.ga_summary.specs.LastDays.{is_among_last, last_rows, trimmed}
use Rattle.ga_summary.specs.SummaryRows.{IsInOrder, SummaryValue}
use Rattle.ga_summary.proofs.LastDays.{filter-ordered}
use Rattle.ga_words.specs.declared.settings.Settings.{Settings}

pub record IsGoodDb (db : DbValue) : Type 0 where
  pub ordered : IsInOrder db.summary.rows
  pub entries : AllByRecursion IsEntry db.entries

no-rows : IsInOrder []
unfolding IsStrictlySortedBy
no-rows = record { keys = tt; names = λ k d lt. absurd (omega arith) }

empty-good : IsGoodDb empty_db
empty-good = record { ordered = no-rows; entries = tt }

first-good : (number : ℕ) (side : List ℕ) (s : SnapshotValue) (next : ℕ) → HasSnapshot side s next → IsGoodDb (of_snapshot number next s)
first-good number side s next h = record { ordered = h.spells.summary.ordered; entries = h.spells.entries }

next-good : (side : List ℕ) (old new : DbValue) → TakesOn side old new → IsGoodDb new
next-good side old new t = record {
  ordered = t.merged.ordered;
  entries = subst (AllByRecursion IsEntry) (sym (ap (λ (db : DbValue). db.entries) t.others)) t.spells.entries;
}

trimmed-ordered : (n : ℕ) (s : SummaryValue) → IsInOrder s.rows → IsInOrder (trimmed n s).rows
trimmed-ordered n s ordered = by (n == 0)
  where
    by : (all : Bool) → IsInOrder (if all then s else record s { rows = last_rows n s.rows }).rows
    by true = ordered
    by false = filter-ordered (λ row. is_among_last n s.rows row.key.date) s.rows ordered

last-good : (db : DbValue) → IsGoodDb db → IsGoodDb (with_last_days db)
last-good db good = record { ordered = trimmed-ordered (unwrap_or db.keep 0) db.summary good.ordered; entries = good.entries }

-- where the sides say a database, it is a good one
abbrev SaysGood : Reading → Type 0
SaysGood (reads_as db) = IsGoodDb db
SaysGood (damaged side at) = Unit {0}

good-on : (number : ℕ) (side : List ℕ) (db : DbValue) (reading : Reading) → IsGoodDb db → ReadsOn number side db reading → SaysGood reading
good-on number side db reading good (ends gate) = last-good db good
good-on number side db reading good (goes_on {new = new} takes on) = good-on number side new reading (next-good side db new takes) on
good-on number side db reading good (breaks gate none) = tt

says-good : (sides : Sides) (reading : Reading) → DbOf sides reading → SaysGood reading
says-good sides reading (nothing gate other) = empty-good
says-good sides reading (lacks0 lacks) = tt
says-good sides reading (lacks1 whole lacks) = tt
says-good sides reading (equal h k same) = tt
says-good sides reading (chosen0 {snapshot = s} {next = next} h yields on) =
    good-on 0 sides.side0 (of_snapshot 0 next s) reading (first-good 0 sides.side0 s next h) on
says-good sides reading (chosen1 {snapshot = s} {next = next} h yields on) =
    good-on 1 sides.side1 (of_snapshot 1 next s) reading (first-good 1 sides.side1 s next h) on

pub have-good : (s : Settings) (sides : Sides) (db : DbValue) → SidesHave s sides db → IsGoodDb db
have-good s sides db (inl (uses, says)) = says-good sides (reads_as db) says
have-good s sides db (inr (none, empty)) = subst IsGoodDb (sym empty) empty-good

-- ---- entries

some-entries : (values : List EntryValue) → AllByRecursion IsEntry values → (entries : List Entry) × (map entry_value entries ≡ values)
some-entries [] all = ([], refl)
some-entries (v ∷ values) (is, all) =
    let (entries, same) = some-entries values all in
    let entry : Entry = record { lead = v.lead; digest = v.digest; offset = v.offset; leads = is.lead; counted = is.counted } in
    (entry ∷ entries, ap (λ (vs : List EntryValue). v ∷ vs) same)

-- a run has entries by which it follows its logs
pub some-base : (s : Settings) (db : DbValue) → IsGoodDb db → (entries : List Entry) × AreBase s db entries
some-base s db good = some-entries (base_of s db).entries (by s.restore)
  where
    by : (restores : Bool) → AllByRecursion IsEntry (if restores then db else empty_db).entries
    by true = good.entries
    by false = tt
