-- What is prepared makes the database after the run.
use Rattle.std.proofs.Common.{◌≡◌, ◌⊎◌, ℕ, ◌+◌, ◌&&◌, Bool, true, false, List, length, Option, Some, None, is_some, Result, IfOk, Ok, Err, nat_lt, inl, inr, refl, sym, ◌∙◌, ap, subst, arith}
use Rattle.std.specs.Prelude.{if◌then◌else◌, unwrap_or}
use Rattle.std.proofs.lemmas.Bool.Decides.{nat_tests}
use Rattle.ga_base.specs.declared.counts.TheConstants.{LIMIT}
use Rattle.ga_base.specs.declared.counts.Totals.{Totals}
use Rattle.ga_summary.specs.LastDays.{trimmed}
use Rattle.ga_summary.specs.Limits.{passes}
use Rattle.ga_summary.specs.SummaryRows.{SummaryValue}
use Rattle.ga_summary.specs.Sound.{IsSummary}
use Rattle.ga_base.specs.Totals.{TotalsFit, totals_plus}
use Rattle.ga_summary.specs.Sums.{IsMerged}
use Rattle.ga_summary.proofs.LastDays.{trimmed-totals}
use Rattle.ga_codec.specs.Values.{EntryValue}
use Rattle.ga_store.specs.Commit.{Agrees, IsGenerationOf, IsRecordOf, IsWorkBy, IsWorkOf, Makes, MergesBy, Work, adds_record, after_run, most_records, passes_generations, position_of}
use Rattle.ga_store.specs.Commit.Makes.{by_generation, by_record}
use Rattle.ga_store.specs.Database.{DbValue, of_snapshot}
use Rattle.ga_store.specs.declared.mode.Mode.{Mode}
use Rattle.ga_store.specs.declared.mode.Mode.TheVariants.{Append, Overwrite}
use Rattle.ga_store.specs.declared.position.Position.{Position}
use Rattle.ga_store.specs.Steps.Committing.{db_at}
use Rattle.ga_store.proofs.LastDays.{trimmed-again}

pub if_ok-map : {A B : Type 0} {P Q : A → Type 0} (r : Result A B) → ((a : A) → P a → Q a) → IfOk r P → IfOk r Q
if_ok-map (Ok a) f p = f a p
if_ok-map (Err b) f p = tt

pub passes-none : (t : Totals) → TotalsFit t → passes t ≡ None
passes-none t fit =
    let lines : nat_lt LIMIT t.lines ≡ false = let le = fit.lines in grind (arith, nat_tests) in
    let bytes : nat_lt LIMIT t.bytes ≡ false = let le = fit.bytes in grind (arith, nat_tests) in
    let micros : nat_lt LIMIT t.micros ≡ false = let le = fit.micros in grind (arith, nat_tests) in
    rw (lines, bytes, micros) refl

no-number : (a b : Bool) → (a && false && b) ≡ true → ⊥
no-number true b e = cc
no-number false b e = cc

says-number : (a b : Bool) (keep : ℕ) (number : Option ℕ) → (a && is_some number && b) ≡ true → (number ≡ None) ⊎ (number ≡ Some keep) → number ≡ Some keep
says-number a b keep number e (inl none) = absurd (no-number a b (subst (λ (o : Option ℕ). (a && is_some o && b) ≡ true) none e))
says-number a b keep number e (inr some) = some

-- a database that a record is added to says how many days it keeps
pub number-is : (mode : Mode) (keep : ℕ) (db : DbValue) → Agrees mode keep db → adds_record mode db ≡ true → db.keep ≡ Some keep
number-is Overwrite keep db agrees adds = cc
number-is Append keep db agrees adds = says-number (is_some db.side) (nat_lt db.records most_records) keep db.keep adds agrees

module _ (work : Work) (keep : ℕ) (db : DbValue) (run merged : SummaryValue) (entries : List EntryValue) (sound : IsSummary merged) where
  -- the last days of a whole are those of themselves
  again : (all : SummaryValue) → merged ≡ trimmed keep all → trimmed keep merged ≡ merged
  again all last = ap (λ (s : SummaryValue). trimmed keep s) last ∙ trimmed-again keep all ∙ sym last

  of-record : (both : SummaryValue) → IsMerged db.summary run both → merged ≡ trimmed keep both → db.keep ≡ Some keep → IsRecordOf db run entries work
      → Makes work db (record db { summary = merged; entries = entries; records = db.records + 1; slot = db.slot + length work.tail })
  of-record both merges last number is =
      let totals : merged.totals ≡ totals_plus db.summary.totals run.totals = ap (λ (s : SummaryValue). s.totals) last ∙ trimmed-totals keep both ∙ merges.totals in
      let limits = subst (λ (t : Totals). passes t ≡ None) totals (passes-none merged.totals sound.sound.totals.fit) in
      let same : trimmed (unwrap_or db.keep 0) both ≡ merged = ap (λ (o : Option ℕ). trimmed (unwrap_or o 0) both) number ∙ sym last in
      subst (λ (s : SummaryValue). Makes work db (record db { summary = s; entries = entries; records = db.records + 1; slot = db.slot + length work.tail })) same
      (by_record is limits merges)

  of-generation : trimmed keep merged ≡ merged → IsGenerationOf db keep merged entries work
      → Makes work db (of_snapshot work.side (length work.tail) (record { generation = db.generation + 1; keep = Some keep; summary = merged; entries = entries }))
  of-generation same is =
      subst (λ (s : SummaryValue). Makes work db (of_snapshot work.side (length work.tail) (record { generation = db.generation + 1; keep = Some keep; summary = s; entries = entries }))) same
      (by_generation is)

  by-kind : (adds : Bool) → (adds ≡ true → db.keep ≡ Some keep) → MergesBy Append keep db.summary run merged → IsWorkBy adds keep db run merged entries work
      → Makes work db (if adds
      then record db { summary = merged; entries = entries; records = db.records + 1; slot = db.slot + length work.tail }
      else of_snapshot work.side (length work.tail) (record { generation = db.generation + 1; keep = Some keep; summary = merged; entries = entries }))
  by-kind true number merges is = of-record merges.0 merges.1 merges.2 (number refl) is
  by-kind false number merges is = of-generation (again merges.0 merges.2) is

  pub makes-after : (mode : Mode) → Agrees mode keep db → MergesBy mode keep db.summary run merged → IsWorkOf mode keep db run merged entries work
      → Makes work db (after_run mode keep db merged entries work)
  makes-after Overwrite agrees last is = of-generation (again run last) is
  makes-after Append agrees merges is =
      by-kind (adds_record Append db) (number-is Append keep db agrees) merges is

-- ---- where a database stands is all that the work depends on

module _ (keep : ℕ) (db : DbValue) (run merged : SummaryValue) (entries : List EntryValue) (work : Work) where
  of-kind : (adds : Bool) → IsWorkBy adds keep (db_at (position_of db)) run merged entries work → IsWorkBy adds keep db run merged entries work
  of-kind true h = record { side = h.side; gate = h.gate; kind = h.kind; body = h.body; size = h.size; tail = h.tail; spells = h.spells }
  of-kind false h = record { side = h.side; gate = h.gate; kind = h.kind; body = h.body; size = h.size; tail = h.tail; spells = h.spells }

  of-mode : (mode : Mode) → IsWorkOf mode keep (db_at (position_of db)) run merged entries work → IsWorkOf mode keep db run merged entries work
  of-mode Overwrite h = of-kind false h
  of-mode Append h = of-kind (adds_record Append db) h

  pub work-at : (p : Position) → position_of db ≡ p → (mode : Mode) → IsWorkOf mode keep (db_at p) run merged entries work → IsWorkOf mode keep db run merged entries work
  work-at p stands mode h = of-mode mode (subst (λ (q : Position). IsWorkOf mode keep (db_at q) run merged entries work) (sym stands) h)

passes-of : (mode : Mode) (db : DbValue) → passes_generations mode (db_at (position_of db)) ≡ passes_generations mode db
passes-of Overwrite db = refl
passes-of Append db = refl

pub passes-at : (mode : Mode) (db : DbValue) (p : Position) → position_of db ≡ p → passes_generations mode (db_at p) ≡ passes_generations mode db
passes-at mode db p stands = ap (λ (q : Position). passes_generations mode (db_at q)) (sym stands) ∙ passes-of mode db
