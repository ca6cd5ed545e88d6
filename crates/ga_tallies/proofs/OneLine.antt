-- What one line does to a tally.
use Rattle.std.proofs.Common.{◌≡◌, ℕ, ◌≤◌, Bool, true, false, ◌||◌, nat_lt, List, [], ◌∷◌, ◌++◌, map, Option, Some, None, IfSome, refl, sym, ap, ◌∙◌, subst, arith, cond}
use Rattle.std.specs.Prelude.{unwrap_or}
use Rattle.std.proofs.lemmas.List.Elements.{All-cons, All-nil}
use Rattle.std.proofs.lemmas.Map.Keys.{IsDistinct-from_sorted}
use Rattle.ga_base.specs.declared.counts.Sums.{Sums}
use Rattle.ga_base.specs.declared.counts.TheConstants.{BIG}
use Rattle.ga_base.specs.declared.counts.Totals.{Totals}
use Rattle.ga_base.specs.declared.key.Key.{Key}
use Rattle.ga_base.specs.declared.key.Visitor.{Visitor}
use Rattle.ga_base.specs.declared.record.Record.{Record}
use Rattle.ga_base.specs.Layers.{day_key}
use Rattle.ga_base.specs.Orders.{key_cmp}
use Rattle.ga_line.specs.Bounds.{RecordBounds}
use Rattle.ga_panels.specs.Facts.{CanHaveKeys}
use Rattle.ga_panels.specs.Form.{AreKeysOfDay}
use Rattle.ga_panels.specs.Visitors.{is_visit, visitor_in}
use Rattle.ga_panels.specs.declared.setup.PanelSetup.{PanelSetup}
use Rattle.ga_summary.specs.OneLine.{record_sums, record_totals}
use Rattle.ga_summary.specs.Outcomes.{Hit, Outcome, Counted, hit_of, hits_of, sums_of, has_visit, totals_of}
use Rattle.ga_summary.specs.Outcomes as outcomes
use Rattle.ga_summary.specs.SummaryRows.{no_sums, sums_plus}
use Rattle.ga_base.specs.Totals.{totals_plus, TotalsFit}
use Rattle.ga_summary.specs.Sound.{AllCountable, IsCountable}
use Rattle.ga_summary.proofs.Appends.{sums_of-append, has_visit-append, totals_of-append}
use Rattle.ga_summary.proofs.Lines.{same_totals}
use Rattle.ga_summary.proofs.Merging.{sums_plus-none}
use Rattle.ga_tallies.specs.Steps.Notes.{NotesKeys, NotesVisitor}
use Rattle.ga_tallies.specs.Steps.OneLine.{Adds, IsTooMuch}
use Rattle.ga_tallies.specs.Tallies.{TallySeen, IsTallyOf}
use Rattle.ga_numbers.proofs.Noted.{or-false}
use Rattle.ga_tallies.proofs.OneHit.{counted-hit}
use Rattle.ga_tallies.proofs.OneKey.{one-totals}

-- an outcome that no key has adds to the totals alone
uncounted : (outcome : Outcome) (more : Totals) (old new : TallySeen) → totals_of (outcome ∷ []) ≡ more → ((key : Key) → sums_of key (outcome ∷ []) ≡ no_sums)
    → ((key : Key) (visitor : Visitor) → has_visit key visitor (outcome ∷ []) ≡ false) → new ≡ record old { totals = totals_plus old.totals more } → Adds (outcome ∷ []) old new
uncounted outcome more old new totals sums visits adds before is = subst (IsTallyOf (before ++ outcome ∷ [])) (sym adds) at
  where
    same-sums : (key : Key) → sums_of key (before ++ outcome ∷ []) ≡ sums_of key before
    same-sums key = sums_of-append key before (outcome ∷ []) ∙ ap (λ (s : Sums). sums_plus (sums_of key before) s) (sums key) ∙ sums_plus-none (sums_of key before)

    same-visits : (key : Key) (visitor : Visitor) → has_visit key visitor (before ++ outcome ∷ []) ≡ has_visit key visitor before
    same-visits key visitor = has_visit-append key visitor before (outcome ∷ []) ∙ ap (λ b. has_visit key visitor before || b) (visits key visitor) ∙ or-false _

    at : IsTallyOf (before ++ outcome ∷ []) (record old { totals = totals_plus old.totals more })
    at = record {
      totals = (λ i. totals_plus (is.totals i) (sym totals i)) ∙ sym (totals_of-append before (outcome ∷ []));
      different_keys = is.different_keys;
      different_visitors = is.different_visitors;
      sums = is.sums ∙ (λ i. map (λ key. sym (same-sums key) i) old.keys);
      counted = λ key. is.counted key ∙ ap (λ (s : Sums). nat_lt 0 s.hits) (sym (same-sums key));
      pairs = λ k v at. let p = is.pairs k v at in (p.0, p.1, p.2, p.3, same-visits p.0 p.1 ∙ p.4);
      visits = λ key visitor has. is.visits key visitor (sym (same-visits key visitor) ∙ has);
      used = is.used;
    }

abbrev pub one_failed : Totals
one_failed = record { lines = 1; failed = 1; excluded = 0; hits = 0; bytes = 0; micros = 0 }

abbrev pub one_excluded : Totals
one_excluded = record { lines = 1; failed = 0; excluded = 1; hits = 0; bytes = 0; micros = 0 }

pub failed-added : (old new : TallySeen) → new ≡ record old { totals = totals_plus old.totals one_failed } → Adds (outcomes.Failed ∷ []) old new
failed-added old new adds = uncounted outcomes.Failed one_failed old new (same_totals _ _ refl (omega arith) (omega arith) refl refl refl) (λ key. refl) (λ key visitor. refl) adds

pub excluded-added : (old new : TallySeen) → new ≡ record old { totals = totals_plus old.totals one_excluded } → Adds (outcomes.Excluded ∷ []) old new
excluded-added old new adds = uncounted outcomes.Excluded one_excluded old new (same_totals _ _ refl (omega arith) (omega arith) refl refl refl) (λ key. refl) (λ key visitor. refl) adds

-- an outcome with which the totals don't fit
too-much : (outcome : Outcome) (more : Totals) (old : TallySeen) → totals_of (outcome ∷ []) ≡ more → ¬ TotalsFit (totals_plus old.totals more) → IsTooMuch outcome old
too-much outcome more old totals full before is fit =
    full (subst TotalsFit (totals_of-append before (outcome ∷ []) ∙ (λ i. totals_plus (sym is.totals i) (totals i))) fit)

pub failed-too-much : (old : TallySeen) → ¬ TotalsFit (totals_plus old.totals one_failed) → IsTooMuch outcomes.Failed old
failed-too-much old full = too-much outcomes.Failed one_failed old (same_totals _ _ refl (omega arith) (omega arith) refl refl refl) full

pub excluded-too-much : (old : TallySeen) → ¬ TotalsFit (totals_plus old.totals one_excluded) → IsTooMuch outcomes.Excluded old
excluded-too-much old full = too-much outcomes.Excluded one_excluded old (same_totals _ _ refl (omega arith) (omega arith) refl refl refl) full

pub hit-too-much : (keys : List Key) (visitor : Option Visitor) (rec : Record) (old : TallySeen) → ¬ TotalsFit (totals_plus old.totals (record_totals rec)) → IsTooMuch (Counted (hit_of keys visitor rec)) old
hit-too-much keys visitor rec old full = too-much (Counted (hit_of keys visitor rec)) (record_totals rec) old (one-totals (hit_of keys visitor rec)) full

-- a record that is counted under its keys
pub hit-added : (keys : List Key) (visitor : Option Visitor) (rec : Record) (place : Option ℕ) (old mid seat new : TallySeen) → AreKeysOfDay rec.date keys
    → mid ≡ record old { totals = totals_plus old.totals (record_totals rec) } → TotalsFit mid.totals → NotesVisitor visitor place mid seat
    → NotesKeys keys place (record_sums rec) seat new → Adds (Counted (hit_of keys visitor rec) ∷ []) old new
hit-added keys visitor rec place old mid seat new form adds fit sits notes before is =
    counted-hit before visitor rec.bytes (unwrap_or rec.micros 0) keys (day_key rec.date) place old mid seat new form.day (IsDistinct-from_sorted key_cmp keys form.rising) is adds fit sits notes

-- ---- what may be counted

visit-date : (b : Bool) (v x : Visitor) → cond b (Some v) None ≡ Some x → x.date ≡ v.date
visit-date true v x e = let same : v ≡ x = cc in ap (λ (y : Visitor). y.date) (sym same)
visit-date false v x e = cc

micros-within : (o : Option ℕ) → IfSome o (λ micros. micros ≤ BIG) → unwrap_or o 0 ≤ BIG
micros-within None h = omega arith
micros-within (Some m) h = h

-- the records that lines say have keys
pub can-have : (rec : Record) → RecordBounds rec → CanHaveKeys rec
can-have rec bounds = record {
  date = bounds.date;
  minute = bounds.minute;
  status = bounds.status;
}

-- the keys of a record may be counted on its day
pub countable : (panels : PanelSetup) (rec : Record) (keys : List Key) → RecordBounds rec → AreKeysOfDay rec.date keys → AllCountable (Counted (hit_of keys (visitor_in panels rec) rec) ∷ [])
countable panels rec keys bounds form = All-cons Counts (hit_of keys (visitor_in panels rec) rec) [] (rec.date, can) (All-nil Counts)
  where
    Counts : Hit → Type 0
    Counts hit = (date : ℕ) × IsCountable date hit

    can : IsCountable rec.date (hit_of keys (visitor_in panels rec) rec)
    can = record {
      rising = form.rising;
      dated = form.dated;
      formed = form.formed;
      day = form.day;
      layers = form.layers;
      visitor = λ x e. visit-date (is_visit panels rec.status) _ x e;
      bytes = bounds.bytes;
      micros = micros-within rec.micros bounds.micros;
    }

pub none-countable : AllCountable []
none-countable = λ k d lt. absurd (omega (arith, lt))
