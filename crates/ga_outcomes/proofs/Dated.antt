-- The outcomes of lines are dated: a record's visitor and its keys are of the record's day.
use Rattle.std.proofs.Common.{◌≡◌, ◌∙◌, ◌||◌, ℕ, Bool, true, false, cond, List, [], ◌∷◌, ◌++◌, Option, Some, None, inl, inr, refl, sym, ap, subst}
use Rattle.std.specs.Prelude.{flat_map}
use Rattle.std.specs.List.{AllByRecursion, list_any}
use Rattle.std.proofs.lemmas.Bool.{false≢true}
use Rattle.ga_base.specs.declared.key.Key.{Key}
use Rattle.ga_base.specs.declared.key.Visitor.{Visitor}
use Rattle.ga_base.specs.declared.record.Line.{Line}
use Rattle.ga_base.specs.declared.record.Line.TheVariants.{Skipped, Failed, Good}
use Rattle.ga_base.specs.declared.record.Record.{Record}
use Rattle.ga_base.specs.Orders.{is_same_key}
use Rattle.ga_base.proofs.OrderLemmas.{key_cmp_exact}
use Rattle.ga_outcomes.specs.LineOutcomes.{HaveOutcomes, IsOutcomeOf, listed}
use Rattle.ga_outcomes.specs.declared.setup.Setup.{Setup}
use Rattle.ga_panels.specs.Table.{AreKeysOf, PanelRow, counted_key, group_keys, is_counted, table, with_group}
use Rattle.ga_panels.specs.Visitors.{is_visit, visitor_in}
use Rattle.ga_panels.specs.declared.setup.PanelSetup.{PanelSetup}
use Rattle.ga_summary.specs.Dated.{IsDated}
use Rattle.ga_summary.specs.Outcomes.{Outcome, hit_of, hits_of}
use Rattle.ga_summary.proofs.Put.{equal_from_is_eq}

-- ---- the keys of a record

abbrev AreOf : ℕ → List Key → Type 0
AreOf date keys = AllByRecursion (λ key. key.date ≡ date) keys

of-both : (date : ℕ) (xs ys : List Key) → AreOf date xs → AreOf date ys → AreOf date (xs ++ ys)
of-both date [] ys h k = k
of-both date (x ∷ xs) ys h k = (h.0, of-both date xs ys h.1 k)

entry-dated : (key : Key) (parent : List ℕ) → AreOf key.date (group_keys key parent ++ key ∷ [])
entry-dated key [] = (refl, tt)
entry-dated key (byte ∷ bytes) = (refl, (refl, tt))

module _ (panels : List Bool) (rec : Record) where
  row-dated : (row : PanelRow) → AreOf rec.date (with_group (counted_key panels rec row))
  row-dated row = go (is_counted panels row.panel) row.has_key
    where
      go : (counted has : Bool) → AreOf rec.date (with_group (cond counted (cond has (Some (record {
        panel = row.panel;
        date = rec.date;
        parent = row.parent;
        label = row.label;
        method = cond row.request rec.method [];
        protocol = cond row.request rec.protocol [];
      })) None) None))
      go true true = entry-dated _ row.parent
      go true false = tt
      go false has = tt

  rows-dated : (rows : List PanelRow) → AreOf rec.date (flat_map (λ row. with_group (counted_key panels rec row)) rows)
  rows-dated [] = tt
  rows-dated (row ∷ rows) = of-both rec.date (with_group (counted_key panels rec row)) _ (row-dated row) (rows-dated rows)

keys-dated : (setup : PanelSetup) (rec : Record) (keys : List Key) → AreKeysOf setup rec keys → AreOf rec.date keys
keys-dated setup rec keys (facts, has, is) = subst (AreOf rec.date) (sym is) (rows-dated setup.panels rec (table setup rec facts))

among-dated : (date : ℕ) (key : Key) (keys : List Key) → AreOf date keys → list_any (λ other. is_same_key key other) keys ≡ true → key.date ≡ date
among-dated date key [] of e = absurd (false≢true e)
among-dated date key (x ∷ keys) of e = elim (is_same_key key x) as (λ v. is_same_key key x ≡ v → (v || list_any (λ other. is_same_key key other) keys) ≡ true → key.date ≡ date) [
  | true ↦ λ same _. ap (λ (k : Key). k.date) (key_cmp_exact key x (equal_from_is_eq _ same)) ∙ of.0
  | false ↦ λ other rest. among-dated date key keys of.1 rest
] refl e

visit-date : (b : Bool) (v x : Visitor) → cond b (Some v) None ≡ Some x → x.date ≡ v.date
visit-date true v x e = let same : v ≡ x = cc in ap (λ (y : Visitor). y.date) (sym same)
visit-date false v x e = absurd (cc e)

hit-dated : (panels : PanelSetup) (rec : Record) (keys : List Key) → AreKeysOf panels rec keys → IsDated (hit_of keys (visitor_in panels rec) rec)
hit-dated panels rec keys are key has visitor is =
    visit-date (is_visit panels rec.status) _ visitor is ∙ sym (among-dated rec.date key keys (keys-dated panels rec keys are) has)

-- ---- the outcomes of lines

abbrev pub AreDated : List Outcome → Type 0
AreDated xs = AllByRecursion IsDated (hits_of xs)

first-dated : (panels : PanelSetup) (said : Line) (first : Option Outcome) (rest : List Outcome) → IsOutcomeOf panels said first → AreDated rest → AreDated (listed first rest)
first-dated panels Skipped first rest is later = subst (λ (o : Option Outcome). AreDated (listed o rest)) (sym is) later
first-dated panels Failed first rest is later = subst (λ (o : Option Outcome). AreDated (listed o rest)) (sym is) later
first-dated panels (Good rec) first rest (inl is) later = subst (λ (o : Option Outcome). AreDated (listed o rest)) (sym is.1) later
first-dated panels (Good rec) first rest (inr (here, (keys, are, is))) later =
    subst (λ (o : Option Outcome). AreDated (listed o rest)) (sym is) (hit-dated panels rec keys are, later)

pub outcomes-dated : (setup : Setup) (all : List (List ℕ)) (xs : List Outcome) → HaveOutcomes setup all xs → AreDated xs
outcomes-dated setup [] xs h = subst AreDated (sym h) tt
outcomes-dated setup (line ∷ more) xs (first, rest, (said, says, is), later, same) =
    subst AreDated (sym same) (first-dated setup.panels said first rest is (outcomes-dated setup more rest later))
