use Rattle.std.proofs.Common.{◌≤◌, ℕ, Option, Some, None, inl, inr, refl, sym, ◌∙◌, subst, arith, IfSome, zero-add}
use Rattle.std.specs.Option.{unwrap_or}
use Rattle.std.proofs.lemmas.Bool.{both_ways}
use Rattle.ga_base.specs.declared.counts.TheConstants.{BIG}
use Rattle.ga_panels.specs.Visitors.{IsExcluded, visitor_in}
use Rattle.ga_summary.specs.Outcomes as outcomes
use Rattle.ga_summary.specs.Outcomes.{hit_of}
use Rattle.ga_workers.proofs.counter_limits.weight_of_record.Goals as goal

micros-small : (o : Option ℕ) → IfSome o (λ micros. micros ≤ BIG) → unwrap_or o 0 ≤ BIG
micros-small None small = omega arith
micros-small (Some m) small = small

pub returns-then-is_excluded : goal.returns-then-is_excluded
returns-then-is_excluded c = record {
  outcome = Some outcomes.Excluded;
  is = inl (c.is_excluded.ensures.0 c.if-is_excluded.true, refl);
  weight = refl;
  light = record { lines = omega arith; bytes = omega arith; micros = omega arith };
}

pub returns : goal.returns
returns c =
    let counted : ¬ IsExcluded c.args.panels.now c.args.rec.now = λ excluded. both_ways _ c.if-is_excluded.false (c.is_excluded.ensures.1 excluded) in
    record {
      outcome = Some (outcomes.Counted (hit_of c.in_ok-_keys._keys (visitor_in c.args.panels.now c.args.rec.now) c.args.rec.now));
      is = inr (counted, (c.in_ok-_keys._keys, c.in_ok-_keys.ensures.exact, refl));
      weight = λ i. Some (record { lines = 1; bytes = sym (zero-add c.args.rec.now.bytes) i; micros = (c.unwrap_or.ensures ∙ sym (zero-add (unwrap_or c.args.rec.now.micros 0))) i });
      light = record { lines = omega arith; bytes = c.requires.bytes; micros = subst (λ (m : ℕ). m ≤ BIG) (sym c.unwrap_or.ensures) (micros-small c.args.rec.now.micros c.requires.micros) };
    }
