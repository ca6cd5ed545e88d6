use Rattle.std.proofs.Common.{◌∷◌, ℕ, List, sym, ap, ◌∙◌}
use Rattle.std.proofs.lemmas.Result.{err_from_is_err_and}
use Rattle.ga_words.proofs.UnitLemmas.{unit-flag, unit-apart, fault-apart}
use Rattle.ga_words.proofs.words_reading.read_option.Goals as goal

pub returns-in-Flag-clause-ok : goal.returns-in-Flag-clause-ok
returns-in-Flag-clause-ok c =
    unit-flag c.args.name.now c.args.after.now c.args.at c.args.reading.now c.set_flag.new.settings c.args.takes c.in-Flag.flag c.in-Flag.is c.requires.option c.set_flag.ensures

pub returns-in_err-set_value : goal.returns-in_err-set_value
returns-in_err-set_value c =
    let p = err_from_is_err_and c.from_residual.result c.from_residual.ensures.1 in
    let split = c.in-Some.ensures.cases.0 ∙ ap (λ (x : List ℕ). x ∷ c.in-Some.after.now) (sym c.as_str.ensures) in
    rw (p.1, p.2) record {
      ok = tt;
      fault =
          fault-apart c.args.name.now c.args.after.now c.args.at c.args.takes c.as_str.result.now c.in-Some.after.now c.in_err-set_value.field-0.0
          c.requires.option c.in_default.not-Flag split c.in_err-set_value.ensures.fault;
    }

pub returns : goal.returns
returns c =
    let split = c.in-Some.ensures.cases.0 ∙ ap (λ (x : List ℕ). x ∷ c.in-Some.after.now) (sym c.as_str.ensures) in
    record {
      ok =
          unit-apart c.args.name.now c.args.after.now c.args.at c.args.reading.now c.set_value.new.settings c.args.takes c.as_str.result.now c.in-Some.after.now
          c.note_generate.new.generate_at c.requires.option split c.in_ok-set_value.ensures.ok c.note_generate.ensures;
      fault = tt;
    }
