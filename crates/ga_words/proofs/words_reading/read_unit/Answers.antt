use Rattle.std.proofs.Common.{◌≡◌, ℕ, List, None, subst}
use Rattle.std.proofs.lemmas.Result.{err_from_is_err_and}
use Rattle.ga_words.specs.Options.{takes_of}
use Rattle.ga_words.specs.Units.{BeginsWithDash}
use Rattle.ga_words.specs.Steps.Words.{IsJoined, HasNoJoined}
use Rattle.ga_words.proofs.UnitLemmas.{unit-log, unit-joined, fault-joined, fault-unknown, some-word}
use Rattle.ga_words.proofs.words_reading.read_unit.Goals as goal

pub returns-in_err-set_value-in-Joined-clause-fault : goal.returns-in_err-set_value-in-Joined-clause-fault
returns-in_err-set_value-in-Joined-clause-fault c =
    let p = err_from_is_err_and c.from_residual-in_err-set_value-in-Joined.result c.from_residual-in_err-set_value-in-Joined.ensures.1 in
    let joined = subst (λ (w : List ℕ). IsJoined w c.in-Joined.name.now c.in-Joined.takes c.in-Joined.value.now) c.as_str-text.ensures c.in-Joined.ensures in
    rw (p.1, p.2)
    (fault-joined c.args.word.now c.args.after.now c.args.at c.in-Joined.name.now c.in-Joined.value.now c.in-Joined.takes c.in_err-set_value-in-Joined.field-0.0 joined
    c.in_err-set_value-in-Joined.ensures.fault)

pub returns-in_ok-add_log-in-Log-2-clause-ok : goal.returns-in_ok-add_log-in-Log-2-clause-ok
returns-in_ok-add_log-in-Log-2-clause-ok c =
    let dashless = subst (λ (w : List ℕ). ¬ BeginsWithDash w) c.as_str-text.ensures c.in-Log.ensures in
    unit-log c.args.word.now c.args.after.now c.args.at c.args.reading.now c.add_log.new.settings (some-word c.args.word.now c.as_str-text.result.now c.is_empty.result c.is_empty.ensures c.if-is_empty.false c.as_str-text.ensures) dashless c.in_ok-add_log-in-Log-2.ensures

pub returns-in_ok-set_value-in-Joined-clause-ok : goal.returns-in_ok-set_value-in-Joined-clause-ok
returns-in_ok-set_value-in-Joined-clause-ok c =
    let joined = subst (λ (w : List ℕ). IsJoined w c.in-Joined.name.now c.in-Joined.takes c.in-Joined.value.now) c.as_str-text.ensures c.in-Joined.ensures in
    unit-joined c.args.word.now c.args.after.now c.args.at c.args.reading.now c.set_value.new.settings c.in-Joined.name.now c.in-Joined.value.now c.in-Joined.takes
    c.note_generate.new.generate_at joined c.in_ok-set_value-in-Joined.ensures.ok c.note_generate.ensures

pub returns-in-Unknown-clause-fault : goal.returns-in-Unknown-clause-fault
returns-in-Unknown-clause-fault c =
    let unknown = subst (λ (w : List ℕ). BeginsWithDash w × (takes_of w ≡ None) × HasNoJoined w) c.as_str-text.ensures c.in-Unknown.ensures in
    fault-unknown c.args.word.now c.args.after.now c.args.at c.requires.no_end unknown
