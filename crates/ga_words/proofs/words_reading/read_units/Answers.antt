use Rattle.std.proofs.Common.{ℕ, List, ◌∷◌, codes, sym, ap, ◌∙◌, inl, inr}
use Rattle.std.proofs.lemmas.Slice.Eq.{bytes_eq-Decides}
use Rattle.std.proofs.lemmas.Result.{err_from_is_err_and}
use Rattle.ga_words.proofs.RowLemmas.{read-more, read-fault, no-words}
use Rattle.ga_words.proofs.words_reading.read_units.Goals as goal
use Rattle.ga_words.proofs.words_reading.read_units.Goals.{in-Some+then-eq, in_default}

pub returns-in_err-rest-clause-fault : goal.returns-in_err-rest-clause-fault
returns-in_err-rest-clause-fault c =
    let p = err_from_is_err_and c.from_residual.result c.from_residual.ensures.1 in
    rw (p.1, p.2)
    (read-fault c.args.words.now c.loop-word.rest.now c.in-Some.word.now c.in-Some.after.now c.loop-word.reading c.loop-word.invariant c.in-Some.ensures.cases.0
    c.in_err-rest.field-0.0 c.in_err-rest.ensures.fault)

pub loop-word-preserved : goal.loop-word-preserved
loop-word-preserved c =
    read-more c.args.words.now c.loop-word.rest.now c.in-Some.word.now c.in-Some.after.now c.loop-word.reading c.loop-word.invariant c.in-Some.ensures.cases.0
    c.in_ok-rest.rest.now c.read_unit.new.reading c.in_ok-rest.ensures.ok

pub returns-clause-ok : goal.returns-clause-ok
returns-clause-ok c = (
  c.loop-word.invariant,
  elim c.match-split_first.branch [
    | in-Some+then-eq w ↦
        let same = sym w.as_str.ensures ∙ (bytes_eq-Decides w.as_str.result.now (codes "--")).0 (sym w.eq.ensures ∙ w.if-eq.true) in
        inr (w.in-Some.after.now, w.in-Some.ensures.cases.0 ∙ ap (λ (x : List ℕ). x ∷ w.in-Some.after.now) same)
    | in_default w ↦ inl (no-words c.loop-word.rest.now w.in_default.ensures.cases)
  ],
)
