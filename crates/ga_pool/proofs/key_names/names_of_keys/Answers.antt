use Rattle.std.proofs.Common.{ℕ, ◌<◌, ◌++◌, length, take, get_or, sym, ap, ◌∙◌, arith, append-nil, Global}
use Rattle.std.specs.Prelude.{Vec}
use Rattle.std.specs.Option.{option_to_list}
use Rattle.ga_base.specs.declared.name.Name.{Name}
use Rattle.ga_pool.specs.Steps.CountedRows.{name_under, names_under}
use Rattle.ga_pool.proofs.NamesUnder.{names-more}
use Rattle.ga_pool.proofs.key_names.names_of_keys.Goals.{then-word-ne0+in_ok-add_name, else-word-ne0}
use Rattle.ga_pool.proofs.key_names.names_of_keys.Goals as goal

pub loop-at-preserved : goal.loop-at-preserved
loop-at-preserved c =
    let people = c.args.visitors.now.items in
    let words = c.args.pairs.now in
    let before = c.loop-at.invariant in
    let within : c.loop-at.at < length words = omega (arith, c.loop-at-test.true, c.cells-at-end.ensures) in
    let word = c.word-word.ensures in
    elim c.if-word-ne0.branch [
      | then-word-ne0+in_ok-add_name w ↦ record {
        many = ap (λ (v : Vec (Vec Name Global) Global). length v.items) w.names-is ∙ omega (arith, w.in_ok-add_name.ensures.len, before.many, c.loop-at.names.ok, w.add_name.new.names.ok);
        each = λ k d lt.
            ap (λ (v : Vec (Vec Name Global) Global). (get_or v.items k d).items) w.names-is ∙ w.in_ok-add_name.ensures.each k d (omega (arith, lt, before.many, c.loop-at.names.ok))
            ∙ (λ i. before.each k d lt i ++ option_to_list (name_under people k (word i))) ∙ sym (names-more people k words c.loop-at.at within);
      }
      | else-word-ne0 w ↦ record {
        many = ap (λ (v : Vec (Vec Name Global) Global). length v.items) w.names-is ∙ before.many;
        each = λ k d lt.
            ap (λ (v : Vec (Vec Name Global) Global). (get_or v.items k d).items) w.names-is ∙ before.each k d lt
            ∙ sym (append-nil (names_under people k (take c.loop-at.at words)))
            ∙ ap (λ (n : ℕ). names_under people k (take c.loop-at.at words) ++ option_to_list (name_under people k n)) (sym w.if-word-ne0.false ∙ word)
            ∙ sym (names-more people k words c.loop-at.at within);
      }
    ]
