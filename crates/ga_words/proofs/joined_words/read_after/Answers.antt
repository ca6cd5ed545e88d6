use Rattle.std.proofs.Common.{◌⊎◌, ◌≡◌, ◌∙◌, ◌++◌, ℕ, List, Ok, Err, IfOk, IfErr, ap, subst}
use Rattle.ga_words.specs.declared.fault.WordFault.TheVariants.{NoMemory}
use Rattle.ga_words.specs.WordsOf.{WordsOf}
use Rattle.ga_words.proofs.joined_words.read_after.Goals as goal

pub returns-clause-ok : goal.returns-clause-ok
returns-clause-ok c =
    subst (λ (all : List (List ℕ)). IfOk c.read_words.result (λ s. WordsOf all (Ok s)))
    (c.items-2.ensures ∙ c.in_ok-words.ensures ∙ ap (λ (conf : List (List ℕ)). conf ++ c.args.others.now) c.items.ensures) c.read_words.ensures.ok

pub returns-clause-fault : goal.returns-clause-fault
returns-clause-fault c =
    subst (λ (all : List (List ℕ)). IfErr c.read_words.result (λ f. (f ≡ NoMemory) ⊎ WordsOf all (Err f)))
    (c.items-2.ensures ∙ c.in_ok-words.ensures ∙ ap (λ (conf : List (List ℕ)). conf ++ c.args.others.now) c.items.ensures) c.read_words.ensures.fault
