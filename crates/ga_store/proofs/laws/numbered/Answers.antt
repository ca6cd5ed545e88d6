use Rattle.ga_store.proofs.laws.numbered.Goals as goal

pub returns : goal.returns
returns c = λ db. db.numbered
