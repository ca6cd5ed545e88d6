use Rattle.std.proofs.Common.{◌≡◌, [], ◌∙◌, length, map, sym, subst, arith}
use Rattle.std.proofs.lemmas.List.{length-map}
use Rattle.ga_numbers.specs.Steps.Kept.{AreKept}
use Rattle.ga_numbers.proofs.Keeping.{no-places, vacant-kept}
use Rattle.ga_numbers.proofs.sharded_rows.open.Goals as goal

pub returns-in_ok-numbers-clause-kept : goal.returns-in_ok-numbers-clause-kept
returns-in_ok-numbers-clause-kept c = λ places kept.
    let vacant = c.in_ok-vacant.vacant in
    let numbers = c.in_ok-numbers.field-0 in
    let none : places ≡ [] = no-places c.args.shards.now.items _ places kept.named (omega (arith, c.if-len-eq0.true, c.len.ensures, c.args.shards.now.ok)) in
    let long : length (map (λ l. l.items) numbers.items) ≡ length vacant.items =
    length-map numbers.items (λ l. l.items) ∙ omega (arith, c.in_ok-numbers.ensures, numbers.ok, c.in_ok-vacant.ensures.many, vacant.ok) in
    subst (AreKept vacant.items (map (λ l. l.items) numbers.items)) (sym none)
    (vacant-kept vacant.items _ (λ _. omega (arith, c.in_ok-vacant.ensures.many, vacant.ok)) c.in_ok-vacant.ensures.each long)
