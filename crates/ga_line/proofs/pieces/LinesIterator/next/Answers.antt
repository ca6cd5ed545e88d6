use Rattle.std.proofs.Common.{◌≡◌, ◌⊎◌, ◌+◌, ◌-◌, true, false, ◌∷◌, length, take, drop, refl, sym, ap, ◌∙◌, subst, inl, inr}
use Rattle.std.specs.Prelude.{◌==◌}
use Rattle.bstr.proofs.lemmas.MatchListLemmas.{goes-ref}
use Rattle.memchr.specs.Find.{IsFirstByte, is_byte}
use Rattle.ga_line.specs.Lines.{lines}
use Rattle.ga_line.proofs.LineLemmas.{lines-first, lines-dropped, lines-kept}
use Rattle.ga_line.proofs.pieces.LinesIterator.next.Goals as goal
use Rattle.ga_line.proofs.pieces.LinesIterator.next.Goals.{then-not-self-via-then-not-self, then-not-self-via-else-not-self+then-is_empty}

pub returns-in-Some-clause-steps : goal.returns-in-Some-clause-steps
returns-in-Some-clause-steps c =
    let rest = c.self.inside.rest.now in
    let first = subst (λ r. IsFirstByte (is_byte 10) rest r) c.in-Some.is c.find_byte.ensures in
    sym c.self.view_is ∙ lines-first rest c.self.inside.keep c.in-Some.end first
    ∙ ap (λ line. line ∷ lines (take (length rest - (c.in-Some.end + 1)) (drop (c.in-Some.end + 1) rest)) c.self.inside.keep) (sym c.without_carriage_return.ensures)

pub returns-in-Some-clause-goes : goal.returns-in-Some-clause-goes
returns-in-Some-clause-goes c = goes-ref _ (λ _. tt) _ _ _ (returns-in-Some-clause-steps c)

pub returns-then-not-self-clause-steps : goal.returns-then-not-self-clause-steps
returns-then-not-self-clause-steps c =
    let rest = c.self.inside.rest.now in
    let none = subst (λ r. IsFirstByte (is_byte 10) rest r) c.in-None.is c.find_byte.ensures in
    let why : (c.self.inside.keep ≡ false) ⊎ ((length rest == 0) ≡ true) =
    elim c.then-not-self.branch [
      | then-not-self-via-then-not-self w ↦ inl w.if-not-self.true
      | then-not-self-via-else-not-self+then-is_empty w ↦ inr (sym w.is_empty.ensures ∙ w.if-is_empty.true)
    ] in
    (sym c.self.view_is ∙ lines-dropped rest c.self.inside.keep none why, refl)

pub returns-else-is_empty-clause-steps : goal.returns-else-is_empty-clause-steps
returns-else-is_empty-clause-steps c =
    let rest = c.self.inside.rest.now in
    let none = subst (λ r. IsFirstByte (is_byte 10) rest r) c.in-None.is c.find_byte.ensures in
    sym c.self.view_is ∙ lines-kept rest c.self.inside.keep none c.if-not-self.false (sym c.is_empty.ensures ∙ c.if-is_empty.false)
