-- Every text is a format of its kind or has a fault.
use Rattle.std.proofs.Common.{◌≡◌, ◌≤◌, ℕ, zero, suc, List, [], ◌∷◌, ◌++◌, Option, Some, None, length, ap, sym, ◌∙◌, refl, subst, arith, inl, inr, append_assoc, append-nil, ◌==◌}
use Rattle.std.specs.Prelude.{MatchOption, unwrap_or, Result, Ok, Err}
use Rattle.std.specs.List.{list_all, list_any}
use Rattle.std.proofs.lemmas.Bool.{false≢true}
use Rattle.std.proofs.lemmas.Bool.Decides.{Decides-eqb}
use Rattle.ga_base.specs.declared.formats.FormatFault.{FormatFault}
use Rattle.ga_base.specs.declared.formats.FormatFault.TheVariants.{BadDirective}
use Rattle.ga_dates.specs.declared.item.Item.{Item}
use Rattle.ga_dates.specs.declared.item.Item.TheVariants.{Literal}
use Rattle.ga_dates.specs.declared.kind.Kind.{Kind}
use Rattle.ga_dates.specs.Items.{AreOnce, gives, needed_parts}
use Rattle.ga_dates.specs.Grammar.{Token, Byte, Directive, text_of, items_of, IsNamed, IsRow, directive_of, GivesAgain, IsBadDirective, IsAnswer}
use Rattle.ga_dates.specs.Steps.Compile.{is_given}
use Rattle.ga_dates.proofs.PartLemmas.{true_or_false, again_found, not_again, once_append}
use Rattle.ga_dates.proofs.RowLemmas.{OnceIfNamed, directive_once, once_one, no_part_again, named_some, row_none, row_snoc, completes}

abbrev pub HasAnswer : Kind → List ℕ → Type 0
HasAnswer kind text = (answer : Result (List Item) FormatFault) × IsAnswer kind text answer

-- a bad directive after a row is the text's fault
bad_answer : (kind : Kind) (front rest : List ℕ) (tokens : List Token) (before : List Item) → IsRow kind tokens front before → IsBadDirective kind before rest → HasAnswer kind (front ++ rest)
bad_answer kind front rest tokens before row bad = (
  Err (BadDirective (length front)),
  inl (record { front = front; rest = rest; tokens = tokens; before = before; parted = refl; row = row; bad = bad; place = refl }),
)

-- a row of the whole text is a format, or lacks a part
whole_answer : (kind : Kind) (text : List ℕ) (tokens : List Token) (items : List Item) → IsRow kind tokens text items → HasAnswer kind text
whole_answer kind text tokens items row =
    let made = completes kind text items items tokens (list_all (λ q. list_any (gives q) items) (needed_parts kind)) refl refl row in
    elim (true_or_false (list_all (λ q. list_any (gives q) items) (needed_parts kind))) [
      | inl e ↦ (Ok items, made.0 e)
      | inr e ↦ (Err (BadDirective (length text)), made.1 e)
    ]

-- after each row there is an answer, where this many bytes are left
abbrev Answers : ℕ → Type 0
Answers count = (kind : Kind) (front rest : List ℕ) (tokens : List Token) (before : List Item) → IsRow kind tokens front before → length rest ≤ count → HasAnswer kind (front ++ rest)

-- one token more
after_token : (count : ℕ) → Answers count → (kind : Kind) (front rest : List ℕ) (tokens : List Token) (before : List Item) (token : Token) → IsRow kind tokens front before
    → IsNamed kind token → AreOnce (items_of kind token) → ¬ GivesAgain before (items_of kind token) → length rest ≤ count → HasAnswer kind (front ++ (text_of token ++ rest))
after_token count again kind front rest tokens before token row named once new le =
    subst (HasAnswer kind) (append_assoc front (text_of token) rest)
    (again kind (front ++ text_of token) rest (tokens ++ token ∷ []) (before ++ items_of kind token)
    (row_snoc kind tokens front before token row named (once_append before (items_of kind token) row.once once new)) le)

-- a % and a letter
behind_percent : (count : ℕ) → Answers count → (kind : Kind) (front : List ℕ) (letter : ℕ) (more : List ℕ) (tokens : List Token) (before : List Item) → IsRow kind tokens front before
    → length more ≤ count → HasAnswer kind (front ++ 37 ∷ letter ∷ more)
behind_percent count again kind front letter more tokens before row le = known (directive_of kind letter) refl
  where
    new : (added : List Item) → directive_of kind letter ≡ Some added → ¬ GivesAgain before added → HasAnswer kind (front ++ 37 ∷ letter ∷ more)
    new added e fresh =
        let items : unwrap_or (directive_of kind letter) [] ≡ added = ap (λ (o : Option (List Item)). unwrap_or o []) e in
        let once : AreOnce added = subst (λ (o : Option (List Item)). OnceIfNamed o) e (directive_once kind letter) in
        after_token count again kind front more tokens before (Directive letter) row (named_some (directive_of kind letter) added e)
        (subst (λ (xs : List Item). AreOnce xs) (sym items) once) (subst (λ (xs : List Item). ¬ GivesAgain before xs) (sym items) fresh) le

    bad : (o : Option (List Item)) → directive_of kind letter ≡ o → MatchOption o (Unit {0}) (λ added. GivesAgain before added) → HasAnswer kind (front ++ 37 ∷ letter ∷ more)
    bad o e fault =
        bad_answer kind front (37 ∷ letter ∷ more) tokens before row
        (refl, subst (λ (p : Option (List Item)). MatchOption p (Unit {0}) (λ added. GivesAgain before added)) (sym e) fault)

    known : (o : Option (List Item)) → directive_of kind letter ≡ o → HasAnswer kind (front ++ 37 ∷ letter ∷ more)
    known None e = bad None e tt
    known (Some added) e =
        elim (true_or_false (list_any (is_given before) added)) [
          | inl again ↦ bad (Some added) e (again_found before added again)
          | inr none ↦ new added e (not_again before added none)
        ]

at_percent : (count : ℕ) → Answers count → (kind : Kind) (front rest : List ℕ) (tokens : List Token) (before : List Item) → IsRow kind tokens front before
    → length rest ≤ count → HasAnswer kind (front ++ 37 ∷ rest)
at_percent count again kind front [] tokens before row le = bad_answer kind front (37 ∷ []) tokens before row refl
at_percent count again kind front (letter ∷ more) tokens before row le = behind_percent count again kind front letter more tokens before row (omega arith)

at_byte : (count : ℕ) → Answers count → (kind : Kind) (front : List ℕ) (byte : ℕ) (rest : List ℕ) (tokens : List Token) (before : List Item) → IsRow kind tokens front before
    → length rest ≤ count → HasAnswer kind (front ++ byte ∷ rest)
at_byte count again kind front byte rest tokens before row le =
    elim (true_or_false (byte == 37)) [
      | inl e ↦
          let percent : 37 ≡ byte = sym ((Decides-eqb byte 37).0 e) in
          subst (λ (b : ℕ). HasAnswer kind (front ++ b ∷ rest)) percent (at_percent count again kind front rest tokens before row le)
      | inr e ↦
          after_token count again kind front rest tokens before (Byte byte) row (λ same. false≢true (sym e ∙ (Decides-eqb byte 37).1 same))
          (once_one (Literal byte)) (no_part_again before byte) le
    ]

answer_from : (count : ℕ) → Answers count
answer_from count kind front [] tokens before row le = subst (HasAnswer kind) (sym (append-nil front)) (whole_answer kind front tokens before row)
answer_from zero kind front (byte ∷ rest) tokens before row le = absurd (omega arith)
answer_from (suc count) kind front (byte ∷ rest) tokens before row le = at_byte count (answer_from count) kind front byte rest tokens before row (omega arith)

pub every_text : (kind : Kind) (text : List ℕ) → HasAnswer kind text
every_text kind text = answer_from (length text) kind [] text [] [] (row_none kind) (omega arith)
