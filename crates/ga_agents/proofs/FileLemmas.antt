-- What a browsers file gives, and its first bad line: one of them at most, and once.
use Rattle.std.proofs.Common.{◌≡◌, ℕ, ◌+◌, ◌≤◌, List, [], ◌∷◌, ◌++◌, length, refl, sym, ap, ◌∙◌, subst, arith, length-append, append_assoc, Result, Ok, Err, inl, inr, ⊎_elim}
use Rattle.std.proofs.lemmas.List.{append-nil}
use Rattle.std.specs.Result.{IfOk, IfErr}
use Rattle.std.specs.Str.Lines.{lines}
use Rattle.ga_agents.specs.declared.fault.RuleFault.{RuleFault}
use Rattle.ga_agents.specs.declared.fault.RuleFault.TheVariants.{RuleFault as BadLine, NoMemory}
use Rattle.ga_agents.specs.declared.row.Rule.{Rule}
use Rattle.ga_agents.specs.RulesFile.{LineGives, LinesGive, FileGives, IsBadLine, IsFileFault, UnlessNoMemory}
use Rattle.ga_agents.specs.Steps.{IsLineFault}
use Rattle.ga_agents.specs.Tables.{rule}
use Rattle.ga_agents.proofs.CutLemmas.{one_cut, spelled_cut}
use Rattle.ga_agents.proofs.LineLemmas.{few_lines}

pub one_gift : (line : List ℕ) (one two : List Rule) → LineGives line one → LineGives line two → one ≡ two
one_gift line one two gives other =
    ⊎_elim
    (λ over. ⊎_elim (λ also. over.1 ∙ sym also.1) (λ spells. absurd (spells.0 over.0)) other.1)
    (λ spells. ⊎_elim (λ over. absurd (spells.0 over.0)) (λ also.
    let a = spells.1.0 in
    let b = also.1.0 in
    let same = one_cut line a.token a.category b.token b.category (spelled_cut line a spells.1.1) (spelled_cut line b also.1.1) in
    spells.1.2 ∙ ap (λ t. rule t a.category ∷ []) same.0 ∙ ap (λ g. rule b.token g ∷ []) same.1 ∙ sym also.1.2) other.1)
    gives.1

pub one_list : (ls : List (List ℕ)) (one two : List Rule) → LinesGive ls one → LinesGive ls two → one ≡ two
one_list [] one two gives other = gives ∙ sym other
one_list (line ∷ more) one two gives other =
    gives.4 ∙ ap (λ r. r ++ gives.1) (one_gift line gives.0 other.0 gives.2 other.2) ∙ ap (λ r. other.0 ++ r) (one_list more gives.1 other.1 gives.3 other.3) ∙ sym other.4

-- a line in the midst of lines that give rules
gift_at : (before after : List (List ℕ)) (line : List ℕ) (given : List Rule) → LinesGive (before ++ line ∷ after) given → (some : List Rule) × LineGives line some
gift_at [] after line given gives = (gives.0, gives.2)
gift_at (l ∷ before) after line given gives = gift_at before after line gives.1 gives.3

pub list_or_fault : (text : List ℕ) (given : List Rule) (number : ℕ) → FileGives text given → ¬ IsBadLine text number
list_or_fault text given number gives bad =
    let some = gift_at bad.before bad.after bad.line given (subst (λ ls. LinesGive ls given) bad.split gives) in bad.bad some.0 some.1

same_place : (before others after more : List (List ℕ)) (line other : List ℕ) → before ++ line ∷ after ≡ others ++ other ∷ more
    → ((given : List Rule) × LinesGive before given) → ((given : List Rule) × LinesGive others given) → ((given : List Rule) → ¬ LineGives line given) → ((given : List Rule) → ¬ LineGives other given) → length before ≡ length others
same_place [] [] after more line other e fine fine2 bad bad2 = refl
same_place [] (x ∷ others) after more line other e fine fine2 bad bad2 =
    let here : x ≡ line = cc in absurd (bad fine2.1.0 (subst (λ l. LineGives l fine2.1.0) here fine2.1.2))
same_place (x ∷ before) [] after more line other e fine fine2 bad bad2 =
    let here : x ≡ other = cc in absurd (bad2 fine.1.0 (subst (λ l. LineGives l fine.1.0) here fine.1.2))
same_place (x ∷ before) (y ∷ others) after more line other e fine fine2 bad bad2 =
    let rest : before ++ line ∷ after ≡ others ++ other ∷ more = cc in
    omega (arith, same_place before others after more line other rest (fine.1.1, fine.1.3) (fine2.1.1, fine2.1.3) bad bad2)

pub one_fault : (text : List ℕ) (one two : ℕ) → IsBadLine text one → IsBadLine text two → one ≡ two
one_fault text one two bad other =
    let same = same_place bad.before other.before bad.after other.after bad.line other.line (sym bad.split ∙ other.split) bad.fine other.fine bad.bad other.bad in
    omega (arith, same, bad.place, other.place)

-- the first lines of a text gave these rules
pub record ReadTo (text : List ℕ) (left : List (List ℕ)) (number : ℕ) (rules : List Rule) : Type 0 where
  pub before : List (List ℕ)
  pub split : lines text ≡ before ++ left
  pub gives : LinesGive before rules
  pub count : number ≡ length before

pub read_none : (text : List ℕ) → ReadTo text (lines text) 0 []
read_none text = record { before = []; split = refl; gives = refl; count = refl }

gives_push : (ls : List (List ℕ)) (line : List ℕ) (given more : List Rule) → LinesGive ls given → LineGives line more → LinesGive (ls ++ line ∷ []) (given ++ more)
gives_push [] line given more none here = (more, [], here, refl, ap (λ g. g ++ more) none ∙ sym (append-nil more))
gives_push (l ∷ ls) line given more gives here =
    (gives.0, gives.1 ++ more, gives.2, gives_push ls line gives.1 more gives.3 here, ap (λ g. g ++ more) gives.4 ∙ append_assoc gives.0 gives.1 more)

pub read_more : (text line : List ℕ) (left : List (List ℕ)) (number : ℕ) (rules more new : List Rule) → ReadTo text (line ∷ left) number rules → LineGives line more → new ≡ rules ++ more → ReadTo text left (number + 1) new
read_more text line left number rules more new read here is = record {
  before = read.before ++ line ∷ [];
  split = read.split ∙ sym (append_assoc read.before (line ∷ []) left);
  gives = subst (LinesGive (read.before ++ line ∷ [])) (sym is) (gives_push read.before line rules more read.gives here);
  count = omega (arith, read.count, length-append read.before (line ∷ []));
}

pub read_all : (text : List ℕ) (number : ℕ) (rules : List Rule) → ReadTo text [] number rules → FileGives text rules
read_all text number rules read = subst (λ ls. LinesGive ls rules) (sym (read.split ∙ append-nil read.before)) read.gives

pub read_bad : (text line : List ℕ) (left : List (List ℕ)) (number : ℕ) (rules : List Rule) (fault : RuleFault) → ReadTo text (line ∷ left) number rules → IsLineFault line (number + 1) fault → IsFileFault text fault
read_bad text line left number rules NoMemory read fault = tt
read_bad text line left number rules (BadLine place) read fault = record {
  before = read.before;
  line = line;
  after = left;
  split = read.split;
  fine = (rules, read.gives);
  bad = fault.1;
  place = fault.0 ∙ ap (λ n. n + 1) read.count;
}

-- each line that is left counts
pub read_count : (text line : List ℕ) (left : List (List ℕ)) (number : ℕ) (rules : List Rule) → ReadTo text (line ∷ left) number rules → number + 1 ≤ length text
read_count text line left number rules read =
    omega (arith, few_lines text, ap length read.split, length-append read.before (line ∷ left), read.count)

-- what is answered is the only answer, but for lack of memory
pub only_list : (text : List ℕ) (r : Result (List Rule) RuleFault) → IfOk r (FileGives text) → IfErr r (IsFileFault text) → (given : List Rule) → FileGives text given → UnlessNoMemory r (Ok given)
only_list text (Ok found) ok err given gives = inl (ap (λ (x : List Rule). Ok x) (one_list (lines text) found given ok gives))
only_list text (Err (BadLine number)) ok err given gives = absurd (list_or_fault text given number gives err)
only_list text (Err NoMemory) ok err given gives = inr refl

pub only_fault : (text : List ℕ) (r : Result (List Rule) RuleFault) → IfOk r (FileGives text) → IfErr r (IsFileFault text) → (number : ℕ) → IsBadLine text number → UnlessNoMemory r (Err (BadLine number))
only_fault text (Ok found) ok err number bad = absurd (list_or_fault text found number ok bad)
only_fault text (Err (BadLine place)) ok err number bad = inl (ap (λ (n : ℕ). Err (BadLine n)) (one_fault text place number err bad))
only_fault text (Err NoMemory) ok err number bad = inr refl

-- the same of an error that is passed on
pub only_list_err : (text : List ℕ) (e : RuleFault) (r : Result (List Rule) RuleFault) → ((x : RuleFault) × (r ≡ Err x) × (x ≡ e)) → IsFileFault text e → (given : List Rule) → FileGives text given → UnlessNoMemory r (Ok given)
only_list_err text e r is fault given gives =
    subst (λ (x : Result (List Rule) RuleFault). UnlessNoMemory x (Ok given)) (sym (is.1 ∙ ap Err is.2)) (only_list text (Err e) tt fault given gives)

pub only_fault_err : (text : List ℕ) (e : RuleFault) (r : Result (List Rule) RuleFault) → ((x : RuleFault) × (r ≡ Err x) × (x ≡ e)) → IsFileFault text e → (number : ℕ) → IsBadLine text number → UnlessNoMemory r (Err (BadLine number))
only_fault_err text e r is fault number bad =
    subst (λ (x : Result (List Rule) RuleFault). UnlessNoMemory x (Err (BadLine number))) (sym (is.1 ∙ ap Err is.2)) (only_fault text (Err e) tt fault number bad)
