-- What a configuration file gives, and its first bad line: one of them at most, and once.
use Rattle.std.proofs.Common.{◌≡◌, ◌⊎◌, Bor, ℕ, ◌+◌, ◌≤◌, List, [], ◌∷◌, ◌++◌, length, refl, sym, ap, ◌∙◌, subst, arith, length-append, append_assoc, Result, Ok, Err, inl, inr}
use Rattle.std.proofs.lemmas.List.{append-nil}
use Rattle.std.specs.Result.{IfOk, IfErr}
use Rattle.std.specs.Str.Lines.{lines}
use Rattle.ga_conf.specs.declared.fault.ConfFault.{ConfFault}
use Rattle.ga_conf.specs.declared.fault.ConfFault.TheVariants.{BadConf, NoMemory}
use Rattle.ga_conf.specs.ConfFile.{ConfGives, IsBadLine, IsConfFault, IsPassedOver, IsReadable, IsSetting, LineGives, LinesGive, SettingGives, UnlessNoMemory}
use Rattle.ga_conf.specs.declared.conf_line.ConfLine.{ConfLine}
use Rattle.ga_conf.specs.declared.conf_line.ConfLine.TheVariants as L
use Rattle.ga_conf.specs.Steps.{IsFirstLine, IsLineFault, SaysLine}
use Rattle.ga_conf.proofs.LineLemmas.{one_setting}
use Rattle.ga_conf.proofs.SettingLemmas.{one_list_of_words}

pub one_gift : (line : List ℕ) (one two : List (List ℕ)) → LineGives line one → LineGives line two → one ≡ two
one_gift line one two (readable, inl over) (readable', inl also) = over.1 ∙ sym also.1
one_gift line one two (readable, inl over) (readable', inr setting) = absurd (setting.0 over.0)
one_gift line one two (readable, inr setting) (readable', inl over) = absurd (setting.0 over.0)
one_gift line one two (readable, inr (lives, (name, value, is, gives))) (readable', inr (lives', (name', value', is', gives'))) =
    let same = one_setting line name value name' value' is is' in
    one_list_of_words name' value' one two (subst (λ n. SettingGives n value' one) same.0 (subst (λ v. SettingGives name v one) same.1 gives)) gives'

-- what a line gives that is a setting
pub line_given : (line : List ℕ) (says : ConfLine) (name value : Bor (List ℕ)) → says ≡ L.Setting name value → IsReadable line × SaysLine line says
    → (words : List (List ℕ)) → SettingGives name.now value.now words → LineGives line words
line_given line says name value is read words gives =
    let here = subst (λ (s : ConfLine). IsReadable line × SaysLine line s) is read in (here.0, inr (here.1.0, (name.now, value.now, here.1.1, gives)))

-- a setting that gives no words makes a bad line
pub line_refused : (line : List ℕ) (says : ConfLine) (name value : Bor (List ℕ)) → says ≡ L.Setting name value → IsReadable line × SaysLine line says
    → ((words : List (List ℕ)) → ¬ SettingGives name.now value.now words) → (words : List (List ℕ)) → ¬ LineGives line words
line_refused line says name value is read bad words gives = by gives.1
  where
    here : IsReadable line × (¬ IsPassedOver line × IsSetting line name.now value.now)
    here = subst (λ (s : ConfLine). IsReadable line × SaysLine line s) is read

    by : (IsPassedOver line × (words ≡ [])) ⊎ (¬ IsPassedOver line × ((n v : List ℕ) × IsSetting line n v × SettingGives n v words)) → ⊥
    by (inl over) = here.1.0 over.0
    by (inr (lives, (n, v, setting, gives))) =
        let same = one_setting line n v name.now value.now setting here.1.1 in
        bad words (subst (λ m. SettingGives m value.now words) same.0 (subst (λ w. SettingGives n w words) same.1 gives))

pub one_list : (ls : List (List ℕ)) (one two : List (List ℕ)) → LinesGive ls one → LinesGive ls two → one ≡ two
one_list [] one two gives other = gives ∙ sym other
one_list (line ∷ more) one two gives other =
    gives.4 ∙ ap (λ r. r ++ gives.1) (one_gift line gives.0 other.0 gives.2 other.2) ∙ ap (λ r. other.0 ++ r) (one_list more gives.1 other.1 gives.3 other.3) ∙ sym other.4

-- a line in the midst of lines that give words
gift_at : (before after : List (List ℕ)) (line : List ℕ) (given : List (List ℕ)) → LinesGive (before ++ line ∷ after) given → (some : List (List ℕ)) × LineGives line some
gift_at [] after line given gives = (gives.0, gives.2)
gift_at (l ∷ before) after line given gives = gift_at before after line gives.1 gives.3

pub list_or_fault : (bytes : List ℕ) (given : List (List ℕ)) (number : ℕ) → ConfGives bytes given → ¬ IsBadLine bytes number
list_or_fault bytes given number gives bad =
    let some = gift_at bad.before bad.after bad.line given (subst (λ ls. LinesGive ls given) bad.split gives) in bad.bad some.0 some.1

same_place : (before others after more : List (List ℕ)) (line other : List ℕ) → before ++ line ∷ after ≡ others ++ other ∷ more
    → ((given : List (List ℕ)) × LinesGive before given) → ((given : List (List ℕ)) × LinesGive others given)
    → ((given : List (List ℕ)) → ¬ LineGives line given) → ((given : List (List ℕ)) → ¬ LineGives other given) → length before ≡ length others
same_place [] [] after more line other e fine fine2 bad bad2 = refl
same_place [] (x ∷ others) after more line other e fine fine2 bad bad2 =
    let here : x ≡ line = cc in absurd (bad fine2.1.0 (subst (λ l. LineGives l fine2.1.0) here fine2.1.2))
same_place (x ∷ before) [] after more line other e fine fine2 bad bad2 =
    let here : x ≡ other = cc in absurd (bad2 fine.1.0 (subst (λ l. LineGives l fine.1.0) here fine.1.2))
same_place (x ∷ before) (y ∷ others) after more line other e fine fine2 bad bad2 =
    let rest : before ++ line ∷ after ≡ others ++ other ∷ more = cc in
    omega (arith, same_place before others after more line other rest (fine.1.1, fine.1.3) (fine2.1.1, fine2.1.3) bad bad2)

pub one_fault : (bytes : List ℕ) (one two : ℕ) → IsBadLine bytes one → IsBadLine bytes two → one ≡ two
one_fault bytes one two bad other =
    let same = same_place bad.before other.before bad.after other.after bad.line other.line (sym bad.split ∙ other.split) bad.fine other.fine bad.bad other.bad in
    omega (arith, same, bad.place, other.place)

-- the first lines of a file gave these words, and this text is left of it
pub record ReadTo (bytes left : List ℕ) (number : ℕ) (words : List (List ℕ)) : Type 0 where
  pub before : List (List ℕ)
  pub split : lines bytes ≡ before ++ lines left
  pub gives : LinesGive before words
  pub count : number ≡ length before
  -- each line took a byte at least
  pub room : number + length left ≤ length bytes

pub read_none : (bytes : List ℕ) → ReadTo bytes bytes 0 []
read_none bytes = record { before = []; split = refl; gives = refl; count = refl; room = omega arith }

gives_push : (ls : List (List ℕ)) (line : List ℕ) (given more : List (List ℕ)) → LinesGive ls given → LineGives line more → LinesGive (ls ++ line ∷ []) (given ++ more)
gives_push [] line given more none here = (more, [], here, refl, ap (λ g. g ++ more) none ∙ sym (append-nil more))
gives_push (l ∷ ls) line given more gives here =
    (gives.0, gives.1 ++ more, gives.2, gives_push ls line gives.1 more gives.3 here, ap (λ g. g ++ more) gives.4 ∙ append_assoc gives.0 gives.1 more)

pub read_more : (bytes line left after : List ℕ) (number : ℕ) (words more new : List (List ℕ)) → ReadTo bytes left number words → IsFirstLine left line after
    → LineGives line more → new ≡ words ++ more → ReadTo bytes after (number + 1) new
read_more bytes line left after number words more new read first here is = record {
  before = read.before ++ line ∷ [];
  split = read.split ∙ ap (λ ls. read.before ++ ls) first.is ∙ sym (append_assoc read.before (line ∷ []) (lines after));
  gives = subst (LinesGive (read.before ++ line ∷ [])) (sym is) (gives_push read.before line words more read.gives here);
  count = omega (arith, read.count, length-append read.before (line ∷ []));
  room = omega (arith, read.room, first.shorter);
}

pub read_all : (bytes : List ℕ) (number : ℕ) (words : List (List ℕ)) → ReadTo bytes [] number words → ConfGives bytes words
read_all bytes number words read = subst (λ ls. LinesGive ls words) (sym (read.split ∙ append-nil read.before)) read.gives

pub read_bad : (bytes line left after : List ℕ) (number : ℕ) (words : List (List ℕ)) (fault : ConfFault) → ReadTo bytes left number words → IsFirstLine left line after
    → IsLineFault line (number + 1) fault → IsConfFault bytes fault
read_bad bytes line left after number words NoMemory read first fault = tt
read_bad bytes line left after number words (BadConf place) read first fault = record {
  before = read.before;
  line = line;
  after = lines after;
  split = read.split ∙ ap (λ ls. read.before ++ ls) first.is;
  fine = (words, read.gives);
  bad = fault.1;
  place = fault.0 ∙ ap (λ n. n + 1) read.count;
}

-- what is answered is the only answer, but for lack of memory
pub only_list : (bytes : List ℕ) (r : Result (List (List ℕ)) ConfFault) → IfOk r (ConfGives bytes) → IfErr r (IsConfFault bytes)
    → (given : List (List ℕ)) → ConfGives bytes given → UnlessNoMemory r (Ok given)
only_list bytes (Ok found) ok err given gives = inl (ap (λ (x : List (List ℕ)). Ok x) (one_list (lines bytes) found given ok gives))
only_list bytes (Err (BadConf number)) ok err given gives = absurd (list_or_fault bytes given number gives err)
only_list bytes (Err NoMemory) ok err given gives = inr refl

pub only_fault : (bytes : List ℕ) (r : Result (List (List ℕ)) ConfFault) → IfOk r (ConfGives bytes) → IfErr r (IsConfFault bytes)
    → (number : ℕ) → IsBadLine bytes number → UnlessNoMemory r (Err (BadConf number))
only_fault bytes (Ok found) ok err number bad = absurd (list_or_fault bytes found number ok bad)
only_fault bytes (Err (BadConf place)) ok err number bad = inl (ap (λ (n : ℕ). Err (BadConf n)) (one_fault bytes place number err bad))
only_fault bytes (Err NoMemory) ok err number bad = inr refl

-- the same of an error that is passed on
pub only_list_err : (bytes : List ℕ) (e : ConfFault) (r : Result (List (List ℕ)) ConfFault) → ((x : ConfFault) × (r ≡ Err x) × (x ≡ e)) → IsConfFault bytes e
    → (given : List (List ℕ)) → ConfGives bytes given → UnlessNoMemory r (Ok given)
only_list_err bytes e r is fault given gives =
    subst (λ (x : Result (List (List ℕ)) ConfFault). UnlessNoMemory x (Ok given)) (sym (is.1 ∙ ap Err is.2)) (only_list bytes (Err e) tt fault given gives)

pub only_fault_err : (bytes : List ℕ) (e : ConfFault) (r : Result (List (List ℕ)) ConfFault) → ((x : ConfFault) × (r ≡ Err x) × (x ≡ e)) → IsConfFault bytes e
    → (number : ℕ) → IsBadLine bytes number → UnlessNoMemory r (Err (BadConf number))
only_fault_err bytes e r is fault number bad =
    subst (λ (x : Result (List (List ℕ)) ConfFault). UnlessNoMemory x (Err (BadConf number))) (sym (is.1 ∙ ap Err is.2)) (only_fault bytes (Err e) tt fault number bad)
