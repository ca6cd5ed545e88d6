-- Each agent is something, and each browsers file gives rules or has a first bad line: nothing is refused without a cause.
use Rattle.std.proofs.Common.{◌≡◌, ◌≢◌, ◌⊎◌, ◌↔◌, ℕ, ◌+◌, ◌≤◌, Bool, true, false, List, [], ◌∷◌, ◌++◌, length, refl, sym, ap, ◌∙◌, subst, arith, inl, inr, ⊎_elim}
use Rattle.std.proofs.lemmas.Bool.{cases_Bool, cases_eq, cases_lt}
use Rattle.std.proofs.lemmas.Str.{IsUtf8-from_is_utf8, is_utf8-from_IsUtf8}
use Rattle.std.specs.List.{before_first}
use Rattle.std.specs.Prelude.{IsTrue}
use Rattle.std.specs.Str.{is_utf8}
use Rattle.std.specs.Str.Lines.{lines}
use Rattle.ga_agents.specs.declared.agent.Agent.{Agent}
use Rattle.ga_agents.specs.declared.row.Rule.{Rule}
use Rattle.ga_agents.specs.Classes.{unknown, crawlers, is_delimiter, HasBrowser, HasSystem, IsAgent}
use Rattle.ga_agents.specs.Occurs.{Occurs, StandsFirst, NoneOccurs, IsFirstEntry}
use Rattle.ga_agents.specs.RulesFile.{tab, number_sign, IsPart, SpellsRule, IsPassedOver, LineGives, LinesGive, IsAnswered}
use Rattle.ga_agents.specs.declared.row.TheConstants.{MAX_RULE_LINE}
use Rattle.ga_agents.specs.Steps.{Begins, IsCut}
use Rattle.ga_agents.specs.Tables.{rule, System, builtin_rules, systems}
use Rattle.ga_agents.proofs.CutLemmas.{NoTab, AllTabs, first_tab, bad_token_spells_none, bad_category_spells_none, uncut_spells_none}

-- whether the bytes begin with the token
starts_or_not : (token bytes : List ℕ) → ((rest : List ℕ) × (bytes ≡ token ++ rest)) ⊎ ((rest : List ℕ) → bytes ≢ token ++ rest)
starts_or_not [] bytes = inl (bytes, refl)
starts_or_not (a ∷ token) [] = inr (λ rest e. cc)
starts_or_not (a ∷ token) (b ∷ bytes) =
    ⊎_elim
    (λ same. ⊎_elim
    (λ starts. inl (starts.0, ap (λ x. x ∷ bytes) same ∙ ap (λ bs. a ∷ bs) starts.1))
    (λ other. inr (λ rest e. let more : bytes ≡ token ++ rest = cc in other rest more))
    (starts_or_not token bytes))
    (λ differs. inr (λ rest e. let here : b ≡ a = cc in differs here))
    (cases_eq b a)

-- where the token stands first
stands_or_not : (token agent : List ℕ) → ((front rest : List ℕ) × StandsFirst token agent front rest) ⊎ (¬ Occurs token agent)
stands_or_not token agent = by_start token agent (starts_or_not token agent)
  where
    further : (token bytes : List ℕ) (b : ℕ) → ((rest : List ℕ) → b ∷ bytes ≢ token ++ rest) → ((front rest : List ℕ) × StandsFirst token bytes front rest) ⊎ (¬ Occurs token bytes)
        → ((front rest : List ℕ) × StandsFirst token (b ∷ bytes) front rest) ⊎ (¬ Occurs token (b ∷ bytes))
    further token bytes b differs (inl found) = inl (b ∷ found.0, found.1, record { split = ap (λ bs. b ∷ bs) found.2.split; first = later token bytes b found.0 found.1 differs found.2 })
      where
        later : (token bytes : List ℕ) (b : ℕ) (front rest : List ℕ) → ((rest : List ℕ) → b ∷ bytes ≢ token ++ rest) → StandsFirst token bytes front rest
            → (other more : List ℕ) → b ∷ bytes ≡ other ++ (token ++ more) → length (b ∷ front) ≤ length other
        later token bytes b front rest differs stands [] more e = absurd (differs more e)
        later token bytes b front rest differs stands (x ∷ other) more e =
            let tail : bytes ≡ other ++ (token ++ more) = cc in omega (arith, stands.first other more tail)
    further token bytes b differs (inr none) = inr (λ occurs. nowhere token bytes b differs none occurs.0 occurs.1 occurs.2)
      where
        nowhere : (token bytes : List ℕ) (b : ℕ) → ((rest : List ℕ) → b ∷ bytes ≢ token ++ rest) → ¬ Occurs token bytes → (front rest : List ℕ) → b ∷ bytes ≢ front ++ (token ++ rest)
        nowhere token bytes b differs none [] rest e = differs rest e
        nowhere token bytes b differs none (x ∷ front) rest e = let tail : bytes ≡ front ++ (token ++ rest) = cc in none (front, rest, tail)

    ends : (token : List ℕ) → ((rest : List ℕ) → [] ≢ token ++ rest) → (front rest : List ℕ) → [] ≢ front ++ (token ++ rest)
    ends token differs [] rest e = differs rest e
    ends token differs (x ∷ front) rest e = cc

    by_start : (token agent : List ℕ) → ((rest : List ℕ) × (agent ≡ token ++ rest)) ⊎ ((rest : List ℕ) → agent ≢ token ++ rest)
        → ((front rest : List ℕ) × StandsFirst token agent front rest) ⊎ (¬ Occurs token agent)
    by_start token agent (inl starts) = inl ([], starts.0, record { split = starts.1; first = λ other more e. omega arith })
    by_start token [] (inr differs) = inr (λ occurs. ends token differs occurs.0 occurs.1 occurs.2)
    by_start token (b ∷ bytes) (inr differs) = further token bytes b differs (by_start token bytes (starts_or_not token bytes))

entry_or_none : {E : Type 0} (token_of : E → List ℕ) (entries : List E) (agent : List ℕ) → ((e : E) × IsFirstEntry token_of entries agent e) ⊎ NoneOccurs token_of entries agent
entry_or_none token_of [] agent = inr tt
entry_or_none token_of (e ∷ entries) agent =
    ⊎_elim
    (λ stands. inl (e, record { before = []; after = entries; split = refl; occurs = (stands.0, stands.1, stands.2.split); none_before = tt }))
    (λ no. ⊎_elim
    (λ found. inl (found.0, record { before = e ∷ found.1.before; after = found.1.after; split = ap (λ es. e ∷ es) found.1.split; occurs = found.1.occurs; none_before = (no, found.1.none_before) }))
    (λ none. inr (no, none))
    (entry_or_none token_of entries agent))
    (stands_or_not (token_of e) agent)

some_browser : (rules : List Rule) (agent : List ℕ) → (browser category : List ℕ) × HasBrowser rules agent browser category
some_browser rules agent =
    ⊎_elim
    (λ found. ⊎_elim
    (λ stands. (found.0.token ++ before_first is_delimiter stands.1, found.0.category, inl (found.0, found.1, record { front = stands.0; rest = stands.1; stands = stands.2; text = refl }, refl)))
    (λ no. absurd (no found.1.occurs))
    (stands_or_not found.0.token agent))
    (λ none. (unknown, unknown, inr (none, refl, refl)))
    (entry_or_none (λ (r : Rule). r.token) rules agent)

some_system : (agent : List ℕ) → (name group : List ℕ) × HasSystem agent name group
some_system agent =
    ⊎_elim
    (λ found. (found.0.system, found.0.group, inl (found.0, found.1, refl, refl)))
    (λ none. (unknown, unknown, inr (none, refl, refl)))
    (entry_or_none (λ (s : System). s.token) systems agent)

same_or_not : (xs ys : List ℕ) → (xs ≡ ys) ⊎ (xs ≢ ys)
same_or_not [] [] = inl refl
same_or_not [] (y ∷ ys) = inr (λ e. cc)
same_or_not (x ∷ xs) [] = inr (λ e. cc)
same_or_not (x ∷ xs) (y ∷ ys) =
    ⊎_elim
    (λ here. ⊎_elim (λ more. inl (ap (λ h. h ∷ xs) here ∙ ap (λ t. y ∷ t) more)) (λ other. inr (λ e. let tail : xs ≡ ys = cc in other tail)) (same_or_not xs ys))
    (λ other. inr (λ e. let head : x ≡ y = cc in other head))
    (cases_eq x y)

told : (text : List ℕ) → (answer : Bool) × (IsTrue answer ↔ (text ≡ crawlers))
told text =
    ⊎_elim
    (λ same. (true, (λ yes. same, λ e. refl)))
    (λ other. (false, (λ yes. absurd (cc yes), λ e. absurd (other e))))
    (same_or_not text crawlers)

pub some_agent : (file : List Rule) (agent : List ℕ) → (answer : Agent) × IsAgent file agent answer
some_agent file agent =
    let browser = some_browser (file ++ builtin_rules) agent in
    let system = some_system agent in
    let crawler = told browser.1 in (
      record { browser = browser.0; category = browser.1; system = system.0; system_group = system.1; crawler = crawler.0 },
      record { browser = browser.2; system = system.2; crawler = crawler.1 },
    )

-- whether a line has a tab, and another byte after its first tabs
no_tab_or_some : (line : List ℕ) → ((token rest : List ℕ) × NoTab token × (line ≡ token ++ tab ∷ rest)) ⊎ NoTab line
no_tab_or_some [] = inr tt
no_tab_or_some (b ∷ line) =
    ⊎_elim
    (λ here. inl ([], line, tt, ap (λ x. x ∷ line) here))
    (λ other. ⊎_elim
    (λ found. inl (b ∷ found.0, found.1, (other, found.2), ap (λ l. b ∷ l) found.3))
    (λ none. inr (other, none))
    (no_tab_or_some line))
    (cases_eq b tab)

tabs_or_more : (rest : List ℕ) → ((tabs category : List ℕ) × AllTabs tabs × Begins category × (rest ≡ tabs ++ category)) ⊎ AllTabs rest
tabs_or_more [] = inr tt
tabs_or_more (b ∷ rest) =
    ⊎_elim
    (λ here. ⊎_elim
    (λ found. inl (b ∷ found.0, found.1, (here, found.2), found.3, ap (λ r. b ∷ r) found.4))
    (λ all. inr (here, all))
    (tabs_or_more rest))
    (λ other. inl ([], b ∷ rest, tt, (b, rest, refl, other), refl))
    (cases_eq b tab)

not_without : (token rest : List ℕ) → ¬ NoTab (token ++ tab ∷ rest)
not_without [] rest none = none.0 refl
not_without (b ∷ token) rest none = not_without token rest none.1

not_only : (tabs rest : List ℕ) (b : ℕ) → b ≢ tab → ¬ AllTabs (tabs ++ b ∷ rest)
not_only [] rest b other all = other all.0
not_only (t ∷ tabs) rest b other all = not_only tabs rest b other all.1

cut_or_not : (line : List ℕ) → ((token category : List ℕ) × IsCut line token category) ⊎ ((token category : List ℕ) → ¬ IsCut line token category)
cut_or_not line =
    ⊎_elim
    (λ found. ⊎_elim
    (λ more. inl (found.0, more.1, record { tabs = more.0; split = found.3 ∙ ap (λ r. found.0 ++ tab ∷ r) more.4; free = found.2; all_tabs = more.2; begins = more.3 }))
    (λ only. inr (λ token category cut.
    let rest = (first_tab found.0 token found.1 (cut.tabs ++ category) found.2 cut.free (sym found.3 ∙ cut.split)).1 in
    not_only cut.tabs cut.begins.1 cut.begins.0 cut.begins.3 (subst AllTabs (rest ∙ ap (λ c. cut.tabs ++ c) cut.begins.2) only)))
    (tabs_or_more found.1))
    (λ none. inr (λ token category cut. not_without token (cut.tabs ++ category) (subst NoTab cut.split none)))
    (no_tab_or_some line)

has_tab_or_not : (text : List ℕ) → NoTab text ⊎ (¬ NoTab text)
has_tab_or_not text =
    ⊎_elim
    (λ found. inr (λ none. not_without found.0 found.1 (subst NoTab found.3 none)))
    (λ none. inl none)
    (no_tab_or_some text)

part_or_not : (text : List ℕ) → IsPart text ⊎ (¬ IsPart text)
part_or_not [] = inr (λ part. part.some refl)
part_or_not (b ∷ rest) =
    ⊎_elim
    (λ none. ⊎_elim
    (λ valid. inl (record { some = λ e. cc; no_tab = none; utf8 = IsUtf8-from_is_utf8 (b ∷ rest) valid }))
    (λ other. inr (λ part. let valid : is_utf8 (b ∷ rest) ≡ true = is_utf8-from_IsUtf8 (b ∷ rest) part.utf8 in cc))
    (cases_Bool (is_utf8 (b ∷ rest))))
    (λ some. inr (λ part. some part.no_tab))
    (has_tab_or_not (b ∷ rest))

rule_or_not : (line : List ℕ) → ((r : Rule) × SpellsRule line r) ⊎ ((r : Rule) → ¬ SpellsRule line r)
rule_or_not line =
    ⊎_elim
    (λ cut. ⊎_elim
    (λ token. ⊎_elim
    (λ category. inl (rule cut.0 cut.1, record { tabs = cut.2.tabs; split = cut.2.split; all_tabs = cut.2.all_tabs; token = token; category = category }))
    (λ bad. inr (bad_category_spells_none line cut.0 cut.1 cut.2 bad))
    (part_or_not cut.1))
    (λ bad. inr (bad_token_spells_none line cut.0 cut.1 cut.2 bad))
    (part_or_not cut.0))
    (λ none. inr (uncut_spells_none line none))
    (cut_or_not line)

over_or_not : (line : List ℕ) → IsPassedOver line ⊎ (¬ IsPassedOver line)
over_or_not [] = inl (inl refl)
over_or_not (b ∷ rest) =
    ⊎_elim
    (λ comment. inl (inr (rest, ap (λ x. x ∷ rest) comment)))
    (λ other. inr (λ over. ⊎_elim (λ empty. absurd (cc empty)) (λ comment. let whole : b ∷ rest ≡ number_sign ∷ comment.0 = comment.1 in let here : b ≡ number_sign = cc in other here) over))
    (cases_eq b number_sign)

line_or_not : (line : List ℕ) → ((given : List Rule) × LineGives line given) ⊎ ((given : List Rule) → ¬ LineGives line given)
line_or_not line =
    ⊎_elim
    (λ long. inr (λ given gives. absurd (omega (arith, gives.0))))
    (λ short. ⊎_elim
    (λ over. inl ([], (short, inl (over, refl))))
    (λ lives. ⊎_elim
    (λ spells. inl (spells.0 ∷ [], (short, inr (lives, (spells.0, spells.1, refl)))))
    (λ none. inr (λ given gives. ⊎_elim (λ over. lives over.0) (λ spells. none spells.1.0 spells.1.1) gives.1))
    (rule_or_not line))
    (over_or_not line))
    (cases_lt MAX_RULE_LINE (length line))

-- the first line of a list that gives nothing, where there is one
record HasBad (ls : List (List ℕ)) : Type 0 where
  before : List (List ℕ)
  line : List ℕ
  after : List (List ℕ)
  split : ls ≡ before ++ line ∷ after
  fine : (given : List Rule) × LinesGive before given
  bad : (given : List Rule) → ¬ LineGives line given

lines_or_bad : (ls : List (List ℕ)) → ((given : List Rule) × LinesGive ls given) ⊎ HasBad ls
lines_or_bad [] = inl ([], refl)
lines_or_bad (line ∷ more) =
    ⊎_elim
    (λ here. ⊎_elim
    (λ later. inl (here.0 ++ later.0, (here.0, later.0, here.1, later.1, refl)))
    (λ h. inr (record { before = line ∷ h.before; line = h.line; after = h.after; split = ap (λ ls. line ∷ ls) h.split; fine = (here.0 ++ h.fine.0, (here.0, h.fine.0, here.1, h.fine.1, refl)); bad = h.bad }))
    (lines_or_bad more))
    (λ bad. inr (record { before = []; line = line; after = more; split = refl; fine = ([], refl); bad = bad }))
    (line_or_not line)

pub some_reading : (text : List ℕ) → IsAnswered text
some_reading text =
    ⊎_elim
    (λ gives. inl gives)
    (λ h. inr (length h.before + 1, record { before = h.before; line = h.line; after = h.after; split = h.split; fine = h.fine; bad = h.bad; place = refl }))
    (lines_or_bad (lines text))
