-- What a browsers file gives has names, and so has what an agent is by it.
use Rattle.std.proofs.Common.{◌≡◌, ◌≢◌, ℕ, Bool, true, false, ◌&&◌, List, [], ◌∷◌, ◌++◌, refl, sym, ◌∙◌, subst, inl, inr}
use Rattle.std.specs.List.{AllByRecursion, before_first}
use Rattle.std.specs.Str.Lines.{lines}
use Rattle.ga_agents.specs.declared.agent.Agent.{Agent}
use Rattle.ga_agents.specs.declared.row.Rule.{Rule}
use Rattle.ga_agents.specs.Classes.{unknown, is_delimiter, HasBrowser, HasSystem, IsAgent, AreNamed, HasNames}
use Rattle.ga_agents.specs.Occurs.{IsFirstEntry}
use Rattle.ga_agents.specs.RulesFile.{LineGives, LinesGive, FileGives}
use Rattle.ga_agents.specs.Tables.{System, builtin_rules, systems}

abbrev is_some_text : List ℕ → Bool
is_some_text [] = false
is_some_text (b ∷ bytes) = true

some_text : (text : List ℕ) → is_some_text text ≡ true → text ≢ []
some_text [] h = λ e. cc
some_text (b ∷ bytes) h = λ e. cc

some-append : (text more : List ℕ) → text ≢ [] → text ++ more ≢ []
some-append [] more some = λ e. some refl
some-append (b ∷ text) more some = λ e. cc

both : (a b : Bool) → (a && b) ≡ true → (a ≡ true) × (b ≡ true)
both true b h = (refl, h)
both false b h = absurd cc

-- whether two texts of each entry are some
abbrev tests : {E : Type 0} → (E → List ℕ) → (E → List ℕ) → List E → Bool
tests f g [] = true
tests f g (e ∷ es) = is_some_text (f e) && (is_some_text (g e) && tests f g es)

all_some : {E : Type 0} (f g : E → List ℕ) (es : List E) → tests f g es ≡ true → AllByRecursion (λ e. (f e ≢ []) × (g e ≢ [])) es
all_some f g [] h = tt
all_some f g (e ∷ es) h =
    let one = both (is_some_text (f e)) (is_some_text (g e) && tests f g es) h in
    let two = both (is_some_text (g e)) (tests f g es) one.1 in
    ((some_text (f e) one.0, some_text (g e) two.0), all_some f g es two.1)

builtin_named : AreNamed builtin_rules
builtin_named = all_some (λ (r : Rule). r.token) (λ (r : Rule). r.category) builtin_rules refl

systems_named : AllByRecursion (λ (s : System). (s.system ≢ []) × (s.group ≢ [])) systems
systems_named = all_some (λ (s : System). s.system) (λ (s : System). s.group) systems refl

all-append : {E : Type 0} (P : E → Type 0) (xs ys : List E) → AllByRecursion P xs → AllByRecursion P ys → AllByRecursion P (xs ++ ys)
all-append P [] ys all more = more
all-append P (x ∷ xs) ys all more = (all.0, all-append P xs ys all.1 more)

all_at : {E : Type 0} (P : E → Type 0) (before after : List E) (e : E) → AllByRecursion P (before ++ e ∷ after) → P e
all_at P [] after e all = all.0
all_at P (x ∷ before) after e all = all_at P before after e all.1

first_has : {E : Type 0} (P : E → Type 0) (token_of : E → List ℕ) (entries : List E) (agent : List ℕ) (e : E) → AllByRecursion P entries → IsFirstEntry token_of entries agent e → P e
first_has P token_of entries agent e all first = all_at P first.before first.after e (subst (AllByRecursion P) first.split all)

line_named : (line : List ℕ) (given : List Rule) → LineGives line given → AreNamed given
line_named line given (length, inl over) = subst AreNamed (sym over.1) tt
line_named line given (length, inr spells) = subst AreNamed (sym spells.1.2) ((spells.1.1.token.some, spells.1.1.category.some), tt)

lines_named : (ls : List (List ℕ)) (given : List Rule) → LinesGive ls given → AreNamed given
lines_named [] given gives = subst AreNamed (sym gives) tt
lines_named (line ∷ ls) given gives =
    subst AreNamed (sym gives.4) (all-append _ gives.0 gives.1 (line_named line gives.0 gives.2) (lines_named ls gives.1 gives.3))

-- the rules of a file have names
pub file_named : (text : List ℕ) (given : List Rule) → FileGives text given → AreNamed given
file_named text given gives = lines_named (lines text) given gives

browser_named : (rules : List Rule) (agent browser category : List ℕ) → AreNamed rules → HasBrowser rules agent browser category → (browser ≢ []) × (category ≢ [])
browser_named rules agent browser category named (inl one) =
    let has = first_has (λ (r : Rule). (r.token ≢ []) × (r.category ≢ [])) (λ (r : Rule). r.token) rules agent one.0 named one.1 in
    (λ e. some-append one.0.token (before_first is_delimiter one.2.rest) has.0 (sym one.2.text ∙ e), λ e. has.1 (sym one.3 ∙ e))
browser_named rules agent browser category named (inr none) =
    (λ e. some_text unknown refl (sym none.1 ∙ e), λ e. some_text unknown refl (sym none.2 ∙ e))

system_named : (agent name group : List ℕ) → HasSystem agent name group → (name ≢ []) × (group ≢ [])
system_named agent name group (inl one) =
    let has = first_has (λ (s : System). (s.system ≢ []) × (s.group ≢ [])) (λ (s : System). s.token) systems agent one.0 systems_named one.1 in
    (λ e. has.0 (sym one.2 ∙ e), λ e. has.1 (sym one.3 ∙ e))
system_named agent name group (inr none) =
    (λ e. some_text unknown refl (sym none.1 ∙ e), λ e. some_text unknown refl (sym none.2 ∙ e))

-- what an agent is by named rules has names
pub agent_named : (file : List Rule) (agent : List ℕ) (answer : Agent) → AreNamed file → IsAgent file agent answer → HasNames answer
agent_named file agent answer named is =
    let browser = browser_named (file ++ builtin_rules) agent answer.browser answer.category (all-append _ file builtin_rules named builtin_named) is.browser in
    let system = system_named agent answer.system answer.system_group is.system in
    record { browser = browser.0; category = browser.1; system = system.0; system_group = system.1 }
