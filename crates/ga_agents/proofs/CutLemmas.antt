-- A line is cut in one way at most, and the rule that it spells is that cut.
use Rattle.std.proofs.Common.{◌≡◌, ◌≢◌, ℕ, ◌+◌, ◌<◌, true, false, not, List, [], ◌∷◌, ◌++◌, length, take, drop, get_or, Some, None, refl, sym, ap, ◌∙◌, subst, arith, length-append, length-take-le, take-append-drop, get_or-take, ⊎_elim}
use Rattle.std.specs.Prelude.{◌==◌, IsTrue}
use Rattle.std.proofs.lemmas.Bool.{cond-true, lt-ltb, eqb-true, ne_eqb, cases_Bool}
use Rattle.std.proofs.lemmas.List.{get_or_at, get_or_append_left, drop_more}
use Rattle.std.proofs.lemmas.List.Elements.{All-from_get_or, All-from_recursion, recursion_from_All}
use Rattle.std.proofs.lemmas.List.Quantifiers.{position-Some}
use Rattle.std.proofs.lemmas.List.Sums.{position_or_len_is}
use Rattle.std.specs.List.{AllByRecursion, position, position_or_len}
use Rattle.bstr.specs.Find.{IsFirstByte, is_byte}
use Rattle.ga_agents.specs.declared.row.Rule.{Rule}
use Rattle.ga_agents.specs.RulesFile.{tab, IsPart, SpellsRule, IsPassedOver, LineGives}
use Rattle.ga_agents.specs.Steps.{is_other, Begins, IsCut}

abbrev pub NoTab : List ℕ → Type 0
NoTab text = AllByRecursion (λ b. b ≢ tab) text

abbrev pub AllTabs : List ℕ → Type 0
AllTabs text = AllByRecursion (λ b. b ≡ tab) text

-- what stands before the first tab, and after it
pub first_tab : (t u r s : List ℕ) → NoTab t → NoTab u → t ++ tab ∷ r ≡ u ++ tab ∷ s → (t ≡ u) × (r ≡ s)
first_tab [] [] r s free other e = let rest : r ≡ s = cc in (refl, rest)
first_tab [] (b ∷ u) r s free other e = let here : b ≡ tab = cc in absurd (other.0 here)
first_tab (a ∷ t) [] r s free other e = let here : a ≡ tab = cc in absurd (free.0 here)
first_tab (a ∷ t) (b ∷ u) r s free other e =
    let here : a ≡ b = cc in
    let more : t ++ tab ∷ r ≡ u ++ tab ∷ s = cc in
    let rest = first_tab t u r s free.1 other.1 more in
    (ap (λ x. x ∷ t) here ∙ ap (λ ts. b ∷ ts) rest.0, rest.1)

-- what follows tabs, and begins with another byte
behind_tabs : (m n c d : List ℕ) → AllTabs m → AllTabs n → Begins c → Begins d → m ++ c ≡ n ++ d → c ≡ d
behind_tabs [] [] c d all others bc bd e = e
behind_tabs [] (b ∷ n) c d all others bc bd e =
    let whole : bc.0 ∷ bc.1 ≡ b ∷ (n ++ d) = sym bc.2 ∙ e in
    let here : bc.0 ≡ b = cc in absurd (bc.3 (here ∙ others.0))
behind_tabs (a ∷ m) [] c d all others bc bd e =
    let whole : a ∷ (m ++ c) ≡ bd.0 ∷ bd.1 = e ∙ bd.2 in
    let here : bd.0 ≡ a = cc in absurd (bd.3 (here ∙ all.0))
behind_tabs (a ∷ m) (b ∷ n) c d all others bc bd e =
    let more : m ++ c ≡ n ++ d = cc in behind_tabs m n c d all.1 others.1 bc bd more

pub one_cut : (line t c u d : List ℕ) → IsCut line t c → IsCut line u d → (t ≡ u) × (c ≡ d)
one_cut line t c u d cut other =
    let first = first_tab t u (cut.tabs ++ c) (other.tabs ++ d) cut.free other.free (sym cut.split ∙ other.split) in
    (first.0, behind_tabs cut.tabs other.tabs c d cut.all_tabs other.all_tabs cut.begins other.begins first.1)

part_begins : (text : List ℕ) → IsPart text → Begins text
part_begins [] part = absurd (part.some refl)
part_begins (b ∷ rest) part = (b, rest, refl, part.no_tab.0)

pub spelled_cut : (line : List ℕ) (rule : Rule) → SpellsRule line rule → IsCut line rule.token rule.category
spelled_cut line rule spells = record {
  tabs = spells.tabs;
  split = spells.split;
  free = spells.token.no_tab;
  all_tabs = spells.all_tabs;
  begins = part_begins rule.category spells.category;
}

-- a line without a tab isn't cut
pub no_tab_no_cut : (line : List ℕ) → IsFirstByte (is_byte 9) line None → (token category : List ℕ) → ¬ IsCut line token category
no_tab_no_cut line none token category cut =
    let long = length-append token (tab ∷ (cut.tabs ++ category)) in
    let inside : length token < length line = omega (arith, ap length cut.split, long) in
    let here : get_or line (length token) 0 ≡ tab = ap (λ l. get_or l (length token) 0) cut.split ∙ get_or_at token tab (cut.tabs ++ category) 0 (length token) refl in
    none (length token) (omega arith) inside (ap (λ b. b == 9) here)

other_yes : (b : ℕ) → b ≢ tab → is_other b ≡ true
other_yes b ne = ap not (ne_eqb b tab ne)

other_no : (b : ℕ) → is_other b ≡ false → b ≡ tab
other_no b lacks = ⊎_elim (λ same. eqb-true b tab same) (λ other. let clash : true ≡ false = sym (ap not other) ∙ lacks in cc) (cases_Bool (b == tab))

other_from : (b : ℕ) → is_other b ≡ true → b ≢ tab
other_from b is same = let clash : true ≡ false = sym is ∙ ap is_other same in cc

-- the first other byte follows all tabs
other_found : (tabs rest : List ℕ) (b : ℕ) → AllTabs tabs → b ≢ tab → position is_other (tabs ++ b ∷ rest) ≡ Some (length tabs)
other_found tabs rest b all ne =
    let line = tabs ++ b ∷ rest in
    let at = length tabs in
    let long = length-append tabs (b ∷ rest) in
    let before : (k : ℕ) → k < at → is_other (get_or line k 0) ≡ false =
    λ k lt. ap is_other (get_or_append_left tabs (b ∷ rest) 0 k lt ∙ All-from_recursion (λ x. x ≡ tab) tabs all k 0 lt) in
    let here : is_other (get_or line at 0) ≡ true = ap is_other (get_or_at tabs b rest 0 at refl) ∙ other_yes b ne in
    let first : position_or_len is_other line ≡ at = position_or_len_is is_other line at 0 (omega (arith, long)) before (λ _. here) in
    cond-true _ _ _ (lt-ltb (position_or_len is_other line) (length line) (omega (arith, first, long))) ∙ ap (λ n. Some n) first

-- the first tab of a line, and the first other byte after it
tab_split : (line : List ℕ) (end : ℕ) → IsFirstByte (is_byte 9) line (Some end) → line ≡ take end line ++ tab ∷ drop (end + 1) line
tab_split line end first =
    let here : get_or line end 0 ≡ tab = eqb-true _ _ first.1 in
    sym (take-append-drop end line) ∙ ap (λ r. take end line ++ r) (drop_more line end 0 first.0.high ∙ ap (λ b. b ∷ drop (end + 1) line) here)

tab_free : (line : List ℕ) (end : ℕ) → IsFirstByte (is_byte 9) line (Some end) → NoTab (take end line)
tab_free line end first =
    let long = length-take-le end line (omega (arith, first.0.high)) in
    recursion_from_All (λ b. b ≢ tab) (take end line) (All-from_get_or (λ b. b ≢ tab) (take end line) 0 (λ k lt here.
    let below : k < end = omega (arith, long) in
    let same : get_or (take end line) k 0 ≡ get_or line k 0 = rw get_or-take refl in
    first.0.before k (omega arith) below (ap (λ b. b == 9) (sym same ∙ here))))

pub only_tabs_no_cut : (line rest : List ℕ) (end : ℕ) → IsFirstByte (is_byte 9) line (Some end) → rest ≡ drop (end + 1) line → position is_other rest ≡ None
    → (token category : List ℕ) → ¬ IsCut line token category
only_tabs_no_cut line rest end first is none token category cut =
    let at = first_tab (take end line) token (drop (end + 1) line) (cut.tabs ++ category) (tab_free line end first) cut.free (sym (tab_split line end first) ∙ cut.split) in
    let found = other_found cut.tabs cut.begins.1 cut.begins.0 cut.all_tabs cut.begins.3 in
    let whole : rest ≡ cut.tabs ++ cut.begins.0 ∷ cut.begins.1 = is ∙ at.1 ∙ ap (λ c. cut.tabs ++ c) cut.begins.2 in
    let clash : None ≡ Some (length cut.tabs) = sym none ∙ ap (position is_other) whole ∙ found in
    cc

pub cut_found : (line rest token category : List ℕ) (end tabs : ℕ) → IsFirstByte (is_byte 9) line (Some end) → rest ≡ drop (end + 1) line → position is_other rest ≡ Some tabs
    → token ≡ take end line → category ≡ drop tabs rest → IsCut line token category
cut_found line rest token category end tabs first is found one two =
    let s = position-Some is_other rest tabs 0 found in
    let long = length-take-le tabs rest (omega (arith, s.0)) in
    record {
      tabs = take tabs rest;
      split = tab_split line end first ∙ ap (λ r. take end line ++ tab ∷ r) (sym is ∙ sym (take-append-drop tabs rest))
          ∙ ap (λ t. t ++ tab ∷ (take tabs rest ++ drop tabs rest)) (sym one) ∙ ap (λ c. token ++ tab ∷ (take tabs rest ++ c)) (sym two);
      free = subst NoTab (sym one) (tab_free line end first);
      all_tabs = recursion_from_All (λ b. b ≡ tab) (take tabs rest) (All-from_get_or (λ b. b ≡ tab) (take tabs rest) 0 (λ k lt.
          let below : k < tabs = omega (arith, long) in
          let same : get_or (take tabs rest) k 0 ≡ get_or rest k 0 = rw get_or-take refl in
          same ∙ other_no (get_or rest k 0) (s.2 k below)));
      begins = (get_or rest tabs 0, drop (tabs + 1) rest, two ∙ drop_more rest tabs 0 s.0, other_from (get_or rest tabs 0) s.1);
    }

-- a line that isn't passed over gives nothing where it spells no rule
pub nothing_given : (line : List ℕ) → (IsPassedOver line → IsTrue false) → ((rule : Rule) → ¬ SpellsRule line rule) → (given : List Rule) → ¬ LineGives line given
nothing_given line lives none given gives = ⊎_elim (λ over. let clash : IsTrue false = lives over.0 in cc) (λ spells. none spells.1.0 spells.1.1) gives.1

pub uncut_spells_none : (line : List ℕ) → ((token category : List ℕ) → ¬ IsCut line token category) → (rule : Rule) → ¬ SpellsRule line rule
uncut_spells_none line none rule spells = none rule.token rule.category (spelled_cut line rule spells)

pub bad_token_spells_none : (line token category : List ℕ) → IsCut line token category → ¬ IsPart token → (rule : Rule) → ¬ SpellsRule line rule
bad_token_spells_none line token category cut bad rule spells =
    bad (subst IsPart (one_cut line rule.token rule.category token category (spelled_cut line rule spells) cut).0 spells.token)

pub bad_category_spells_none : (line token category : List ℕ) → IsCut line token category → ¬ IsPart category → (rule : Rule) → ¬ SpellsRule line rule
bad_category_spells_none line token category cut bad rule spells =
    bad (subst IsPart (one_cut line rule.token rule.category token category (spelled_cut line rule spells) cut).1 spells.category)
