-- What a found entry says of an agent, and the browser's text.
use Rattle.std.proofs.Common.{◌≡◌, ℕ, ◌+◌, ◌-◌, ◌<◌, ◌≤◌, true, List, ◌++◌, length, take, drop, get_or, map, Some, refl, sym, ap, ◌∙◌, subst, arith, length-take-le, length-drop, get_or-drop, inl, inr}
use Rattle.std.proofs.lemmas.Bool.Decides.{nat_tests}
use Rattle.std.proofs.lemmas.List.{drop_at}
use Rattle.std.proofs.lemmas.List.Quantifiers.{position-Some}
use Rattle.std.proofs.lemmas.List.Sums.{position_or_len_is}
use Rattle.std.proofs.lemmas.Str.{IsCharBoundary-before_ascii}
use Rattle.std.proofs.Math.Seq.{take-append-add}
use Rattle.std.specs.List.{position, before_first, position_or_len}
use Rattle.std.specs.Str.{IsCharBoundary}
use Rattle.ga_agents.specs.declared.classes.Found.{Found}
use Rattle.ga_agents.specs.declared.row.Rule.{Rule}
use Rattle.ga_agents.specs.declared.tables.BrowserEntry.{BrowserEntry}
use Rattle.ga_agents.specs.declared.tables.SystemEntry.{SystemEntry}
use Rattle.ga_agents.specs.Classes.{is_delimiter, unknown, HasSystem}
use Rattle.ga_agents.specs.Occurs.{NoneOccurs, IsFirstEntry}
use Rattle.ga_agents.specs.Steps.{IsPlace, IsFound, rule_of, system_of}
use Rattle.ga_agents.specs.Tables.{rule, System, builtin_rules, systems}
use Rattle.ga_agents.proofs.OccurLemmas.{first-append_left, first-append_right, none-append, first-map, none-map}

-- a system of the table, or none
pub system_found : (entries : List SystemEntry) (agent : List ℕ) (e : SystemEntry) → map system_of entries ≡ systems
    → IsFirstEntry (λ (x : SystemEntry). x.0.now) entries agent e → HasSystem agent e.1.now e.2.now
system_found entries agent e is first =
    inl (system_of e, subst (λ es. IsFirstEntry (λ (x : System). x.token) es agent (system_of e)) is (first-map system_of (λ (x : System). x.token) entries agent e first), refl, refl)

pub system_none : (entries : List SystemEntry) (agent : List ℕ) → map system_of entries ≡ systems → NoneOccurs (λ (x : SystemEntry). x.0.now) entries agent → HasSystem agent unknown unknown
system_none entries agent is none =
    inr (subst (λ es. NoneOccurs (λ (x : System). x.token) es agent) is (none-map system_of (λ (x : System). x.token) entries agent none), refl, refl)

-- a rule of the file, a built-in one, or none
pub found_in_file : (rules : List Rule) (agent : List ℕ) (r : Rule) (found : Found) → found.token.now ≡ r.token → found.category.now ≡ r.category
    → IsFirstEntry (λ (x : Rule). x.token) rules agent r → IsPlace r.token agent found.at → IsFound (rules ++ builtin_rules) agent found
found_in_file rules agent r found token category first place =
    let same : r ≡ rule found.token.now found.category.now = ap (λ t. rule t r.category) (sym token) ∙ ap (λ g. rule found.token.now g) (sym category) in
    record {
      first = subst (λ x. IsFirstEntry (λ (x : Rule). x.token) (rules ++ builtin_rules) agent x) same (first-append_left (λ (x : Rule). x.token) rules builtin_rules agent r first);
      place = subst (λ t. IsPlace t agent found.at) (sym token) place;
    }

pub found_built_in : (rules : List Rule) (entries : List BrowserEntry) (agent : List ℕ) (e : BrowserEntry) (at : ℕ) → map rule_of entries ≡ builtin_rules
    → NoneOccurs (λ (x : Rule). x.token) rules agent
    → IsFirstEntry (λ (x : BrowserEntry). x.0.now) entries agent e → IsPlace e.0.now agent at → IsFound (rules ++ builtin_rules) agent (record { token = e.0; category = e.1; at = at })
found_built_in rules entries agent e at is none first place = record {
  first = first-append_right (λ (x : Rule). x.token) rules builtin_rules agent (rule_of e) none
      (subst (λ es. IsFirstEntry (λ (x : Rule). x.token) es agent (rule_of e)) is (first-map rule_of (λ (x : Rule). x.token) entries agent e first));
  place = place;
}

pub found_none : (rules : List Rule) (entries : List BrowserEntry) (agent : List ℕ) → map rule_of entries ≡ builtin_rules
    → NoneOccurs (λ (x : Rule). x.token) rules agent → NoneOccurs (λ (x : BrowserEntry). x.0.now) entries agent → NoneOccurs (λ (x : Rule). x.token) (rules ++ builtin_rules) agent
found_none rules entries agent is none later =
    none-append (λ (x : Rule). x.token) rules builtin_rules agent none
    (subst (λ es. NoneOccurs (λ (x : Rule). x.token) es agent) is (none-map rule_of (λ (x : Rule). x.token) entries agent later))

delimiter_ascii : (b : ℕ) → is_delimiter b ≡ true → b < 128
delimiter_ascii b stops = grind (arith, nat_tests)

-- the text may be cut before a delimiter
pub cut_at_delimiter : (agent bytes : List ℕ) (end more : ℕ) → end ≤ length agent → bytes ≡ drop end agent → position is_delimiter bytes ≡ Some more → IsCharBoundary agent (end + more)
cut_at_delimiter agent bytes end more within is found =
    let place = position-Some is_delimiter bytes more 0 found in
    let same : get_or bytes more 0 ≡ get_or agent (end + more) 0 = ap (λ bs. get_or bs more 0) is ∙ get_or-drop end agent more 0 in
    let long : length bytes ≡ length agent - end = ap length is ∙ length-drop end agent in
    IsCharBoundary-before_ascii agent (end + more) (omega (arith, place.0, long))
    (subst (λ b. b < 128) same (delimiter_ascii (get_or bytes more 0) place.1))

-- the browser's text up to the first delimiter
pub text_until : (token agent bytes : List ℕ) (at more n : ℕ) → IsPlace token agent at → bytes ≡ drop (at + length token) agent → position is_delimiter bytes ≡ Some more → n ≡ length token + more
    → take n (drop at agent) ≡ token ++ before_first is_delimiter (drop (at + length token) agent)
text_until token agent bytes at more n place is found count =
    let s = position-Some is_delimiter bytes more 0 found in
    let first : position_or_len is_delimiter bytes ≡ more = position_or_len_is is_delimiter bytes more 0 (omega (arith, s.0)) s.2 (λ _. s.1) in
    let rest : drop at agent ≡ token ++ drop (at + length token) agent =
    ap (drop at) place.stands.split ∙ drop_at (take at agent) (token ++ drop (at + length token) agent) at (length-take-le at agent (omega (arith, place.within))) in
    ap (λ k. take k (drop at agent)) count ∙ ap (take (length token + more)) rest ∙ take-append-add token (drop (at + length token) agent) more
    ∙ ap (λ k. token ++ take k (drop (at + length token) agent)) (sym first ∙ ap (position_or_len is_delimiter) is)
