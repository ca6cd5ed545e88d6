-- Where a token stands, and how the first entry of a list is found.
use Rattle.std.proofs.Common.{◌≡◌, ℕ, ◌+◌, ◌-◌, ◌<◌, ◌≤◌, List, [], ◌∷◌, ◌++◌, length, take, drop, get_or, map, Option, Some, None, MatchOption, refl, sym, ap, ◌∙◌, subst, arith, length-append, length-take-le, take-append-drop, append_assoc, ⊎_elim}
use Rattle.std.proofs.lemmas.List.{get_or-append_right, get_or_append_left, drop_at, take_more, drop_more, map-append}
use Rattle.std.proofs.lemmas.Bool.{cases_lt}
use Rattle.std.specs.List.{AllByRecursion}
use Rattle.std.specs.Str.Pattern.{FindsText, MatchBeginsAt}
use Rattle.ga_agents.specs.declared.pair_set.PairSet.{PairSet}
use Rattle.ga_agents.specs.Occurs.{Occurs, NoneOccurs, IsFirstEntry}
use Rattle.ga_agents.specs.Steps.{IsPlace, IsSetOf, HasAllPairs, slot_of, slot_at}

-- where a token occurs in an agent, its pairs are pairs of the agent
byte_occurs : (front token rest : List ℕ) (i j : ℕ) → i < length token → j ≡ length front + i → get_or (front ++ (token ++ rest)) j 0 ≡ get_or token i 0
byte_occurs front token rest i j inside at =
    get_or-append_right front (token ++ rest) (length front) j 0 refl (omega (arith, at))
    ∙ ap (λ k. get_or (token ++ rest) k 0) (omega (arith, at)) ∙ get_or_append_left token rest 0 i inside

pair_occurs : (front token rest : List ℕ) (i : ℕ) → 1 ≤ i → i < length token → slot_at (front ++ (token ++ rest)) (length front + i) ≡ slot_at token i
pair_occurs front token rest i low inside =
    ap (λ b. slot_of b (get_or (front ++ (token ++ rest)) (length front + i) 0)) (byte_occurs front token rest (i - 1) (length front + i - 1) (omega (arith, low, inside)) (omega (arith, low)))
    ∙ ap (λ b. slot_of (get_or token (i - 1) 0) b) (byte_occurs front token rest i (length front + i) inside refl)

-- so a token with a pair that the agent lacks doesn't occur there
pub lacking_none : (set : PairSet) (token agent : List ℕ) → IsSetOf set agent → ¬ HasAllPairs set token → ¬ Occurs token agent
lacking_none set token agent is lacks = λ o. lacks (λ i low inside.
    (is (slot_at token i)).1 (
      length o.0 + i,
      omega (arith, low),
      omega (arith, inside, ap length o.2, length-append o.0 (token ++ o.1), length-append token o.1),
      ap (λ a. slot_at a (length o.0 + i)) o.2 ∙ pair_occurs o.0 token o.1 i low inside,
    ))

-- what `find` of std answers, in our words
pub place_found : (token agent : List ℕ) (r : Option ℕ) → MatchOption r (FindsText token agent None) (MatchBeginsAt (FindsText token) agent) → MatchOption r (¬ Occurs token agent) (IsPlace token agent)
place_found token agent None none = λ o.
    none (length o.0) (omega (arith, ap length o.2, length-append o.0 (token ++ o.1))) o.1
    (subst (λ a. drop (length o.0) a ≡ token ++ o.1) (sym o.2) (drop_at o.0 (token ++ o.1) (length o.0) refl))
place_found token agent (Some at) found =
    let has = found.1.1 in
    let ends : found.0 ≡ at + length token = has.ends in
    let within : at + length token ≤ length agent = omega (arith, ends, found.4.0) in
    record {
      within = within;
      stands = record {
        split = sym (take-append-drop at agent) ∙ ap (λ r. take at agent ++ r) (has.split ∙ ap (λ j. token ++ drop j agent) ends);
        first = λ other more e.
            ⊎_elim
            (λ before. absurd (found.1.0 (length other) before more (subst (λ a. drop (length other) a ≡ token ++ more) (sym e) (drop_at other (token ++ more) (length other) refl))))
            (λ past. omega (arith, length-take-le at agent (omega arith)))
            (cases_lt (length other) at);
      };
      cut_before = found.3;
      cut_after = has.after;
    }

-- an entry list that goes on, or is read through a function
pub first-append_left : {E : Type 0} (token_of : E → List ℕ) (entries more : List E) (agent : List ℕ) (e : E) → IsFirstEntry token_of entries agent e → IsFirstEntry token_of (entries ++ more) agent e
first-append_left token_of entries more agent e first = record {
  before = first.before;
  after = first.after ++ more;
  split = ap (λ es. es ++ more) first.split ∙ append_assoc first.before (e ∷ first.after) more;
  occurs = first.occurs;
  none_before = first.none_before;
}

pub none-append : {E : Type 0} (token_of : E → List ℕ) (entries more : List E) (agent : List ℕ) → NoneOccurs token_of entries agent → NoneOccurs token_of more agent → NoneOccurs token_of (entries ++ more) agent
none-append token_of [] more agent none later = later
none-append token_of (e ∷ entries) more agent none later = (none.0, none-append token_of entries more agent none.1 later)

pub first-append_right : {E : Type 0} (token_of : E → List ℕ) (entries more : List E) (agent : List ℕ) (e : E) → NoneOccurs token_of entries agent → IsFirstEntry token_of more agent e → IsFirstEntry token_of (entries ++ more) agent e
first-append_right token_of entries more agent e none first = record {
  before = entries ++ first.before;
  after = first.after;
  split = ap (λ es. entries ++ es) first.split ∙ sym (append_assoc entries first.before (e ∷ first.after));
  occurs = first.occurs;
  none_before = none-append token_of entries first.before agent none first.none_before;
}

pub none-map : {E F : Type 0} (g : E → F) (token_of : F → List ℕ) (entries : List E) (agent : List ℕ) → NoneOccurs (λ (e : E). token_of (g e)) entries agent → NoneOccurs token_of (map g entries) agent
none-map g token_of [] agent none = tt
none-map g token_of (e ∷ entries) agent none = (none.0, none-map g token_of entries agent none.1)

pub first-map : {E F : Type 0} (g : E → F) (token_of : F → List ℕ) (entries : List E) (agent : List ℕ) (e : E) → IsFirstEntry (λ (x : E). token_of (g x)) entries agent e → IsFirstEntry token_of (map g entries) agent (g e)
first-map g token_of entries agent e first = record {
  before = map g first.before;
  after = map g first.after;
  split = ap (map g) first.split ∙ map-append g first.before (e ∷ first.after);
  occurs = first.occurs;
  none_before = none-map g token_of first.before agent first.none_before;
}

-- what holds of all entries and of one more
pub all_push : {E : Type 0} (P : E → Type 0) (xs : List E) (x : E) → AllByRecursion P xs → P x → AllByRecursion P (xs ++ x ∷ [])
all_push P [] x all one = (one, tt)
all_push P (y ∷ xs) x all one = (all.0, all_push P xs x all.1 one)

pub none_more : {E : Type 0} (token_of : E → List ℕ) (entries : List E) (agent : List ℕ) (i : ℕ) (d : E) → i < length entries
    → NoneOccurs token_of (take i entries) agent → ¬ Occurs (token_of (get_or entries i d)) agent → NoneOccurs token_of (take (i + 1) entries) agent
none_more token_of entries agent i d inside none here =
    subst (λ es. NoneOccurs token_of es agent) (sym (take_more entries i d inside)) (all_push (λ e. ¬ Occurs (token_of e) agent) (take i entries) (get_or entries i d) none here)

pub entry_found : {E : Type 0} (token_of : E → List ℕ) (entries : List E) (agent : List ℕ) (i : ℕ) (e : E) (at : ℕ) → i < length entries → e ≡ get_or entries i e
    → NoneOccurs token_of (take i entries) agent → IsPlace (token_of e) agent at → IsFirstEntry token_of entries agent e
entry_found token_of entries agent i e at inside is none place = record {
  before = take i entries;
  after = drop (i + 1) entries;
  split = sym (take-append-drop i entries) ∙ ap (λ r. take i entries ++ r) (drop_more entries i e inside ∙ ap (λ x. x ∷ drop (i + 1) entries) (sym is));
  occurs = (take at agent, drop (at + length (token_of e)) agent, place.stands.split);
  none_before = none;
}
