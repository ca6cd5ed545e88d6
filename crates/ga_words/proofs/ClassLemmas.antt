-- What a word is by itself: one of six things, of which it is always one alone.
use Rattle.std.proofs.Common.{◌≡◌, ◌≢◌, ◌==◌, cond, ℕ, Bool, true, false, Option, Some, None, option_map, List, [], ◌∷◌, ◌++◌, codes, refl, sym, ap, ◌∙◌, subst, arith, append_assoc}
use Rattle.std.proofs.lemmas.Bool.Decides.{nat_tests}
use Rattle.std.proofs.lemmas.Slice.Eq.{bytes_eq-Decides}
use Rattle.std.specs.Str.{bytes_eq}
use Rattle.ga_words.specs.Options.{Takes, takes_of, IsLong}
use Rattle.ga_words.specs.Units.{BeginsWithDash}
use Rattle.ga_words.specs.WordsOf.{NamesNoOption}
use Rattle.ga_words.specs.Steps.Words.{IsPlain}
use Rattle.ga_words.proofs.CutLemmas.{plain-head, plain-tail}
use Rattle.ga_words.proofs.NameLemmas.{name-dash, name-no_tail, name-plain, plain-is, is-none}

pub data Class : Type 0 where
  Nameless : Class
  Tail : Class
  LogName : Class
  OptionName : Takes → Class
  WithValue : List ℕ → Takes → List ℕ → Class
  NoOption : Class

-- what stands before the first `=`, and what follows it
pub record Parts : Type 0 where
  pub front : List ℕ
  pub back : List ℕ

abbrev pub parts : List ℕ → List ℕ → Parts
parts front back = record { front = front; back = back }

abbrev pub longer : ℕ → Parts → Parts
longer b p = parts (b ∷ p.front) p.back

pub cut : List ℕ → Option Parts
cut [] = None
cut (b ∷ bs) = cond (b == 61) (Some (parts [] bs)) (option_map (longer b) (cut bs))

abbrev optional : Option Takes → (Takes → Class) → Class → Class
optional None some none = none
optional (Some takes) some none = some takes

abbrev joined_class : Option Parts → Class
joined_class None = NoOption
joined_class (Some p) = cond (bytes_eq p.front (codes "-o")) NoOption (optional (takes_of p.front) (λ t. WithValue p.front t p.back) NoOption)

abbrev dashed_class : List ℕ → Class
dashed_class word = cond (bytes_eq word (codes "--")) Tail (optional (takes_of word) OptionName (joined_class (cut word)))

abbrev pub class_of : List ℕ → Class
class_of [] = Nameless
class_of (b ∷ bs) = cond (b == 45) (dashed_class (b ∷ bs)) LogName

no-eq : (a b : ℕ) → a ≢ b → (a == b) ≡ false
no-eq a b differs = grind (arith, nat_tests)

not-true : (b : Bool) → (b ≡ true → ⊥) → b ≡ false
not-true true no_way = absurd (no_way refl)
not-true false no_way = refl

no-bytes : (a b : List ℕ) → a ≢ b → bytes_eq a b ≡ false
no-bytes a b differs = not-true (bytes_eq a b) (λ e. differs ((bytes_eq-Decides a b).0 e))

cut-plain : (front back : List ℕ) → IsPlain front → cut (front ++ 61 ∷ back) ≡ Some (parts front back)
unfolding cut
cut-plain [] back plain = refl
cut-plain (x ∷ front) back plain =
    let more = cut-plain front back (plain-tail x front plain) in
    rw (no-eq x 61 (plain-head x front plain), more) refl

split-step : (b : ℕ) (bs : List ℕ) (is : Bool) (inner : Option Parts) (front back : List ℕ) → (b == 61) ≡ is
    → ((p : Parts) → inner ≡ Some p → bs ≡ p.front ++ 61 ∷ p.back) → cond is (Some (parts [] bs)) (option_map (longer b) inner) ≡ Some (parts front back) → b ∷ bs ≡ front ++ 61 ∷ back
split-step b bs true inner front back is more e =
    let sign : b ≡ 61 = grind (arith, nat_tests) in
    let same : parts [] bs ≡ parts front back = cc in
    ap (λ (x : ℕ). x ∷ bs) sign ∙ ap (λ (q : Parts). q.front ++ 61 ∷ q.back) same
split-step b bs false None front back is more e = cc
split-step b bs false (Some p) front back is more e =
    let same : longer b p ≡ parts front back = cc in
    ap (λ (x : List ℕ). b ∷ x) (more p refl) ∙ ap (λ (q : Parts). q.front ++ 61 ∷ q.back) same

cut-split : (word front back : List ℕ) → cut word ≡ Some (parts front back) → word ≡ front ++ 61 ∷ back
unfolding cut
cut-split [] front back e = cc
cut-split (b ∷ bs) front back e = split-step b bs (b == 61) (cut bs) front back refl (λ p k. cut-split bs p.front p.back k) e

equals : (name value : List ℕ) → name ++ codes "=" ++ value ≡ name ++ 61 ∷ value
equals name value = append_assoc name (codes "=") value

-- a word that begins with a dash, and isn't `--`
dashed-is : (word : List ℕ) → BeginsWithDash word → word ≢ codes "--" → class_of word ≡ optional (takes_of word) OptionName (joined_class (cut word))
dashed-is [] dash no_tail = let e = dash.1 in cc
dashed-is (b ∷ bs) dash no_tail =
    let first : b ≡ 45 = let e = dash.1 in cc in
    let yes_dash : (b == 45) ≡ true = ap (λ (x : ℕ). x == 45) first in
    ap (λ (x : Bool). cond x (dashed_class (b ∷ bs)) LogName) yes_dash
    ∙ ap (λ (x : Bool). cond x Tail (optional (takes_of (b ∷ bs)) OptionName (joined_class (cut (b ∷ bs))))) (no-bytes (b ∷ bs) (codes "--") no_tail)

pub is-log : (word : List ℕ) → word ≢ [] → ¬ BeginsWithDash word → class_of word ≡ LogName
is-log [] some dashless = absurd (some refl)
is-log (b ∷ bs) some dashless = rw (no-eq b 45 (λ e. dashless (bs, ap (λ (x : ℕ). x ∷ bs) e))) refl

pub is-option : (word : List ℕ) (takes : Takes) → takes_of word ≡ Some takes → class_of word ≡ OptionName takes
is-option word takes e =
    dashed-is word (name-dash word takes e) (name-no_tail word takes e) ∙ ap (λ (o : Option Takes). optional o OptionName (joined_class (cut word))) e

dash-more : (name more : List ℕ) → BeginsWithDash name → BeginsWithDash (name ++ more)
dash-more name more dash = (dash.0 ++ more, ap (λ (x : List ℕ). x ++ more) dash.1)

pub is-joined : (name value : List ℕ) (takes : Takes) → takes_of name ≡ Some takes → IsLong name → class_of (name ++ codes "=" ++ value) ≡ WithValue name takes value
is-joined name value takes e long =
    let plain = name-plain name takes e in
    let whole = equals name value in
    let dash = subst BeginsWithDash (sym whole) (dash-more name (61 ∷ value) (name-dash name takes e)) in
    let no_tail : name ++ codes "=" ++ value ≢ codes "--" = λ same. plain-is (codes "--") refl name value (sym same) in
    let no_option = is-none (takes_of (name ++ codes "=" ++ value)) (λ t k. name-plain (name ++ codes "=" ++ value) t k name value refl) in
    let is_cut = ap cut whole ∙ cut-plain name value plain in
    dashed-is (name ++ codes "=" ++ value) dash no_tail
    ∙ ap (λ (o : Option Takes). optional o OptionName (joined_class (cut (name ++ codes "=" ++ value)))) no_option
    ∙ ap joined_class is_cut
    ∙ ap (λ (b : Bool). cond b NoOption (optional (takes_of name) (λ t. WithValue name t value) NoOption)) (no-bytes name (codes "-o") long)
    ∙ ap (λ (o : Option Takes). optional o (λ t. WithValue name t value) NoOption) e

none-short : (name value : List ℕ) (b : Bool) → bytes_eq name (codes "-o") ≡ b → (IsLong name → takes_of name ≡ None) → cond b NoOption (optional (takes_of name) (λ t. WithValue name t value) NoOption) ≡ NoOption
none-short name value true e none = refl
none-short name value false e none =
    let long : IsLong name = λ same. let k = (bytes_eq-Decides name (codes "-o")).1 same in cc in
    ap (λ (o : Option Takes). optional o (λ t. WithValue name t value) NoOption) (none long)

none-step : (word : List ℕ) (p : Option Parts) → cut word ≡ p → ((name value : List ℕ) → word ≡ name ++ codes "=" ++ value → IsLong name → takes_of name ≡ None) → joined_class p ≡ NoOption
none-step word None e none = refl
none-step word (Some p) e none =
    none-short p.front p.back (bytes_eq p.front (codes "-o")) refl (λ long. none p.front p.back (cut-split word p.front p.back e ∙ sym (equals p.front p.back)) long)

pub is-no_option : (word : List ℕ) → NamesNoOption word → class_of word ≡ NoOption
is-no_option word h =
    dashed-is word h.dash h.no_tail ∙ ap (λ (o : Option Takes). optional o OptionName (joined_class (cut word))) h.alone ∙ none-step word (cut word) refl h.joined
