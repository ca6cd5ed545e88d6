-- What a line says, by its parts; and that it is one name and one value at most.
use Rattle.std.proofs.Common.{◌≡◌, ◌≢◌, ℕ, true, false, List, [], ◌∷◌, ◌++◌, refl, sym, ap, ◌∙◌, subst, append_assoc, IsTrue, inl, inr}
use Rattle.std.specs.List.{AllByRecursion}
use Rattle.ga_conf.specs.ConfFile.{AreBlanks, HasNoBlank, BeginsBare, EndsBare, IsPassedOver, IsSetting, is_blank, number_sign}
use Rattle.ga_conf.specs.Steps.{BeginsBlank, BeginsNothing, DropsBlanks, IsCutAtBlank, SkipsBlanks}

pub all-append : (P : ℕ → Type 0) (xs ys : List ℕ) → AllByRecursion P xs → AllByRecursion P ys → AllByRecursion P (xs ++ ys)
all-append P [] ys a b = b
all-append P (x ∷ xs) ys a b = (a.0, all-append P xs ys a.1 b)

-- a byte in the midst of blanks is one
blank_inside : (front rest : List ℕ) (b : ℕ) → AreBlanks (front ++ b ∷ rest) → is_blank b ≡ true
blank_inside [] rest b all = all.0
blank_inside (x ∷ front) rest b all = blank_inside front rest b all.1

both : (b : ℕ) → is_blank b ≡ true → is_blank b ≡ false → ⊥
both b blank bare = let clash : true ≡ false = sym blank ∙ bare in cc

-- ---- a text between blanks

-- the line is blanks, a text that is bare at both ends, and blanks
pub record IsTrimmed (line text : List ℕ) : Type 0 where
  pub before : List ℕ
  pub after : List ℕ
  pub split : line ≡ before ++ (text ++ after)
  pub blanks : AreBlanks before × AreBlanks after
  pub begins : BeginsBare text
  pub ends : EndsBare text

pub trimmed : (line left text : List ℕ) → SkipsBlanks line left → DropsBlanks left text → IsTrimmed line text
trimmed line left text skips drops = record {
  before = skips.blanks;
  after = drops.blanks;
  split = skips.split ∙ ap (λ t. skips.blanks ++ t) drops.split;
  blanks = (skips.are, drops.are);
  begins = λ b rest is. skips.bare b (rest ++ drops.blanks) (drops.split ∙ ap (λ t. t ++ drops.blanks) is);
  ends = drops.bare;
}

-- nothing between blanks, or a comment
pub passes_over : (line text : List ℕ) → IsTrimmed line text → BeginsNothing text → IsPassedOver line
passes_over line text trim (inl none) =
    let whole : line ≡ trim.before ++ trim.after = trim.split ∙ ap (λ t. trim.before ++ (t ++ trim.after)) none in
    inl (subst AreBlanks (sym whole) (all-append (λ b. is_blank b ≡ true) trim.before trim.after trim.blanks.0 trim.blanks.1))
passes_over line text trim (inr (comment, is)) =
    inr (trim.before, comment ++ trim.after, trim.blanks.0, trim.split ∙ ap (λ t. trim.before ++ (t ++ trim.after)) is)

-- ---- the first byte that is no blank

-- two ways to say where it is
same_first : (one two : List ℕ) (b c : ℕ) (rest more : List ℕ) → AreBlanks one → AreBlanks two → is_blank b ≡ false → is_blank c ≡ false → one ++ b ∷ rest ≡ two ++ c ∷ more
    → (one ≡ two) × (b ≡ c) × (rest ≡ more)
same_first [] [] b c rest more all others bare bare' e =
    let here : b ≡ c = cc in let left : rest ≡ more = cc in (refl, here, left)
same_first [] (x ∷ two) b c rest more all others bare bare' e =
    let here : b ≡ x = cc in absurd (both x others.0 (subst (λ y. is_blank y ≡ false) here bare))
same_first (x ∷ one) [] b c rest more all others bare bare' e =
    let here : x ≡ c = cc in absurd (both c (subst (λ y. is_blank y ≡ true) here all.0) bare')
same_first (x ∷ one) (y ∷ two) b c rest more all others bare bare' e =
    let here : x ≡ y = cc in
    let left : one ++ b ∷ rest ≡ two ++ c ∷ more = cc in
    let same = same_first one two b c rest more all.1 others.1 bare bare' left in
    (ap (λ z. z ∷ one) here ∙ ap (λ t. y ∷ t) same.0, same.1, same.2)

-- a text that begins with neither isn't passed over
pub lives : (line text : List ℕ) → IsTrimmed line text → (BeginsNothing text → IsTrue false) → ¬ IsPassedOver line
lives line [] trim something over = let clash : IsTrue false = something (inl refl) in cc
lives line (b ∷ text) trim something (inl all) =
    both b (blank_inside trim.before (text ++ trim.after) b (subst AreBlanks trim.split all)) (trim.begins b text refl)
lives line (b ∷ text) trim something (inr (blanks, comment, are, is)) =
    let same = same_first trim.before blanks b number_sign (text ++ trim.after) comment trim.blanks.0 are (trim.begins b text refl) refl (sym trim.split ∙ is) in
    let clash : IsTrue false = something (inr (text, ap (λ x. x ∷ text) same.1)) in cc

-- ---- name and value

begun : (text : List ℕ) → text ≢ [] → (b : ℕ) × (rest : List ℕ) × (text ≡ b ∷ rest)
begun [] some = absurd (some refl)
begun (b ∷ rest) some = (b, rest, refl)

-- the name isn't empty, since the text begins with no blank
named : (text name rest : List ℕ) → BeginsBare text → text ≢ [] → IsCutAtBlank text name rest → name ≢ []
named text name rest bare some cut none =
    let first = begun text some in
    let back : rest ≡ first.0 ∷ first.1 = sym (cut.split ∙ ap (λ n. n ++ rest) none) ∙ first.2 in
    both first.0 (cut.blank first.0 first.1 back) (bare first.0 first.1 first.2)

-- what follows blanks and isn't empty ends as the whole does
ends_as : (front back : List ℕ) → EndsBare (front ++ back) → EndsBare back
ends_as front back bare b fore is = bare b (front ++ fore) (ap (λ t. front ++ t) is ∙ sym (append_assoc front fore (b ∷ [])))

-- what begins with a blank and with none is empty
neither : (text : List ℕ) → BeginsBlank text → BeginsBare text → text ≡ []
neither [] blank bare = refl
neither (b ∷ rest) blank bare = absurd (both b (blank b rest refl) (bare b rest refl))

pub setting_found : (line text name rest value : List ℕ) → IsTrimmed line text → text ≢ [] → IsCutAtBlank text name rest → SkipsBlanks rest value → IsSetting line name value
setting_found line text name rest value trim some cut skips =
    let parts : text ≡ name ++ (skips.blanks ++ value) = cut.split ∙ ap (λ r. name ++ r) skips.split in
    record {
      before = trim.before;
      between = skips.blanks;
      after = trim.after;
      split = trim.split ∙ ap (λ t. trim.before ++ (t ++ trim.after)) parts
          ∙ ap (λ t. trim.before ++ t) (append_assoc name (skips.blanks ++ value) trim.after ∙ ap (λ t. name ++ t) (append_assoc skips.blanks value trim.after));
      blanks = (trim.blanks.0, skips.are, trim.blanks.1);
      some = named text name rest trim.begins some cut;
      no_blank = cut.free;
      bare = (skips.bare, ends_as (name ++ skips.blanks) value (subst EndsBare (parts ∙ sym (append_assoc name skips.blanks value)) trim.ends));
      apart = λ none.
          let same : rest ≡ value = skips.split ∙ ap (λ t. t ++ value) none in
          neither value (subst BeginsBlank same cut.blank) skips.bare;
    }

-- ---- one name and one value

-- what follows the name: nothing, or a blank
follows : (between value after : List ℕ) → AreBlanks between → AreBlanks after → (between ≡ [] → value ≡ []) → BeginsBlank (between ++ (value ++ after))
follows (x ∷ between) value after all later apart b rest is = let here : x ≡ b = cc in subst (λ y. is_blank y ≡ true) here all.0
follows [] value [] all later apart b rest is = let none : value ≡ [] = apart refl in let clash : [] ≡ b ∷ rest = sym (ap (λ v. v ++ []) none) ∙ is in cc
follows [] value (x ∷ after) all later apart b rest is =
    let none : value ≡ [] = apart refl in
    let whole : x ∷ after ≡ b ∷ rest = sym (ap (λ v. v ++ x ∷ after) none) ∙ is in
    let here : x ≡ b = cc in subst (λ y. is_blank y ≡ true) here later.0

-- a text is cut at its first blank in one way
one_cut : (a b c d : List ℕ) → HasNoBlank a → HasNoBlank b → BeginsBlank c → BeginsBlank d → a ++ c ≡ b ++ d → (a ≡ b) × (c ≡ d)
one_cut [] [] c d free other blank blank' e = (refl, e)
one_cut [] (y ∷ b) c d free other blank blank' e = absurd (both y (blank y (b ++ d) e) other.0)
one_cut (x ∷ a) [] c d free other blank blank' e = absurd (both x (blank' x (a ++ c) (sym e)) free.0)
one_cut (x ∷ a) (y ∷ b) c d free other blank blank' e =
    let here : x ≡ y = cc in
    let left : a ++ c ≡ b ++ d = cc in
    let same = one_cut a b c d free.1 other.1 blank blank' left in
    (ap (λ z. z ∷ a) here ∙ ap (λ t. y ∷ t) same.0, same.1)

-- blanks, a bare value and blanks: the value is one
same_rest : (one two c d : List ℕ) → AreBlanks one → AreBlanks two → BeginsBare c → BeginsBare d → one ++ c ≡ two ++ d → c ≡ d
same_rest [] [] c d all others bare bare' e = e
same_rest [] (y ∷ two) c d all others bare bare' e = absurd (both y others.0 (bare y (two ++ d) e))
same_rest (x ∷ one) [] c d all others bare bare' e = absurd (both x all.0 (bare' x (one ++ c) (sym e)))
same_rest (x ∷ one) (y ∷ two) c d all others bare bare' e =
    let left : one ++ c ≡ two ++ d = cc in same_rest one two c d all.1 others.1 bare bare' left

last_of : (b : ℕ) (rest : List ℕ) → (z : ℕ) × (front : List ℕ) × (b ∷ rest ≡ front ++ z ∷ [])
last_of b [] = (b, [], refl)
last_of b (c ∷ rest) = let more = last_of c rest in (more.0, b ∷ more.1, ap (λ t. b ∷ t) more.2)

-- a bare value and blanks after it: the value is one
one_end : (v w a b : List ℕ) → EndsBare v → EndsBare w → AreBlanks a → AreBlanks b → v ++ a ≡ w ++ b → v ≡ w
one_end [] [] a b ends ends' all others e = refl
one_end [] (y ∷ w) a b ends ends' all others e =
    let last = last_of y w in
    let whole : a ≡ last.1 ++ last.0 ∷ b = e ∙ ap (λ t. t ++ b) last.2 ∙ append_assoc last.1 (last.0 ∷ []) b in
    absurd (both last.0 (blank_inside last.1 b last.0 (subst AreBlanks whole all)) (ends' last.0 last.1 last.2))
one_end (x ∷ v) [] a b ends ends' all others e =
    let last = last_of x v in
    let whole : b ≡ last.1 ++ last.0 ∷ a = sym e ∙ ap (λ t. t ++ a) last.2 ∙ append_assoc last.1 (last.0 ∷ []) a in
    absurd (both last.0 (blank_inside last.1 a last.0 (subst AreBlanks whole others)) (ends last.0 last.1 last.2))
one_end (x ∷ v) (y ∷ w) a b ends ends' all others e =
    let here : x ≡ y = cc in
    let left : v ++ a ≡ w ++ b = cc in
    ap (λ z. z ∷ v) here ∙ ap (λ t. y ∷ t) (one_end v w a b (ends_as (x ∷ []) v ends) (ends_as (y ∷ []) w ends') all others left)

bare_whole : (value after : List ℕ) → value ≢ [] → BeginsBare value → BeginsBare (value ++ after)
bare_whole [] after some bare b rest is = absurd (some refl)
bare_whole (x ∷ value) after some bare b rest is = let here : x ≡ b = cc in subst (λ y. is_blank y ≡ false) here (bare x value refl)

-- blanks alone hold no value
none_among : (between value after rest : List ℕ) → AreBlanks rest → BeginsBare value → rest ≡ between ++ (value ++ after) → value ≡ []
none_among between [] after rest all bare is = refl
none_among between (x ∷ value) after rest all bare is =
    absurd (both x (blank_inside between (value ++ after) x (subst AreBlanks is all)) (bare x value refl))

one_value : (between value after between' value' after' : List ℕ) → AreBlanks between → AreBlanks after → AreBlanks between' → AreBlanks after'
    → BeginsBare value → EndsBare value → BeginsBare value' → EndsBare value' → between ++ (value ++ after) ≡ between' ++ (value' ++ after') → value ≡ value'
one_value between [] after between' value' after' all later all' later' bare ends bare' ends' e =
    sym (none_among between' value' after' (between ++ after) (all-append (λ b. is_blank b ≡ true) between after all later) bare' e)
one_value between (x ∷ value) after between' [] after' all later all' later' bare ends bare' ends' e =
    none_among between (x ∷ value) after (between' ++ after') (all-append (λ b. is_blank b ≡ true) between' after' all' later') bare (sym e)
one_value between (x ∷ value) after between' (y ∷ value') after' all later all' later' bare ends bare' ends' e =
    let rest : (x ∷ value) ++ after ≡ (y ∷ value') ++ after' = same_rest between between' ((x ∷ value) ++ after) ((y ∷ value') ++ after') all all'
    (bare_whole (x ∷ value) after (λ none. cc) bare) (bare_whole (y ∷ value') after' (λ none. cc) bare') e in
    one_end (x ∷ value) (y ∷ value') after after' ends ends' later later' rest

-- the first byte of a name is no blank
name_begins : (name : List ℕ) → name ≢ [] → HasNoBlank name → (b : ℕ) × (rest : List ℕ) × (name ≡ b ∷ rest) × (is_blank b ≡ false)
name_begins [] some free = absurd (some refl)
name_begins (b ∷ rest) some free = (b, rest, refl, free.0)

pub one_setting : (line name value name' value' : List ℕ) → IsSetting line name value → IsSetting line name' value' → (name ≡ name') × (value ≡ value')
one_setting line name value name' value' one two =
    let tail = one.between ++ (value ++ one.after) in
    let tail' = two.between ++ (value' ++ two.after) in
    let first = name_begins name one.some one.no_blank in
    let first' = name_begins name' two.some two.no_blank in
    let lines : one.before ++ first.0 ∷ (first.1 ++ tail) ≡ two.before ++ first'.0 ∷ (first'.1 ++ tail') =
    sym (one.split ∙ ap (λ n. one.before ++ (n ++ tail)) first.2) ∙ two.split ∙ ap (λ n. two.before ++ (n ++ tail')) first'.2 in
    let same = same_first one.before two.before first.0 first'.0 (first.1 ++ tail) (first'.1 ++ tail') one.blanks.0 two.blanks.0 first.3 first'.3 lines in
    let whole : name ++ tail ≡ name' ++ tail' =
    ap (λ n. n ++ tail) first.2 ∙ ap (λ b. b ∷ (first.1 ++ tail)) same.1 ∙ ap (λ r. first'.0 ∷ r) same.2 ∙ sym (ap (λ n. n ++ tail') first'.2) in
    let cut = one_cut name name' tail tail' one.no_blank two.no_blank (follows one.between value one.after one.blanks.1 one.blanks.2 one.apart)
    (follows two.between value' two.after two.blanks.1 two.blanks.2 two.apart) whole in
    (cut.0, one_value one.between value one.after two.between value' two.after one.blanks.1 one.blanks.2 two.blanks.1 two.blanks.2 one.bare.0 one.bare.1 two.bare.0 two.bare.1 cut.1)
