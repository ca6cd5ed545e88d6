-- A line fits a format in one way.
use Rattle.std.proofs.Common.{◌≡◌, ℕ, suc, Bool, false, true, List, [], ◌∷◌, ◌++◌, Option, Some, None, refl, sym, ap, ◌∙◌, subst, arith, inl, inr, ⊎_elim}
use Rattle.std.proofs.lemmas.Bool.{false≢true}
use Rattle.std.specs.List.{AllPass}
use Rattle.ga_base.specs.declared.formats.FormatItem.{FormatItem}
use Rattle.ga_base.specs.declared.formats.FormatItem.TheVariants.{Literal, Skip, Field, Forwarded}
use Rattle.bstr.specs.Bytes.{is_in}
use Rattle.ga_line.specs.Fits.{Part, Fits, IsForwarded, host_part, SkipsSpace, is_space}
use Rattle.ga_line.specs.Forwarded.{FirstAddress, entries}
use Rattle.ga_line.proofs.ChainLemmas.{chain-unique}
use Rattle.ga_line.proofs.FreeLemmas.{EndsAt-unique}

tail : (x y : ℕ) (xs ys : List ℕ) → x ∷ xs ≡ y ∷ ys → xs ≡ ys
tail x y xs ys e = cc

space-longest : (space after after' : List ℕ) → AllPass is_space space → ((b : ℕ) (more : List ℕ) → after' ≡ b ∷ more → is_space b ≡ false) → after' ≡ space ++ after
    → ((b : ℕ) (more : List ℕ) → after ≡ b ∷ more → is_space b ≡ false) → after' ≡ after
space-longest [] after after' all stops e stops' = e
space-longest (b ∷ space) after after' all stops e stops' =
    let blank : is_space b ≡ true = all 0 0 (omega arith) in
    absurd (false≢true (sym (stops b (space ++ after) e) ∙ blank))

-- the longest run of white space is one
space-unique : (space space' after after' : List ℕ) → space ++ after ≡ space' ++ after' → AllPass is_space space → AllPass is_space space'
    → ((b : ℕ) (more : List ℕ) → after ≡ b ∷ more → is_space b ≡ false) → ((b : ℕ) (more : List ℕ) → after' ≡ b ∷ more → is_space b ≡ false) → after ≡ after'
space-unique [] space' after after' e all all' stops stops' = space-longest space' after' after all' stops e stops'
space-unique (b ∷ space) [] after after' e all all' stops stops' = sym (space-longest (b ∷ space) after after' all stops' (sym e) stops)
space-unique (b ∷ space) (b' ∷ space') after after' e all all' stops stops' =
    space-unique space space' after after' (tail _ _ _ _ e) (λ k d lt. all (suc k) d (omega arith)) (λ k d lt. all' (suc k) d (omega arith)) stops stops'

pub SkipsSpace-unique : (rest after after' : List ℕ) → SkipsSpace rest after → SkipsSpace rest after' → after ≡ after'
SkipsSpace-unique rest after after' one two =
    space-unique one.run.0 two.run.0 after after' (sym one.run.1 ∙ two.run.1) one.run.2 two.run.2 one.longest two.longest

no-byte : (b : ℕ) (xs : List ℕ) → [] ≡ b ∷ xs → ⊥
no-byte b xs e = cc

-- the first address of some texts is one
first-unique : (texts : List (List ℕ)) (host host' : Option (List ℕ)) → FirstAddress texts host → FirstAddress texts host' → host ≡ host'
first-unique [] host host' one two = one ∙ sym two
first-unique (text ∷ texts) host host' (inl one) (inl two) = one.1 ∙ sym two.1
first-unique (text ∷ texts) host host' (inl one) (inr two) = absurd (two.0 one.0)
first-unique (text ∷ texts) host host' (inr one) (inl two) = absurd (one.0 two.0)
first-unique (text ∷ texts) host host' (inr one) (inr two) = first-unique texts host host' one.1 two.1

-- a forwarded field has one host, and one place where it ends
pub forwarded-unique : (chained : Bool) (separators : List ℕ) (stop : ℕ) (rest : List ℕ) (host left host' left' : Option (List ℕ))
    → IsForwarded chained separators stop rest host left → IsForwarded chained separators stop rest host' left' → (host ≡ host') × (left ≡ left')
forwarded-unique false separators stop rest host None host' None one two = (first-unique (entries separators rest) host host' one.1 two.1, refl)
forwarded-unique false separators stop rest host None host' (Some after') one two = absurd (one.0 two.0 after' two.1)
forwarded-unique false separators stop rest host (Some after) host' None one two = absurd (two.0 one.0 after one.1)
forwarded-unique false separators stop rest host (Some after) host' (Some after') one two =
    let same = EndsAt-unique stop rest one.0 after two.0 after' one.1 two.1 in
    (first-unique (entries separators two.0) host host' (subst (λ (t : List ℕ). FirstAddress (entries separators t) host) same.0 one.2) two.2, ap Some same.1)
forwarded-unique true separators stop rest None left host' left' one two = absurd one
forwarded-unique true separators stop rest (Some host) left None left' one two = absurd two
forwarded-unique true separators stop rest (Some host) None (Some host') None one two = (ap Some (chain-unique separators rest host [] host' [] one two).0, refl)
forwarded-unique true separators stop rest (Some host) None (Some host') (Some after') one two = absurd (no-byte stop after' (chain-unique separators rest host [] host' (stop ∷ after') one two).1)
forwarded-unique true separators stop rest (Some host) (Some after) (Some host') None one two = absurd (no-byte stop after (sym (chain-unique separators rest host (stop ∷ after) host' [] one two).1))
forwarded-unique true separators stop rest (Some host) (Some after) (Some host') (Some after') one two =
    let same = chain-unique separators rest host (stop ∷ after) host' (stop ∷ after') one two in
    (ap Some same.0, ap Some (tail _ _ _ _ same.1))

None≢Some : {x : List ℕ} → None ≡ Some x → ⊥
None≢Some e = cc

same-Some : {x y : List ℕ} → Some x ≡ Some y → x ≡ y
same-Some e = cc

last-unique : (separators rest : List ℕ) (p q : List Part) → Fits (Forwarded separators ∷ []) rest p → Fits (Forwarded separators ∷ []) rest q → p ≡ q
last-unique separators rest p q f g =
    let same = chain-unique separators rest f.0 f.2 g.0 g.2 (f.1, f.3) (g.1, g.3) in f.4 ∙ ap (λ (h : List ℕ). host_part (Some h)) same.0 ∙ sym g.4

-- a line fits a format in one way
pub Fits-unique : (items : List FormatItem) (rest : List ℕ) (p q : List Part) → Fits items rest p → Fits items rest q → p ≡ q
Fits-unique [] rest p q f g = f ∙ sym g
Fits-unique (Literal b ∷ items) rest p q f g =
    Fits-unique items g.0 p q (subst (λ a. Fits items a p) (tail b b f.0 g.0 (sym f.1 ∙ g.1)) f.2) g.2
Fits-unique (Skip ∷ items) rest p q f g =
    Fits-unique items g.0 p q (subst (λ a. Fits items a p) (SkipsSpace-unique rest f.0 g.0 f.1 g.1) f.2) g.2
Fits-unique (Field letter ∷ []) rest p q f g = f ∙ sym g
Fits-unique (Field letter ∷ Literal stop ∷ items) rest p q f g =
    ⊎_elim
    (λ whole. ⊎_elim (λ whole'. whole.1 ∙ sym whole'.1) (λ cut'. absurd (whole.0 cut'.0 cut'.1 cut'.3)) g)
    (λ cut. ⊎_elim
    (λ whole'. absurd (whole'.0 cut.0 cut.1 cut.3))
    (λ cut'.
    let same = EndsAt-unique stop rest cut.0 cut.1 cut'.0 cut'.1 cut.3 cut'.3 in
    let later = Fits-unique items cut'.1 cut.2 cut'.2 (subst (λ a. Fits items a cut.2) same.1 cut.5) cut'.5 in
    cut.4 ∙ ap (λ t. (letter, t) ∷ cut.2) same.0 ∙ ap (λ ps. (letter, cut'.0) ∷ ps) later ∙ sym cut'.4)
    g)
    f
Fits-unique (Field letter ∷ Skip ∷ items) rest p q f g = f ∙ sym g
Fits-unique (Field letter ∷ Field other ∷ items) rest p q f g = f ∙ sym g
Fits-unique (Field letter ∷ Forwarded separators ∷ items) rest p q f g = f ∙ sym g
Fits-unique (Forwarded separators ∷ []) rest p q f g = last-unique separators rest p q f g
Fits-unique (Forwarded separators ∷ Literal stop ∷ items) rest p q f g =
    ⊎_elim
    (λ whole. ⊎_elim
    (λ whole'. whole.2 ∙ ap host_part (same whole.0 None whole'.0 None whole.1 whole'.1).0 ∙ sym whole'.2)
    (λ cut'. absurd (None≢Some (same whole.0 None cut'.0 (Some cut'.1) whole.1 cut'.3).1)) g)
    (λ cut. ⊎_elim
    (λ whole'. absurd (None≢Some (sym (same cut.0 (Some cut.1) whole'.0 None cut.3 whole'.1).1)))
    (λ cut'.
    let is = same cut.0 (Some cut.1) cut'.0 (Some cut'.1) cut.3 cut'.3 in
    let later = Fits-unique items cut'.1 cut.2 cut'.2 (subst (λ a. Fits items a cut.2) (same-Some is.1) cut.5) cut'.5 in
    cut.4 ∙ ap (λ h. host_part h ++ cut.2) is.0 ∙ ap (λ ps. host_part cut'.0 ++ ps) later ∙ sym cut'.4)
    g)
    f
  where
    same : (host left host' left' : Option (List ℕ)) → IsForwarded (is_in separators stop) separators stop rest host left → IsForwarded (is_in separators stop) separators stop rest host' left'
        → (host ≡ host') × (left ≡ left')
    same = forwarded-unique (is_in separators stop) separators stop rest
Fits-unique (Forwarded separators ∷ Skip ∷ items) rest p q f g = last-unique separators rest p q f g
Fits-unique (Forwarded separators ∷ Field other ∷ items) rest p q f g = last-unique separators rest p q f g
Fits-unique (Forwarded separators ∷ Forwarded others ∷ items) rest p q f g = last-unique separators rest p q f g
