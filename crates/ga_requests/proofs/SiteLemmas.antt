-- Which site a referrer names.
use Rattle.std.proofs.Common.{◌≡◌, ◌↔◌, ℕ, ◌-◌, ◌≤◌, Bool, IsTrue, List, [], ◌++◌, length, take, drop, Some, None, Result, Ok, Err, OnErr, MatchBool, refl, sym, ap, ◌∙◌, subst, arith, length-append, append_assoc, ⊎_elim}
use Rattle.std.specs.Prelude.{codes}
use Rattle.std.specs.List.{before_first}
use Rattle.std.specs.Str.Iter.{HasSubslice}
use Rattle.std.specs.Str.Pattern.{FindsText, HasMatch, LacksTextAt, SplitsAroundMatch}
use Rattle.std.proofs.lemmas.Bool.{cases_lt}
use Rattle.std.proofs.lemmas.List.{drop_at, take-append-drop}
use Rattle.std.proofs.lemmas.List.Prefix.{end_rest}
use Rattle.std.proofs.lemmas.Str.Pattern.{contains_text}
use Rattle.ga_requests.specs.Referrers.{FollowsFirst, Names, SiteIs, IsGoogle, ends_site}

module _ (mark text : List ℕ) where
  pub follows-split : (front rest : List ℕ) → SplitsAroundMatch (FindsText mark) text front rest → FollowsFirst mark text rest
  follows-split front rest cut =
      let joined : text ≡ take cut.0 text ++ (mark ++ rest) =
      sym (take-append-drop cut.0 text) ∙ ap (λ r. take cut.0 text ++ r) (cut.2.1.split ∙ ap (λ r. mark ++ r) (sym cut.4)) in
      let size : length (take cut.0 text) ≡ cut.0 = ap length (sym cut.3) ∙ cut.6 in
      record {
        split = (take cut.0 text, joined);
        first = λ sooner later e.
            ⊎_elim (λ lt. absurd (cut.2.0 (length sooner) lt later (ap (drop (length sooner)) e ∙ drop_at sooner (mark ++ later) (length sooner) refl)))
            (λ le. omega (arith, ap length joined, ap length e, length-append (take cut.0 text) (mark ++ rest), length-append mark rest, length-append sooner (mark ++ later), length-append mark later))
            (cases_lt (length sooner) cut.0);
      }

  pub follows-nowhere : ((k : ℕ) → k ≤ length text → LacksTextAt mark text k) → (rest : List ℕ) → FollowsFirst mark text rest → ⊥
  follows-nowhere lacks rest follows =
      let front = follows.split.0 in
      lacks (length front) (omega (arith, ap length follows.split.1, length-append front (mark ++ rest))) rest
      (ap (drop (length front)) follows.split.1 ∙ drop_at front (mark ++ rest) (length front) refl)

  pub follows-same : (rest other : List ℕ) → FollowsFirst mark text rest → FollowsFirst mark text other → rest ≡ other
  follows-same rest other one two =
      let e1 : text ≡ (one.split.0 ++ mark) ++ rest = one.split.1 ∙ sym (append_assoc one.split.0 mark rest) in
      let e2 : text ≡ (two.split.0 ++ mark) ++ other = two.split.1 ∙ sym (append_assoc two.split.0 mark other) in
      let low = one.first two.split.0 other two.split.1 in
      let high = two.first one.split.0 rest one.split.1 in
      let same : length rest ≡ length other = omega (arith, low, high) in
      sym (end_rest text rest (one.split.0 ++ mark) e1) ∙ ap (λ n. drop (length text - n) text) same ∙ end_rest text other (two.split.0 ++ mark) e2

module _ (referrer : List ℕ) where
  pub names-same : (site other : List ℕ) → Names referrer site → Names referrer other → site ≡ other
  names-same site other one two =
      one.2 ∙ ap (λ rest. before_first ends_site rest) (follows-same (codes "://") referrer one.0 two.0 one.1 two.1) ∙ sym two.2

  pub no-mark : ((k : ℕ) → k ≤ length referrer → LacksTextAt (codes "://") referrer k) → SiteIs referrer None
  no-mark lacks site names = absurd (follows-nowhere (codes "://") referrer lacks names.0 names.1)

  pub empty-site : (site : List ℕ) → Names referrer site → site ≡ [] → SiteIs referrer None
  empty-site site names none other also = names-same other site also names ∙ none

  pub google-none : SiteIs referrer None → IsGoogle referrer → ⊥
  google-none none google = google.1.1 (none google.0 google.1.0)

  -- a search of the site answers whether it is one of Google's
  pub google-some : (site : List ℕ) (r : Bool) → SiteIs referrer (Some site) → MatchBool r (HasMatch (FindsText (codes "google.")) site) (FindsText (codes "google.") site None) → IsTrue r ↔ IsGoogle referrer
  google-some site r is found =
      let holds = contains_text r (codes "google.") site found in (
        λ yes. (site, is, holds.0 yes),
        λ google. holds.1 (subst (λ s. HasSubslice s (codes "google.")) (names-same google.0 site google.1.0 is.0) google.2),
      )

  -- memory may be wanted where the site is one of Google's
  pub google-wants : {A E : Type 0} → (r : Result A E) → IsGoogle referrer → OnErr r (IsGoogle referrer)
  google-wants (Ok answer) google = tt
  google-wants (Err e) google = google
