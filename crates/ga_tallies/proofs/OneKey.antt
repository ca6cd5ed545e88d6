-- What a line counts for, where it is counted under one key more.
use Rattle.std.proofs.Common.{◌≡◌, ℕ, Bool, true, false, cond, ◌||◌, ◌&&◌, List, [], ◌∷◌, ◌++◌, Option, length, sum_by, refl, sym, ap, ◌∙◌, subst, arith}
use Rattle.std.specs.List.{list_any}
use Rattle.std.proofs.lemmas.Bool.{true≢false}
use Rattle.std.proofs.lemmas.List.{nil_from_length}
use Rattle.std.proofs.lemmas.List.Folds.{list_any-append}
use Rattle.ga_base.specs.declared.counts.Sums.{Sums}
use Rattle.ga_base.specs.declared.key.Key.{Key}
use Rattle.ga_base.specs.declared.key.Visitor.{Visitor}
use Rattle.ga_base.specs.Orders.{is_same_key}
use Rattle.ga_summary.specs.OneLine.{line_sums, line_totals}
use Rattle.ga_summary.specs.Outcomes.{Hit, Outcome, Counted, has_key, is_by, greatest_time, hits_at, sums_of, has_visit, totals_of}
use Rattle.ga_summary.specs.SummaryRows.{no_sums, sums_plus}
use Rattle.ga_base.specs.Totals.{totals_plus}
use Rattle.ga_summary.proofs.Appends.{sums_of-append, has_visit-append, totals_of-append}
use Rattle.ga_summary.proofs.Lines.{same_totals}
use Rattle.ga_summary.proofs.Merging.{same_sums, sums_plus-none}
use Rattle.ga_numbers.proofs.Noted.{or-false}
use Rattle.ga_numbers.proofs.Same.{same-key}

-- a line under these keys
abbrev pub hit_under : List Key → Option Visitor → ℕ → ℕ → Hit
hit_under keys visitor bytes micros = record { keys = keys; visitor = visitor; bytes = bytes; micros = micros }

-- the more are the less, but that the last line is counted under one key more
pub record HasKeyMore (key : Key) (visitor : Option Visitor) (line : Sums) (less more : List Outcome) : Type 0 where
  pub totals : totals_of more ≡ totals_of less
  pub sums : (k : Key) → sums_of k more ≡ cond (is_same_key k key) (sums_plus (sums_of k less) line) (sums_of k less)
  pub visits : (k : Key) (v : Visitor) → has_visit k v more ≡ (has_visit k v less || (is_same_key k key && is_by v visitor))

-- what one line counts for
pub one-sums : (key : Key) (hit : Hit) → sums_of key (Counted hit ∷ []) ≡ cond (has_key key hit) (line_sums hit.bytes hit.micros) no_sums
one-sums key hit = split (has_key key hit)
  where
    weigh : List Hit → Sums
    weigh hits = record { hits = length hits; bytes = sum_by (λ (h : Hit). h.bytes) hits; micros = sum_by (λ (h : Hit). h.micros) hits; max_micros = greatest_time hits }

    split : (b : Bool) → weigh (cond b (hit ∷ []) []) ≡ cond b (line_sums hit.bytes hit.micros) no_sums
    split true = same_sums _ _ refl (omega arith) (omega arith) (omega arith)
    split false = refl

pub one-visit : (key : Key) (visitor : Visitor) (hit : Hit) → has_visit key visitor (Counted hit ∷ []) ≡ (has_key key hit && is_by visitor hit.visitor)
one-visit key visitor hit = split (has_key key hit)
  where
    split : (b : Bool) → list_any (λ (h : Hit). is_by visitor h.visitor) (cond b (hit ∷ []) []) ≡ (b && is_by visitor hit.visitor)
    split true = or-false _
    split false = refl

pub one-totals : (hit : Hit) → totals_of (Counted hit ∷ []) ≡ line_totals hit.bytes hit.micros
one-totals hit = same_totals _ _ refl refl refl refl (omega arith) (omega arith)

-- where no counted line has the key, there are no sums
pub sums-none : (key : Key) (outcomes : List Outcome) → (sums_of key outcomes).hits ≡ 0 → sums_of key outcomes ≡ no_sums
sums-none key outcomes e = ap weigh (nil_from_length (hits_at key outcomes) e)
  where
    weigh : List Hit → Sums
    weigh hits = record { hits = length hits; bytes = sum_by (λ (h : Hit). h.bytes) hits; micros = sum_by (λ (h : Hit). h.micros) hits; max_micros = greatest_time hits }

sums-behind : (key : Key) (before : List Outcome) (hit : Hit) → sums_of key (before ++ Counted hit ∷ []) ≡ sums_plus (sums_of key before) (cond (has_key key hit) (line_sums hit.bytes hit.micros) no_sums)
sums-behind key before hit = sums_of-append key before (Counted hit ∷ []) ∙ ap (sums_plus (sums_of key before)) (one-sums key hit)

visit-behind : (key : Key) (visitor : Visitor) (before : List Outcome) (hit : Hit) → has_visit key visitor (before ++ Counted hit ∷ []) ≡ (has_visit key visitor before || (has_key key hit && is_by visitor hit.visitor))
visit-behind key visitor before hit = has_visit-append key visitor before (Counted hit ∷ []) ∙ ap (λ b. has_visit key visitor before || b) (one-visit key visitor hit)

totals-behind : (before : List Outcome) (hit : Hit) → totals_of (before ++ Counted hit ∷ []) ≡ totals_plus (totals_of before) (line_totals hit.bytes hit.micros)
totals-behind before hit = totals_of-append before (Counted hit ∷ []) ∙ ap (totals_plus (totals_of before)) (one-totals hit)

module _ (before : List Outcome) (visitor : Option Visitor) (bytes micros : ℕ) where
  abbrev under : List Key → List Outcome
  under keys = before ++ Counted (hit_under keys visitor bytes micros) ∷ []

  -- a line under no keys adds to the totals alone
  pub no-key-sums : (key : Key) → sums_of key (under []) ≡ sums_of key before
  no-key-sums key = sums-behind key before (hit_under [] visitor bytes micros) ∙ sums_plus-none (sums_of key before)

  pub no-key-visits : (key : Key) (v : Visitor) → has_visit key v (under []) ≡ has_visit key v before
  no-key-visits key v = visit-behind key v before (hit_under [] visitor bytes micros) ∙ or-false _

  pub totals-under : (keys : List Key) → totals_of (under keys) ≡ totals_plus (totals_of before) (line_totals bytes micros)
  totals-under keys = totals-behind before (hit_under keys visitor bytes micros)

  pub key-more : (keys : List Key) (key : Key) → list_any (is_same_key key) keys ≡ false → HasKeyMore key visitor (line_sums bytes micros) (under keys) (under (keys ++ key ∷ []))
  key-more keys key fresh = record {
    totals = totals-under (keys ++ key ∷ []) ∙ sym (totals-under keys);
    sums = sums;
    visits = visits;
  }
    where
      more : Hit
      more = hit_under (keys ++ key ∷ []) visitor bytes micros

      has : (k : Key) → has_key k more ≡ (list_any (is_same_key k) keys || is_same_key k key)
      has k = list_any-append (is_same_key k) keys (key ∷ []) ∙ ap (λ b. list_any (is_same_key k) keys || b) (or-false (is_same_key k key))

      absent : (k : Key) → is_same_key k key ≡ true → list_any (is_same_key k) keys ≡ false
      absent k e = subst (λ (x : Key). list_any (is_same_key x) keys ≡ false) (sym (same-key k key e)) fresh

      line : Sums
      line = line_sums bytes micros

      spread : (s : Sums) (a b : Bool) → (b ≡ true → a ≡ false)
          → sums_plus s (cond (a || b) line no_sums) ≡ cond b (sums_plus (sums_plus s (cond a line no_sums)) line) (sums_plus s (cond a line no_sums))
      spread s true true h = absurd (true≢false (h refl))
      spread s true false h = refl
      spread s false true h = ap (λ (t : Sums). sums_plus t line) (sym (sums_plus-none s))
      spread s false false h = refl

      sums : (k : Key) → sums_of k (under (keys ++ key ∷ [])) ≡ cond (is_same_key k key) (sums_plus (sums_of k (under keys)) line) (sums_of k (under keys))
      sums k =
          sums-behind k before more ∙ ap (λ b. sums_plus (sums_of k before) (cond b line no_sums)) (has k)
          ∙ spread (sums_of k before) (list_any (is_same_key k) keys) (is_same_key k key) (absent k)
          ∙ ap (λ (s : Sums). cond (is_same_key k key) (sums_plus s line) s) (sym (sums-behind k before (hit_under keys visitor bytes micros)))

      parted : (x a b w : Bool) → (x || ((a || b) && w)) ≡ ((x || (a && w)) || (b && w))
      parted true a b w = refl
      parted false true true true = refl
      parted false true true false = refl
      parted false true false true = refl
      parted false true false false = refl
      parted false false b w = refl

      visits : (k : Key) (v : Visitor) → has_visit k v (under (keys ++ key ∷ [])) ≡ (has_visit k v (under keys) || (is_same_key k key && is_by v visitor))
      visits k v =
          visit-behind k v before more ∙ ap (λ b. has_visit k v before || (b && is_by v visitor)) (has k)
          ∙ parted (has_visit k v before) (list_any (is_same_key k) keys) (is_same_key k key) (is_by v visitor)
          ∙ ap (λ b. b || (is_same_key k key && is_by v visitor)) (sym (visit-behind k v before (hit_under keys visitor bytes micros)))
