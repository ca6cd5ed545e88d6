-- Unsure places, counted, and the bytes that a crash leaves there.
use Rattle.std.proofs.Common.{◌≡◌, ◌≢◌, ◌⊎◌, inl, inr, ℕ, ◌+◌, ◌<◌, ◌≤◌, Bool, List, length, get_or, cond, refl, sym, ◌∙◌, ap, subst, arith}
use Rattle.std.proofs.Math.ListN.{set, get_or-eq_default}
use Rattle.std.specs.List.{range_with_len}
use Rattle.std.proofs.lemmas.Bool.{cases_lt}
use Rattle.std.proofs.lemmas.List.Sums.{count_by-le-length}
use Rattle.std.proofs.lemmas.List.FromFn.{length-range_with_len, sum_by-map-range_with_len_more, get_or-map-range_with_len, length-map-range_with_len}
use Rattle.std.proofs.lemmas.List.{map-id, get_or-set_other}
use Rattle.std.proofs.lemmas.Grind.{get_or-set_at, same_number_lists}
use Rattle.ga_disk.specs.SideState.{SideState, is_unsure}
use Rattle.ga_disk.specs.Pick.{byte_left, bytes_left, length_left, picked, unsure_below}
use Rattle.ga_disk.specs.declared.span.Span.{Span}

pub few-below : (changed : List Span) (synced n : ℕ) → unsure_below changed synced n ≤ n
few-below changed synced n = omega (arith, count_by-le-length (is_unsure changed synced) (range_with_len 0 n), length-range_with_len 0 n)

pub one-more : (changed : List Span) (synced n : ℕ)
    → unsure_below changed synced (n + 1) ≡ unsure_below changed synced n + cond (is_unsure changed synced n) 1 0
one-more changed synced n =
    simp map-id at (sum_by-map-range_with_len_more (λ x. cond (is_unsure changed synced x) 1 0) (λ x. x) 0 n n (omega arith))

-- the bytes up to a place are as a crash leaves them, and the others as they were
pub record HasCome (changed : List Span) (synced : ℕ) (pick : List ℕ) (used : ℕ) (old : List ℕ) (at next : ℕ) (bytes : List ℕ) : Type 0 where
  pub counted : next ≡ used + unsure_below changed synced at
  pub done : (i : ℕ) → i < at → get_or bytes i 0 ≡ byte_left pick used changed synced old i
  pub rest : (i : ℕ) → at ≤ i → get_or bytes i 0 ≡ get_or old i 0

-- the byte that a step puts at its place
abbrev pub put_at : Bool → List ℕ → ℕ → ℕ → ℕ
put_at unsure pick next byte = cond unsure (picked pick next byte) byte

module _ (changed : List Span) (synced : ℕ) (pick : List ℕ) (used : ℕ) (old : List ℕ) (at next : ℕ) (bytes : List ℕ)
    (come : HasCome changed synced pick used old at next bytes) (within : at < length bytes) where
  put-is-left : put_at (is_unsure changed synced at) pick next (get_or bytes at 0) ≡ byte_left pick used changed synced old at
  put-is-left = rw (come.counted, come.rest at (omega arith)) refl

  pub come-further : (unsure : Bool) (next' byte : ℕ) (bytes' : List ℕ) → is_unsure changed synced at ≡ unsure → next' ≡ next + cond unsure 1 0
      → byte ≡ put_at unsure pick next (get_or bytes at 0) → bytes' ≡ set bytes at byte → HasCome changed synced pick used old (at + 1) next' bytes'
  come-further unsure next' byte bytes' is more put step = record {
    counted = more ∙ ap (λ (n : ℕ). n + cond unsure 1 0) come.counted
        ∙ (let one = rw is at (one-more changed synced at) in omega (arith, one));
    done = λ i before. by-place i (cases_lt i at) before;
    rest = λ i later.
        let other : i ≢ at = omega arith in
        ap (λ (b : List ℕ). get_or b i 0) step ∙ get_or-set_other bytes at i byte 0 other ∙ come.rest i (omega arith);
  }
    where
      by-place : (i : ℕ) → (i < at) ⊎ (at ≤ i) → i < at + 1 → get_or bytes' i 0 ≡ byte_left pick used changed synced old i
      by-place i (inl first) before =
          let other : i ≢ at = omega arith in
          ap (λ (b : List ℕ). get_or b i 0) step ∙ get_or-set_other bytes at i byte 0 other ∙ come.done i first
      by-place i (inr here) before =
          let same : i ≡ at = omega arith in
          ap (λ (b : List ℕ). get_or b i 0) step ∙ get_or-set_at bytes at i byte 0 same within ∙ put
          ∙ rw (← is) put-is-left ∙ ap (byte_left pick used changed synced old) (sym same)

-- the bytes of a side after a crash, from those brought to their length before
pub all-left : (pick : List ℕ) (used : ℕ) (s : SideState) (sized bytes : List ℕ) → length sized ≡ length_left pick s
    → ((i : ℕ) → i < length_left pick s → get_or sized i 0 ≡ get_or s.bytes i 0) → length bytes ≡ length sized
    → ((i : ℕ) → i < length sized → get_or bytes i 0 ≡ byte_left pick used s.changed s.synced sized i) → bytes ≡ bytes_left pick used s
all-left pick used s sized bytes long same kept left =
    let n : ℕ = length_left pick s in
    let f = byte_left pick used s.changed s.synced s.bytes in
    same_number_lists bytes (bytes_left pick used s) (kept ∙ long ∙ sym (length-map-range_with_len f 0 n)) (λ i before.
    let in_sized : i < length sized = omega arith in
    let in_left : i < length_left pick s = omega arith in
    left i in_sized
    ∙ ap (λ (byte : ℕ). cond (is_unsure s.changed s.synced i) (picked pick (used + unsure_below s.changed s.synced i) byte) byte) (same i in_left)
    ∙ sym (get_or-map-range_with_len f 0 n i i 0 in_left (omega arith)))

-- the same from lent rows
pub all-left-lent : (pick : List ℕ) (used : ℕ) (s : SideState) (changed : List Span) (sized lent bytes : List ℕ) → changed ≡ s.changed → lent ≡ sized
    → length sized ≡ length_left pick s → ((i : ℕ) → i < length_left pick s → get_or sized i 0 ≡ get_or s.bytes i 0) → length bytes ≡ length sized
    → ((i : ℕ) → i < length lent → get_or bytes i 0 ≡ byte_left pick used changed s.synced lent i) → bytes ≡ bytes_left pick used s
all-left-lent pick used s changed sized lent bytes ranges is long same kept left =
    all-left pick used s sized bytes long same kept (λ i before.
    let at_lent = left i (subst (λ (l : List ℕ). i < length l) (sym is) before) in
    let at_sized = subst (λ (l : List ℕ). get_or bytes i 0 ≡ byte_left pick used changed s.synced l i) is at_lent in
    subst (λ (c : List Span). get_or bytes i 0 ≡ byte_left pick used c s.synced sized i) ranges at_sized)

-- a row brought to a length keeps its bytes, and is 0 after them
pub sized-same : (old sized : List ℕ) (n : ℕ) → ((i : ℕ) → i < n → i < length old → get_or sized i 0 ≡ get_or old i 0)
    → ((i : ℕ) → length old ≤ i → i < n → get_or sized i 0 ≡ 0) → (i : ℕ) → i < n → get_or sized i 0 ≡ get_or old i 0
sized-same old sized n front behind i before = by-place (cases_lt i (length old))
  where
    by-place : (i < length old) ⊎ (length old ≤ i) → get_or sized i 0 ≡ get_or old i 0
    by-place (inl first) = front i before first
    by-place (inr past) = behind i past before ∙ sym (get_or-eq_default old 0 past)
