-- What one line of a piece does, over plain views.
use Rattle.std.proofs.Common.{◌≡◌, ℕ, ◌+◌, ◌<◌, ◌≤◌, false, List, [], ◌∷◌, ◌++◌, length, take, get_or, Some, None, sym, ap, ◌∙◌, subst, arith, length-append, length-take, ⊎_elim}
use Rattle.std.proofs.lemmas.Bool.{cases_lt, eqb-true, false_from_ne_true}
use Rattle.std.proofs.lemmas.List.{length-take-le, take-take, take_more, get_or-take}
use Rattle.std.proofs.lemmas.List.Elements.{All-from_get_or}
use Rattle.memchr.specs.Find.{IsFirstByte, is_byte}
use Rattle.ga_batches.specs.Lines.{cut_line, cut_lines}
use Rattle.ga_batches.specs.Batches.{BatcherSeen, IsBatcher, IsFull, Feeds, held}
use Rattle.ga_batches.specs.Steps.{GoesOn, with_line_ended}
use Rattle.ga_base.specs.declared.limits.TheConstants.{LINE_FEED}
use Rattle.ga_batches.specs.declared.batcher.TheConstants.{LINE_HELD}
use Rattle.ga_batches.proofs.Cutting.{NoFeed, feeds, all-none, none-take}
use Rattle.ga_batches.proofs.Feeding.{begun-more, feeds-then, on-feeds, on-batcher, end-feeds}

-- where a search finds no line feed there is none
pub no-feed : (piece : List ℕ) → IsFirstByte (is_byte 10) piece None → NoFeed piece
no-feed piece none = all-none piece (All-from_get_or (λ x. feeds x ≡ false) piece 0 (λ i lt. false_from_ne_true _ (λ yes. none i (omega arith) lt yes)))

pub no-feed-before : (piece : List ℕ) (end : ℕ) → IsFirstByte (is_byte 10) piece (Some end) → NoFeed (take end piece)
no-feed-before piece end first =
    let inside : end < length piece = first.0.high in
    all-none (take end piece) (All-from_get_or (λ x. feeds x ≡ false) (take end piece) 0 (λ i lt.
    let below : i < end = omega (arith, length-take-le end piece (omega arith)) in
    let same : get_or (take end piece) i 0 ≡ get_or piece i 0 = get_or-take end piece i 0 below in
    false_from_ne_true _ (λ yes. first.0.before i (omega arith) below (ap feeds (sym same) ∙ yes))))

with-feed : (piece : List ℕ) (end : ℕ) → IsFirstByte (is_byte 10) piece (Some end) → take end piece ++ LINE_FEED ∷ [] ≡ take (end + 1) piece
with-feed piece end first =
    let byte : get_or piece end 0 ≡ LINE_FEED = eqb-true _ _ first.1 in
    ap (λ b. take end piece ++ b ∷ []) (sym byte) ∙ sym (take_more piece end 0 first.0.high)

-- ---- bytes without a line feed

on-limit : (taken : ℕ) (bytes : List ℕ) (old new : BatcherSeen) → GoesOn taken bytes old new → new.limit ≡ old.limit
on-limit taken bytes old new on = ap (λ (v : BatcherSeen). v.limit) on.value

pub on-before : (taken : ℕ) (bytes : List ℕ) (old new : BatcherSeen) → IsBatcher old → old.is_over ≡ false → NoFeed bytes → GoesOn taken bytes old new
    → (n : ℕ) → n < taken → length (cut_lines (held old ++ take n bytes)) < old.limit
on-before taken bytes old new is going none on n lt =
    subst (λ (x : List ℕ). length x < old.limit) (sym (begun-more old (take n bytes) is going (none-take n bytes none)))
    (let b = on.before n lt in omega (arith, length-append old.batch (cut_line (old.begun ++ take n bytes))))

pub on-kept : (taken : ℕ) (bytes : List ℕ) (old new : BatcherSeen) → IsBatcher old → old.is_over ≡ false → NoFeed bytes → GoesOn taken bytes old new → IsBatcher new
on-kept taken bytes old new is going none on =
    let room : length (old.batch ++ cut_line (old.begun ++ take taken bytes)) ≤ old.limit =
    subst (λ (v : BatcherSeen). length (held v) ≤ old.limit) on.value on.room in
    subst IsBatcher (sym on.value) (on-batcher taken bytes old is none room going)

-- a batcher that isn't full has room
pub not-full : (v : BatcherSeen) → IsBatcher v → ¬ IsFull v → length (held v) < v.limit
not-full v is not =
    let room = is.room in
    ⊎_elim (λ less. less) (λ more. let full : length (held v) ≡ v.limit = omega arith in absurd (not full)) (cases_lt (length (held v)) v.limit)

-- where nothing was taken nothing more is held
pub on-full-moves : (taken : ℕ) (bytes : List ℕ) (old new : BatcherSeen) → length (held old) < old.limit → GoesOn taken bytes old new → IsFull new → 0 < taken
on-full-moves taken bytes old new room on full =
    ⊎_elim
    (λ some. some)
    (λ none.
    let zero : taken ≡ 0 = omega arith in
    let value : new ≡ record old { begun = cut_line (old.begun ++ take 0 bytes); fed = old.fed + taken } =
    on.value ∙ ap (λ k. record old { begun = cut_line (old.begun ++ take k bytes); fed = old.fed + taken }) zero in
    let long : length (held new) ≡ length (old.batch ++ cut_line (old.begun ++ take 0 bytes)) = ap (λ (v : BatcherSeen). length (held v)) value in
    let limit = on-limit taken bytes old new on in
    absurd (omega (arith, length-append old.batch (cut_line (old.begun ++ take 0 bytes)), length-append old.batch old.begun, length-take LINE_HELD (old.begun ++ take 0 bytes), length-append old.begun (take 0 bytes), length-take 0 bytes)))
    (cases_lt 0 taken)

pub on-moves : (taken : ℕ) (bytes : List ℕ) (old new : BatcherSeen) → length (held old) < old.limit → 0 < length bytes → GoesOn taken bytes old new → 0 < taken
on-moves taken bytes old new room some on =
    ⊎_elim (λ moves. moves) (λ none. on-full-moves taken bytes old new room on (on.all (omega arith))) (cases_lt 0 taken)

-- ---- the first line of a piece

module _ (piece : List ℕ) (end taken : ℕ) (old mid : BatcherSeen) (first : IsFirstByte (is_byte 10) piece (Some end)) (is : IsBatcher old) (going : old.is_over ≡ false)
    (on : GoesOn taken (take end piece) old mid) where
  taken-part : take taken (take end piece) ≡ take taken piece
  taken-part = take-take taken end piece (let w = on.within in let inside = first.0.high in omega (arith, length-take-le end piece (omega arith)))

  pub part-feeds : Feeds (take taken piece) old mid
  part-feeds = subst (λ x. Feeds x old mid) taken-part (on-feeds taken (take end piece) old mid is going (no-feed-before piece end first) on)

  pub part-before : (n : ℕ) → n < taken → length (cut_lines (held old ++ take n piece)) < old.limit
  part-before n lt =
      let w = on.within in
      let inside = first.0.high in
      let same : take n (take end piece) ≡ take n piece = take-take n end piece (omega (arith, length-take-le end piece (omega arith))) in
      subst (λ x. length (cut_lines (held old ++ x)) < old.limit) same
      (on-before taken (take end piece) old mid is going (no-feed-before piece end first) on n lt)

  pub part-within : taken ≤ end
  part-within = let w = on.within in let inside = first.0.high in omega (arith, length-take-le end piece (omega arith))

  -- where it isn't full the whole line was taken
  pub part-whole : length (held mid) < mid.limit → taken ≡ end
  part-whole room =
      let inside = first.0.high in
      let w = part-within in
      ⊎_elim
      (λ less. let full = on.all (omega (arith, length-take-le end piece (omega arith))) in absurd (omega arith))
      (λ more. omega arith)
      (cases_lt taken end)

  pub line-feeds-whole : IsBatcher mid → length (held mid) < mid.limit → Feeds (take (end + 1) piece) old (with_line_ended mid)
  line-feeds-whole is-mid room =
      let whole = part-whole room in
      let fed : Feeds (take end piece) old mid = subst (λ k. Feeds (take k piece) old mid) whole part-feeds in
      subst (λ x. Feeds x old (with_line_ended mid)) (with-feed piece end first)
      (feeds-then (take end piece) (LINE_FEED ∷ []) old mid (with_line_ended mid) fed (end-feeds mid is-mid (part-feeds.going ∙ going)))

  pub line-before : length (held mid) < mid.limit → (n : ℕ) → n < end + 1 → length (cut_lines (held old ++ take n piece)) < old.limit
  line-before room n lt =
      let whole = part-whole room in
      ⊎_elim
      (λ less. part-before n (omega arith))
      (λ more.
      let at : n ≡ taken = omega arith in
      let limit = on-limit taken (take end piece) old mid on in
      subst (λ k. length (cut_lines (held old ++ take k piece)) < old.limit) (sym at)
      (subst (λ (x : List ℕ). length x < old.limit) part-feeds.lines (omega arith)))
      (cases_lt n taken)
