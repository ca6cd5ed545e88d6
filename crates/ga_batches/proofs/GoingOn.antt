-- What adding to the begun line leaves, over plain views.
use Rattle.std.proofs.Common.{◌≡◌, ℕ, ◌+◌, ◌-◌, ◌<◌, ◌≤◌, min, List, [], ◌∷◌, ◌++◌, length, take, drop, sym, ap, ◌∙◌, subst, arith, length-append, length-take, take_all, ⊎_elim, Bool, true, false}
use Rattle.std.proofs.Math.Seq.{take-append-add}
use Rattle.std.proofs.lemmas.Bool.{cases_lt, false≢true}
use Rattle.std.proofs.lemmas.List.{take_min, take-append-le, drop-append-le, take-append-drop, take-take, drop_all}
use Rattle.ga_batches.specs.Lines.{cut_line}
use Rattle.ga_batches.specs.Batches.{BatcherSeen, IsBatcher, held}
use Rattle.ga_batches.specs.Steps.{GoesOn, with_line_ended}
use Rattle.ga_base.specs.declared.limits.TheConstants.{LINE_FEED}
use Rattle.ga_batches.specs.declared.batcher.TheConstants.{LINE_HELD}
use Rattle.ga_batches.proofs.Cutting.{NoFeed, none-append}
use Rattle.ga_batches.proofs.Feeding.{end-batcher, kept-batcher, dropped-batcher}
use Rattle.std.specs.Prelude.{Result, Ok, Err, IsOk, is_ok, if◌then◌else◌}

-- the front of two lists, where the first is within it
take-behind : (n : ℕ) (xs ys : List ℕ) → length xs ≤ n → take n (xs ++ ys) ≡ xs ++ take (n - length xs) ys
take-behind n xs ys short =
    let sum : length xs + (n - length xs) ≡ n = omega arith in
    ap (λ (k : ℕ). take k (xs ++ ys)) (sym sum) ∙ take-append-add xs ys (n - length xs)

module _ (bytes : List ℕ) (kept taken : ℕ) (old : BatcherSeen) (is : IsBatcher old) (room : length (held old) < old.limit)
    (part : kept ≡ min (min (length bytes) (LINE_HELD - length old.begun)) (old.limit - length (held old)))
    (more : length (held old) + kept < old.limit → taken ≡ length bytes) (full : old.limit ≤ length (held old) + kept → taken ≡ kept) where
  sizes : length (held old) ≡ length old.batch + length old.begun
  sizes = length-append old.batch old.begun

  same-line : old.begun ++ take kept bytes ≡ cut_line (old.begun ++ take taken bytes)
  same-line =
      let short = is.short in
      ⊎_elim
      (λ less.
      let all : taken ≡ length bytes = more less in
      let kept' : kept ≡ min (LINE_HELD - length old.begun) (length bytes) = omega arith in
      ap (λ (k : ℕ). old.begun ++ take k bytes) kept'
      ∙ ap (λ (xs : List ℕ). old.begun ++ xs) (take_min (LINE_HELD - length old.begun) bytes)
      ∙ sym (take-behind LINE_HELD old.begun bytes short)
      ∙ ap (λ (xs : List ℕ). take LINE_HELD (old.begun ++ xs)) (sym (take_all taken bytes (omega arith))))
      (λ filled.
      let same : taken ≡ kept = full filled in
      ap (λ (k : ℕ). old.begun ++ take k bytes) (sym same)
      ∙ sym (take_all LINE_HELD (old.begun ++ take taken bytes) (omega (arith, length-append old.begun (take taken bytes), length-take taken bytes))))
      (cases_lt (length (held old) + kept) old.limit)

  taken-within : taken ≤ length bytes
  taken-within = ⊎_elim (λ less. let all = more less in omega arith) (λ filled. let same = full filled in omega arith) (cases_lt (length (held old) + kept) old.limit)

  held-now : length (old.batch ++ (old.begun ++ take kept bytes)) ≡ length (held old) + kept
  held-now = omega (arith, sizes, length-append old.batch (old.begun ++ take kept bytes), length-append old.begun (take kept bytes), length-take kept bytes)

  pub goes-on : GoesOn taken bytes old record old { begun = old.begun ++ take kept bytes; fed = old.fed + taken }
  goes-on = record {
    within = taken-within;
    value = ap (λ (xs : List ℕ). record old { begun = xs; fed = old.fed + taken }) same-line;
    room = let now = held-now in omega arith;
    all = λ less.
        let now = held-now in
        ⊎_elim
        (λ below. let all = more below in absurd (omega arith))
        (λ filled. omega arith)
        (cases_lt (length (held old) + kept) old.limit);
    before = λ n lt.
        let long : length (cut_line (old.begun ++ take n bytes)) ≡ min LINE_HELD (length old.begun + min n (length bytes)) =
        length-take LINE_HELD (old.begun ++ take n bytes) ∙ ap (λ (k : ℕ). min LINE_HELD k) (length-append old.begun (take n bytes) ∙ ap (λ (k : ℕ). length old.begun + k) (length-take n bytes)) in
        let s = sizes in
        let short = is.short in
        ⊎_elim
        (λ below. let all = more below in omega arith)
        (λ filled. let same = full filled in omega arith)
        (cases_lt (length (held old) + kept) old.limit);
  }

-- ---- the parts of the batcher

-- a batcher whose bytes are these
abbrev pub parts : List ℕ → ℕ → ℕ → ℕ → ℕ → Bool → BatcherSeen
parts bytes begun fed ended limit is_over = record {
  batch = take begun bytes;
  begun = drop begun bytes;
  fed = fed;
  ended = ended;
  limit = limit;
  is_over = is_over;
}

module _ (items bytes items' : List ℕ) (begun fed ended limit : ℕ) (is_over : Bool) (inside : begun ≤ length items) (more : items' ≡ items ++ bytes) where
  pub parts-more : parts items' begun fed ended limit is_over ≡ record (parts items begun fed ended limit is_over) { begun = drop begun items ++ bytes }
  parts-more =
      ap (λ (xs : List ℕ). parts xs begun fed ended limit is_over) more
      ∙ ap (λ (xs : List ℕ). record (parts items begun fed ended limit is_over) { batch = xs; begun = drop begun (items ++ bytes) }) (take-append-le begun items bytes inside)
      ∙ ap (λ (xs : List ℕ). record (parts items begun fed ended limit is_over) { begun = xs }) (drop-append-le begun items bytes inside)

  pub more-batcher : IsBatcher (parts items begun fed ended limit is_over) → NoFeed bytes → length (drop begun items) + length bytes ≤ LINE_HELD
      → length items + length bytes ≤ limit → is_over ≡ false → IsBatcher (parts items' begun fed ended limit is_over)
  more-batcher is none line room going =
      subst IsBatcher (sym parts-more) record {
        limit = is.limit;
        room = let whole = ap (λ (xs : List ℕ). length xs) (take-append-drop begun items) in
            omega (arith, length-append (take begun items) (drop begun items ++ bytes), length-append (drop begun items) bytes, length-append (take begun items) (drop begun items));
        within = is.within;
        begun = none-append (drop begun items) bytes is.begun none;
        short = omega (arith, length-append (drop begun items) bytes);
        whole = is.whole;
        over = λ over. absurd (false≢true (sym going ∙ over));
        cut = is.cut;
      }

pub counted-batcher : (v : BatcherSeen) (taken : ℕ) → IsBatcher v → IsBatcher record v { fed = v.fed + taken }
counted-batcher v taken is = record {
  limit = is.limit;
  room = is.room;
  within = let w = is.within in omega arith;
  begun = is.begun;
  short = is.short;
  whole = is.whole;
  over = is.over;
  cut = is.cut;
}

pub held-long : (bytes : List ℕ) (kept : ℕ) (old : BatcherSeen) → kept ≤ length bytes → length (old.batch ++ (old.begun ++ take kept bytes)) ≡ length (held old) + kept
held-long bytes kept old within =
    omega (arith, length-append old.batch old.begun, length-append old.batch (old.begun ++ take kept bytes), length-append old.begun (take kept bytes), length-take kept bytes)

-- what a successful call appended
pub appended : {E : Type 0} (result : Result (Unit {0}) E) (items more items' : List ℕ) → IsOk result → items' ≡ (if is_ok result then items ++ more else items) → items' ≡ items ++ more
appended (Ok u) items more items' ok is = is
appended (Err e) items more items' ok is = absurd (false≢true ok)

pub held-parts : (items : List ℕ) (begun fed ended limit : ℕ) (is_over : Bool) → length (held (parts items begun fed ended limit is_over)) ≡ length items
held-parts items begun fed ended limit is_over = ap (λ (xs : List ℕ). length xs) (take-append-drop begun items)

module _ (items items' : List ℕ) (begun fed ended limit len : ℕ) (is_over : Bool) (inside : begun ≤ length items) (more : items' ≡ items ++ LINE_FEED ∷ []) (all : len ≡ length items') where
  with-parts : List ℕ → List ℕ → BatcherSeen
  with-parts batch rest = record { batch = batch; begun = rest; fed = fed + 1; ended = fed + 1; limit = limit; is_over = is_over }

  pub parts-ended : parts items' len (fed + 1) (fed + 1) limit is_over ≡ with_line_ended (parts items begun fed ended limit is_over)
  unfolding with-parts
  parts-ended =
      let batch : take len items' ≡ (take begun items ++ drop begun items) ++ LINE_FEED ∷ [] =
      take_all len items' (omega arith) ∙ more ∙ ap (λ (xs : List ℕ). xs ++ LINE_FEED ∷ []) (sym (take-append-drop begun items)) in
      let rest : drop len items' ≡ [] = drop_all len items' (omega arith) in
      ap (λ (xs : List ℕ). with-parts xs (drop len items')) batch
      ∙ ap (λ (xs : List ℕ). with-parts ((take begun items ++ drop begun items) ++ LINE_FEED ∷ []) xs) rest

  pub ended-batcher : IsBatcher (parts items begun fed ended limit is_over) → is_over ≡ false → length items < limit → IsBatcher (parts items' len (fed + 1) (fed + 1) limit is_over)
  ended-batcher is going room =
      subst IsBatcher (sym parts-ended) (end-batcher (parts items begun fed ended limit is_over) is going (let h = held-parts items begun fed ended limit is_over in omega arith))

module _ (items : List ℕ) (begun fed ended limit : ℕ) (is_over : Bool) (is : IsBatcher (parts items begun fed ended limit is_over)) where
  over-parts : List ℕ → List ℕ → BatcherSeen
  over-parts batch rest = record { batch = batch; begun = rest; fed = fed; ended = ended; limit = limit; is_over = true }

  -- the begun line is the last of the batch
  pub kept-parts : (len : ℕ) → len ≡ length items → IsBatcher (parts items len fed ended limit true)
  unfolding over-parts
  kept-parts len all =
      let batch : take len items ≡ take begun items ++ drop begun items = take_all len items (omega arith) ∙ sym (take-append-drop begun items) in
      let rest : drop len items ≡ [] = drop_all len items (omega arith) in
      let same = ap (λ (xs : List ℕ). over-parts xs (drop len items)) batch ∙ ap (λ (xs : List ℕ). over-parts (take begun items ++ drop begun items) xs) rest in
      subst IsBatcher (sym same) (kept-batcher (parts items begun fed ended limit is_over) is)

  -- the begun line is gone
  pub dropped-parts : (items' : List ℕ) → items' ≡ take begun items → IsBatcher (parts items' begun fed ended limit true)
  unfolding over-parts
  dropped-parts items' cut =
      let batch : take begun items' ≡ take begun items = ap (λ (xs : List ℕ). take begun xs) cut ∙ take-take begun begun items (omega arith) in
      let short : length items' ≤ begun = let e = ap (λ (xs : List ℕ). length xs) cut in omega (arith, length-take begun items) in
      let rest : drop begun items' ≡ [] = drop_all begun items' short in
      let same = ap (λ (xs : List ℕ). over-parts xs (drop begun items')) batch ∙ ap (λ (xs : List ℕ). over-parts (take begun items) xs) rest in
      subst IsBatcher (sym same) (dropped-batcher (parts items begun fed ended limit is_over) is)
