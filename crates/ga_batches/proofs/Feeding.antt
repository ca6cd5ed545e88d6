-- What is held and what was fed, over plain views.
use Rattle.std.proofs.Common.{◌≡◌, ℕ, ◌+◌, ◌-◌, ◌<◌, ◌≤◌, true, false, List, [], ◌∷◌, ◌++◌, length, take, drop, get_or, refl, sym, ap, ◌∙◌, subst, arith, append_assoc, length-append, length-take, take_all, inl, inr, ⊎_elim}
use Rattle.std.proofs.lemmas.Bool.{false≢true, true≢false, cases_Bool, cases_lt}
use Rattle.std.proofs.lemmas.List.{append-nil, length-take-le, take-append-drop, take-append-le, drop-append-le, drop_all, drop-take, take-take, take_rest, take_at, get_or-append_right}
use Rattle.std.proofs.lemmas.List.Elements.{Contains-get_or}
use Rattle.std.specs.List.{Contains}
use Rattle.ga_batches.specs.Lines.{cut_line, cut_lines}
use Rattle.ga_base.specs.Lines.{IsEnded, AreEnded}
use Rattle.ga_batches.specs.Batches.{BatcherSeen, IsBatcher, IsFull, Feeds, Holds, HoldsLast, held, fresh}
use Rattle.ga_batches.specs.Steps.{GoesOn, with_line_ended}
use Rattle.ga_base.specs.declared.limits.TheConstants.{LINE_FEED, MAX_BATCH}
use Rattle.ga_batches.specs.declared.batcher.TheConstants.{LINE_HELD, LEAST_LIMIT}
use Rattle.ga_batches.proofs.Cutting.{NoFeed, none-nil, none-take, none-append, cut-none, cut-first, cut-short, cuts-once, cuts-apart, ended-cut, ended-append}

-- ---- counts of ended bytes

ended-more : (stream more : List ℕ) (count : ℕ) → NoFeed more → AreEnded stream count → AreEnded (stream ++ more) count
ended-more stream more count none are = record {
  within = let w = are.within in omega (arith, length-append stream more);
  ended = subst IsEnded (sym (take-append-le count stream more are.within)) are.ended;
  last = subst NoFeed (sym (drop-append-le count stream more are.within)) (none-append (drop count stream) more are.last none);
}

ended-now : (stream : List ℕ) (count : ℕ) → length stream ≡ count → AreEnded (stream ++ LINE_FEED ∷ []) (count + 1)
ended-now stream count long =
    let all : length (stream ++ LINE_FEED ∷ []) ≡ count + 1 = omega (arith, length-append stream (LINE_FEED ∷ [])) in record {
      within = omega arith;
      ended = inr (stream, take_all (count + 1) (stream ++ LINE_FEED ∷ []) (omega arith));
      last = subst NoFeed (sym (drop_all (count + 1) (stream ++ LINE_FEED ∷ []) (omega arith))) none-nil;
    }

-- ---- fed

-- what is added to the begun line, where the batch is made of whole lines
held-more : (v : BatcherSeen) (more : List ℕ) → IsBatcher v → v.is_over ≡ false → cut_lines (held v ++ more) ≡ v.batch ++ cut_lines (v.begun ++ more)
held-more v more is going =
    ap cut_lines (append_assoc v.batch v.begun more)
    ∙ cuts-apart v.batch (v.begun ++ more) (is.whole going)
    ∙ ap (λ x. x ++ cut_lines (v.begun ++ more)) is.cut

pub begun-more : (v : BatcherSeen) (more : List ℕ) → IsBatcher v → v.is_over ≡ false → NoFeed more → cut_lines (held v ++ more) ≡ v.batch ++ cut_line (v.begun ++ more)
begun-more v more is going none =
    held-more v more is going ∙ ap (λ x. v.batch ++ x) (cut-none (v.begun ++ more) (none-append v.begun more is.begun none))

pub held-cut : (v : BatcherSeen) → IsBatcher v → v.is_over ≡ false → cut_lines (held v) ≡ held v
held-cut v is going =
    ap cut_lines (sym (append-nil (held v)))
    ∙ begun-more v [] is going none-nil
    ∙ ap (λ x. v.batch ++ cut_line x) (append-nil v.begun)
    ∙ ap (λ x. v.batch ++ x) (take_all LINE_HELD v.begun is.short)

pub feeds-none : (v : BatcherSeen) → IsBatcher v → v.is_over ≡ false → Feeds [] v v
feeds-none v is going = record {
  lines = sym (ap cut_lines (append-nil (held v)) ∙ held-cut v is going);
  fed = omega arith;
  ended = λ stream long are. subst (λ x. AreEnded x v.ended) (sym (append-nil stream)) are;
  limit = refl;
  going = refl;
}

pub feeds-then : (one two : List ℕ) (a b c : BatcherSeen) → Feeds one a b → Feeds two b c → Feeds (one ++ two) a c
feeds-then one two a b c first second = record {
  lines = second.lines
      ∙ ap (λ x. cut_lines (x ++ two)) first.lines
      ∙ cuts-once (held a ++ one) two
      ∙ ap cut_lines (append_assoc (held a) one two);
  fed = let f = first.fed in let s = second.fed in omega (arith, length-append one two);
  ended = λ stream long are. subst (λ x. AreEnded x c.ended) (append_assoc stream one two)
      (second.ended (stream ++ one) (let f = first.fed in omega (arith, length-append stream one)) (first.ended stream long are));
  limit = second.limit ∙ first.limit;
  going = second.going ∙ first.going;
}

take-parts : (piece : List ℕ) (at more : ℕ) → take at piece ++ take more (drop at piece) ≡ take (at + more) piece
take-parts piece at more =
    ap (λ x. x ++ take more (drop at piece)) (sym (take-take at (at + more) piece (omega arith)))
    ∙ ap (λ x. take at (take (at + more) piece) ++ x) (sym (drop-take at more piece))
    ∙ take-append-drop at (take (at + more) piece)

-- a batcher that has room for a piece is full once all of it was taken, and not before
pub whole-taken : (piece : List ℕ) (at : ℕ) (a b : BatcherSeen) → Feeds (take at piece) a b → IsFull b → at ≤ length piece → length (held a) + length piece ≤ a.limit → at ≡ length piece
whole-taken piece at a b fed full within fits =
    let short = cut-short (held a ++ take at piece) in
    let lines = ap (λ (xs : List ℕ). length xs) fed.lines in
    omega (arith, full, fed.limit, short, lines, length-append (held a) (take at piece), length-take at piece)

-- a slice's rest is fed after its front
pub feeds-on : (piece : List ℕ) (at more : ℕ) (a b c : BatcherSeen) → Feeds (take at piece) a b
    → Feeds (take more (take (length piece - at) (drop at piece))) b c → Feeds (take (at + more) piece) a c
feeds-on piece at more a b c first second =
    subst (λ x. Feeds x a c) (take-parts piece at more)
    (feeds-then (take at piece) (take more (drop at piece)) a b c first (subst (λ x. Feeds (take more x) b c) (take_rest piece at) second))

pub before-on : (piece : List ℕ) (at count : ℕ) (a b : BatcherSeen) → Feeds (take at piece) a b
    → ((n : ℕ) → n < at → length (cut_lines (held a ++ take n piece)) < a.limit)
    → ((n : ℕ) → n < count → length (cut_lines (held b ++ take n (take (length piece - at) (drop at piece)))) < b.limit)
    → (n : ℕ) → n < at + count → length (cut_lines (held a ++ take n piece)) < a.limit
before-on piece at count a b feeds first second n lt =
    ⊎_elim
    (λ less. first n less)
    (λ more.
    let m : ℕ = n - at in
    let sum : at + m ≡ n = omega arith in
    let rest = drop at piece in
    let here = subst (λ x. length (cut_lines (held b ++ take m x)) < b.limit) (take_rest piece at) (second m (omega arith)) in
    let same : cut_lines (held a ++ take n piece) ≡ cut_lines (held b ++ take m rest) =
    ap (λ k. cut_lines (held a ++ take k piece)) (sym sum)
    ∙ ap (λ x. cut_lines (held a ++ x)) (sym (take-parts piece at m))
    ∙ ap cut_lines (sym (append_assoc (held a) (take at piece) (take m rest)))
    ∙ sym (cuts-once (held a ++ take at piece) (take m rest))
    ∙ ap (λ x. cut_lines (x ++ take m rest)) (sym feeds.lines) in
    subst (λ k. length (cut_lines (held a ++ take n piece)) < k) feeds.limit (subst (λ x. length x < b.limit) (sym same) here))
    (cases_lt n at)

pub on-feeds : (taken : ℕ) (bytes : List ℕ) (old new : BatcherSeen) → IsBatcher old → old.is_over ≡ false → NoFeed bytes → GoesOn taken bytes old new
    → Feeds (take taken bytes) old new
on-feeds taken bytes old new is going none on =
    subst (λ v. Feeds (take taken bytes) old v) (sym on.value) record {
      lines = sym (begun-more old (take taken bytes) is going (none-take taken bytes none));
      fed = ap (λ n. old.fed + n) (sym (length-take-le taken bytes on.within));
      ended = λ stream long are. ended-more stream (take taken bytes) old.ended (none-take taken bytes none) are;
      limit = refl;
      going = refl;
    }

pub on-batcher : (taken : ℕ) (bytes : List ℕ) (old : BatcherSeen) → IsBatcher old → NoFeed bytes
    → length (old.batch ++ cut_line (old.begun ++ take taken bytes)) ≤ old.limit → old.is_over ≡ false
    → IsBatcher record old { begun = cut_line (old.begun ++ take taken bytes); fed = old.fed + taken }
on-batcher taken bytes old is none room going = record {
  limit = is.limit;
  room = room;
  within = let w = is.within in omega arith;
  begun = none-take LINE_HELD (old.begun ++ take taken bytes) (none-append old.begun (take taken bytes) is.begun (none-take taken bytes none));
  short = omega (arith, length-take LINE_HELD (old.begun ++ take taken bytes));
  whole = is.whole;
  over = λ over. absurd (false≢true (sym going ∙ over));
  cut = is.cut;
}

line-feeds : (v : BatcherSeen) → IsBatcher v → v.is_over ≡ false → cut_lines (held v ++ LINE_FEED ∷ []) ≡ held v ++ LINE_FEED ∷ []
line-feeds v is going =
    held-more v (LINE_FEED ∷ []) is going
    ∙ ap (λ x. v.batch ++ x) (cut-first v.begun [] is.begun)
    ∙ ap (λ x. v.batch ++ (x ++ LINE_FEED ∷ [])) (take_all LINE_HELD v.begun is.short)
    ∙ sym (append_assoc v.batch v.begun (LINE_FEED ∷ []))

pub end-feeds : (v : BatcherSeen) → IsBatcher v → v.is_over ≡ false → Feeds (LINE_FEED ∷ []) v (with_line_ended v)
end-feeds v is going = record {
  lines = append-nil (held v ++ LINE_FEED ∷ []) ∙ sym (line-feeds v is going);
  fed = refl;
  ended = λ stream long are. ended-now stream v.fed long;
  limit = refl;
  going = refl;
}

pub end-batcher : (v : BatcherSeen) → IsBatcher v → v.is_over ≡ false → length (held v) < v.limit → IsBatcher (with_line_ended v)
end-batcher v is going room = record {
  limit = is.limit;
  room = omega (arith, length-append (held v ++ LINE_FEED ∷ []) [], length-append (held v) (LINE_FEED ∷ []));
  within = omega arith;
  begun = none-nil;
  short = omega arith;
  whole = λ _. inr (held v, refl);
  over = λ over. absurd (false≢true (sym going ∙ over));
  cut = line-feeds v is going;
}

-- ---- the stream

pub holds-fresh : (limit : ℕ) → Holds [] [] (fresh limit)
holds-fresh limit = record {
  going = refl;
  whole = inl refl;
  cut = refl;
  lines = refl;
  fed = refl;
  ended = record { within = omega arith; ended = inl refl; last = none-nil };
}

pub fresh-batcher : (limit : ℕ) → LEAST_LIMIT ≤ limit → limit ≤ MAX_BATCH → IsBatcher (fresh limit)
fresh-batcher limit least most = record {
  limit = (least, most);
  room = omega arith;
  within = omega arith;
  begun = none-nil;
  short = omega arith;
  whole = λ _. inl refl;
  over = λ _. refl;
  cut = refl;
}

pub holds-on : (bytes : List ℕ) (old new : BatcherSeen) → Feeds bytes old new → (stream taken : List ℕ) → Holds stream taken old → Holds (stream ++ bytes) taken new
holds-on bytes old new feeds stream taken holds = record {
  going = feeds.going ∙ holds.going;
  whole = holds.whole;
  cut = holds.cut;
  lines = sym (cuts-once stream bytes)
      ∙ ap (λ x. cut_lines (x ++ bytes)) holds.lines
      ∙ ap cut_lines (append_assoc taken (held old) bytes)
      ∙ cuts-apart taken (held old ++ bytes) holds.whole
      ∙ ap (λ x. x ++ cut_lines (held old ++ bytes)) holds.cut
      ∙ ap (λ x. taken ++ x) (sym feeds.lines);
  fed = let f = feeds.fed in let h = holds.fed in omega (arith, length-append stream bytes);
  ended = feeds.ended stream (sym holds.fed) holds.ended;
}

pub holds-taken : (old : BatcherSeen) → IsBatcher old → (stream taken : List ℕ) → Holds stream taken old → Holds stream (taken ++ old.batch) record old { batch = [] }
holds-taken old is stream taken holds = record {
  going = holds.going;
  whole = ended-append taken old.batch holds.whole (is.whole holds.going);
  cut = cuts-apart taken old.batch holds.whole ∙ ap (λ x. x ++ cut_lines old.batch) holds.cut ∙ ap (λ x. taken ++ x) is.cut;
  lines = holds.lines ∙ sym (append_assoc taken old.batch old.begun);
  fed = holds.fed;
  ended = holds.ended;
}

pub taken-batcher : (old : BatcherSeen) → IsBatcher old → IsBatcher record old { batch = [] }
taken-batcher old is = record {
  limit = is.limit;
  room = let r = is.room in omega (arith, length-append old.batch old.begun);
  within = is.within;
  begun = is.begun;
  short = is.short;
  whole = λ _. inl refl;
  over = is.over;
  cut = refl;
}

-- ---- the end of a stream

-- the last byte of whole lines can't stand where no line feed does
not-longer : (a b u w : List ℕ) → IsEnded b → NoFeed u → a ++ u ≡ b ++ w → length a < length b → ⊥
not-longer a b u w ended none same longer =
    ⊎_elim
    (λ empty. let zero : length b ≡ 0 = ap (λ (xs : List ℕ). length xs) empty in omega arith)
    (λ fed.
    let front = fed.0 in
    let long : length b ≡ length front + 1 = ap (λ (xs : List ℕ). length xs) fed.1 ∙ length-append front (LINE_FEED ∷ []) in
    let whole : a ++ u ≡ front ++ LINE_FEED ∷ w = same ∙ ap (λ (xs : List ℕ). xs ++ w) fed.1 ∙ append_assoc front (LINE_FEED ∷ []) w in
    let both : length a + length u ≡ length front + 1 + length w = sym (length-append a u) ∙ ap (λ (xs : List ℕ). length xs) same ∙ length-append b w ∙ ap (λ (n : ℕ). n + length w) long in
    let at : ℕ = length front - length a in
    let byte : get_or u at 0 ≡ LINE_FEED =
    sym (get_or-append_right a u (length a) (length front) 0 refl (omega arith))
    ∙ ap (λ (xs : List ℕ). get_or xs (length front) 0) whole
    ∙ get_or_at front (LINE_FEED ∷ w) in
    none (subst (λ b. Contains u b) byte (Contains-get_or u at 0 (omega arith))))
    ended
  where
    get_or_at : (front rest : List ℕ) → get_or (front ++ rest) (length front) 0 ≡ get_or rest 0 0
    get_or_at front rest =
        let none : length front - length front ≡ 0 = omega arith in
        get_or-append_right front rest (length front) (length front) 0 refl (omega arith) ∙ ap (λ (n : ℕ). get_or rest n 0) none

pub same-lines : (a b u w : List ℕ) → IsEnded a → IsEnded b → NoFeed u → NoFeed w → a ++ u ≡ b ++ w → a ≡ b
same-lines a b u w ended ended' none none' same =
    let long : length a ≡ length b = ⊎_elim
    (λ less. absurd (not-longer a b u w ended' none same less))
    (λ more. ⊎_elim (λ less. absurd (not-longer b a w u ended none' (sym same) less)) (λ less. omega arith) (cases_lt (length b) (length a)))
    (cases_lt (length a) (length b)) in
    sym (take_at a u (length a) refl) ∙ ap (λ (xs : List ℕ). take (length a) xs) same ∙ take_at b w (length a) (sym long)

whole-lines : (v : BatcherSeen) → IsBatcher v → (stream taken : List ℕ) → Holds stream taken v → cut_lines (take v.ended stream) ≡ taken ++ v.batch
whole-lines v is stream taken holds =
    let front = take v.ended stream in
    let rest = drop v.ended stream in
    let parts : cut_lines stream ≡ cut_lines front ++ cut_line rest =
    ap cut_lines (sym (take-append-drop v.ended stream))
    ∙ cuts-apart front rest holds.ended.ended
    ∙ ap (λ x. cut_lines front ++ x) (cut-none rest holds.ended.last) in
    same-lines (cut_lines front) (taken ++ v.batch) (cut_line rest) v.begun
    (ended-cut front holds.ended.ended)
    (ended-append taken v.batch holds.whole (is.whole holds.going))
    (none-take LINE_HELD rest holds.ended.last)
    is.begun
    (sym parts ∙ holds.lines ∙ sym (append_assoc taken v.batch v.begun))

-- what is held is held as it would be by itself, also at the end of a stream
held-cut-any : (v : BatcherSeen) → IsBatcher v → cut_lines (held v) ≡ held v
held-cut-any v is =
    ⊎_elim
    (λ over.
    let none = is.over over in
    let same : held v ≡ v.batch = ap (λ x. v.batch ++ x) none ∙ append-nil v.batch in
    ap cut_lines same ∙ is.cut ∙ sym same)
    (λ going. held-cut v is going)
    (cases_Bool v.is_over)

pub kept-batcher : (v : BatcherSeen) → IsBatcher v → IsBatcher record v { batch = held v; begun = []; is_over = true }
kept-batcher v is = record {
  limit = is.limit;
  room = let r = is.room in omega (arith, length-append (held v) []);
  within = is.within;
  begun = none-nil;
  short = omega arith;
  whole = λ going. absurd (true≢false going);
  over = λ _. refl;
  cut = held-cut-any v is;
}

pub dropped-batcher : (v : BatcherSeen) → IsBatcher v → IsBatcher record v { begun = []; is_over = true }
dropped-batcher v is = record {
  limit = is.limit;
  room = let r = is.room in omega (arith, length-append v.batch [], length-append v.batch v.begun);
  within = is.within;
  begun = none-nil;
  short = omega arith;
  whole = λ going. absurd (true≢false going);
  over = λ _. refl;
  cut = is.cut;
}

pub holds-kept : (v : BatcherSeen) → (stream taken : List ℕ) → Holds stream taken v
    → HoldsLast stream true taken record v { batch = held v; begun = []; is_over = true }
holds-kept v stream taken holds = record { over = refl; lines = holds.lines; fed = holds.fed; ended = holds.ended }

pub holds-dropped : (v : BatcherSeen) → IsBatcher v → (stream taken : List ℕ) → Holds stream taken v
    → HoldsLast stream false taken record v { begun = []; is_over = true }
holds-dropped v is stream taken holds = record { over = refl; lines = whole-lines v is stream taken holds; fed = holds.fed; ended = holds.ended }
