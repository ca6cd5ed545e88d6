-- Batches of a stream, counted one after the other.
use Rattle.std.proofs.Common.{◌≡◌, ℕ, ◌+◌, ◌-◌, ◌≤◌, Bool, true, false, List, [], ◌∷◌, ◌++◌, length, take, drop, Option, Some, None, refl, sym, ap, ◌∙◌, subst, Result, Ok, Err, arith, append_assoc, append-nil, length-drop, length-take, take_all}
use Rattle.std.specs.Result.{OnOk}
use Rattle.std.proofs.Math.Seq.{take-add}
use Rattle.std.specs.Prelude.{◌==◌}
use Rattle.std.specs.List.{Contains}
use Rattle.std.proofs.lemmas.Bool.{eqb-true, false_from_ne_true}
use Rattle.std.proofs.lemmas.List.{length-take-le, take-append-drop}
use Rattle.std.proofs.lemmas.List.Elements.{All-from_get_or, Contains-get_or}
use Rattle.std.proofs.lemmas.List.Splits.{slice_split_none}
use Rattle.ga_base.specs.declared.counts.Totals.{Totals}
use Rattle.ga_batches.specs.Batches.{BatcherSeen, Holds, HoldsLast}
use Rattle.ga_batches.specs.Laws.{CutsEachPiece}
use Rattle.ga_batches.specs.Lines.{cut_lines, kept_part}
use Rattle.ga_base.specs.Lines.{AreEnded, IsEnded}
use Rattle.ga_base.specs.declared.limits.TheConstants.{LINE_FEED}
use Rattle.ga_line.specs.Lines.{KeepsItsLines, lines, lines_of_pieces}
use Rattle.ga_outcomes.specs.declared.setup.Setup.{Setup}
use Rattle.ga_logs.proofs.Held.{SayTheSame, behind-same, have_outcomes-along, fills-along, held-lines}
use Rattle.ga_logs.specs.Counting.{CountingSeen, HasCounted, HasCountedBy}
use Rattle.ga_logs.specs.Streams.{IsBehind, IsWithin}
use Rattle.ga_logs.specs.declared.full.Full.{Full}
use Rattle.ga_tallies.specs.Tallies.{TallySeen}

-- whole lines keep their lines before others
abbrev pub EndedKeep : Type 0
EndedKeep = (text : List ℕ) → IsEnded text → KeepsItsLines text

module _ (law : EndedKeep) where
  -- whether the rest is kept makes no difference where there is none
  pub whole-lines : (text : List ℕ) → IsEnded text → lines text true ≡ lines text false
  whole-lines text ended =
      ap (λ (t : List ℕ). lines t true) (sym (append-nil text)) ∙ law text ended [] true ∙ append-nil (lines text false)

  -- the lines of a batch after those before
  pub lines-behind : (text more : List ℕ) → IsEnded text → lines (text ++ more) true ≡ lines text true ++ lines more true
  lines-behind text more ended =
      law text ended more true ∙ ap (λ (ls : List (List ℕ)). ls ++ lines more true) (sym (whole-lines text ended))

  -- a text without a line feed has no line where the rest isn't kept
  no-lines : (text : List ℕ) → ¬ Contains text LINE_FEED → lines text false ≡ []
  no-lines text none =
      ap (λ (ps : List (List ℕ)). lines_of_pieces ps false) (slice_split_none (λ (b : ℕ). b == LINE_FEED) text
      (All-from_get_or (λ (b : ℕ). (b == LINE_FEED) ≡ false) text 0 (λ i lt. false_from_ne_true _ (λ yes. none (subst (λ (b : ℕ). Contains text b) (eqb-true _ _ yes) (Contains-get_or text i 0 lt))))))
      ∙ unkept text
    where
      unkept : (text : List ℕ) → lines_of_pieces (text ∷ []) false ≡ []
      unkept [] = refl
      unkept (b ∷ rest) = refl

  -- what is counted of a stream
  kept-lines : (stream : List ℕ) (ended : ℕ) (keep : Bool) → AreEnded stream ended → lines (kept_part stream ended keep) true ≡ lines stream keep
  kept-lines stream ended true are = refl
  kept-lines stream ended false are =
      whole-lines (take ended stream) are.ended
      ∙ sym (append-nil (lines (take ended stream) false))
      ∙ ap (λ (ls : List (List ℕ)). lines (take ended stream) false ++ ls) (sym (no-lines (drop ended stream) are.last))
      ∙ sym (law (take ended stream) are.ended (drop ended stream) false)
      ∙ ap (λ (t : List ℕ). lines t false) (take-append-drop ended stream)

-- lines that say the same are counted alike
counted-along : (o : Option Full) (setup : Setup) (start : Totals) (xs ys : List (List ℕ)) (tallies : List TallySeen) → SayTheSame xs ys → HasCountedBy o setup start xs tallies
    → HasCountedBy o setup start ys tallies
counted-along None setup start xs ys tallies same h = record { outcomes = h.outcomes; have_outcomes = have_outcomes-along setup xs ys h.outcomes same h.have_outcomes; tallied = h.tallied }
counted-along (Some full) setup start xs ys tallies same h = fills-along setup start xs ys full.which full.total same h

-- ---- one batch more

module _ (law : EndedKeep) (setup : Setup) (old new : CountingSeen) (batch : List ℕ)
    (counts : (before : List (List ℕ)) → HasCounted setup before old → HasCounted setup (before ++ lines batch true) new) where
  more : (before : List (List ℕ)) (taken : List ℕ) → IsEnded taken → HasCounted setup (before ++ lines taken true) old → HasCounted setup (before ++ lines (taken ++ batch) true) new
  more before taken ended h =
      subst (λ (ls : List (List ℕ)). HasCounted setup ls new)
      (append_assoc before (lines taken true) (lines batch true) ∙ ap (λ (ls : List (List ℕ)). before ++ ls) (sym (lines-behind law taken batch ended)))
      (counts (before ++ lines taken true) h)

  -- one that was taken before was counted
  pub within-behind : (before : List (List ℕ)) (stream : List ℕ) (b : BatcherSeen) → IsBehind setup before stream old batch b → IsWithin setup before stream new b
  within-behind before stream b h = record {
    taken = h.taken ++ batch;
    holds = h.holds;
    counted = more before h.taken h.whole h.counted;
  }

  -- the last one was
  pub ended-with : (cuts : CutsEachPiece) (b b' : BatcherSeen) (keep : Bool) → b'.batch ≡ batch → ((stream taken : List ℕ) → Holds stream taken b → HoldsLast stream keep taken b')
      → (before : List (List ℕ)) (stream : List ℕ) → IsWithin setup before stream old b → AreEnded stream b'.ended × HasCounted setup (before ++ lines stream keep) new
  ended-with cuts b b' keep is ends before stream h =
      let last = ends stream h.taken h.holds in
      let part = kept_part stream b'.ended keep in
      let whole : cut_lines part ≡ h.taken ++ batch = last.lines ∙ ap (λ (t : List ℕ). h.taken ++ t) is in
      let counted = subst (λ (t : List ℕ). HasCounted setup (before ++ lines t true) new) (sym whole) (more before h.taken h.holds.whole h.counted) in
      let along = counted-along new.full setup new.start.totals (before ++ lines (cut_lines part) true) (before ++ lines part true) new.tallies
      (behind-same before (lines (cut_lines part) true) (lines part true) (held-lines cuts part true)) counted in
      (last.ended, subst (λ (ls : List (List ℕ)). HasCounted setup (before ++ ls) new) (kept-lines law stream b'.ended keep last.ended) along)

-- ---- a batch that was taken and isn't counted yet

-- none was taken
pub behind-none : (setup : Setup) (before : List (List ℕ)) (stream : List ℕ) (c : CountingSeen) (b : BatcherSeen) → IsWithin setup before stream c b → IsBehind setup before stream c [] b
behind-none setup before stream c b h = record {
  taken = h.taken;
  whole = h.holds.whole;
  holds = subst (λ (taken : List ℕ). Holds stream taken b) (sym (append-nil h.taken)) h.holds;
  counted = h.counted;
}

-- the next one was
pub behind-taken : (setup : Setup) (c : CountingSeen) (b b' : BatcherSeen) (batch : List ℕ) → ((stream taken : List ℕ) → Holds stream taken b → Holds stream (taken ++ batch) b')
    → (before : List (List ℕ)) (stream : List ℕ) → IsWithin setup before stream c b → IsBehind setup before stream c batch b'
behind-taken setup c b b' batch takes before stream h = record {
  taken = h.taken;
  whole = h.holds.whole;
  holds = takes stream h.taken h.holds;
  counted = h.counted;
}

-- ---- bytes that are fed

pub within-fed : (setup : Setup) (c : CountingSeen) (b b' : BatcherSeen) (bytes : List ℕ) → ((stream taken : List ℕ) → Holds stream taken b → Holds (stream ++ bytes) taken b')
    → (before : List (List ℕ)) (stream : List ℕ) → IsWithin setup before stream c b → IsWithin setup before (stream ++ bytes) c b'
within-fed setup c b b' bytes feeds before stream h = record { taken = h.taken; holds = feeds stream h.taken h.holds; counted = h.counted }

-- what was taken of the rest of a piece
pub taken-of : (piece : List ℕ) (at n : ℕ) → at ≤ length piece → n ≤ length (take (length piece - at) (drop at piece)) → at + n ≤ length piece
taken-of piece at n le within = omega (arith, length-take (length piece - at) (drop at piece), length-drop at piece)

pub taken-long : (piece : List ℕ) (at n : ℕ) → n ≤ length (take (length piece - at) (drop at piece)) → length (take n (take (length piece - at) (drop at piece))) ≡ n
taken-long piece at n within = length-take-le n (take (length piece - at) (drop at piece)) within

pub taken-more : (stream piece : List ℕ) (at n : ℕ) → at ≤ length piece
    → (stream ++ take at piece) ++ take n (take (length piece - at) (drop at piece)) ≡ stream ++ take (at + n) piece
taken-more stream piece at n le =
    let rest : take (length piece - at) (drop at piece) ≡ drop at piece = take_all (length piece - at) (drop at piece) (omega (arith, length-drop at piece)) in
    append_assoc stream (take at piece) (take n (take (length piece - at) (drop at piece)))
    ∙ ap (λ (r : List ℕ). stream ++ (take at piece ++ take n r)) rest
    ∙ ap (λ (t : List ℕ). stream ++ t) (sym (take-add at n piece))

-- what follows from what holds where a result is a value
pub on-ok : {V E : Type 0} (r : Result V E) {P Q : Type 0} → (P → Q) → OnOk r P → OnOk r Q
on-ok (Ok v) f p = f p
on-ok (Err e) f p = tt

-- what holds where a result is a value, where it is one
pub on-value : {V E : Type 0} (r : Result V E) (v : V) {P : Type 0} → r ≡ Ok v → OnOk r P → P
on-value {V} {E} r v {P} is p = subst (λ (x : Result V E). OnOk x P) is p
