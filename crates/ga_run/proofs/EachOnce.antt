-- Each byte of a log is counted once: what entries track of the logs, and one portion more.
use Rattle.std.proofs.Common.{◌≡◌, ◌≢◌, ◌⊎◌, ◌<◌, ◌≤◌, ◌+◌, ◌==◌, ℕ, min, Bool, true, false, List, [], ◌∷◌, ◌++◌, length, take, drop, map, set, refl, ap, sym, ◌∙◌, subst, inl, inr, arith, Option, Some, None, if◌then◌else◌}
use Rattle.std.proofs.lemmas.Bool.{cases_lt}
use Rattle.std.proofs.lemmas.Bool.Decides.{eqb_tells}
use Rattle.std.proofs.lemmas.List.{append-nil, append_assoc, length-drop, length-take}
use Rattle.std.proofs.lemmas.List.Elements.{filter-append}
use Rattle.std.specs.List.{AllByRecursion}
use Rattle.std.specs.Prelude.{option_map}
use Rattle.sha2.specs.Sha256.{sha256}
use Rattle.ga_base.specs.Lines.{AreEnded, IsEnded}
use Rattle.ga_base.specs.declared.entry.Entry.{Entry}
use Rattle.ga_base.specs.declared.limits.TheConstants.{FRONT, LINE_FEED}
use Rattle.ga_codec.specs.Values.{EntryValue, entry_value}
use Rattle.ga_logs.specs.Following.{AreTold}
use Rattle.ga_logs.specs.Following.AreTold.{told_all, told_then}
use Rattle.ga_logs.specs.Portions.{Follows, IsPortionOf}
use Rattle.ga_resume.specs.declared.follow.Follow.{Follow}
use Rattle.ga_resume.specs.declared.follow.Follow.TheVariants.{ToLastLine}
use Rattle.ga_logs.specs.declared.portion.Portion.{Portion}
use Rattle.ga_ports.specs.MemFiles.{only_these}
use Rattle.ga_resume.specs.Entries.{Fits, IsChoice, IsEntryOf, with_entry}
use Rattle.ga_run.specs.Parts.{Adjoin, AreOnce, AreToldApart, EachOnce, EndsAt, IsToldApart, Part, end_of, log_at, parts_at}
use Rattle.ga_run.proofs.Counted.{parts-of, placed}
use Rattle.ga_run.proofs.Lists.{at, at-before, at-last, at-map, at-map_is, at-mapped, at-set, at-unset, same-or-not, some-same, stands-at, stood-at, take-more, take-take}

-- ---- parts

-- a part more, from there on
abbrev IsNext : List ℕ → ℕ → Part → Type 0
IsNext log offset part = (part.from ≡ offset) × ((part.to ≡ offset) ⊎ ((offset < part.to) × EndsAt log part.to))

end-last : (offset : ℕ) (parts : List Part) (part : Part) → end_of offset (parts ++ part ∷ []) ≡ part.to
end-last offset [] part = refl
end-last offset (first ∷ parts) part = end-last first.to parts part

adjoin-more : (log : List ℕ) (offset : ℕ) (parts : List Part) (part : Part) → Adjoin log offset parts → IsNext log (end_of offset parts) part → Adjoin log offset (parts ++ part ∷ [])
adjoin-more log offset [] part h next = (next.0, next.1, tt)
adjoin-more log offset (first ∷ parts) part h next = (h.0, h.1, adjoin-more log first.to parts part h.2 next)

one-part : (place : ℕ) (part : Part) → part.log ≡ place → parts_at place (part ∷ []) ≡ part ∷ []
one-part place part e = go (eqb_tells part.log place)
  where
    go : (((part.log == place) ≡ true) × (part.log ≡ place)) ⊎ (((part.log == place) ≡ false) × (part.log ≢ place)) → parts_at place (part ∷ []) ≡ part ∷ []
    go (inl h) = ap (λ (b : Bool). if b then part ∷ [] else []) h.0
    go (inr h) = absurd (h.1 e)

no-part : (place : ℕ) (part : Part) → part.log ≢ place → parts_at place (part ∷ []) ≡ []
no-part place part ne = go (eqb_tells part.log place)
  where
    go : (((part.log == place) ≡ true) × (part.log ≡ place)) ⊎ (((part.log == place) ≡ false) × (part.log ≢ place)) → parts_at place (part ∷ []) ≡ []
    go (inl h) = absurd (ne h.1)
    go (inr h) = ap (λ (b : Bool). if b then part ∷ [] else []) h.0

parts-more : (place : ℕ) (parts : List Part) (part : Part) → part.log ≡ place → parts_at place (parts ++ part ∷ []) ≡ parts_at place parts ++ part ∷ []
parts-more place parts part e =
    filter-append (λ (p : Part). p.log == place) parts (part ∷ []) ∙ ap (λ (last : List Part). parts_at place parts ++ last) (one-part place part e)

parts-other : (place : ℕ) (parts : List Part) (part : Part) → part.log ≢ place → parts_at place (parts ++ part ∷ []) ≡ parts_at place parts
parts-other place parts part ne =
    filter-append (λ (p : Part). p.log == place) parts (part ∷ []) ∙ ap (λ (last : List Part). parts_at place parts ++ last) (no-part place part ne) ∙ append-nil (parts_at place parts)

-- ---- what entries track

-- the entry is that of the log at a place, up to the end of the log's parts
pub record Owns (logs : List (List ℕ × List ℕ)) (parts : List Part) (place : ℕ) (entry : EntryValue) : Type 0 where
  pub log : List ℕ
  pub there : log_at logs place ≡ Some log
  pub offset : entry.offset ≡ end_of 0 (parts_at place parts)
  pub ends : EndsAt log entry.offset
  pub digest : entry.digest ≡ sha256 (take (min entry.offset FRONT) log)

pub record Tracks (logs : List (List ℕ × List ℕ)) (parts : List Part) (entries : List EntryValue) : Type 0 where
  pub own : (k : ℕ) (e : EntryValue) → at entries k ≡ Some e → (place : ℕ) × Owns logs parts place e
  pub once : (k l : ℕ) (e f : EntryValue) (place : ℕ) → at entries k ≡ Some e → at entries l ≡ Some f → Owns logs parts place e → Owns logs parts place f → k ≡ l
  pub known : (place : ℕ) → 0 < end_of 0 (parts_at place parts) → (k : ℕ) × (e : EntryValue) × (at entries k ≡ Some e) × Owns logs parts place e
  pub parts_once : EachOnce logs parts

-- before anything was counted
pub no-tracks : (logs : List (List ℕ × List ℕ)) → Tracks logs [] []
no-tracks logs = record {
  own = λ k e stands. cc;
  once = λ k l e f place stands other a b. cc;
  known = λ place some. absurd (omega arith);
  parts_once = λ place. none (log_at logs place);
}
  where
    none : (o : Option (List ℕ)) → AreOnce o []
    none None = refl
    none (Some log) = tt

-- ---- logs that are told apart

pub front : {A : Type 0} (P : A → Type 0) (xs ys : List A) → AllByRecursion P (xs ++ ys) → AllByRecursion P xs
front P [] ys h = tt
front P (x ∷ xs) ys h = (h.0, front P xs ys h.1)

-- as many bytes of a log are told from those of every other
abbrev ApartAt : List (List ℕ × List ℕ) → ℕ → ℕ → Type 0
ApartAt logs place offset = (other : ℕ) (log own : List ℕ) → other ≢ place → log_at logs place ≡ Some log → log_at logs other ≡ Some own
    → 0 < offset → offset ≤ length log → offset ≤ length own → sha256 (take (min offset FRONT) log) ≢ sha256 (take (min offset FRONT) own)

apart-by : (logs : List (List ℕ × List ℕ)) (place : ℕ) (part : Part) (parts : List Part) (offset : ℕ) → IsToldApart logs part → ApartAt logs place offset
    → ((n : ℕ) → ApartAt logs place n → ApartAt logs place (end_of n (parts_at place parts))) → ApartAt logs place (end_of offset (parts_at place (part ∷ parts)))
apart-by logs place part parts offset apart start later = go (eqb_tells part.log place)
  where
    go : (((part.log == place) ≡ true) × (part.log ≡ place)) ⊎ (((part.log == place) ≡ false) × (part.log ≢ place)) → ApartAt logs place (end_of offset (parts_at place (part ∷ parts)))
    go (inl h) =
        subst (λ (b : Bool). ApartAt logs place (end_of offset (if b then part ∷ parts_at place parts else parts_at place parts))) (sym h.0)
        (later part.to (subst (λ (p : ℕ). ApartAt logs p part.to) h.1 apart))
    go (inr h) = subst (λ (b : Bool). ApartAt logs place (end_of offset (if b then part ∷ parts_at place parts else parts_at place parts))) (sym h.0) (later offset start)

apart-end : (logs : List (List ℕ × List ℕ)) (place : ℕ) (parts : List Part) → AreToldApart logs parts → (offset : ℕ) → ApartAt logs place offset → ApartAt logs place (end_of offset (parts_at place parts))
apart-end logs place [] h offset start = start
apart-end logs place (part ∷ parts) h offset start = apart-by logs place part parts offset h.0 start (λ n at-n. apart-end logs place parts h.1 n at-n)

-- so are those that an entry is of
apart-of : {logs : List (List ℕ × List ℕ)} {parts : List Part} {i : ℕ} {e : EntryValue} → AreToldApart logs parts → Owns logs parts i e → ApartAt logs i e.offset
apart-of {logs = logs} {parts = parts} {i = i} apart h =
    subst (λ (n : ℕ). ApartAt logs i n) (sym h.offset) (apart-end logs i parts apart 0 (λ other log own ne a b some. absurd (omega arith)))

-- an entry is that of one log
pub one-owner : {logs : List (List ℕ × List ℕ)} {parts : List Part} {i j : ℕ} {e : EntryValue} → AreToldApart logs parts → Owns logs parts i e → Owns logs parts j e → i ≡ j
one-owner {i = i} {j = j} apart a b = go (same-or-not j i)
  where
    go : (j ≡ i) ⊎ (j ≢ i) → i ≡ j
    go (inl same) = sym same
    go (inr ne) = absurd (apart-of apart a j a.log b.log ne a.there b.there a.ends.some a.ends.within b.ends.within (sym a.digest ∙ b.digest))

-- what is said of the end of a log's parts alone
moved-owner : {logs : List (List ℕ × List ℕ)} {parts parts' : List Part} {place : ℕ} {e : EntryValue} → end_of 0 (parts_at place parts') ≡ end_of 0 (parts_at place parts) → Owns logs parts place e
    → Owns logs parts' place e
moved-owner same h = record { log = h.log; there = h.there; offset = h.offset ∙ sym same; ends = h.ends; digest = h.digest }

-- ---- one portion more

module _ (logs : List (List ℕ × List ℕ)) (parts : List Part) (apart : AreToldApart logs parts) (i : ℕ) (log : List ℕ) (there : log_at logs i ≡ Some log) where
  abbrev counted : ℕ
  counted = end_of 0 (parts_at i parts)

  front-digest : (e : Entry) → e.offset ≤ length log → sha256 (take e.lead (take FRONT log)) ≡ sha256 (take (min e.offset FRONT) log)
  front-digest e le =
      let short : min e.offset FRONT ≤ FRONT = omega arith in
      ap (λ (n : ℕ). sha256 (take n (take FRONT log))) e.leads ∙ ap sha256 (take-take (min e.offset FRONT) FRONT log short)

  -- the log's own entry fits it
  own-fits : (e : Entry) → Owns logs parts i (entry_value e) → Fits (take FRONT log) (length log) e
  own-fits e h =
      let same : h.log ≡ log = some-same (sym h.there ∙ there) in
      let le : e.offset ≤ length log = subst (λ (l : List ℕ). e.offset ≤ length l) same h.ends.within in
      record {
        within = le;
        same = h.digest ∙ ap (λ (l : List ℕ). sha256 (take (min e.offset FRONT) l)) same ∙ sym (front-digest e le);
      }

  -- and no other does
  fits-own : (e : Entry) (j : ℕ) → Fits (take FRONT log) (length log) e → Owns logs parts j (entry_value e) → j ≡ i
  fits-own e j fits h = go (same-or-not j i)
    where
      go : (j ≡ i) ⊎ (j ≢ i) → j ≡ i
      go (inl same) = same
      go (inr ne) = absurd (apart-of apart h i h.log log (λ same. ne (sym same)) h.there there h.ends.some h.ends.within fits.within (sym h.digest ∙ fits.same ∙ front-digest e fits.within))

  module _ (entries : List Entry) (tracks : Tracks logs parts (map entry_value entries)) where
    -- the place of the log's entry, or the end
    abbrev seat : Option ℕ → ℕ
    seat None = length entries
    seat (Some place) = place

    -- what is known of the choice: where it begins, and that no other entry is the log's
    record Chose (choice : Option ℕ) (from : ℕ) : Type 0 where
      from_is : from ≡ counted
      others : (k : ℕ) (e : EntryValue) → k ≢ seat choice → at (map entry_value entries) k ≡ Some e → Owns logs parts i e → ⊥
      was : (e : EntryValue) → at (map entry_value entries) (seat choice) ≡ Some e → Owns logs parts i e

    length-mapped : (xs : List Entry) → at (map entry_value xs) (length xs) ≡ None
    length-mapped [] = refl
    length-mapped (x ∷ xs) = length-mapped xs

    chose : (choice : Option ℕ) (from : ℕ) → IsChoice entries (take FRONT log) (length log) choice from → Chose choice from
    chose None from (none, zero-from) = record {
      from_is = zero-from ∙ sym uncounted;
      others = λ k e ne stands owns. no-owner k e stands owns;
      was = λ e stands. (let no = sym (length-mapped entries) ∙ stands in cc);
    }
      where
        no-owner : (k : ℕ) (e : EntryValue) → at (map entry_value entries) k ≡ Some e → Owns logs parts i e → ⊥
        no-owner k e stands owns =
            let (entry, here, is) = at-mapped entry_value entries k e stands in
            let standing = stood-at entries k entry here in
            none entry (k, standing.0, standing.1) (own-fits entry (subst (λ (v : EntryValue). Owns logs parts i v) (sym is) owns))

        uncounted : counted ≡ 0
        uncounted = go (cases_lt 0 counted)
          where
            go : (0 < counted) ⊎ (counted ≤ 0) → counted ≡ 0
            go (inl some) = (let (k, e, stands, owns) = tracks.known i some in absurd (no-owner k e stands owns))
            go (inr least) = omega arith
    chose (Some place) from (entry, chosen, is) = record {
      from_is = is ∙ mine.offset;
      others = λ k e ne stands owns. ne (tracks.once k place e (entry_value entry) i stands here owns mine);
      was = λ e stands. subst (λ (v : EntryValue). Owns logs parts i v) (some-same (sym here ∙ stands)) mine;
    }
      where
        here : at (map entry_value entries) place ≡ Some (entry_value entry)
        here = at-map entry_value entries place entry (stands-at entries place entry chosen.stands.below chosen.stands.is)

        mine : Owns logs parts i (entry_value entry)
        mine =
            let owned = tracks.own place (entry_value entry) here in
            subst (λ (j : ℕ). Owns logs parts j (entry_value entry)) (fits-own entry owned.0 chosen.fits owned.1) owned.1

    module _ (portion : Portion) (entries' : List Entry) (is : IsPortionOf ToLastLine entries log portion) (goes : Follows ToLastLine portion entries entries') where
      abbrev part : Part
      part = record { log = i; from = portion.segment.from; to = goes.0 }

      abbrev parts' : List Part
      parts' = parts ++ part ∷ []

      choice : IsChoice entries (take FRONT log) (length log) portion.segment.entry portion.segment.from
      choice =
          subst (λ (front : List ℕ). IsChoice entries front (length log) portion.segment.entry portion.segment.from) is.front
          (subst (λ (end : ℕ). IsChoice entries portion.segment.front end portion.segment.entry portion.segment.from) is.end is.begins.choice)

      found : Chose portion.segment.entry portion.segment.from
      found = chose portion.segment.entry portion.segment.from choice

      -- the part begins where the log's parts end, and ends after a line feed
      ends-line : (count : ℕ) → AreEnded portion.bytes count → 0 < count → EndsAt log (portion.segment.from + count)
      ends-line count ended some =
          let e : portion.bytes ≡ drop portion.segment.from log = is.bytes in
          let within : count ≤ length (drop portion.segment.from log) = subst (λ (b : List ℕ). count ≤ length b) e ended.within in
          let size = length-drop portion.segment.from log in
          let from-within : portion.segment.from ≤ length log = omega (arith, within, size) in
          let all-within : portion.segment.from + count ≤ length log = omega (arith, within, size) in
          record {
            some = omega arith;
            within = all-within;
            ended = subst (λ (t : List ℕ). IsEnded t) (sym (take-more portion.segment.from count log from-within))
                (later (take count (drop portion.segment.from log)) (length-take count (drop portion.segment.from log)) within (subst (λ (b : List ℕ). IsEnded (take count b)) e ended.ended));
          }
        where
          later : (t : List ℕ) → length t ≡ min count (length (drop portion.segment.from log)) → count ≤ length (drop portion.segment.from log) → IsEnded t → IsEnded (take portion.segment.from log ++ t)
          later t size within (inl none) = let zero-long : length t ≡ 0 = ap (λ (x : List ℕ). length x) none in absurd (omega (arith, size, within, zero-long))
          later t size within (inr (front, e)) =
              inr (take portion.segment.from log ++ front, ap (λ (x : List ℕ). take portion.segment.from log ++ x) e ∙ sym (append_assoc (take portion.segment.from log) front (LINE_FEED ∷ [])))

      next : IsNext log counted part
      next = (found.from_is, go goes.1)
        where
          go : (count : ℕ) × AreEnded portion.bytes count × (goes.0 ≡ portion.segment.from + count) → (goes.0 ≡ counted) ⊎ ((counted < goes.0) × EndsAt log goes.0)
          go (count, ended, to) = by (cases_lt 0 count)
            where
              by : (0 < count) ⊎ (count ≤ 0) → (goes.0 ≡ counted) ⊎ ((counted < goes.0) × EndsAt log goes.0)
              by (inl some) = (let from = found.from_is in inr (omega (arith, to, from), subst (λ (n : ℕ). EndsAt log n) (sym to) (ends-line count ended some)))
              by (inr none) = (let from = found.from_is in inl (omega (arith, to, from)))

      others-same : (j : ℕ) → j ≢ i → parts_at j parts' ≡ parts_at j parts
      others-same j ne = parts-other j parts part (λ e. ne (sym e))

      end-here : end_of 0 (parts_at i parts') ≡ goes.0
      end-here = ap (end_of 0) (parts-more i parts part refl) ∙ end-last 0 (parts_at i parts) part

      once-more : EachOnce logs parts'
      once-more j = go (same-or-not j i)
        where
          before : Adjoin log 0 (parts_at i parts)
          before = subst (λ (o : Option (List ℕ)). AreOnce o (parts_at i parts)) there (tracks.parts_once i)

          here : AreOnce (log_at logs i) (parts_at i parts')
          here =
              subst (λ (o : Option (List ℕ)). AreOnce o (parts_at i parts')) (sym there)
              (subst (λ (ps : List Part). Adjoin log 0 ps) (sym (parts-more i parts part refl)) (adjoin-more log 0 (parts_at i parts) part before next))

          go : (j ≡ i) ⊎ (j ≢ i) → AreOnce (log_at logs j) (parts_at j parts')
          go (inl e) = subst (λ (p : ℕ). AreOnce (log_at logs p) (parts_at p parts')) (sym e) here
          go (inr ne) = subst (λ (ps : List Part). AreOnce (log_at logs j) ps) (sym (others-same j ne)) (tracks.parts_once j)

      -- ---- no byte was counted of the log so far

      nothing-more : goes.0 ≡ 0 → Tracks logs parts' (map entry_value entries)
      nothing-more none = record {
        own = λ k e stands. (let owned = tracks.own k e stands in (owned.0, moved-owner (all-ends owned.0) owned.1));
        once = λ k l e f place sk sl a b. tracks.once k l e f place sk sl (moved-owner (sym (all-ends place)) a) (moved-owner (sym (all-ends place)) b);
        known = λ place some. known place (subst (λ (n : ℕ). 0 < n) (all-ends place) some);
        parts_once = once-more;
      }
        where
          small : (goes.0 ≡ counted) ⊎ ((counted < goes.0) × EndsAt log goes.0) → goes.0 ≡ counted
          small (inl e) = e
          small (inr (less, ends)) = absurd (omega (arith, less, none))

          all-ends : (j : ℕ) → end_of 0 (parts_at j parts') ≡ end_of 0 (parts_at j parts)
          all-ends j = go (same-or-not j i)
            where
              go : (j ≡ i) ⊎ (j ≢ i) → end_of 0 (parts_at j parts') ≡ end_of 0 (parts_at j parts)
              go (inl e) = subst (λ (p : ℕ). end_of 0 (parts_at p parts') ≡ end_of 0 (parts_at p parts)) (sym e) (end-here ∙ small next.1)
              go (inr ne) = ap (end_of 0) (others-same j ne)

          known : (place : ℕ) → 0 < end_of 0 (parts_at place parts) → (k : ℕ) × (e : EntryValue) × (at (map entry_value entries) k ≡ Some e) × Owns logs parts' place e
          known place some = let k = tracks.known place some in (k.0, k.1, k.2, moved-owner (all-ends place) k.3)

      -- ---- the log has an entry then

      module _ (apart' : AreToldApart logs parts') (entry : Entry) (made : IsEntryOf portion.segment.front goes.0 entry) (some : goes.0 ≢ 0)
          (here : at (map entry_value entries') (seat portion.segment.entry) ≡ Some (entry_value entry))
          (elsewhere : (k : ℕ) → k ≢ seat portion.segment.entry → at (map entry_value entries') k ≡ at (map entry_value entries) k) where
        ends-now : (goes.0 ≡ counted) ⊎ ((counted < goes.0) × EndsAt log goes.0) → EndsAt log goes.0
        ends-now (inr (less, ends)) = ends
        ends-now (inl e) =
            let pos : 0 < counted = omega (arith, some, e) in
            let k = tracks.known i pos in
            let same-log : k.3.log ≡ log = some-same (sym k.3.there ∙ there) in
            subst (λ (n : ℕ). EndsAt log n) (k.3.offset ∙ sym e) (subst (λ (l : List ℕ). EndsAt l k.1.offset) same-log k.3.ends)

        new-owns : Owns logs parts' i (entry_value entry)
        new-owns = record {
          log = log;
          there = there;
          offset = made.offset ∙ sym end-here;
          ends = subst (λ (n : ℕ). EndsAt log n) (sym made.offset) (ends-now next.1);
          digest =
              let short : min goes.0 FRONT ≤ FRONT = omega arith in
              made.digest ∙ ap (λ (front : List ℕ). sha256 (take (min goes.0 FRONT) front)) is.front ∙ ap sha256 (take-take (min goes.0 FRONT) FRONT log short)
              ∙ ap (λ (n : ℕ). sha256 (take (min n FRONT) log)) (sym made.offset);
        }

        -- the entry of another log
        record Other (e : EntryValue) : Type 0 where
          j : ℕ
          another : j ≢ i
          owned : Owns logs parts j e
          owns : Owns logs parts' j e

        other : (k : ℕ) (e : EntryValue) → k ≢ seat portion.segment.entry → at (map entry_value entries') k ≡ Some e → Other e
        other k e ne stands =
            let stood : at (map entry_value entries) k ≡ Some e = sym (elsewhere k ne) ∙ stands in
            let owned = tracks.own k e stood in
            let another : owned.0 ≢ i = λ same. found.others k e ne stood (subst (λ (j : ℕ). Owns logs parts j e) same owned.1) in
            record { j = owned.0; another = another; owned = owned.1; owns = moved-owner (ap (end_of 0) (others-same owned.0 another)) owned.1 }

        -- that of the log itself
        this : (k : ℕ) (e : EntryValue) → k ≡ seat portion.segment.entry → at (map entry_value entries') k ≡ Some e → Owns logs parts' i e
        this k e same stands =
            let is-new : entry_value entry ≡ e = some-same (sym here ∙ subst (λ (n : ℕ). at (map entry_value entries') n ≡ Some e) same stands) in
            subst (λ (v : EntryValue). Owns logs parts' i v) is-new new-owns

        not-both : (k l : ℕ) (e f : EntryValue) (place : ℕ) → k ≡ seat portion.segment.entry → l ≢ seat portion.segment.entry → at (map entry_value entries') k ≡ Some e → at (map entry_value entries') l ≡ Some f
            → Owns logs parts' place e → Owns logs parts' place f → ⊥
        not-both k l e f place same ne sk sl a b =
            let o = other l f ne sl in
            o.another (one-owner apart' o.owns b ∙ sym (one-owner apart' (this k e same sk) a))

        once-each : (k l : ℕ) (e f : EntryValue) (place : ℕ) → at (map entry_value entries') k ≡ Some e → at (map entry_value entries') l ≡ Some f → Owns logs parts' place e → Owns logs parts' place f → k ≡ l
        once-each k l e f place sk sl a b = go (same-or-not k (seat portion.segment.entry)) (same-or-not l (seat portion.segment.entry))
          where
            go : (k ≡ seat portion.segment.entry) ⊎ (k ≢ seat portion.segment.entry) → (l ≡ seat portion.segment.entry) ⊎ (l ≢ seat portion.segment.entry) → k ≡ l
            go (inl x) (inl y) = x ∙ sym y
            go (inl x) (inr y) = absurd (not-both k l e f place x y sk sl a b)
            go (inr x) (inl y) = absurd (not-both l k f e place y x sl sk b a)
            go (inr x) (inr y) =
                let o = other k e x sk in
                let p = other l f y sl in
                let same : p.j ≡ o.j = one-owner apart' p.owns b ∙ sym (one-owner apart' o.owns a) in
                tracks.once k l e f o.j (sym (elsewhere k x) ∙ sk) (sym (elsewhere l y) ∙ sl) o.owned (subst (λ (j : ℕ). Owns logs parts j f) same p.owned)

        own-each : (k : ℕ) (e : EntryValue) → at (map entry_value entries') k ≡ Some e → (place : ℕ) × Owns logs parts' place e
        own-each k e stands = go (same-or-not k (seat portion.segment.entry))
          where
            go : (k ≡ seat portion.segment.entry) ⊎ (k ≢ seat portion.segment.entry) → (place : ℕ) × Owns logs parts' place e
            go (inl same) = (i, this k e same stands)
            go (inr ne) = let o = other k e ne stands in (o.j, o.owns)

        known-each : (place : ℕ) → 0 < end_of 0 (parts_at place parts') → (k : ℕ) × (e : EntryValue) × (at (map entry_value entries') k ≡ Some e) × Owns logs parts' place e
        known-each place pos = go (same-or-not place i)
          where
            go : (place ≡ i) ⊎ (place ≢ i) → (k : ℕ) × (e : EntryValue) × (at (map entry_value entries') k ≡ Some e) × Owns logs parts' place e
            go (inl e) = (seat portion.segment.entry, entry_value entry, here, subst (λ (p : ℕ). Owns logs parts' p (entry_value entry)) (sym e) new-owns)
            go (inr ne) =
                let k = tracks.known place (subst (λ (n : ℕ). 0 < n) (ap (end_of 0) (others-same place ne)) pos) in
                let off : k.0 ≢ seat portion.segment.entry =
                λ same. ne (sym (one-owner apart (found.was k.1 (subst (λ (n : ℕ). at (map entry_value entries) n ≡ Some k.1) same k.2)) k.3)) in
                (k.0, k.1, elsewhere k.0 off ∙ k.2, moved-owner (ap (end_of 0) (others-same place ne)) k.3)

        with-new : Tracks logs parts' (map entry_value entries')
        with-new = record { own = own-each; once = once-each; known = known-each; parts_once = once-more }

      -- where the entry goes
      put-here : (choice : Option ℕ) (from : ℕ) (entry : Entry) → IsChoice entries (take FRONT log) (length log) choice from
          → at (map entry_value (with_entry choice entry entries)) (seat choice) ≡ Some (entry_value entry)
      put-here None from entry c = at-map entry_value (entries ++ entry ∷ []) (length entries) entry (at-last entries entry)
      put-here (Some place) from entry (old, chosen, e) =
          at-map entry_value (set entries place entry) place entry (at-set entries place entry old (stands-at entries place old chosen.stands.below chosen.stands.is))

      put-there : (choice : Option ℕ) (entry : Entry) (k : ℕ) → k ≢ seat choice → at (map entry_value (with_entry choice entry entries)) k ≡ at (map entry_value entries) k
      put-there None entry k ne =
          at-map_is entry_value (entries ++ entry ∷ []) k ∙ ap (option_map entry_value) (at-before entries entry k ne) ∙ sym (at-map_is entry_value entries k)
      put-there (Some place) entry k ne =
          at-map_is entry_value (set entries place entry) k ∙ ap (option_map entry_value) (at-unset entries place entry k ne) ∙ sym (at-map_is entry_value entries k)

      pub tracks-more : AreToldApart logs parts' → Tracks logs parts' (map entry_value entries')
      tracks-more apart' = go (same-or-not goes.0 0)
        where
          go : (goes.0 ≡ 0) ⊎ (goes.0 ≢ 0) → Tracks logs parts' (map entry_value entries')
          go (inl none) = subst (λ (es : List Entry). Tracks logs parts' (map entry_value es)) (sym (goes.2.nothing none)) (nothing-more none)
          go (inr some) =
              let (entry, made, put) = goes.2.counted some in
              with-new apart' entry made some
              (subst (λ (es : List Entry). at (map entry_value es) (seat portion.segment.entry) ≡ Some (entry_value entry)) (sym put) (put-here portion.segment.entry portion.segment.from entry choice))
              (λ k ne. subst (λ (es : List Entry). at (map entry_value es) k ≡ at (map entry_value entries) k) (sym put) (put-there portion.segment.entry entry k ne))

-- the portions of several logs, one after the other
tracks-last : (logs : List (List ℕ × List ℕ)) (names : List (List ℕ)) (parts : List Part) (old new : List Entry) (portions : List Portion)
    (told : AreTold ToLastLine (Some (only_these logs)) names old new portions) → AreToldApart logs (parts ++ (parts-of ToLastLine logs names old new portions told).0)
    → Tracks logs parts (map entry_value old) → Tracks logs (parts ++ (parts-of ToLastLine logs names old new portions told).0) (map entry_value new)
tracks-last logs [] parts old new portions told_all apart tracks = subst (λ (ps : List Part). Tracks logs ps (map entry_value new)) (sym (append-nil parts)) tracks
tracks-last logs (name ∷ names) parts old new portions (told_then {log = log} {mid = mid} {portion = portion} {portions = rest} is reads goes more) apart tracks =
    let place = placed name logs log is in
    let first : Part = record { log = place.0; from = portion.segment.from; to = goes.0 } in
    let later : List Part = (parts-of ToLastLine logs names mid new rest more).0 in
    let along = append_assoc parts (first ∷ []) later in
    let apart-all : AreToldApart logs ((parts ++ first ∷ []) ++ later) = subst (λ (ps : List Part). AreToldApart logs ps) (sym along) apart in
    let apart-first : AreToldApart logs (parts ++ first ∷ []) = front (IsToldApart logs) (parts ++ first ∷ []) later apart-all in
    let apart-before : AreToldApart logs parts = front (IsToldApart logs) parts (first ∷ []) apart-first in
    subst (λ (ps : List Part). Tracks logs ps (map entry_value new)) along
    (tracks-last logs names (parts ++ first ∷ []) mid new rest more apart-all
    (tracks-more logs parts apart-before place.0 log place.2 old tracks portion mid reads goes apart-first))

pub tracks-told : (follow : Follow) → follow ≡ ToLastLine → (logs : List (List ℕ × List ℕ)) (names : List (List ℕ)) (parts : List Part) (old new : List Entry) (portions : List Portion)
    (told : AreTold follow (Some (only_these logs)) names old new portions) → AreToldApart logs (parts ++ (parts-of follow logs names old new portions told).0)
    → Tracks logs parts (map entry_value old) → Tracks logs (parts ++ (parts-of follow logs names old new portions told).0) (map entry_value new)
tracks-told follow e logs names parts old new portions =
    subst (λ (f : Follow). (told : AreTold f (Some (only_these logs)) names old new portions) → AreToldApart logs (parts ++ (parts-of f logs names old new portions told).0)
    → Tracks logs parts (map entry_value old) → Tracks logs (parts ++ (parts-of f logs names old new portions told).0) (map entry_value new))
    (sym e) (tracks-last logs names parts old new portions)
