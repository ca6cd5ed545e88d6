-- Which of a summary's entries are closed, and which may be open while others are put in their places.
use Rattle.std.proofs.Common.{◌≡◌, ℕ, zero, suc, ◌+◌, ◌<◌, Bool, true, false, cond, List, [], ◌∷◌, Some, None, Less, Equal, Greater, length, get_or, set, Box, refl, sym, ap, ◌∙◌, subst, arith}
use Rattle.std.proofs.lemmas.Cmp.{alike_right, tied_itself}
use Rattle.std.proofs.lemmas.List.Elements.{All-from_recursion, recursion_from_All}
use Rattle.std.specs.Box.{with_value}
use Rattle.std.specs.List.{AllByRecursion, find, insert}
use Rattle.std.specs.Ordering.{is_eq, ordering_reverse}
use Rattle.ga_base.specs.declared.key.Key.{Key}
use Rattle.ga_base.specs.Orders.{key_cmp, is_same_key}
use Rattle.ga_base.proofs.OrderLemmas.{key_cmp_total}
use Rattle.ga_summary.specs.declared.entry.Entry.{Entry}
use Rattle.ga_summary.specs.SummaryRows.{SummaryRow}
use Rattle.ga_summary.specs.Steps.Entries.{AllClosed, IsClosed, entry_names, row_of, rows_of}
use Rattle.ga_summary.specs.Steps.Places.{Rises}
use Rattle.ga_summary.specs.Steps.Room.{IsClosedAt, OpenAmong, entry_at}
use Rattle.ga_summary.proofs.Put.{Above, Some≢None, above_more, above_same, find_above, none_unmapped, rises_head, rises_tail, find_same, equal_from_is_eq}

some_inj : {X : Type 0} {x y : X} → Some x ≡ Some y → x ≡ y
some_inj e = cc

pub closed_names : (entry : Entry) → IsClosed entry → entry_names entry ≡ entry.names
closed_names entry closed = rw closed

module _ {X : Type 0} (P : X → Type 0) (test : X → Bool) where
  -- what is found is one of all
  pub found_passes : (xs : List X) (x : X) → AllByRecursion P xs → find test xs ≡ Some x → P x
  found_passes [] x all found = absurd (Some≢None (sym found))
  found_passes (y ∷ xs) x all found = elim (test y) as (λ v. cond v (Some y) (find test xs) ≡ Some x → P x) [
    | true ↦ λ here. subst P (some_inj here) all.0
    | false ↦ λ rest. found_passes xs x all.1 rest
  ] found

  -- where nothing was found, what is found after an insertion is what was inserted
  pub found_inserted : (xs : List X) (i : ℕ) (y x : X) → P y → find test xs ≡ None → find test (insert xs i y) ≡ Some x → P x
  found_inserted [] zero y x p none found = found_passes (y ∷ []) x (p, tt) found
  found_inserted [] (suc i) y x p none found = found_passes (y ∷ []) x (p, tt) found
  found_inserted (z ∷ xs) zero y x p none found = elim (test y) as (λ v. cond v (Some y) (find test (z ∷ xs)) ≡ Some x → P x) [
    | true ↦ λ here. subst P (some_inj here) p
    | false ↦ λ rest. absurd (Some≢None (sym rest ∙ none))
  ] found
  found_inserted (z ∷ xs) (suc i) y x p none found = elim (test z) as (λ v. cond v (Some z) (find test xs) ≡ None → cond v (Some z) (find test (insert xs i y)) ≡ Some x → P x) [
    | true ↦ λ here later. absurd (Some≢None here)
    | false ↦ λ rest later. found_inserted xs i y x p rest later
  ] none found

-- where nothing is found, the item at a place doesn't pass
pub missing_apart : {X : Type 0} (test : X → Bool) (xs : List X) (i : ℕ) (d : X) → i < length xs → find test xs ≡ None → test (get_or xs i d) ≡ false
missing_apart test [] i d lt none = absurd (omega arith)
missing_apart test (x ∷ xs) zero d lt none = elim (test x) as (λ v. cond v (Some x) (find test xs) ≡ None → v ≡ false) [
  | true ↦ λ here. absurd (Some≢None here)
  | false ↦ λ rest. refl
] none
missing_apart test (x ∷ xs) (suc i) d lt none = elim (test x) as (λ v. cond v (Some x) (find test xs) ≡ None → test (get_or xs i d) ≡ false) [
  | true ↦ λ here. absurd (Some≢None here)
  | false ↦ λ rest. missing_apart test xs i d (omega arith) rest
] none

-- what passes at the place after those that pass
pub one_more : {X : Type 0} (P : X → Type 0) (xs : List X) (i : ℕ) (y : X) → i < length xs → y ≡ get_or xs i y → P y → ((j : ℕ) (d : X) → j < i → P (get_or xs j d)) → (j : ℕ) (d : X) → j < i + 1 → P (get_or xs j d)
one_more P [] i y lt read p before j d l = absurd (omega arith)
one_more P (x ∷ xs) zero y lt read p before zero d l = subst P read p
one_more P (x ∷ xs) zero y lt read p before (suc j) d l = absurd (omega arith)
one_more P (x ∷ xs) (suc i) y lt read p before zero d l = before 0 d (omega arith)
one_more P (x ∷ xs) (suc i) y lt read p before (suc j) d l = one_more P xs i y (omega arith) read p (λ k e less. before (suc k) e (omega arith)) j d (omega arith)

-- a change at the place after those that pass
pub set_more : {X : Type 0} (P : X → Type 0) (xs : List X) (i : ℕ) (y : X) → i < length xs → P y → ((j : ℕ) (d : X) → j < i → P (get_or xs j d)) → (j : ℕ) (d : X) → j < i + 1 → P (get_or (set xs i y) j d)
set_more P [] i y lt p before j d l = absurd (omega arith)
set_more P (x ∷ xs) zero y lt p before zero d l = p
set_more P (x ∷ xs) zero y lt p before (suc j) d l = absurd (omega arith)
set_more P (x ∷ xs) (suc i) y lt p before zero d l = before 0 d (omega arith)
set_more P (x ∷ xs) (suc i) y lt p before (suc j) d l = set_more P xs i y (omega arith) p (λ k e less. before (suc k) e (omega arith)) j d (omega arith)

abbrev pub EntriesRise : {A : Type 0} → List (Box Entry A) → Type 0
EntriesRise entries = Rises key_cmp (λ (row : SummaryRow). row.key) (rows_of entries)

module _ {A : Type 0} where
  -- an entry with the same row at the place of another
  pub rows_kept : (entries : List (Box Entry A)) (i : ℕ) (b : Box Entry A) (entry : Entry) → i < length entries → row_of entry ≡ row_of (get_or entries i b).value → rows_of (set entries i (with_value (get_or entries i b) entry)) ≡ rows_of entries
  rows_kept [] i b entry lt row = absurd (omega arith)
  rows_kept (x ∷ xs) zero b entry lt row = ap (λ (r : SummaryRow). r ∷ rows_of xs) row
  rows_kept (x ∷ xs) (suc i) b entry lt row = ap (λ (l : List SummaryRow). row_of x.value ∷ l) (rows_kept xs i b entry (omega arith) row)

  pub open_to_none : (entries more : List (Box Entry A)) (n : ℕ) → n ≡ length more → n ≡ 0 → OpenAmong entries more → OpenAmong entries []
  open_to_none entries [] n len none opened = opened
  open_to_none entries (b ∷ more) n len none opened = absurd (omega (arith, len, none))

  pub closed_at : (entries : List (Box Entry A)) → AllClosed entries → (key : Key) → IsClosedAt entries key
  closed_at entries closed key x found = found_passes (λ (b : Box Entry A). IsClosed b.value) (λ (b : Box Entry A). is_same_key key b.value.key) entries x (recursion_from_All (λ (b : Box Entry A). IsClosed b.value) entries closed) found

  pub open_from_closed : (entries more : List (Box Entry A)) → AllClosed entries → OpenAmong entries more
  open_from_closed entries more closed key none = closed_at entries closed key

  -- a key below all entries' has none of them
  missing_above : (key : Key) (entries : List (Box Entry A)) → Above key_cmp (λ (row : SummaryRow). row.key) key (rows_of entries) → entry_at entries key ≡ None
  missing_above key entries above = none_unmapped (λ (row : SummaryRow). is_same_key key row.key) (λ (b : Box Entry A). row_of b.value) entries (find_above key_cmp key_cmp_total (λ (row : SummaryRow). row.key) key (rows_of entries) above)

  module _ (a : Box Entry A) (ls : List (Box Entry A)) (rising : EntriesRise (a ∷ ls)) where
    above : Above key_cmp (λ (row : SummaryRow). row.key) a.value.key (rows_of ls)
    above = rises_head key_cmp (λ (row : SummaryRow). row.key) (row_of a.value) (rows_of ls) rising

    missing_same : (key : Key) → key_cmp key a.value.key ≡ Equal → entry_at ls key ≡ None
    missing_same key same = missing_above key ls (above_same key_cmp key_cmp_total (λ (row : SummaryRow). row.key) key a.value.key (rows_of ls) same above)

    missing_below : (key : Key) → key_cmp key a.value.key ≡ Less → entry_at (a ∷ ls) key ≡ None
    missing_below key less = missing_above key (a ∷ ls) (less, above_more key_cmp key_cmp_total (λ (row : SummaryRow). row.key) key a.value.key (rows_of ls) less above)

    -- what is found among the others has another key
    found_apart : (key : Key) (x : Box Entry A) → entry_at ls key ≡ Some x → is_same_key key a.value.key ≡ false
    found_apart key x found = elim (key_cmp key a.value.key) as (λ v. key_cmp key a.value.key ≡ v → is_eq v ≡ false) [
      | Less ↦ λ e. refl
      | Equal ↦ λ e. absurd (Some≢None (sym found ∙ missing_same key e))
      | Greater ↦ λ e. refl
    ] refl

    closed_rest : (key : Key) → IsClosedAt (a ∷ ls) key → IsClosedAt ls key
    closed_rest key closed x found = closed x (rw (found_apart key x found) found)

    pub open_rest : (more : List (Box Entry A)) → OpenAmong (a ∷ ls) more → OpenAmong ls more
    open_rest more opened key none = closed_rest key (opened key none)

  closed_first : (a : Box Entry A) (ls : List (Box Entry A)) → IsClosedAt (a ∷ ls) a.value.key → IsClosed a.value
  closed_first a ls closed = closed a (rw (tied_itself key_cmp_total a.value.key))

  pub closed_from_open : (entries : List (Box Entry A)) → EntriesRise entries → OpenAmong entries [] → AllClosed entries
  closed_from_open entries rising opened = All-from_recursion (λ (b : Box Entry A). IsClosed b.value) entries (go entries rising opened)
    where
      go : (entries : List (Box Entry A)) → EntriesRise entries → OpenAmong entries [] → AllByRecursion (λ (b : Box Entry A). IsClosed b.value) entries
      go [] rising opened = tt
      go (a ∷ ls) rising opened = (closed_first a ls (opened a.value.key refl), go ls (rises_tail key_cmp (λ (row : SummaryRow). row.key) (row_of a.value) (rows_of ls) rising) (open_rest a ls rising [] opened))

  -- the first entry is closed where no more will come to it
  pub first_closed : (a : Box Entry A) (ls : List (Box Entry A)) → OpenAmong (a ∷ ls) [] → IsClosed a.value
  first_closed a ls opened = closed_first a ls (opened a.value.key refl)

  module _ (a b : Box Entry A) (ls rs : List (Box Entry A)) (opened : OpenAmong (a ∷ ls) (b ∷ rs)) where
    pub less_closed : EntriesRise (b ∷ rs) → key_cmp a.value.key b.value.key ≡ Less → IsClosed a.value
    less_closed rising less = closed_first a ls (opened a.value.key (missing_below b rs rising a.value.key less))

    pub open_equal : EntriesRise (a ∷ ls) → key_cmp a.value.key b.value.key ≡ Equal → OpenAmong ls rs
    open_equal rising equal key none x found =
        let apart = found_apart a ls rising key x found in
        let apart_too : is_same_key key b.value.key ≡ false = ap is_eq (sym (alike_right key_cmp_total a.value.key b.value.key key equal)) ∙ apart in
        opened key (rw apart_too none) x (rw apart found)

    pub open_greater : EntriesRise (a ∷ ls) → key_cmp a.value.key b.value.key ≡ Greater → OpenAmong (a ∷ ls) rs
    open_greater rising greater key none x found =
        let below : key_cmp b.value.key a.value.key ≡ Less = key_cmp_total.antisymm b.value.key a.value.key ∙ ap ordering_reverse greater in
        let missing : entry_at (a ∷ ls) b.value.key ≡ None = missing_below a ls rising b.value.key below in
        elim (is_same_key key b.value.key) as (λ v. is_same_key key b.value.key ≡ v → IsClosed x.value) [
          | true ↦ λ same. absurd (Some≢None (sym found ∙ find_same key_cmp key_cmp_total (λ (c : Box Entry A). c.value.key) key b.value.key (a ∷ ls) (equal_from_is_eq _ same) ∙ missing))
          | false ↦ λ apart. opened key (rw apart none) x found
        ] refl

-- other entries, that differ at one key
module _ {A : Type 0} (old new : List (Box Entry A)) (key : Key) (others : (other : Key) → is_same_key other key ≡ false → entry_at new other ≡ entry_at old other) where
  -- where the entry of the key is closed now
  pub open_placed : (b : Box Entry A) (more : List (Box Entry A)) → b.value.key ≡ key → ((other : Key) → is_same_key other key ≡ true → IsClosedAt new other) → OpenAmong old (b ∷ more) → OpenAmong new more
  open_placed b more is closed opened other none = elim (is_same_key other key) as (λ v. is_same_key other key ≡ v → IsClosedAt new other) [
    | true ↦ λ same. closed other same
    | false ↦ λ apart. λ x found. opened other (rw (is, apart) none) x (sym (others other apart) ∙ found)
  ] refl

  -- where the key is among those of more
  pub open_among : (more : List (Box Entry A)) (i : ℕ) (b : Box Entry A) → i < length more → b ≡ get_or more i b → b.value.key ≡ key → OpenAmong old more → OpenAmong new more
  open_among more i b within read is opened other none x found =
      let apart : is_same_key other key ≡ false = ap (λ (k : Key). is_same_key other k) (sym is) ∙ ap (λ (c : Box Entry A). is_same_key other c.value.key) read ∙ missing_apart (λ (c : Box Entry A). is_same_key other c.value.key) more i b within none in
      opened other none x (sym (others other apart) ∙ found)
