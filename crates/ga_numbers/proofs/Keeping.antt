-- Rows in shards: a row has one place, and a place one number. So rows that are in the order of their numbers are different, and
-- a row is noted among them by a look at its place.
use Rattle.std.proofs.Common.{◌≡◌, ℕ, zero, suc, ◌+◌, ◌<◌, ◌≤◌, ◌^◌, false, List, [], ◌∷◌, ◌++◌, length, get_or, map, None, Some, refl, sym, ap, ◌∙◌, subst, arith, length-append, ⊎_elim}
use Rattle.std.specs.Prelude.{slice_get}
use Rattle.std.specs.List.{All, IsDistinct, list_any}
use Rattle.std.proofs.lemmas.Bool.{cases_Bool, cases_lt, cond-false}
use Rattle.std.proofs.lemmas.List.{get_or-map, length-map, map_push, get_or_append_left}
use Rattle.std.proofs.lemmas.List.Elements.{All-nil}
use Rattle.std.proofs.lemmas.List.Folds.{Any-from_list_any}
use Rattle.std.proofs.lemmas.Map.Keys.{IsDistinct-from_apart}
use Rattle.std.proofs.lemmas.Option.{slice_get-get_or, slice_get_within, get_or_from_slice_get}
use Rattle.std.proofs.Math.Seq.{get_or-append_seam}
use Rattle.ga_shards.specs.Numbers.{item_of}
use Rattle.ga_shards.specs.Steps.{all_noted}
use Rattle.ga_shards.proofs.Noting.{from-all, stays-distinct}
use Rattle.ga_numbers.specs.Steps.Kept.{AreKept, AreNamed, AreShards, Grows, IsRowAt, StandsAt, no_row, row_at, rows_in}
use Rattle.ga_numbers.specs.NotedNumbers.{IsNumbered}
use Rattle.ga_numbers.specs.Steps.ShardRows.{is_same_row, shard_at}
use Rattle.ga_numbers.specs.declared.place.Place.{Place}
use Rattle.ga_numbers.specs.declared.shard_row.ShardRow.{ShardRow}
use Rattle.ga_numbers.proofs.AllNoted.{keeps-place}
use Rattle.ga_numbers.proofs.Prefixed.{get-mapped}
use Rattle.ga_numbers.proofs.Prefixing.{place-told}
use Rattle.ga_numbers.proofs.Noted.{place-absent}
use Rattle.ga_numbers.proofs.NotedSo.{stands-so}
use Rattle.ga_numbers.proofs.Same.{row-laws, same-row}

place-made : (p q : Place) → p.shard ≡ q.shard → p.local ≡ q.local → p ≡ q
place-made p q shard local = λ i. record { shard = shard i; local = local i }

-- what is at a place is the row there
pub row-there : (shards : List (List ShardRow)) (p : Place) → IsRowAt shards p → StandsAt shards p (row_at shards p)
row-there shards p within = slice_get-get_or (get_or shards p.shard []) p.local no_row within

pub row-is : (shards : List (List ShardRow)) (p : Place) (row : ShardRow) → StandsAt shards p row → row_at shards p ≡ row
row-is shards p row stands = get_or_from_slice_get (get_or shards p.shard []) p.local row no_row stands

pub is-there : (shards : List (List ShardRow)) (p : Place) (row : ShardRow) → StandsAt shards p row → IsRowAt shards p
is-there shards p row stands = slice_get_within (get_or shards p.shard []) p.local row stands

-- a list as its elements
at-of : {T : Type 0} (xs : List T) (n : ℕ) (d : T) → n < length xs → slice_get xs n ≡ Some (get_or xs n d)
at-of xs n d within = slice_get-get_or xs n d within

module _ (shards : List (List ShardRow)) (are : AreShards shards) where
  -- a row has one place
  pub one-place : (p q : Place) → IsRowAt shards p → IsRowAt shards q → row_at shards p ≡ row_at shards q → p ≡ q
  one-place p q in-p in-q same = place-made p q shard local
    where
      shard : p.shard ≡ q.shard
      shard = sym (are.own p.shard p.local no_row in-p) ∙ ap (λ (r : ShardRow). shard_at r) same ∙ are.own q.shard q.local no_row in-q

      in-p-too : p.local < length (get_or shards q.shard [])
      in-p-too = subst (λ s. p.local < length (get_or shards s [])) shard in-p

      local : p.local ≡ q.local
      local =
          place-told is_same_row row-laws (get_or shards q.shard []) (are.different q.shard) p.local q.local no_row in-p-too in-q
          (ap (λ s. get_or (get_or shards s []) p.local no_row) (sym shard) ∙ same)

module _ (shards : List (List ShardRow)) (numbers : List (List ℕ)) (places : List Place) (are : AreShards shards) (named : AreNamed shards numbers places) where
  -- rows with numbers
  listed : List ShardRow
  listed = rows_in shards places

  no_place : Place
  no_place = record { shard = 0; local = 0 }

  listed-at : (n : ℕ) (d : ShardRow) → n < length (rows_in shards places) → (p : Place) × (slice_get places n ≡ Some p) × IsRowAt shards p × (get_or (rows_in shards places) n d ≡ row_at shards p)
  listed-at n d within =
      let inside : n < length places = omega (arith, within, length-map places (row_at shards)) in
      let p = get_or places n no_place in
      let at : slice_get places n ≡ Some p = at-of places n no_place inside in
      (p, at, named.rows n p at, get_or-map (row_at shards) places n no_place d inside)

  -- two rows that are the same have one number
  one-number : (i j : ℕ) (p q : Place) → slice_get places i ≡ Some p → slice_get places j ≡ Some q → p ≡ q → i ≡ j
  one-number i j p q at-i at-j same =
      let a : item_of numbers p.shard p.local ≡ Some i = named.known i p at-i in
      let b : item_of numbers p.shard p.local ≡ Some j = subst (λ (r : Place). item_of numbers r.shard r.local ≡ Some j) (sym same) (named.known j q at-j) in
      cc

  pub different-rows : IsDistinct is_same_row (rows_in shards places)
  different-rows = IsDistinct-from_apart is_same_row (rows_in shards places) (λ i j d less within.
      let within-i : i < length (rows_in shards places) = omega (arith, less, within) in
      let a = listed-at i d within-i in
      let b = listed-at j d within in
      ⊎_elim
      (λ same.
      let rows : row_at shards a.0 ≡ row_at shards b.0 = sym a.3 ∙ same-row _ _ same ∙ b.3 in
      let number : i ≡ j = one-number i j a.0 b.0 a.1 b.1 (one-place shards are a.0 b.0 a.2 b.2 rows) in
      absurd (omega (arith, number, less)))
      (λ apart. apart)
      (cases_Bool (is_same_row (get_or (rows_in shards places) i d) (get_or (rows_in shards places) j d))))

  -- a row that has a number is noted
  pub known-row : (p : Place) (row : ShardRow) (n : ℕ) → StandsAt shards p row → slice_get places n ≡ Some p → IsNumbered is_same_row row n (rows_in shards places) (rows_in shards places)
  known-row p row n stands at =
      stands-so is_same_row row-laws row n (rows_in shards places) different-rows (get-mapped (row_at shards) places n p at ∙ ap Some (row-is shards p row stands))

  -- a row at a place that no number has isn't there
  absent-row : (p : Place) (row : ShardRow) → StandsAt shards p row → ((n : ℕ) → slice_get places n ≡ Some p → ⊥) → list_any (is_same_row row) (rows_in shards places) ≡ false
  absent-row p row stands none =
      ⊎_elim
      (λ any.
      let found = Any-from_list_any (is_same_row row) (rows_in shards places) any in
      let k = found.0 in
      let x = found.1 in
      let within : k < length (rows_in shards places) = found.2 in
      let there = listed-at k x within in
      let same : row_at shards p ≡ row_at shards there.0 = row-is shards p row stands ∙ same-row row x found.4 ∙ sym found.3 ∙ there.3 in
      absurd (none k (there.1 ∙ ap Some (sym (one-place shards are p there.0 (is-there shards p row stands) there.2 same)))))
      (λ absent. absent)
      (cases_Bool (list_any (is_same_row row) (rows_in shards places)))

  -- and is noted after the others
  pub next-row : (p : Place) (row : ShardRow) → StandsAt shards p row → ((n : ℕ) → slice_get places n ≡ Some p → ⊥)
      → IsNumbered is_same_row row (length places) (rows_in shards places) (rows_in shards (places ++ p ∷ []))
  next-row p row stands none = record {
    place = sym (place-absent is_same_row (rows_in shards places) row absent ∙ length-map places (row_at shards));
    items = pushed ∙ sym (cond-false _ _ _ absent);
    stands =
        get-mapped (row_at shards) (places ++ p ∷ []) (length places) p
        (at-of (places ++ p ∷ []) (length places) p (omega (arith, length-append places (p ∷ []))) ∙ ap Some (get_or-append_seam places p [] p))
        ∙ ap Some (row-is shards p row stands);
  }
    where
      absent : list_any (is_same_row row) (rows_in shards places) ≡ false
      absent = absent-row p row stands none

      pushed : rows_in shards (places ++ p ∷ []) ≡ rows_in shards places ++ row ∷ []
      pushed = map_push (row_at shards) places p ∙ ap (λ (r : ShardRow). rows_in shards places ++ r ∷ []) (row-is shards p row stands)

  -- names stand where shards grow
  pub extended-named : (new : List (List ShardRow)) → Grows shards new → AreNamed new numbers places
  extended-named new grows = record {
    many = named.many ∙ sym grows.many;
    few = named.few;
    rows = λ n p at. is-there new p (row_at shards p) (grows.kept p.shard p.local (row_at shards p) (row-there shards p (named.rows n p at)));
    known = named.known;
  }

  pub extended-rows : (new : List (List ShardRow)) → Grows shards new → rows_in new places ≡ rows_in shards places
  extended-rows new grows = go places named.rows
    where
      go : (ps : List Place) → ((n : ℕ) (p : Place) → slice_get ps n ≡ Some p → IsRowAt shards p) → rows_in new ps ≡ rows_in shards ps
      go [] rows = refl
      go (p ∷ ps) rows =
          let same : row_at new p ≡ row_at shards p = row-is new p (row_at shards p) (grows.kept p.shard p.local (row_at shards p) (row-there shards p (rows 0 p refl))) in
          λ i. same i ∷ go ps (λ n q at. rows (suc n) q at) i

  -- and where no number is lost
  pub kept-named : (new : List (List ℕ)) → length new ≡ length numbers → ((s l n : ℕ) → item_of numbers s l ≡ Some n → item_of new s l ≡ Some n) → AreNamed shards new places
  kept-named new long kept = record {
    many = long ∙ named.many;
    few = named.few;
    rows = named.rows;
    known = λ n p at. kept p.shard p.local n (named.known n p at);
  }

  -- the next number is set for a row that has none
  pub next-named : (p : Place) (row : ShardRow) (new : List (List ℕ)) → StandsAt shards p row → ((n : ℕ) → slice_get places n ≡ Some p → ⊥) → length new ≡ length numbers → length places + 1 < 2 ^ 32
      → item_of new p.shard p.local ≡ Some (length places) → ((s l n : ℕ) → ((s ≡ p.shard) × (l ≡ p.local) → ⊥) → item_of numbers s l ≡ Some n → item_of new s l ≡ Some n)
      → AreNamed shards new (places ++ p ∷ [])
  next-named p row new stands none long few here others = record {
    many = long ∙ named.many;
    few = omega (arith, few, length-append places (p ∷ []));
    rows = λ n q at. ⊎_elim
        (λ before. named.rows n q (earlier n q before at))
        (λ past. subst (IsRowAt shards) (sym (last n q past at)) (is-there shards p row stands))
        (cases_lt n (length places));
    known = λ n q at. ⊎_elim
        (λ before.
        let was = earlier n q before at in
        others q.shard q.local n (λ same. none n (was ∙ ap Some (place-made q p same.0 same.1))) (named.known n q was))
        (λ past.
        let end : length places ≡ n = omega (arith, past, slice_get_within (places ++ p ∷ []) n q at, length-append places (p ∷ [])) in
        subst (λ (r : Place). item_of new r.shard r.local ≡ Some n) (sym (last n q past at)) (here ∙ ap Some end))
        (cases_lt n (length places));
  }
    where
      earlier : (n : ℕ) (q : Place) → n < length places → slice_get (places ++ p ∷ []) n ≡ Some q → slice_get places n ≡ Some q
      earlier n q before at =
          at-of places n q before ∙ ap Some (sym (get_or_append_left places (p ∷ []) q n before) ∙ get_or_from_slice_get (places ++ p ∷ []) n q q at)

      last : (n : ℕ) (q : Place) → length places ≤ n → slice_get (places ++ p ∷ []) n ≡ Some q → q ≡ p
      last n q past at =
          let end : n ≡ length places = omega (arith, past, slice_get_within (places ++ p ∷ []) n q at, length-append places (p ∷ [])) in
          sym (get_or_from_slice_get (places ++ p ∷ []) n q q at) ∙ ap (λ k. get_or (places ++ p ∷ []) k q) end ∙ get_or-append_seam places p [] q

-- shards in which rows were noted, each in its own
pub noted-shards : (shards new : List (List ShardRow)) → AreShards shards → length new ≡ length shards
    → ((s : ℕ) → (more : List ShardRow) × (get_or new s [] ≡ all_noted is_same_row (get_or shards s []) more) × All (λ (row : ShardRow). shard_at row ≡ s) more) → AreShards new
noted-shards shards new are long each = record {
  many = λ some. long ∙ are.many (omega (arith, some, long));
  different = λ s.
      let at = each s in
      subst (IsDistinct is_same_row) (sym at.1) (stays-distinct is_same_row row-laws at.0 (get_or shards s []) (are.different s));
  own = λ s.
      let at = each s in
      subst (All (λ (row : ShardRow). shard_at row ≡ s)) (sym at.1) (from-all is_same_row row-laws (λ (row : ShardRow). shard_at row ≡ s) at.0 (get_or shards s []) (are.own s) at.2);
}

pub noted-grows : (shards new : List (List ShardRow)) → length new ≡ length shards → ((s : ℕ) → (more : List ShardRow) × (get_or new s [] ≡ all_noted is_same_row (get_or shards s []) more)) → Grows shards new
noted-grows shards new long each = record {
  many = long;
  kept = λ s l row at.
      let one = each s in
      subst (λ rows. slice_get rows l ≡ Some row) (sym one.1) (keeps-place is_same_row one.0 (get_or shards s []) l row at);
}

-- shards without rows, and no places
pub vacant-kept : (shards : List (List ShardRow)) (numbers : List (List ℕ)) → (0 < length shards → length shards ≡ 64) → ((s : ℕ) → get_or shards s [] ≡ []) → length numbers ≡ length shards → AreKept shards numbers []
vacant-kept shards numbers many vacant long = record {
  sharded = record {
    many = many;
    different = λ s. subst (IsDistinct is_same_row) (sym (vacant s)) (IsDistinct-from_apart is_same_row [] (λ i j d less within. let off : j < 0 = within in absurd (omega (arith, off))));
    own = λ s. subst (All (λ (row : ShardRow). shard_at row ≡ s)) (sym (vacant s)) (All-nil (λ (row : ShardRow). shard_at row ≡ s));
  };
  named = record {
    many = long;
    few = omega arith;
    rows = λ n p at. let off : None ≡ Some p = at in absurd (cc off);
    known = λ n p at. let off : None ≡ Some p = at in absurd (cc off);
  };
}

-- where there are no shards, no row has a number
pub no-places : (shards : List (List ShardRow)) (numbers : List (List ℕ)) (places : List Place) → AreNamed shards numbers places → length shards ≡ 0 → places ≡ []
no-places shards numbers [] named none = refl
no-places [] numbers (p ∷ places) named none = let off : p.local < 0 = named.rows 0 p refl in absurd (omega (arith, off))
no-places (s ∷ shards) numbers (p ∷ places) named none = absurd (omega (arith, none))

-- a list that has an element is one of the lists
pub shard-within : (shards : List (List ShardRow)) (s l : ℕ) → l < length (get_or shards s []) → s < length shards
shard-within [] s l within = let off : l < 0 = within in absurd (omega (arith, off))
shard-within (x ∷ shards) zero l within = omega arith
shard-within (x ∷ shards) (suc s) l within = let rest = shard-within shards s l within in omega arith

pub any-default : {T : Type 0} (xs : List T) (n : ℕ) (d x : T) → n < length xs → x ≡ get_or xs n x → get_or xs n d ≡ x
any-default xs n d x within is = get_or_from_slice_get xs n x d (slice_get-get_or xs n x within ∙ ap Some (sym is))

-- the place of a number, and what is there
module _ (shards : List (List ShardRow)) (numbers : List (List ℕ)) (places : List Place) (self : List ShardRow) (n : ℕ) (p : Place) (named : AreNamed shards numbers places) (is : rows_in shards places ≡ self)
    (within : n < length self) (p-is : p ≡ get_or places n p) where
  pub number-within : n < length places
  number-within = omega (arith, within, ap length is, length-map places (row_at shards))

  pub place-there : slice_get places n ≡ Some p
  place-there = slice_get-get_or places n p number-within ∙ ap Some (sym p-is)

  pub local-within : p.local < length (get_or shards p.shard [])
  local-within = named.rows n p place-there

  module _ (rows : List ShardRow) (rows-is : rows ≡ get_or shards p.shard rows) where
    shard-is : get_or shards p.shard [] ≡ rows
    shard-is = any-default shards p.shard [] rows (shard-within shards p.shard p.local local-within) rows-is

    pub in-shard : p.local < length rows
    in-shard = subst (λ (l : List ShardRow). p.local < length l) shard-is local-within

    pub stands-there : (row : ShardRow) → slice_get rows p.local ≡ Some row → slice_get self n ≡ Some row
    stands-there row at =
        subst (λ (l : List ShardRow). slice_get l n ≡ Some row) is
        (get-mapped (row_at shards) places n p place-there ∙ ap Some (row-is shards p row (subst (λ (l : List ShardRow). slice_get l p.local ≡ Some row) (sym shard-is) at)))

pub nothing-kept : {X : Type 0} (shards : List (List ShardRow)) (all : List X) (places : List Place) (f : X → List ℕ) → shards ≡ [] → all ≡ [] → places ≡ [] → AreKept shards (map f all) places
nothing-kept shards all places f no-shards no-numbers no-places-yet =
    subst (λ l. AreKept l (map f all) places) (sym no-shards)
    (subst (λ l. AreKept [] (map f l) places) (sym no-numbers)
    (subst (λ l. AreKept [] [] l) (sym no-places-yet) (vacant-kept [] [] (λ some. absurd (omega (arith, some))) (λ s. refl) refl)))

-- rows were put into shards
pub put-kept : (shards new : List (List ShardRow)) (numbers : List (List ℕ)) (places : List Place) → AreKept shards numbers places → AreShards new → Grows shards new → AreKept new numbers places
put-kept shards new numbers places kept are grows = record {
  sharded = are;
  named = extended-named shards numbers places kept.sharded kept.named new grows;
}

pub put-rows : (shards new : List (List ShardRow)) (numbers : List (List ℕ)) (places : List Place) → AreKept shards numbers places → Grows shards new → rows_in new places ≡ rows_in shards places
put-rows shards new numbers places kept grows = extended-rows shards numbers places kept.sharded kept.named new grows
