-- The way from all entries to the one that is chosen, a step a lemma.
use Rattle.std.proofs.Common.{◌≡◌, ◌⊎◌, ℕ, ◌<◌, ◌≤◌, ◌+◌, ◌∙◌, List, [], ◌∷◌, ◌++◌, length, take, min, get_or, drop, ◌-◌, refl, ap, sym, subst, arith, inl, inr, Option, Some, None, IfSome}
use Rattle.std.specs.List.{All, Contains}
use Rattle.std.specs.List.Sorted.{IsPermutation, IsNonDecreasingBy}
use Rattle.std.proofs.Math.Nat.{eq-or-lt_of_le}
use Rattle.std.proofs.Math.Seq.{take-add}
use Rattle.std.proofs.lemmas.List.{get_or_default, take-take}
use Rattle.std.proofs.lemmas.List.Elements.{Contains-append_left, Contains-append_right, Contains-append_cases, Contains-get_or}
use Rattle.std.proofs.lemmas.List.Sorted.{All-permutation, IsPermutation-sym}
use Rattle.ga_base.specs.declared.entry.Entry.{Entry}
use Rattle.ga_resume.specs.Entries.{Fits, StandsAt, IsChosen, IsChoice}
use Rattle.ga_resume.specs.Steps.Choosing.{IsCandidate, AreCandidates, HasDigest, AreFitting, Leads, IsBest}
use Rattle.ga_resume.specs.declared.choosing.Candidate.{Candidate}

-- a place below the next is the last or an earlier one
earlier-or-at : (k n : ℕ) → k < n + 1 → (k < n) ⊎ (k ≡ n)
earlier-or-at k n below = turned (eq-or-lt_of_le (omega (arith, below)))
  where
    turned : (k ≡ n) ⊎ (k < n) → (k < n) ⊎ (k ≡ n)
    turned (inl same) = inr same
    turned (inr less) = inl less

-- elements stay where a list is put in another order
pub still-there : {X : Type 0} (xs ys : List X) (x : X) → IsPermutation xs ys → Contains xs x → Contains ys x
still-there {X} xs ys x moved there =
    let own : All (λ (y : X). Contains ys y) ys = λ k d below. Contains-get_or ys k d below in
    let all : All (λ (y : X). Contains ys y) xs = All-permutation (λ (y : X). Contains ys y) ys xs (IsPermutation-sym xs ys moved) own in
    subst (λ (y : X). Contains ys y) there.2 (all there.0 x there.1)

pub no-candidates : (entries : List Entry) (end : ℕ) → AreCandidates entries 0 end []
no-candidates entries end = record {
  sound = λ c there. absurd (omega (arith, there.1));
  whole = λ c below is. absurd (omega (arith, below));
}

-- a candidate at this place is the entry there
the-one : (entries : List Entry) (n end : ℕ) (entry : Entry) (c : Candidate) → entry ≡ get_or entries n entry → n < length entries → c.place ≡ n
    → IsCandidate entries end c → c.entry ≡ entry
the-one entries n end entry c at below place is =
    sym is.stands.is ∙ ap (λ (k : ℕ). get_or entries k c.entry) place ∙ get_or_default entries n c.entry entry below ∙ sym at

pub candidate-more : (entries : List Entry) (n end : ℕ) (cs : List Candidate) (entry : Entry) → n < length entries → entry ≡ get_or entries n entry
    → entry.offset ≤ end → AreCandidates entries n end cs → AreCandidates entries (n + 1) end (cs ++ record { place = n; entry = entry } ∷ [])
candidate-more entries n end cs entry below at within so_far = record {
  sound = λ c there. old-or-new c (Contains-append_cases cs (record { place = n; entry = entry } ∷ []) c there);
  whole = λ c before is. by-place c is (earlier-or-at c.place n before);
}
  where
    added : Candidate
    added = record { place = n; entry = entry }

    old-or-new : (c : Candidate) → Contains cs c ⊎ Contains (added ∷ []) c → IsCandidate entries end c
    old-or-new c (inl there) = so_far.sound c there
    old-or-new c (inr there) =
        let first : there.0 ≡ 0 = omega (arith, there.1) in
        let is : added ≡ c = ap (λ (k : ℕ). get_or (added ∷ []) k c) (sym first) ∙ there.2 in
        subst (IsCandidate entries end) is (record { stands = record { below = below; is = sym at }; within = within })

    by-place : (c : Candidate) → IsCandidate entries end c → (c.place < n) ⊎ (c.place ≡ n) → Contains (cs ++ added ∷ []) c
    by-place c is (inl earlier) = Contains-append_left cs (added ∷ []) c (so_far.whole c earlier is)
    by-place c is (inr same) =
        let entry_same : c.entry ≡ entry = the-one entries n end entry c at below same is in
        let all : added ≡ c = ap (λ (k : ℕ). record { place = k; entry = entry }) (sym same) ∙ ap (λ (e : Entry). record { place = c.place; entry = e }) (sym entry_same) in
        Contains-append_right cs (added ∷ []) c (0, omega arith, all)

pub candidate-skipped : (entries : List Entry) (n end : ℕ) (cs : List Candidate) (entry : Entry) → n < length entries → entry ≡ get_or entries n entry
    → end < entry.offset → AreCandidates entries n end cs → AreCandidates entries (n + 1) end cs
candidate-skipped entries n end cs entry below at beyond so_far = record {
  sound = so_far.sound;
  whole = λ c before is. by-place c is (earlier-or-at c.place n before);
}
  where
    by-place : (c : Candidate) → IsCandidate entries end c → (c.place < n) ⊎ (c.place ≡ n) → Contains cs c
    by-place c is (inl earlier) = so_far.whole c earlier is
    by-place c is (inr same) =
        let entry_same : c.entry ≡ entry = the-one entries n end entry c at below same is in
        absurd (omega (arith, beyond, is.within, ap (λ (e : Entry). e.offset) entry_same))

pub no-fits : (front : List ℕ) (cs : List Candidate) → AreFitting front cs 0 []
no-fits front cs = record {
  sound = λ c there. absurd (omega (arith, there.1));
  whole = λ k d below has. absurd (omega (arith, below));
}

pub fit-more : (front : List ℕ) (cs fits : List Candidate) (n : ℕ) (c : Candidate) → n < length cs → c ≡ get_or cs n c → HasDigest front c
    → AreFitting front cs n fits → AreFitting front cs (n + 1) (fits ++ c ∷ [])
fit-more front cs fits n c below at has so_far = record {
  sound = λ d there. old-or-new d (Contains-append_cases fits (c ∷ []) d there);
  whole = λ k d before digest. by-place k d digest (earlier-or-at k n before);
}
  where
    old-or-new : (d : Candidate) → Contains fits d ⊎ Contains (c ∷ []) d → Contains cs d × HasDigest front d
    old-or-new d (inl there) = so_far.sound d there
    old-or-new d (inr there) =
        let first : there.0 ≡ 0 = omega (arith, there.1) in
        let is : c ≡ d = ap (λ (k : ℕ). get_or (c ∷ []) k d) (sym first) ∙ there.2 in
        subst (λ (x : Candidate). Contains cs x × HasDigest front x) is ((n, below, sym at), has)

    by-place : (k : ℕ) (d : Candidate) → HasDigest front (get_or cs k d) → (k < n) ⊎ (k ≡ n) → Contains (fits ++ c ∷ []) (get_or cs k d)
    by-place k d digest (inl earlier) = Contains-append_left fits (c ∷ []) (get_or cs k d) (so_far.whole k d earlier digest)
    by-place k d digest (inr same) =
        let is : c ≡ get_or cs k d = at ∙ get_or_default cs n c d below ∙ ap (λ (m : ℕ). get_or cs m d) (sym same) in
        Contains-append_right fits (c ∷ []) (get_or cs k d) (0, omega arith, is)

pub fit-skipped : (front : List ℕ) (cs fits : List Candidate) (n : ℕ) (c : Candidate) → n < length cs → c ≡ get_or cs n c → (HasDigest front c → ⊥)
    → AreFitting front cs n fits → AreFitting front cs (n + 1) fits
fit-skipped front cs fits n c below at lacks so_far = record {
  sound = so_far.sound;
  whole = λ k d before digest. by-place k d digest (earlier-or-at k n before);
}
  where
    by-place : (k : ℕ) (d : Candidate) → HasDigest front (get_or cs k d) → (k < n) ⊎ (k ≡ n) → Contains fits (get_or cs k d)
    by-place k d digest (inl earlier) = so_far.whole k d earlier digest
    by-place k d digest (inr same) =
        let is : get_or cs k d ≡ c = ap (λ (m : ℕ). get_or cs m d) same ∙ get_or_default cs n d c below ∙ sym at in
        absurd (lacks (subst (HasDigest front) is digest))

-- each no worse than the other, and so than what that is no worse than
leads-chain : (a b c : Candidate) → Leads a b → Leads b c → Leads a c
leads-chain a b c (inl far) (inl near) = inl (omega (arith, far, near))
leads-chain a b c (inl far) (inr near) = inl (omega (arith, far, near.0))
leads-chain a b c (inr far) (inl near) = inl (omega (arith, far.0, near))
leads-chain a b c (inr far) (inr near) = inr (near.0 ∙ far.0, omega (arith, far.1, near.1))

pub best-more : (cs : List Candidate) (n : ℕ) (best : Option Candidate) (c now : Candidate) → n < length cs → c ≡ get_or cs n c → IsBest cs n best
    → (now ≡ c) ⊎ (best ≡ Some now) → Leads now c → ((b : Candidate) → best ≡ Some b → Leads now b) → IsBest cs (n + 1) (Some now)
best-more cs n best c now below at so_far which leads old = (there which, λ k d before. by-place k d (earlier-or-at k n before))
  where
    contains : (b : Option Candidate) → IsBest cs n b → b ≡ Some now → Contains cs now
    contains None is e = absurd (none-is-no-some e)
      where
        none-is-no-some : None ≡ Some now → ⊥
        none-is-no-some p = subst (λ (o : Option Candidate). none_type o) p tt
          where
            none_type : Option Candidate → Type 0
            none_type None = Unit {0}
            none_type (Some x) = ⊥
    contains (Some b) is e = subst (λ (o : Option Candidate). in_list o) e is.0
      where
        in_list : Option Candidate → Type 0
        in_list None = Unit {0}
        in_list (Some x) = Contains cs x

    there : (now ≡ c) ⊎ (best ≡ Some now) → Contains cs now
    there (inl e) = subst (Contains cs) (sym e) (n, below, sym at)
    there (inr e) = contains best so_far e

    before-it : (b : Option Candidate) → IsBest cs n b → ((x : Candidate) → b ≡ Some x → Leads now x) → (k : ℕ) (d : Candidate) → k < n → Leads now (get_or cs k d)
    before-it None is all k d earlier = absurd (omega (arith, is, earlier))
    before-it (Some b) is all k d earlier = leads-chain now b (get_or cs k d) (all b refl) (is.1 k d earlier)

    by-place : (k : ℕ) (d : Candidate) → (k < n) ⊎ (k ≡ n) → Leads now (get_or cs k d)
    by-place k d (inl earlier) = before-it best so_far old k d earlier
    by-place k d (inr same) =
        let is : c ≡ get_or cs k d = at ∙ get_or_default cs n c d below ∙ ap (λ (m : ℕ). get_or cs m d) (sym same) in
        subst (Leads now) is leads

-- the whole way: what the steps say of an entry that fits
pub reaches : (entries : List Entry) (front : List ℕ) (end : ℕ) (cs sorted fits : List Candidate) → AreCandidates entries (length entries) end cs
    → IsPermutation cs sorted → AreFitting front sorted (length sorted) fits → (place : ℕ) (entry : Entry) → StandsAt entries place entry → Fits front end entry
    → Contains fits (record { place = place; entry = entry })
reaches entries front end cs sorted fits are moved fitting place entry stands fit =
    let c : Candidate = record { place = place; entry = entry } in
    let first : Contains cs c = are.whole c stands.below (record { stands = stands; within = fit.within }) in
    let there : Contains sorted c = still-there cs sorted c moved first in
    subst (Contains fits) there.2 (fitting.whole there.0 c there.1 (subst (HasDigest front) (sym there.2) fit.same))

pub comes-from : (entries : List Entry) (front : List ℕ) (end : ℕ) (cs sorted fits : List Candidate) → AreCandidates entries (length entries) end cs
    → IsPermutation cs sorted → AreFitting front sorted (length sorted) fits → (c : Candidate) → Contains fits c → StandsAt entries c.place c.entry × Fits front end c.entry
comes-from entries front end cs sorted fits are moved fitting c there =
    let old = fitting.sound c there in
    let is : IsCandidate entries end c = are.sound c (still-there sorted cs c (IsPermutation-sym cs sorted moved) old.0) in
    (is.stands, record { within = is.within; same = old.1 })

pub none-chosen : (entries : List Entry) (front : List ℕ) (end : ℕ) (cs sorted fits : List Candidate) → AreCandidates entries (length entries) end cs
    → IsPermutation cs sorted → AreFitting front sorted (length sorted) fits → IsBest fits (length fits) None → IsChoice entries front end None 0
none-chosen entries front end cs sorted fits are moved fitting none = (
  λ other there fit.
      let stands : StandsAt entries there.0 other = record { below = there.1; is = there.2 } in
      let found = reaches entries front end cs sorted fits are moved fitting there.0 other stands fit in
      omega (arith, found.1, none),
  refl,
)

pub some-chosen : (entries : List Entry) (front : List ℕ) (end : ℕ) (cs sorted fits : List Candidate) → AreCandidates entries (length entries) end cs
    → IsPermutation cs sorted → AreFitting front sorted (length sorted) fits → (best : Candidate) → IsBest fits (length fits) (Some best)
    → IsChosen entries front end best.place best.entry
some-chosen entries front end cs sorted fits are moved fitting best is =
    let own = comes-from entries front end cs sorted fits are moved fitting best is.0 in
    record {
      stands = own.0;
      fits = own.1;
      greatest = λ other there fit. no-less other there.0 (leads other there.0 (record { below = there.1; is = there.2 }) fit);
      first = λ earlier other before stands fit. less other earlier before (leads other earlier stands fit);
    }
  where
    leads : (other : Entry) (place : ℕ) → StandsAt entries place other → Fits front end other → Leads best (record { place = place; entry = other })
    leads other place stands fit =
        let c : Candidate = record { place = place; entry = other } in
        let found = reaches entries front end cs sorted fits are moved fitting place other stands fit in
        subst (Leads best) found.2 (is.1 found.0 c found.1)

    no-less : (other : Entry) (place : ℕ) → Leads best (record { place = place; entry = other }) → other.offset ≤ best.entry.offset
    no-less other place (inl far) = omega (arith, far)
    no-less other place (inr same) = omega (arith, same.0)

    less : (other : Entry) (place : ℕ) → place < best.place → Leads best (record { place = place; entry = other }) → other.offset < best.entry.offset
    less other place before (inl far) = far
    less other place before (inr same) = absurd (omega (arith, same.1, before))

pub if-chosen : (entries : List Entry) (front : List ℕ) (end : ℕ) (cs sorted fits : List Candidate) → AreCandidates entries (length entries) end cs
    → IsPermutation cs sorted → AreFitting front sorted (length sorted) fits → (best : Option Candidate) → IsBest fits (length fits) best
    → IfSome best (λ c. IsChosen entries front end c.place c.entry)
if-chosen entries front end cs sorted fits are moved fitting None is = tt
if-chosen entries front end cs sorted fits are moved fitting (Some best) is = some-chosen entries front end cs sorted fits are moved fitting best is

-- an entry's digest is of the log's first 4096 bytes at most
pub same-prefix : (log : List ℕ) (entry : Entry) → take entry.lead (take 4096 log) ≡ take entry.lead log
same-prefix log entry = take-take entry.lead 4096 log (omega (arith, entry.leads))

-- a front of the front, and what stands between there and the next lead
pub longer-front : (front : List ℕ) (hashed lead : ℕ) → hashed ≤ lead → take hashed front ++ take (lead - hashed) (drop hashed front) ≡ take lead front
longer-front front hashed lead le =
    let far : hashed + (lead - hashed) ≡ lead = omega (arith, le) in
    sym (take-add hashed (lead - hashed) front) ∙ ap (λ (n : ℕ). take n front) far

-- leads rise as offsets do
pub leads-rise : (cs : List Candidate) (j k : ℕ) (c d : Candidate) → IsNonDecreasingBy (λ x. x.entry.offset) cs → j ≤ k → k < length cs → c ≡ get_or cs j c
    → c.entry.lead ≤ (get_or cs k d).entry.lead
leads-rise cs j k c d rise le below at =
    let same : get_or cs j d ≡ c = get_or_default cs j d c (omega (arith, le, below)) ∙ sym at in
    let offset : (get_or cs j d).entry.offset ≡ c.entry.offset = ap (λ (x : Candidate). x.entry.offset) same in
    omega (arith, rise j k d le below, offset, c.entry.leads, (get_or cs k d).entry.leads)

-- a candidate's lead is within the front
pub lead-within : (entries : List Entry) (front : List ℕ) (end : ℕ) (cs sorted : List Candidate) → length front ≡ min end 4096 → AreCandidates entries (length entries) end cs
    → IsPermutation cs sorted → All (λ (c : Candidate). c.entry.lead ≤ length front) sorted
lead-within entries front end cs sorted long are moved = λ k d below.
    let is = are.sound (get_or sorted k d) (still-there sorted cs (get_or sorted k d) (IsPermutation-sym cs sorted moved) (Contains-get_or sorted k d below)) in
    omega (arith, is.within, long, (get_or sorted k d).entry.leads)
