-- The longest chain of addresses at the front of a text: there is one at most, and one where an address is there.
use Rattle.std.proofs.Common.{◌≡◌, ◌≢◌, ℕ, zero, suc, ◌+◌, ◌<◌, ◌≤◌, Bool, true, false, List, [], ◌∷◌, ◌++◌, length, refl, sym, ap, ◌∙◌, subst, arith, inl, inr, ⊎_elim, append_assoc, length-append}
use Rattle.std.proofs.lemmas.Bool.{false≢true}
use Rattle.std.proofs.lemmas.List.{drop_at}
use Rattle.std.specs.Prelude.{not, drop}
use Rattle.std.specs.List.{AllPass}
use Rattle.bstr.specs.Bytes.{is_in, not_in}
use Rattle.ga_hosts.specs.Addresses.{IsAddress}
use Rattle.ga_line.specs.Forwarded.{IsLink, IsChain, EndsAddress, BeginsWith}
use Rattle.ga_line.specs.Steps.Forwarding.{BeginsAddress, IsNextAddress, Reaches, here, further, IsEndOf, HasChain}
use Rattle.ga_line.proofs.Known.{IsKnown}
use Rattle.ga_line.proofs.AddressKnown.{known-address, address-some}
use Rattle.ga_line.proofs.RunLemmas.{Stops, IsRun, run-of, run-unique, first-passes}

not-true : (b : Bool) → b ≡ true → not b ≡ false
not-true true e = refl
not-true false e = absurd (false≢true e)

not-false : (b : Bool) → not b ≡ false → b ≡ true
not-false true e = refl
not-false false e = absurd (false≢true (sym e))

not-no : (b : Bool) → not b ≡ true → b ≡ false
not-no true e = absurd (false≢true e)
not-no false e = refl

append-some : (b : ℕ) (xs ys : List ℕ) → [] ≡ (b ∷ xs) ++ ys → ⊥
append-some b xs ys e = let l : 0 ≡ length (b ∷ xs ++ ys) = ap length e in omega arith

module _ (separators : List ℕ) where
  pub ends-stops : (after : List ℕ) → EndsAddress separators after → Stops (not_in separators) after
  ends-stops [] ended = tt
  ends-stops (b ∷ after) ended = not-true _ ended

  pub stops-ends : (after : List ℕ) → Stops (not_in separators) after → EndsAddress separators after
  stops-ends [] stops = tt
  stops-ends (b ∷ after) stops = not-false _ stops

  -- what begins with an address begins with no separator
  link-stops : (host after : List ℕ) → IsLink separators host → Stops (is_in separators) (host ++ after)
  link-stops [] after link = absurd (address-some link.address)
  link-stops (b ∷ host) after link = not-no _ (first-passes (not_in separators) b host link.whole)

  gap-ends : (gap after : List ℕ) → gap ≢ [] → AllPass (is_in separators) gap → EndsAddress separators (gap ++ after)
  gap-ends [] after some all = absurd (some refl)
  gap-ends (b ∷ gap) after some all = first-passes (is_in separators) b gap all

  -- one address begins a text at most
  pub begins-unique : (rest host after host' after' : List ℕ) → BeginsAddress separators rest host after → BeginsAddress separators rest host' after' → (host ≡ host') × (after ≡ after')
  begins-unique rest host after host' after' one two =
      run-unique (not_in separators) host host' after after' (sym one.split ∙ two.split) one.link.whole two.link.whole (ends-stops after one.ended) (ends-stops after' two.ended)

  -- the first address of a chain
  pub chain-first : (host : List ℕ) (others : List (List ℕ)) (text after : List ℕ) → IsChain separators (host ∷ others) text → EndsAddress separators after
      → (tail : List ℕ) × BeginsAddress separators (text ++ after) host tail
  chain-first host [] text after chain ended = (after, record { split = ap (λ (t : List ℕ). t ++ after) chain.0; link = chain.1; ended = ended })
  chain-first host (next ∷ others) text after (gap, rest, split, link, some, apart, chain) ended = (
    gap ++ (rest ++ after),
    record {
      split = ap (λ (t : List ℕ). t ++ after) split ∙ append_assoc host (gap ++ rest) after ∙ ap (λ (t : List ℕ). host ++ t) (append_assoc gap rest after);
      link = link;
      ended = gap-ends gap (rest ++ after) some apart;
    },
  )

  chain-stops : (host : List ℕ) (others : List (List ℕ)) (text after : List ℕ) → IsChain separators (host ∷ others) text → EndsAddress separators after → Stops (is_in separators) (text ++ after)
  chain-stops host others text after chain ended =
      let first = chain-first host others text after chain ended in
      subst (Stops (is_in separators)) (sym first.1.split) (link-stops host first.0 first.1.link)

  -- a chain goes no further than one after which no address comes
  module _ (after after' : List ℕ) (ended : EndsAddress separators after) (ended' : EndsAddress separators after') (last : (next : List ℕ) → ¬ IsNextAddress separators after next) where
    no-longer : (host host' : List ℕ) (others others' : List (List ℕ)) (text text' : List ℕ) → IsChain separators (host ∷ others) text → IsChain separators (host' ∷ others') text'
        → text ++ after ≡ text' ++ after' → length text' ≤ length text
    unfolding chain-first
    no-longer host host' [] [] text text' chain chain' e =
        let one = chain-first host [] text after chain ended in
        let two = chain-first host' [] text' after' chain' ended' in
        let same = begins-unique (text ++ after) host one.0 host' two.0 one.1 (subst (λ (t : List ℕ). BeginsAddress separators t host' two.0) (sym e) two.1) in
        let a : length text ≡ length host = ap length chain.0 in
        let b : length text' ≡ length host' = ap length chain'.0 in
        let c : length host ≡ length host' = ap length same.0 in
        omega arith
    no-longer host host' [] (next' ∷ others') text text' chain (gap', rest', split', link', some', apart', chain') e =
        let one = chain-first host [] text after chain ended in
        let two = chain-first host' (next' ∷ others') text' after' (gap', rest', split', link', some', apart', chain') ended' in
        let same = begins-unique (text ++ after) host one.0 host' two.0 one.1 (subst (λ (t : List ℕ). BeginsAddress separators t host' two.0) (sym e) two.1) in
        let further = chain-first next' others' rest' after' chain' ended' in
        absurd (last further.0 (record {
          gap = gap';
          behind = rest' ++ after';
          host = next';
          split = same.1;
          some = some';
          apart = apart';
          begins = further.1;
        }))
    no-longer host host' (next ∷ others) [] text text' (gap, rest, split, link, some, apart, chain) chain' e =
        let one = chain-first host (next ∷ others) text after (gap, rest, split, link, some, apart, chain) ended in
        let two = chain-first host' [] text' after' chain' ended' in
        let same = begins-unique (text ++ after) host one.0 host' two.0 one.1 (subst (λ (t : List ℕ). BeginsAddress separators t host' two.0) (sym e) two.1) in
        let a : length text ≡ length host + length (gap ++ rest) = ap length split ∙ length-append host (gap ++ rest) in
        let b : length text' ≡ length host' = ap length chain'.0 in
        let c : length host ≡ length host' = ap length same.0 in
        omega arith
    no-longer host host' (next ∷ others) (next' ∷ others') text text' (gap, rest, split, link, some, apart, chain) (gap', rest', split', link', some', apart', chain') e =
        let one = chain-first host (next ∷ others) text after (gap, rest, split, link, some, apart, chain) ended in
        let two = chain-first host' (next' ∷ others') text' after' (gap', rest', split', link', some', apart', chain') ended' in
        let same = begins-unique (text ++ after) host one.0 host' two.0 one.1 (subst (λ (t : List ℕ). BeginsAddress separators t host' two.0) (sym e) two.1) in
        let apart_same = run-unique (is_in separators) gap gap' (rest ++ after) (rest' ++ after') same.1 apart apart' (chain-stops next others rest after chain ended) (chain-stops next' others' rest' after' chain' ended') in
        let later = no-longer next next' others others' rest rest' chain chain' apart_same.1 in
        let a : length text ≡ length host + (length gap + length rest) = ap length split ∙ length-append host (gap ++ rest) ∙ ap (λ (n : ℕ). length host + n) (length-append gap rest) in
        let b : length text' ≡ length host' + (length gap' + length rest') = ap length split' ∙ length-append host' (gap' ++ rest') ∙ ap (λ (n : ℕ). length host' + n) (length-append gap' rest') in
        let c : length host ≡ length host' = ap length same.0 in
        let d : length gap ≡ length gap' = ap length apart_same.0 in
        omega arith

  -- what is reached after an address is the end of a chain
  chain-to : (end after : List ℕ) → Reaches separators end after → EndsAddress separators end → (rest host : List ℕ) → BeginsAddress separators rest host after
      → (others : List (List ℕ)) × (text : List ℕ) × BeginsWith separators rest (host ∷ others) text end
  chain-to end after here ended rest host begins = ([], host, record { split = begins.split; chain = (refl, begins.link); ended = ended })
  chain-to end after (further {next = next} is reaches) ended rest host begins =
      let later = chain-to end next reaches ended is.behind is.host is.begins in (
        is.host ∷ later.0,
        host ++ (is.gap ++ later.1),
        record {
          split =
              begins.split ∙ ap (λ (t : List ℕ). host ++ t) (is.split ∙ ap (λ (t : List ℕ). is.gap ++ t) later.2.split ∙ sym (append_assoc is.gap later.1 end)) ∙ sym (append_assoc host (is.gap ++ later.1) end);
          chain = (is.gap, later.1, refl, begins.link, is.some, is.apart, later.2.chain);
          ended = ended;
        },
      )

  -- so it is the longest, where it goes no further
  pub longest-chain : (rest host after end : List ℕ) → BeginsAddress separators rest host after → IsEndOf separators after end → HasChain separators rest host end
  longest-chain rest host after end begins is =
      let to = chain-to end after is.reached is.ended rest host begins in (
        to.1,
        record {
          others = to.0;
          begins = to.2;
          longest = λ hosts other left other_begins. no-more hosts other left other_begins;
        },
      )
    where
      no-more : (hosts : List (List ℕ)) (other left : List ℕ) → BeginsWith separators rest hosts other left → length other ≤ length (chain-to end after is.reached is.ended rest host begins).1
      no-more [] other left b = absurd b.chain
      no-more (first ∷ hosts) other left b =
          let to = chain-to end after is.reached is.ended rest host begins in
          no-longer end left is.ended b.ended is.last host first to.0 hosts to.1 other to.2.chain b.chain (sym to.2.split ∙ b.split)

  -- no chain begins where no address does
  pub no-chain : (rest : List ℕ) → ((host after : List ℕ) → ¬ BeginsAddress separators rest host after) → (host after : List ℕ) → ¬ HasChain separators rest host after
  no-chain rest none host after (text, is) =
      let first = chain-first host is.others text after is.begins.chain is.begins.ended in
      none host first.0 (subst (λ (t : List ℕ). BeginsAddress separators t host first.0) (sym is.begins.split) first.1)

  same-front : (text after text' after' : List ℕ) → text ++ after ≡ text' ++ after' → length text ≡ length text' → after ≡ after'
  same-front text after text' after' e long =
      sym (drop_at text after (length text) refl) ∙ ap (drop (length text)) e ∙ drop_at text' after' (length text) (sym long)

  pub chain-unique : (rest host after host' after' : List ℕ) → HasChain separators rest host after → HasChain separators rest host' after' → (host ≡ host') × (after ≡ after')
  chain-unique rest host after host' after' (text, one) (text', two) =
      let a = one.longest (host' ∷ two.others) text' after' two.begins in
      let b = two.longest (host ∷ one.others) text after one.begins in
      let first = chain-first host one.others text after one.begins.chain one.begins.ended in
      let first' = chain-first host' two.others text' after' two.begins.chain two.begins.ended in
      let same = begins-unique rest host first.0 host' first'.0 (subst (λ (t : List ℕ). BeginsAddress separators t host first.0) (sym one.begins.split) first.1)
      (subst (λ (t : List ℕ). BeginsAddress separators t host' first'.0) (sym two.begins.split) first'.1) in
      let long : length text ≡ length text' = omega (arith, a, b) in
      (same.0, same-front text after text' after' (sym one.begins.split ∙ two.begins.split) long)

  -- where the run is known that may be an address
  pub address-found : (rest front back : List ℕ) → IsRun (not_in separators) rest front back → IsAddress front → BeginsAddress separators rest front back
  address-found rest front back is address = record { split = is.split; link = record { address = address; whole = is.all }; ended = stops-ends back is.stops }

  pub address-none : (rest front back : List ℕ) → IsRun (not_in separators) rest front back → ¬ IsAddress front → (host after : List ℕ) → ¬ BeginsAddress separators rest host after
  address-none rest front back is none host after begins =
      let same = run-unique (not_in separators) host front after back (sym begins.split ∙ is.split) begins.link.whole is.all (ends-stops after begins.ended) is.stops in
      none (subst IsAddress same.0 begins.link.address)

  -- where the run of separators is known, what follows it is where the next address begins
  pub behind-gap : (rest gap behind next : List ℕ) → IsRun (is_in separators) rest gap behind → (is : IsNextAddress separators rest next) → is.behind ≡ behind
  behind-gap rest gap behind next run is =
      (run-unique (is_in separators) is.gap gap is.behind behind (sym is.split ∙ run.split) is.apart run.all (subst (Stops (is_in separators)) (sym is.begins.split) (link-stops is.host next is.begins.link)) run.stops).1

  pub next-none : (rest gap behind : List ℕ) → IsRun (is_in separators) rest gap behind → ((host after : List ℕ) → ¬ BeginsAddress separators behind host after) → (next : List ℕ) → ¬ IsNextAddress separators rest next
  next-none rest gap behind run none next is =
      none is.host next (subst (λ (t : List ℕ). BeginsAddress separators t is.host next) (behind-gap rest gap behind next run is) is.begins)

  pub begins-some : (host after : List ℕ) → ¬ BeginsAddress separators [] host after
  begins-some [] after begins = address-some begins.link.address
  begins-some (b ∷ host) after begins = append-some b host after begins.split

  pub next-found : (rest gap behind host next : List ℕ) → EndsAddress separators rest → IsRun (is_in separators) rest gap behind → BeginsAddress separators behind host next → IsNextAddress separators rest next
  next-found rest gap behind host next ended run begins = record {
    gap = gap;
    behind = behind;
    host = host;
    split = run.split;
    some = λ none. no-gap host (subst (EndsAddress separators) (run.split ∙ ap (λ (g : List ℕ). g ++ behind) none ∙ begins.split) ended) begins.link;
    apart = run.all;
    begins = begins;
  }
    where
      no-gap : (host : List ℕ) → EndsAddress separators (host ++ next) → IsLink separators host → ⊥
      no-gap [] ended link = address-some link.address
      no-gap (b ∷ host) ended link = false≢true (sym (not-no _ (first-passes (not_in separators) b host link.whole)) ∙ ended)

  -- whether an address of a chain begins a text
  pub known-begins : (rest : List ℕ) → IsKnown ((host after : List ℕ) × BeginsAddress separators rest host after)
  known-begins rest = at (run-of (not_in separators) rest)
    where
      at : (run after : List ℕ) × IsRun (not_in separators) rest run after → IsKnown ((host after : List ℕ) × BeginsAddress separators rest host after)
      at (run, after, is) =
          ⊎_elim (λ address. inl (run, after, address-found rest run after is address)) (λ none. inr (λ (host, left, begins). address-none rest run after is none host left begins)) (known-address run)

  pub known-next : (rest : List ℕ) → EndsAddress separators rest → IsKnown ((next : List ℕ) × IsNextAddress separators rest next)
  known-next rest ended = at (run-of (is_in separators) rest)
    where
      at : (run after : List ℕ) × IsRun (is_in separators) rest run after → IsKnown ((next : List ℕ) × IsNextAddress separators rest next)
      at (run, after, is) =
          ⊎_elim (λ (host, next, begins). inl (next, next-found rest run after host next ended is begins))
          (λ none. inr (λ (next, has). next-none rest run after is (λ h a b. none (h, a, b)) next has)) (known-begins after)

  -- where a chain ends that goes on with a text
  pub next-shorter : (rest next : List ℕ) → IsNextAddress separators rest next → length next < length rest
  next-shorter rest next is = shorter is.gap is.some is.split
    where
      shorter : (gap : List ℕ) → gap ≢ [] → rest ≡ gap ++ is.behind → length next < length rest
      shorter [] some split = absurd (some refl)
      shorter (b ∷ gap) some split =
          let a : length rest ≡ suc (length gap + length is.behind) = ap length split ∙ ap suc (length-append gap is.behind) in
          let c : length is.behind ≡ length is.host + length next = ap length is.begins.split ∙ length-append is.host next in
          omega arith

  pub end-of : (limit : ℕ) (rest : List ℕ) → length rest ≤ limit → EndsAddress separators rest → (end : List ℕ) × IsEndOf separators rest end
  end-of zero [] most ended = ([], record { reached = here; ended = tt; last = λ next is. no-less (length next) (next-shorter [] next is) })
    where
      no-less : (n : ℕ) → n < 0 → ⊥
      no-less n less = omega arith
  end-of zero (b ∷ rest) most ended = absurd (omega arith)
  end-of (suc limit) rest most ended =
      ⊎_elim
      (λ (next, is). let later = end-of limit next (omega (arith, next-shorter rest next is)) is.begins.ended in (later.0, record { reached = further is later.1.reached; ended = later.1.ended; last = later.1.last }))
      (λ none. (rest, record { reached = here; ended = ended; last = λ next is. none (next, is) }))
      (known-next rest ended)

  pub known-chain : (rest : List ℕ) → IsKnown ((host after : List ℕ) × HasChain separators rest host after)
  known-chain rest =
      ⊎_elim
      (λ (host, after, begins). let end = end-of (length after) after (omega arith) begins.ended in inl (host, end.0, longest-chain rest host after end.0 begins end.1))
      (λ none. inr (λ (host, after, has). no-chain rest (λ h a b. none (h, a, b)) host after has))
      (known-begins rest)
