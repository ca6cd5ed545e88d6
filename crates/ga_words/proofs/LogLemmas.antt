-- Adding logs one by one, and the first log without a name.
use Rattle.std.proofs.Common.{◌≡◌, ◌≢◌, ◌<◌, ◌+◌, ℕ, zero, suc, true, false, Some, None, List, [], ◌∷◌, ◌++◌, length, take, get_or, refl, ap, sym, ◌∙◌, subst, position, append_assoc, arith, tests}
use Rattle.std.proofs.lemmas.List.{take_more}
use Rattle.std.proofs.lemmas.List.Quantifiers.{position-Some}
use Rattle.std.proofs.lemmas.List.Sums.{fails_before_first}
use Rattle.std.proofs.lemmas.Bool.Decides.{nat_tests}
use Rattle.ga_words.specs.declared.settings.Settings.{Settings}
use Rattle.ga_words.specs.declared.fault.WordFault.TheVariants.{BadValue}
use Rattle.ga_words.specs.Units.{AddsLogs, AreNamed}
use Rattle.ga_words.specs.Steps.Words.{is_nameless, IsNameless}

pub adds-more : (a b : List (List ℕ)) (s t u : Settings) → AddsLogs a s t → AddsLogs b t u → AddsLogs (a ++ b) s u
adds-more a b s t u h k =
    k ∙ ap (λ (x : Settings). record x { logs = x.logs ++ b }) h ∙ ap (λ (l : List (List ℕ)). record s { logs = l }) (append_assoc s.logs a b)

pub adds-next : (logs : List (List ℕ)) (i : ℕ) (log : List ℕ) (s t u : Settings) → i < length logs → log ≡ get_or logs i log
    → AddsLogs (take i logs) s t → AddsLogs (log ∷ []) t u → AddsLogs (take (i + 1) logs) s u
adds-next logs i log s t u within is h k =
    subst (λ l. AddsLogs l s u) (ap (λ (x : List ℕ). take i logs ++ x ∷ []) is ∙ sym (take_more logs i log within)) (adds-more (take i logs) (log ∷ []) s t u h k)

some-byte : (log : List ℕ) → is_nameless log ≡ false → log ≢ []
some-byte [] e = λ none. cc
some-byte (byte ∷ bytes) e = λ none. cc

no-byte : (log : List ℕ) → is_nameless log ≡ true → log ≡ []
no-byte [] e = refl
no-byte (byte ∷ bytes) e = absurd (grind (arith, nat_tests))

-- logs of which none is nameless have names
all-named : (logs : List (List ℕ)) → ((k : ℕ) → k < length logs → is_nameless (get_or logs k []) ≡ false) → AreNamed logs
all-named [] h = tt
all-named (log ∷ logs) h = (some-byte log (h 0 (omega arith)), all-named logs (λ k within. h (suc k) (omega arith)))

pub none-nameless : (logs : List (List ℕ)) → position is_nameless logs ≡ None → AreNamed logs
none-nameless logs e = all-named logs (λ k within. fails_before_first is_nameless logs k [] (grind (arith, tests)))

-- the logs up to the first that is nameless
abbrev CutAt : List (List ℕ) → ℕ → Type 0
CutAt logs i = (named more : List (List ℕ)) × (logs ≡ named ++ [] ∷ more) × AreNamed named × (length named ≡ i)

cut-at : (logs : List (List ℕ)) (i : ℕ) → i < length logs → is_nameless (get_or logs i []) ≡ true → ((k : ℕ) → k < i → is_nameless (get_or logs k []) ≡ false) → CutAt logs i
cut-at [] i within is_so before = absurd (omega arith)
cut-at (log ∷ logs) zero within is_so before = ([], logs, ap (λ (x : List ℕ). x ∷ logs) (no-byte log is_so), tt, refl)
cut-at (log ∷ logs) (suc i) within is_so before =
    let (named, more, split, are, count) = cut-at logs i (omega arith) is_so (λ k lt. before (suc k) (omega arith)) in
    (log ∷ named, more, ap (λ (x : List (List ℕ)). log ∷ x) split, (some-byte log (before 0 (omega arith)), are), ap suc count)

pub is-nameless : (at : ℕ) (logs : List (List ℕ)) (i : ℕ) → position is_nameless logs ≡ Some i → IsNameless at logs (BadValue (at + i))
is-nameless at logs i e =
    let found = position-Some is_nameless logs i [] e in
    let (named, more, split, are, count) = cut-at logs i found.0 found.1 found.2 in
    record { named = named; more = more; logs_are = split; are_named = are; fault_is = ap (λ (n : ℕ). BadValue (at + n)) (sym count) }
