-- Words after those of a configuration file: all of them are units again, and what is wrong with them is among the words.
use Rattle.std.proofs.Common.{◌≡◌, ◌⊎◌, ◌↔◌, ◌+◌, ◌-◌, ◌≤◌, ℕ, Bool, true, false, if◌then◌else◌, Option, List, [], ◌∷◌, ◌++◌, length, refl, sym, ap, ◌∙◌, subst, arith, append_assoc, length-append, Result, Ok, Err, IfOk, IfErr, inl, inr}
use Rattle.std.specs.List.{AllByRecursion}
use Rattle.ga_words.specs.declared.settings.Settings.{Settings}
use Rattle.ga_words.specs.declared.fault.WordFault.{WordFault}
use Rattle.ga_words.specs.declared.fault.WordFault.TheVariants.{UnknownOption, MissingValue, BadValue, NoFormat, NoInput, Conflict, NoMemory}
use Rattle.ga_words.specs.Defaults.{defaults}
use Rattle.ga_words.specs.Options.{Takes, Sets}
use Rattle.ga_words.specs.Options.Takes.{Flag, Format, Name, Number, Status, Target, Addresses, OfPanel, OneOf}
use Rattle.ga_words.specs.Units.{WordUnit, written, spelled, Makes, RowMakes, tail_words, tail_logs, names_generate, generate_places}
use Rattle.ga_words.specs.Units.WordUnit.{Alone, Joined, Separate, Log}
use Rattle.ga_words.specs.WordsOf.{AreUnits, HasFault, WordsOf, IsSame}
use Rattle.ga_words.specs.Joined.{AreConfWords, HasNoPlace, IsConfUnit, JoinedOf, NamesConf, among_all, ScanOf}
use Rattle.ga_words.specs.Steps.Joined.{alone}
use Rattle.ga_words.proofs.OneEvent.{OneRange}
use Rattle.ga_words.proofs.OneReading.{same-units, no-fault, same-fault, one-reading}
use Rattle.ga_words.proofs.SomeAnswer.{some-answer}
use Rattle.ga_words.proofs.SomeRange.{OneAddress}

-- ---- units on other settings

-- what a value makes of some settings it makes of all
sets-any : (takes : Takes) (value : List ℕ) (old new other : Settings) → Sets takes value old new → (next : Settings) × Sets takes value other next
sets-any (Flag set) value old new other h = absurd h
sets-any (Format set) value old new other h = (set value other, refl)
sets-any (Name set) value old new other h = (set value other, (h.0, refl))
sets-any (Number low high set) value old new other h = (set h.0 other, (h.0, h.1, refl))
sets-any (Status set) value old new other h = (set h.0 other, (h.0, h.1, refl))
sets-any (Target set) value old new other h = (set h.0 other, (h.0, h.1, refl))
sets-any (Addresses set) value old new other h = (set h.0 other, (h.0, h.1, refl))
sets-any (OfPanel set) value old new other h = (set h.0 other, (h.0, h.1, refl))
sets-any (OneOf words) value old new other h = (h.0 other, (h.0, h.1, refl))

makes-any : (unit : WordUnit) (old new other : Settings) → Makes unit old new → (next : Settings) × Makes unit other next
makes-any (Alone name) old new other h = (h.0 other, (h.0, h.1, refl))
makes-any (Joined name value) old new other h = let next = sets-any h.0 value old new other h.3 in (next.0, (h.0, h.1, h.2, next.1))
makes-any (Separate name value) old new other h = let next = sets-any h.0 value old new other h.2 in (next.0, (h.0, h.1, next.1))
makes-any (Log name) old new other h = (record other { logs = other.logs ++ name ∷ [] }, (h.0, h.1, refl))

row-any : (units : List WordUnit) (old new other : Settings) → RowMakes units old new → (next : Settings) × RowMakes units other next
row-any [] old new other h = (other, refl)
row-any (unit ∷ units) old new other h =
    let first = makes-any unit old h.0 other h.1 in
    let more = row-any units h.0 new first.0 h.2 in (more.0, (first.0, first.1, more.1))

row-append : (units more : List WordUnit) (old between new : Settings) → RowMakes units old between → RowMakes more between new → RowMakes (units ++ more) old new
row-append [] more old between new here row = subst (λ (s : Settings). RowMakes more s new) here row
row-append (unit ∷ units) more old between new here row = (here.0, here.1, row-append units more here.0 between new here.2 row)

spelled-append : (units more : List WordUnit) → spelled (units ++ more) ≡ spelled units ++ spelled more
spelled-append [] more = refl
spelled-append (unit ∷ units) more = ap (λ (x : List (List ℕ)). written unit ++ x) (spelled-append units more) ∙ sym (append_assoc (written unit) (spelled units) (spelled more))

-- the units of joined words
pub joined-units : (conf words : List (List ℕ)) (name : Option (List ℕ)) (front : AreConfWords conf) (back : NamesConf words name) → (s : Settings) × AreUnits (conf ++ words) (front.units ++ back.units) s
joined-units conf words name front back =
    let own = back.are_units in
    let moved = row-any back.units defaults own.before front.settings own.row in (
      record moved.0 { logs = moved.0.logs ++ tail_logs own.tail },
      record {
        tail = own.tail;
        spells =
            ap (λ (x : List (List ℕ)). x ++ words) front.spells ∙ ap (λ (x : List (List ℕ)). spelled front.units ++ x) own.spells
            ∙ sym (append_assoc (spelled front.units) (spelled back.units) (tail_words own.tail))
            ∙ ap (λ (x : List (List ℕ)). x ++ tail_words own.tail) (sym (spelled-append front.units back.units));
        before = moved.0;
        row = row-append front.units back.units defaults front.settings moved.0 front.row moved.1;
        named = own.named;
        makes = refl;
      },
    )

-- ---- the places of --generate

places-append : (at : ℕ) (units more : List WordUnit) → generate_places at (units ++ more) ≡ generate_places at units ++ generate_places (at + length (spelled units)) more
places-append at [] more = ap (λ (n : ℕ). generate_places n more) (omega arith)
places-append at (unit ∷ units) more =
    let here : List ℕ = if names_generate unit then at ∷ [] else [] in
    let next = at + length (written unit) in
    let same : next + length (spelled units) ≡ at + length (written unit ++ spelled units) = omega (arith, length-append (written unit) (spelled units)) in
    ap (λ (x : List ℕ). here ++ x) (places-append next units more ∙ ap (λ (n : ℕ). generate_places next units ++ generate_places n more) same)
    ∙ sym (append_assoc here (generate_places next units) (generate_places (at + length (written unit ++ spelled units)) more))

conf-unit : (unit : WordUnit) → IsConfUnit unit → names_generate unit ≡ false
conf-unit (Alone name) h = refl
conf-unit (Joined name value) h = h
conf-unit (Separate name value) h = h
conf-unit (Log name) h = absurd h

-- the units of a file have none
no-places : (at : ℕ) (units : List WordUnit) → AllByRecursion IsConfUnit units → generate_places at units ≡ []
no-places at [] all = refl
no-places at (unit ∷ units) all =
    ap (λ (b : Bool). (if b then at ∷ [] else []) ++ generate_places (at + length (written unit)) units) (conf-unit unit all.0) ∙ no-places (at + length (written unit)) units all.1

-- those of other units are from where these begin on
places-from : (low at : ℕ) (units : List WordUnit) → low ≤ at → AllByRecursion (λ (place : ℕ). low ≤ place) (generate_places at units)
places-from low at [] le = tt
places-from low at (unit ∷ units) le =
    all-append (λ (place : ℕ). low ≤ place) _ _ (from-at (names_generate unit)) (places-from low (at + length (written unit)) units (omega (arith, le)))
  where
    from-at : (named : Bool) → AllByRecursion (λ (place : ℕ). low ≤ place) (if named then at ∷ [] else [])
    from-at true = (le, tt)
    from-at false = tt

    all-append : (P : ℕ → Type 0) (xs ys : List ℕ) → AllByRecursion P xs → AllByRecursion P ys → AllByRecursion P (xs ++ ys)
    all-append P [] ys a b = b
    all-append P (x ∷ xs) ys a b = (a.0, all-append P xs ys a.1 b)

last-holds : (P : ℕ → Type 0) (earlier places : List ℕ) (at : ℕ) → places ≡ earlier ++ at ∷ [] → AllByRecursion P places → P at
last-holds P [] [] at e all = absurd (let clash : [] ≡ at ∷ [] = e in cc)
last-holds P [] (x ∷ places) at e all = let here : x ≡ at = cc in subst P here all.0
last-holds P (y ∷ earlier) [] at e all = absurd (let clash : [] ≡ y ∷ (earlier ++ at ∷ []) = e in cc)
last-holds P (y ∷ earlier) (x ∷ places) at e all = let more : places ≡ earlier ++ at ∷ [] = cc in last-holds P earlier places at more all.1

-- ---- what is wrong with joined words

module _ (one_range : OneRange) (conf words : List (List ℕ)) (name : Option (List ℕ)) (front : AreConfWords conf) (back : NamesConf words name) where
  pub none-placed : (fault : WordFault) → HasFault (conf ++ words) fault → ⊥
  none-placed fault h = let all = joined-units conf words name front back in no-fault one_range (conf ++ words) (front.units ++ back.units) all.0 fault all.1 h

  pub no-place : (fault : WordFault) → WordsOf (conf ++ words) (Err fault) → HasNoPlace fault
  no-place fault (inl h) = absurd (none-placed fault h)
  no-place (UnknownOption at) (inr h) = absurd h.stands
  no-place (MissingValue at) (inr h) = absurd h.stands
  no-place (BadValue at) (inr h) = absurd h.stands
  no-place NoFormat (inr h) = tt
  no-place NoInput (inr h) = tt
  no-place (Conflict at) (inr h) = tt
  no-place NoMemory (inr h) = tt

  pub conflict-after : (at : ℕ) → WordsOf (conf ++ words) (Err (Conflict at)) → length conf ≤ at
  conflict-after at (inl h) = absurd h.stands
  conflict-after at (inr h) =
      let all = joined-units conf words name front back in
      let same = (same-units one_range (conf ++ words) h.units (front.units ++ back.units) h.settings all.0 h.are_units all.1).0 in
      let from : generate_places 0 h.units ≡ generate_places (0 + length (spelled front.units)) back.units =
      ap (generate_places 0) same ∙ places-append 0 front.units back.units ∙ ap (λ (x : List ℕ). x ++ generate_places (0 + length (spelled front.units)) back.units) (no-places 0 front.units front.are) in
      last-holds (λ (place : ℕ). length conf ≤ place) h.stands.0.0 (generate_places 0 h.units) at h.stands.0.1
      (subst (AllByRecursion (λ (place : ℕ). length conf ≤ place)) (sym from)
      (places-from (length conf) (0 + length (spelled front.units)) back.units (omega (arith, ap length front.spells))))

-- ---- one answer

-- a fault of words as one of all, and back
shifted : (conf : List (List ℕ)) (fault : WordFault) → alone (length conf) (among_all conf fault) ≡ fault
shifted conf (UnknownOption at) = refl
shifted conf (MissingValue at) = refl
shifted conf (BadValue at) = refl
shifted conf NoFormat = refl
shifted conf NoInput = refl
shifted conf (Conflict at) = let back : length conf + at - length conf ≡ at = omega arith in ap Conflict back
shifted conf NoMemory = refl

pub one-joined : OneRange → (conf words : List (List ℕ)) (answer other : Result Settings WordFault) → JoinedOf conf words answer → JoinedOf conf words other → IsSame answer other
one-joined one_range conf words (Ok s) (Ok t) h k = one-reading one_range (conf ++ words) (Ok s) (Ok t) h k
one-joined one_range conf words (Ok s) (Err fault) h k = one-reading one_range (conf ++ words) (Ok s) (Err (among_all conf fault)) h k
one-joined one_range conf words (Err fault) (Ok t) h k = one-reading one_range (conf ++ words) (Err (among_all conf fault)) (Ok t) h k
one-joined one_range conf words (Err fault) (Err other) h k =
    let same : among_all conf fault ≡ among_all conf other = one-reading one_range (conf ++ words) (Err (among_all conf fault)) (Err (among_all conf other)) h k in
    sym (shifted conf fault) ∙ ap (alone (length conf)) same ∙ shifted conf other

-- after no words
unshifted : (fault : WordFault) → among_all [] fault ≡ fault
unshifted (UnknownOption at) = refl
unshifted (MissingValue at) = refl
unshifted (BadValue at) = refl
unshifted NoFormat = refl
unshifted NoInput = refl
unshifted (Conflict at) = let same : 0 + at ≡ at = omega arith in ap Conflict same
unshifted NoMemory = refl

pub joined-alone : (words : List (List ℕ)) (answer : Result Settings WordFault) → JoinedOf [] words answer ↔ WordsOf words answer
joined-alone words (Ok s) = (λ h. h, λ h. h)
joined-alone words (Err fault) =
    (subst (λ (f : WordFault). WordsOf words (Err f)) (unshifted fault), subst (λ (f : WordFault). WordsOf words (Err f)) (sym (unshifted fault)))

-- a fault that no other words have
pub alone-other : (others : ℕ) (fault : WordFault) → ((at : ℕ) → fault ≡ Conflict at → ⊥) → fault ≡ alone others fault
alone-other others (UnknownOption at) none = refl
alone-other others (MissingValue at) none = refl
alone-other others (BadValue at) none = refl
alone-other others NoFormat none = refl
alone-other others NoInput none = refl
alone-other others (Conflict at) none = absurd (none at refl)
alone-other others NoMemory none = refl

and-back : (conf : List (List ℕ)) (fault : WordFault) → ((at : ℕ) → fault ≡ Conflict at → length conf ≤ at) → among_all conf (alone (length conf) fault) ≡ fault
and-back conf (UnknownOption at) after = refl
and-back conf (MissingValue at) after = refl
and-back conf (BadValue at) after = refl
and-back conf NoFormat after = refl
and-back conf NoInput after = refl
and-back conf (Conflict at) after = let here : length conf ≤ at = after at refl in let same : length conf + (at - length conf) ≡ at = omega (arith, here) in ap Conflict same
and-back conf NoMemory after = refl

alone-memory : (others : ℕ) (fault : WordFault) → fault ≡ NoMemory → alone others fault ≡ NoMemory
alone-memory others fault is = ap (alone others) is

alone-unplaced : (others : ℕ) (fault : WordFault) → HasNoPlace fault → HasNoPlace (alone others fault)
alone-unplaced others (UnknownOption at) h = h
alone-unplaced others (MissingValue at) h = h
alone-unplaced others (BadValue at) h = h
alone-unplaced others NoFormat h = h
alone-unplaced others NoInput h = h
alone-unplaced others (Conflict at) h = h
alone-unplaced others NoMemory h = h

-- what the code finds of all words, and tells of these
module _ (conf words : List (List ℕ)) (fault told : WordFault) (found : (fault ≡ NoMemory) ⊎ WordsOf (conf ++ words) (Err fault)) where
  pub after-conf : ((at : ℕ) → WordsOf (conf ++ words) (Err (Conflict at)) → length conf ≤ at) → (at : ℕ) → fault ≡ Conflict at → length conf ≤ at
  after-conf place at is = by found
    where
      by : (fault ≡ NoMemory) ⊎ WordsOf (conf ++ words) (Err fault) → length conf ≤ at
      by (inl memory) = absurd (let clash : Conflict at ≡ NoMemory = sym is ∙ memory in cc)
      by (inr h) = place at (subst (λ (f : WordFault). WordsOf (conf ++ words) (Err f)) is h)

  pub told-joined : ((at : ℕ) → fault ≡ Conflict at → length conf ≤ at) → told ≡ alone (length conf) fault → (told ≡ NoMemory) ⊎ JoinedOf conf words (Err told)
  told-joined after is = by found
    where
      by : (fault ≡ NoMemory) ⊎ WordsOf (conf ++ words) (Err fault) → (told ≡ NoMemory) ⊎ JoinedOf conf words (Err told)
      by (inl memory) = inl (is ∙ alone-memory (length conf) fault memory)
      by (inr h) =
          let back : among_all conf told ≡ fault = ap (among_all conf) is ∙ and-back conf fault after in
          inr (subst (λ (f : WordFault). WordsOf (conf ++ words) (Err f)) (sym back) h)

  pub told-unplaced : ((f : WordFault) → WordsOf (conf ++ words) (Err f) → HasNoPlace f) → told ≡ alone (length conf) fault → HasNoPlace told
  told-unplaced whole is = subst HasNoPlace (sym is) (alone-unplaced (length conf) fault (by found))
    where
      by : (fault ≡ NoMemory) ⊎ WordsOf (conf ++ words) (Err fault) → HasNoPlace fault
      by (inl memory) = subst HasNoPlace (sym memory) tt
      by (inr h) = whole fault h

pub only-joined : (conf words : List (List ℕ)) (result : Result Settings WordFault)
    → ((answer other : Result Settings WordFault) → JoinedOf conf words answer → JoinedOf conf words other → IsSame answer other)
    → IfOk result (λ s. JoinedOf conf words (Ok s)) → IfErr result (λ f. (f ≡ NoMemory) ⊎ JoinedOf conf words (Err f))
    → (answer : Result Settings WordFault) → JoinedOf conf words answer → (result ≡ Err NoMemory) ⊎ IsSame result answer
only-joined conf words (Ok s) one ok fault answer h = inr (one (Ok s) answer ok h)
only-joined conf words (Err f) one ok (inl memory) answer h = inl (ap Err memory)
only-joined conf words (Err f) one ok (inr is) answer h = inr (one (Err f) answer is h)

-- ---- the file that words name

pub one-scan : OneRange → (words : List (List ℕ)) (answer other : Result (Option (List ℕ)) WordFault) → ScanOf words answer → ScanOf words other → answer ≡ other
one-scan one_range words (Ok name) (Ok other) h k =
    let same = (same-units one_range words h.units k.units h.settings k.settings h.are_units k.are_units).1 in
    let names : name ≡ other = h.is ∙ ap (λ (s : Settings). s.config_file) same ∙ sym k.is in ap Ok names
one-scan one_range words (Ok name) (Err fault) h k = absurd (no-fault one_range words h.units h.settings fault h.are_units k)
one-scan one_range words (Err fault) (Ok other) h k = absurd (no-fault one_range words k.units k.settings fault k.are_units h)
one-scan one_range words (Err fault) (Err other) h k = ap Err (same-fault one_range words fault other h k)

abbrev IsScanned : List (List ℕ) → Type 0
IsScanned words = (answer : Result (Option (List ℕ)) WordFault) × ScanOf words answer

scan-units : (words : List (List ℕ)) (units : List WordUnit) (s : Settings) → AreUnits words units s → IsScanned words
scan-units words units s are = (Ok s.config_file, record { units = units; settings = s; are_units = are; is = refl })

scan-answer : (words : List (List ℕ)) (answer : Result Settings WordFault) → WordsOf words answer → IsScanned words
scan-answer words (Ok s) h = scan-units words h.units s h.are_units
scan-answer words (Err fault) (inl h) = (Err fault, h)
scan-answer words (Err fault) (inr h) = scan-units words h.units h.settings h.are_units

pub some-scan : OneAddress → (words : List (List ℕ)) → IsScanned words
some-scan one_address words = let answer = some-answer one_address words in scan-answer words answer.0 answer.1

pub only-scan : (words : List (List ℕ)) (result : Result (Option (List ℕ)) WordFault)
    → ((words : List (List ℕ)) (answer other : Result (Option (List ℕ)) WordFault) → ScanOf words answer → ScanOf words other → answer ≡ other)
    → IfOk result (λ name. ScanOf words (Ok name)) → IfErr result (λ f. (f ≡ NoMemory) ⊎ ScanOf words (Err f))
    → (answer : Result (Option (List ℕ)) WordFault) → ScanOf words answer → (result ≡ Err NoMemory) ⊎ (result ≡ answer)
only-scan words (Ok name) one ok fault answer h = inr (one words (Ok name) answer ok h)
only-scan words (Err f) one ok (inl memory) answer h = inl (ap Err memory)
only-scan words (Err f) one ok (inr is) answer h = inr (one words (Err f) answer is h)
