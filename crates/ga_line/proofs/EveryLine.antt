-- Every line says something: it is passed over, or fails for a cause, or says a record.
use Rattle.std.proofs.Common.{◌≡◌, ◌≢◌, ℕ, ◌≤◌, Bool, true, false, List, [], ◌∷◌, ◌++◌, Option, Some, None, length, refl, sym, ap, ◌∙◌, subst, arith, inl, inr, ⊎_elim}
use Rattle.std.proofs.lemmas.Bool.{cases_lt}
use Rattle.std.proofs.lemmas.List.Sums.{AllPass-from_list_all, list_all-from_AllPass}
use Rattle.std.specs.Prelude.{IfSome, unwrap_or}
use Rattle.std.specs.Str.{all_ascii_digits}
use Rattle.std.specs.Str.Parse.{digits_value}
use Rattle.ga_base.specs.declared.counts.TheConstants.{BIG}
use Rattle.ga_base.specs.declared.formats.FormatItem.{FormatItem}
use Rattle.ga_base.specs.declared.formats.FormatItem.TheVariants.{Literal, Skip, Field, Forwarded}
use Rattle.ga_base.specs.declared.record.Line.TheVariants.{Skipped, Failed, Good}
use Rattle.ga_base.specs.declared.record.Record.{Record}
use Rattle.ga_dates.specs.declared.item.Item.{Item}
use Rattle.ga_line.specs.declared.numbers.Numbers.{Numbers}
use Rattle.ga_line.specs.declared.setup.LineSetup.{LineSetup}
use Rattle.ga_line.specs.Fits.{Part, Fits, IsFree, nothing, byte, pair, EndsAt, SkipsSpace, is_space, double_quote, backslash, field, IsForwarded, host_part}
use Rattle.ga_line.specs.Letters.{host_letter, date_letter, time_letter, both_letter, request_letter, method_letter, path_letter, protocol_letter, status_letter, size_letter, referrer_letter, agent_letter, vhost_letter, user_letter, cache_letter, mime_letter, tls_letter, micros_letter, millis_letter, seconds_letter}
use Rattle.ga_base.specs.declared.record.TheConstants.{MAX_LINE}
use Rattle.ga_line.specs.Records.{IsMissing, IsNoAddress, IfKnown, HasRequest, AsksFor, url_of, day_text, request_text, taken_part, HasMinute, HasMoment, SaysMoment, IsStatus, HasStatus, size_value, AreDigits, decimal_value, IsDecimal, whole, parted, IsMicros, in_micros, in_millis, in_seconds, HasMicros, IsPassedOver, IsRefused, no_host, no_date, no_request, no_address, bad_moment, bad_status, too_large, too_slow, Fails, too_long, misfit, refused, utf8_text, said_text, SaysSomething}
use Rattle.ga_line.specs.Steps.Valid.{HasNumbers}
use Rattle.ga_line.proofs.AcceptLemmas.{accepted-line, has-numbers}
use Rattle.ga_line.proofs.FreeLemmas.{EndsAt-unique}
use Rattle.bstr.specs.Bytes.{is_in}
use Rattle.ga_requests.specs.Tables.{IsMethod, IsProtocol}
use Rattle.ga_line.specs.Forwarded.{FirstAddress, entries}
use Rattle.ga_line.specs.Steps.Forwarding.{HasChain}
use Rattle.ga_line.proofs.AddressKnown.{known-address}
use Rattle.ga_line.proofs.ChainLemmas.{known-chain}
use Rattle.ga_line.proofs.ForwardLemmas.{chains-nowhere, chains-elsewhere}
use Rattle.ga_line.proofs.RequestKnown.{known-method, known-protocol, some-split}
use Rattle.ga_jsonlog.specs.declared.leaf.JsonLeaf.{JsonLeaf}
use Rattle.ga_jsonlog.specs.declared.pieces.Pieces.{Pieces}
use Rattle.ga_jsonlog.specs.declared.pieces.Pieces.TheVariants.{NoObject, Leaves}
use Rattle.ga_jsonlog.specs.Pieces.{PiecesOf}
use Rattle.ga_line.specs.declared.setup.Shape.{Shape}
use Rattle.ga_line.specs.declared.setup.Shape.TheVariants.{Plain, Json}
use Rattle.ga_line.specs.Shapes.{FitsShape}
use Rattle.ga_line.proofs.ShapeLemmas.{known-leaves, no-object-misfit, pieces-misfit}
use Rattle.ga_line.proofs.UniqueFits.{SkipsSpace-unique, forwarded-unique}
use Rattle.ga_line.proofs.Known.{IsKnown, known-both, known-less, known-most, known-same, known-true, known-text, IsParted, known-parted, known-date, known-time, known-moment}
use Rattle.ga_line.proofs.ReadLemmas.{says-record}

cons-head : (x y : ℕ) (xs ys : List ℕ) → x ∷ xs ≡ y ∷ ys → x ≡ y
cons-head x y xs ys e = cc

cons-tail : (x y : ℕ) (xs ys : List ℕ) → x ∷ xs ≡ y ∷ ys → xs ≡ ys
cons-tail x y xs ys e = cc

-- whether the field that begins a text ends in it
abbrev HasEnd : ℕ → List ℕ → Type 0
HasEnd stop rest = (text after : List ℕ) × EndsAt stop rest text after

module _ (stop b : ℕ) (after : List ℕ) where
  behind-byte : (rest text : List ℕ) → b ≢ stop → (stop ≡ double_quote → b ≢ backslash) → b ∷ rest ≡ text ++ stop ∷ after → IsFree stop text → HasEnd stop rest
  behind-byte rest [] apart plain e nothing = absurd (apart (cons-head _ _ _ _ e))
  behind-byte rest (c ∷ text) apart plain e (byte other bare free) = (text, after, record { split = cons-tail _ _ _ _ e; first = free })
  behind-byte rest (c ∷ d ∷ text) apart plain e (pair quote is free) = absurd (plain quote (cons-head _ _ _ _ e ∙ is))

  behind-pair : (c : ℕ) (rest text : List ℕ) → stop ≡ double_quote → b ≡ backslash → b ∷ c ∷ rest ≡ text ++ stop ∷ after → IsFree stop text → HasEnd stop rest
  behind-pair c rest [] quote is e nothing = let same : b ≡ stop = cons-head _ _ _ _ e in absurd (omega arith)
  behind-pair c rest (x ∷ text) quote is e (byte other plain free) = absurd (plain quote (sym (cons-head _ _ _ _ e) ∙ is))
  behind-pair c rest (x ∷ y ∷ text) quote is e (pair same slash free) = (text, after, record { split = cons-tail _ _ _ _ (cons-tail _ _ _ _ e); first = free })

  no-pair : (text : List ℕ) → stop ≡ double_quote → b ≡ backslash → b ∷ [] ≡ text ++ stop ∷ after → IsFree stop text → ⊥
  no-pair [] quote is e nothing = let same : b ≡ stop = cons-head _ _ _ _ e in omega arith
  no-pair (x ∷ text) quote is e (byte other plain free) = plain quote (sym (cons-head _ _ _ _ e) ∙ is)
  no-pair (x ∷ y ∷ text) quote is e (pair same slash free) = let l : 0 ≡ length (y ∷ text ++ stop ∷ after) = ap length (cons-tail _ _ _ _ e) in omega arith

no-end : (stop : ℕ) (text after : List ℕ) → [] ≡ text ++ stop ∷ after → ⊥
no-end stop [] after e = let l : 0 ≡ length (stop ∷ after) = ap length e in omega arith
no-end stop (x ∷ text) after e = let l : 0 ≡ length (x ∷ text ++ stop ∷ after) = ap length e in omega arith

-- one byte more in front, that is no stop and hides nothing; or a byte that hides the next
one-byte : (stop b : ℕ) (rest : List ℕ) → b ≢ stop → (stop ≡ double_quote → b ≢ backslash) → IsKnown (HasEnd stop rest) → IsKnown (HasEnd stop (b ∷ rest))
one-byte stop b rest apart plain (inl (text, after, ends)) = inl (b ∷ text, after, record { split = ap (λ (r : List ℕ). b ∷ r) ends.split; first = byte apart plain ends.first })
one-byte stop b rest apart plain (inr none) = inr (λ found. none (behind-byte stop b found.1 rest found.0 apart plain found.2.split found.2.first))

one-pair : (stop b c : ℕ) (rest : List ℕ) → stop ≡ double_quote → b ≡ backslash → IsKnown (HasEnd stop rest) → IsKnown (HasEnd stop (b ∷ c ∷ rest))
one-pair stop b c rest quote is (inl (text, after, ends)) = inl (b ∷ c ∷ text, after, record { split = ap (λ (r : List ℕ). b ∷ c ∷ r) ends.split; first = pair quote is ends.first })
one-pair stop b c rest quote is (inr none) = inr (λ found. none (behind-pair stop b found.1 c rest found.0 quote is found.2.split found.2.first))

known-end : (stop : ℕ) (rest : List ℕ) → IsKnown (HasEnd stop rest)
known-end stop [] = inr (λ found. no-end stop found.0 found.1 found.2.split)
known-end stop (b ∷ []) = alone (known-same b stop) (known-both (known-same stop double_quote) (known-same b backslash))
  where
    alone : IsKnown (b ≡ stop) → IsKnown ((stop ≡ double_quote) × (b ≡ backslash)) → IsKnown (HasEnd stop (b ∷ []))
    alone (inl at) hides = inl ([], [], record { split = ap (λ (x : ℕ). x ∷ []) at; first = nothing })
    alone (inr apart) (inl hides) = inr (λ found. no-pair stop b found.1 found.0 hides.0 hides.1 found.2.split found.2.first)
    alone (inr apart) (inr bare) = one-byte stop b [] apart (λ quote slash. bare (quote, slash)) (inr (λ found. no-end stop found.0 found.1 found.2.split))
known-end stop (b ∷ c ∷ rest) = first (known-same b stop) (known-both (known-same stop double_quote) (known-same b backslash)) (known-end stop (c ∷ rest)) (known-end stop rest)
  where
    first : IsKnown (b ≡ stop) → IsKnown ((stop ≡ double_quote) × (b ≡ backslash)) → IsKnown (HasEnd stop (c ∷ rest)) → IsKnown (HasEnd stop rest) → IsKnown (HasEnd stop (b ∷ c ∷ rest))
    first (inl at) hides next behind = inl ([], c ∷ rest, record { split = ap (λ (x : ℕ). x ∷ c ∷ rest) at; first = nothing })
    first (inr apart) (inl hides) next behind = one-pair stop b c rest hides.0 hides.1 behind
    first (inr apart) (inr bare) next behind = one-byte stop b (c ∷ rest) apart (λ quote slash. bare (quote, slash)) next

-- what white space leaves
skip-space : (rest : List ℕ) → (after : List ℕ) × SkipsSpace rest after
skip-space [] = ([], record { run = ([], refl, AllPass-from_list_all is_space [] refl); longest = λ b more e. absurd (nothing-there b more e) })
  where
    nothing-there : (b : ℕ) (more : List ℕ) → [] ≡ b ∷ more → ⊥
    nothing-there b more e = cc
skip-space (b ∷ rest) = one (is_space b) refl (skip-space rest)
  where
    one : (blank : Bool) → is_space b ≡ blank → (after : List ℕ) × SkipsSpace rest after → (after : List ℕ) × SkipsSpace (b ∷ rest) after
    one true e (after, skips) = (
      after,
      record {
        run = (b ∷ skips.run.0, ap (λ (r : List ℕ). b ∷ r) skips.run.1, AllPass-from_list_all is_space (b ∷ skips.run.0) (rw e (list_all-from_AllPass is_space skips.run.0 skips.run.2)));
        longest = skips.longest;
      },
    )
    one false e skipped = (
      b ∷ rest,
      record {
        run = ([], refl, AllPass-from_list_all is_space [] refl);
        longest = λ c more same. ap is_space (sym (cons-head _ _ _ _ same)) ∙ e;
      },
    )

-- whether a line fits, and with which fields
abbrev IsFitting : List FormatItem → List ℕ → Type 0
IsFitting items rest = (parts : List Part) × Fits items rest parts

None≢Some : {x : List ℕ} → None ≡ Some x → ⊥
None≢Some e = cc

same-Some : {x y : List ℕ} → Some x ≡ Some y → x ≡ y
same-Some e = cc

-- the first address of some texts
some-first : (texts : List (List ℕ)) → (host : Option (List ℕ)) × FirstAddress texts host
some-first [] = (None, refl)
some-first (text ∷ texts) =
    ⊎_elim (λ address. (Some text, inl (address, refl))) (λ none. let later = some-first texts in (later.0, inr (none, later.1))) (known-address text)

-- whether a chain ends the line, or a literal follows it
known-forwarded : (chained : Bool) (separators : List ℕ) (stop : ℕ) (rest : List ℕ) → IsKnown ((host left : Option (List ℕ)) × IsForwarded chained separators stop rest host left)
known-forwarded false separators stop rest =
    ⊎_elim
    (λ (text, after, ends). let host = some-first (entries separators text) in inl (host.0, Some after, (text, ends, host.1)))
    (λ none. let host = some-first (entries separators rest) in inl (host.0, None, (λ text after ends. none (text, after, ends), host.1)))
    (known-end stop rest)
known-forwarded true separators stop rest = ⊎_elim (λ (host, after, has). before host after has) (λ none. inr (λ (host, left, is). chains-nowhere separators stop rest (λ h a has. none (h, a, has)) host left is)) (known-chain separators rest)
  where
    Chained : Option (List ℕ) → Option (List ℕ) → Type 0
    Chained host left = IsForwarded true separators stop rest host left

    before : (host after : List ℕ) → HasChain separators rest host after → IsKnown ((host left : Option (List ℕ)) × Chained host left)
    before host [] has = inl (Some host, None, has)
    before host (b ∷ after) has =
        ⊎_elim (λ same. inl (Some host, Some after, subst (λ (x : ℕ). HasChain separators rest host (x ∷ after)) same has)) (λ apart. inr (λ (other, left, is). chains-elsewhere separators stop rest host b after has apart other left is)) (known-same b stop)

known-last : (separators rest : List ℕ) → IsKnown (IsFitting (Forwarded separators ∷ []) rest)
known-last separators rest =
    ⊎_elim (λ (host, after, (text, is)). inl (host_part (Some host), (host, text, after, is, refl))) (λ none. inr (λ (parts, (host, text, after, is, e)). none (host, after, (text, is)))) (known-chain separators rest)

known-fit : (items : List FormatItem) (rest : List ℕ) → IsKnown (IsFitting items rest)
known-fit [] rest = inl ([], refl)
known-fit (Literal b ∷ items) [] = inr (λ (parts, fits). no-byte fits.0 fits.1)
  where
    no-byte : (after : List ℕ) → [] ≡ b ∷ after → ⊥
    no-byte after e = cc
known-fit (Literal b ∷ items) (c ∷ rest) = begun (known-same c b) (known-fit items rest)
  where
    begun : IsKnown (c ≡ b) → IsKnown (IsFitting items rest) → IsKnown (IsFitting (Literal b ∷ items) (c ∷ rest))
    begun (inl same) (inl (parts, fits)) = inl (parts, (rest, ap (λ (x : ℕ). x ∷ rest) same, fits))
    begun (inl same) (inr none) = inr (λ (parts, fits). none (parts, subst (λ (a : List ℕ). Fits items a parts) (sym (cons-tail _ _ _ _ fits.1)) fits.2))
    begun (inr other) known = inr (λ (parts, fits). other (cons-head _ _ _ _ fits.1))
known-fit (Skip ∷ items) rest =
    let skipped = skip-space rest in
    ⊎_elim
    (λ (parts, fits). inl (parts, (skipped.0, skipped.1, fits)))
    (λ none. inr (λ (parts, fits). none (parts, subst (λ (a : List ℕ). Fits items a parts) (SkipsSpace-unique rest fits.0 skipped.0 fits.1 skipped.1) fits.2)))
    (known-fit items skipped.0)
known-fit (Field letter ∷ []) rest = inl ((letter, rest) ∷ [], refl)
known-fit (Field letter ∷ Literal stop ∷ items) rest = cut (known-end stop rest) (λ after. known-fit items after)
  where
    behind : (text after : List ℕ) → EndsAt stop rest text after → IsKnown (IsFitting items after) → IsKnown (IsFitting (Field letter ∷ Literal stop ∷ items) rest)
    behind text after ends (inl (later, fits)) = inl ((letter, text) ∷ later, inr (text, after, later, ends, refl, fits))
    behind text after ends (inr none) = inr (λ (parts, fits). no-later parts fits)
      where
        no-later : (parts : List Part) → ¬ Fits (Field letter ∷ Literal stop ∷ items) rest parts
        no-later parts (inl never) = never.0 text after ends
        no-later parts (inr (other, left, later, too, is, fits)) = none (later, subst (λ (a : List ℕ). Fits items a later) (EndsAt-unique stop rest other left text after too ends).1 fits)

    cut : IsKnown (HasEnd stop rest) → ((after : List ℕ) → IsKnown (IsFitting items after)) → IsKnown (IsFitting (Field letter ∷ Literal stop ∷ items) rest)
    cut (inl (text, after, ends)) known = behind text after ends (known after)
    cut (inr none) known = inl ((letter, rest) ∷ [], inl (λ text after ends. none (text, after, ends), refl))
known-fit (Field letter ∷ Skip ∷ items) rest = inl ((letter, rest) ∷ [], refl)
known-fit (Field letter ∷ Field other ∷ items) rest = inl ((letter, rest) ∷ [], refl)
known-fit (Field letter ∷ Forwarded separators ∷ items) rest = inl ((letter, rest) ∷ [], refl)
known-fit (Forwarded separators ∷ []) rest = known-last separators rest
known-fit (Forwarded separators ∷ Literal stop ∷ items) rest = cut (known-forwarded (is_in separators stop) separators stop rest) (λ after. known-fit items after)
  where
    Forward : Option (List ℕ) → Option (List ℕ) → Type 0
    Forward host left = IsForwarded (is_in separators stop) separators stop rest host left

    behind : (host : Option (List ℕ)) (after : List ℕ) → Forward host (Some after) → IsKnown (IsFitting items after) → IsKnown (IsFitting (Forwarded separators ∷ Literal stop ∷ items) rest)
    behind host after has (inl (later, fits)) = inl (host_part host ++ later, inr (host, after, later, has, refl, fits))
    behind host after has (inr none) = inr (λ (parts, fits). no-later parts fits)
      where
        no-later : (parts : List Part) → ¬ Fits (Forwarded separators ∷ Literal stop ∷ items) rest parts
        no-later parts (inl ends) = None≢Some (forwarded-unique (is_in separators stop) separators stop rest ends.0 None host (Some after) ends.1 has).1
        no-later parts (inr cut) =
            none (cut.2, subst (λ (a : List ℕ). Fits items a cut.2) (same-Some (forwarded-unique (is_in separators stop) separators stop rest cut.0 (Some cut.1) host (Some after) cut.3 has).1) cut.5)

    cut : IsKnown ((host left : Option (List ℕ)) × Forward host left) → ((after : List ℕ) → IsKnown (IsFitting items after)) → IsKnown (IsFitting (Forwarded separators ∷ Literal stop ∷ items) rest)
    cut (inl (host, None, has)) known = inl (host_part host, inl (host, has, refl))
    cut (inl (host, Some after, has)) known = behind host after has (known after)
    cut (inr none) known = inr (λ (parts, fits). ⊎_elim (λ ends. none (ends.0, None, ends.1)) (λ cut. none (cut.0, Some cut.1, cut.3)) fits)
known-fit (Forwarded separators ∷ Skip ∷ items) rest = known-last separators rest
known-fit (Forwarded separators ∷ Field letter ∷ items) rest = known-last separators rest
known-fit (Forwarded separators ∷ Forwarded others ∷ items) rest = known-last separators rest

-- whether a field is missing
known-missing : (text : Option (List ℕ)) → IsKnown (IsMissing text)
known-missing None = inl tt
known-missing (Some text) = known-text text []

-- whether the host is no address where it has to be one
known-no-address : (any : Bool) (host : Option (List ℕ)) → IsKnown (IsNoAddress any host)
known-no-address true host = inr (λ h. h)
known-no-address false None = inr (λ h. h)
known-no-address false (Some host) = ⊎_elim (λ address. inr (λ none. none address)) (λ none. inl none) (known-address host)

-- whether the fields say a moment, a status and a time taken
known-minute : (times : List Item) (time : Option (List ℕ)) → IsKnown ((minute : Option ℕ) × HasMinute times time minute)
known-minute times None = inl (None, refl)
known-minute times (Some time) =
    ⊎_elim (λ (minute, spelt). inl (Some minute, (minute, refl, spelt))) (λ none. inr (λ (minute, has). none (has.0, has.2))) (known-time times time)

abbrev IsMoment : LineSetup → Option (List ℕ) → Option (List ℕ) → Option (List ℕ) → Type 0
IsMoment setup both day time = (date : ℕ) × (minute : Option ℕ) × HasMoment setup both day time date minute

known-said-moment : (setup : LineSetup) (both day time : Option (List ℕ)) → IsKnown (IsMoment setup both day time)
known-said-moment setup (Some both) day time =
    ⊎_elim (λ (date, minute, spelt). inl (date, Some minute, (minute, refl, spelt))) (λ none. inr (λ (date, minute, has). none (date, has.0, has.2)))
    (known-moment setup.date setup.time both)
known-said-moment setup None None time = inr (λ (date, minute, has). has)
known-said-moment setup None (Some day) time =
    ⊎_elim (λ ((date, spelt), (minute, has)). inl (date, minute, (spelt, has))) (λ none. inr (λ (date, minute, has). none ((date, has.0), (minute, has.1))))
    (known-both (known-date setup.date day) (known-minute setup.time time))

known-code : (text : List ℕ) → IsKnown ((status : ℕ) × IsStatus text status)
known-code text =
    ⊎_elim
    (λ (three, (digits, (first, last))). inl (digits_value 10 text, record { three = three; digits = digits; value = refl; first = first; last = last }))
    (λ not. inr (λ (status, is). not (is.three, (is.digits, (omega (arith, is.value, is.first), omega (arith, is.value, is.last))))))
    (known-both (known-same (length text) 3) (known-both (known-true (all_ascii_digits text)) (known-both (known-most 100 (digits_value 10 text)) (known-most (digits_value 10 text) 599))))

known-status : (strict : Bool) (text : Option (List ℕ)) → IsKnown ((status : ℕ) × HasStatus strict text status)
known-status strict None = inl (0, refl)
known-status true (Some text) = known-code text
known-status false (Some text) =
    ⊎_elim (λ (status, is). inl (status, inl is)) (λ none. inl (0, inr (λ status is. none (status, is), refl))) (known-code text)

known-digits : (text : List ℕ) → IsKnown (AreDigits text)
known-digits text =
    ⊎_elim (λ (some, digits). inl (record { some = some; digits = digits })) (λ not. inr (λ are. not (are.some, are.digits)))
    (known-both (known-less 0 (length text)) (known-true (all_ascii_digits text)))

-- what follows a dot
abbrev IsBehindDot : List ℕ → Type 0
IsBehindDot text = (back : List ℕ) × (text ≡ 46 ∷ back) × AreDigits back

known-dot : (text : List ℕ) → IsKnown (IsBehindDot text)
known-dot [] = inr (λ (back, is, are). no-dot back is)
  where
    no-dot : (back : List ℕ) → [] ≡ 46 ∷ back → ⊥
    no-dot back e = cc
known-dot (b ∷ text) =
    ⊎_elim (λ (dot, are). inl (text, ap (λ (x : ℕ). x ∷ text) dot, are))
    (λ not. inr (λ (back, is, are). not (cons-head _ _ _ _ is, subst AreDigits (sym (cons-tail _ _ _ _ is)) are))) (known-both (known-same b 46) (known-digits text))

known-decimal : (places : ℕ) (text : List ℕ) → IsKnown ((number : ℕ) × IsDecimal places text number)
known-decimal places text = from (known-digits text) (known-parted (λ front back. AreDigits front × IsBehindDot back) (λ front back. known-both (known-digits front) (known-dot back)) text)
  where
    neither : ¬ AreDigits text → ¬ IsParted (λ front back. AreDigits front × IsBehindDot back) text → (number : ℕ) → ¬ IsDecimal places text number
    neither not none number (whole are e) = not are
    neither not none number (parted front back split df db e) = none (front, 46 ∷ back, split, (df, (back, refl, db)))

    from : IsKnown (AreDigits text) → IsKnown (IsParted (λ front back. AreDigits front × IsBehindDot back) text) → IsKnown ((number : ℕ) × IsDecimal places text number)
    from (inl are) known = inl (decimal_value places text [], whole are refl)
    from (inr not) (inl (front, back, split, (df, behind))) =
        inl (decimal_value places front behind.0, parted front behind.0 (split ∙ ap (λ (b : List ℕ). front ++ b) behind.1) df behind.2 refl)
    from (inr not) (inr none) = inr (λ (number, is). neither not none number is)

known-micros : (part : Part) → IsKnown ((micros : ℕ) × IsMicros part micros)
known-micros part =
    by (known-same part.0 micros_letter) (known-same part.0 millis_letter) (known-same part.0 seconds_letter) (known-digits part.1) (known-decimal 3 part.1) (known-decimal 6 part.1)
  where
    none-of : ¬ ((part.0 ≡ micros_letter) × AreDigits part.1) → ¬ ((part.0 ≡ millis_letter) × ((n : ℕ) × IsDecimal 3 part.1 n)) → ¬ ((part.0 ≡ seconds_letter) × ((n : ℕ) × IsDecimal 6 part.1 n))
        → (micros : ℕ) → ¬ IsMicros part micros
    none-of a b c micros (in_micros e are is) = a (e, are)
    none-of a b c micros (in_millis e is) = b (e, (micros, is))
    none-of a b c micros (in_seconds e is) = c (e, (micros, is))

    by : IsKnown (part.0 ≡ micros_letter) → IsKnown (part.0 ≡ millis_letter) → IsKnown (part.0 ≡ seconds_letter) → IsKnown (AreDigits part.1) → IsKnown ((n : ℕ) × IsDecimal 3 part.1 n)
        → IsKnown ((n : ℕ) × IsDecimal 6 part.1 n) → IsKnown ((micros : ℕ) × IsMicros part micros)
    by a b c digits millis seconds = first (known-both a digits) (known-both b millis) (known-both c seconds)
      where
        first : IsKnown ((part.0 ≡ micros_letter) × AreDigits part.1) → IsKnown ((part.0 ≡ millis_letter) × ((n : ℕ) × IsDecimal 3 part.1 n))
            → IsKnown ((part.0 ≡ seconds_letter) × ((n : ℕ) × IsDecimal 6 part.1 n)) → IsKnown ((micros : ℕ) × IsMicros part micros)
        first (inl (e, are)) y z = inl (digits_value 10 part.1, in_micros e are refl)
        first (inr x) (inl (e, (n, is))) z = inl (n, in_millis e is)
        first (inr x) (inr y) (inl (e, (n, is))) = inl (n, in_seconds e is)
        first (inr x) (inr y) (inr z) = inr (λ (micros, is). none-of x y z micros is)

some-micros : (part : Option Part) → (micros : Option ℕ) × HasMicros part micros
some-micros None = (None, refl)
some-micros (Some part) = ⊎_elim (λ (n, is). (Some n, is)) (λ none. (None, λ n is. none (n, is))) (known-micros part)

-- what the fields say of the request
if-known : (IsOne : List ℕ → Type 0) → ((text : List ℕ) → IsKnown (IsOne text)) → (text : Option (List ℕ)) → (known : List ℕ) × IfKnown IsOne text known
if-known IsOne tells None = ([], refl)
if-known IsOne tells (Some text) = ⊎_elim (λ is. (text, inl (is, refl))) (λ none. ([], inr (none, refl))) (tells text)

of-fields : (line method path protocol : Option (List ℕ)) → (m t p : List ℕ) × HasRequest line method path protocol m t p
of-fields (Some line) method path protocol = some-split line
of-fields None method path protocol =
    let m = if-known IsMethod known-method method in
    let p = if-known IsProtocol known-protocol protocol in
    (m.0, unwrap_or path [], p.0, (m.1, refl, p.1))

some-request : (setup : LineSetup) (parts : List Part) → (m u p : List ℕ) × AsksFor setup parts m u p
some-request setup parts =
    let says = of-fields (field request_letter parts) (field method_letter parts) (field path_letter parts) (field protocol_letter parts) in
    (says.0, url_of setup says.1 parts, says.2, record { target = says.1; request = says.3; url = refl })

-- a line that fits is refused, or says a record
module _ (setup : LineSetup) (line : List ℕ) (read : ¬ IsPassedOver line) (parts : List Part) (fits : FitsShape setup.format line parts) where
  says-numbers : ¬ Fails setup line → (numbers : Numbers) → HasNumbers setup parts numbers → SaysSomething setup line
  says-numbers accepted numbers has =
      let asks = some-request setup parts in
      let good : Record = record {
        host = utf8_text (field host_letter parts);
        date = numbers.date;
        minute = numbers.minute;
        method = asks.0;
        protocol = asks.2;
        url = asks.1;
        status = numbers.status;
        bytes = numbers.bytes;
        micros = numbers.micros;
        referrer = said_text (field referrer_letter parts);
        agent = said_text (field agent_letter parts);
        vhost = said_text (field vhost_letter parts);
        user = said_text (field user_letter parts);
        cache = said_text (field cache_letter parts);
        mime = said_text (field mime_letter parts);
        tls = said_text (field tls_letter parts);
      } in (
        Good good,
        says-record setup line parts numbers good read accepted fits has (record { date = refl; minute = refl; status = refl; bytes = refl; micros = refl }) (record {
          host = refl;
          request = asks.3;
          referrer = refl;
          agent = refl;
          vhost = refl;
          user = refl;
          cache = refl;
          mime = refl;
          tls = refl;
        }),
      )

  fails-for : IsRefused setup parts → SaysSomething setup line
  fails-for cause = (Failed, (read, refused parts fits cause))

  module _ (short : length line ≤ MAX_LINE) (host : ¬ IsMissing (field host_letter parts)) (day : ¬ IsMissing (day_text parts)) (request : ¬ IsMissing (request_text parts)) (address : ¬ IsNoAddress setup.no_ip_validation (field host_letter parts))
      (date : ℕ) (minute : Option ℕ) (moment : SaysMoment setup parts date minute) (status : ℕ) (is_status : HasStatus setup.strict_status (field status_letter parts) status) where
    with-amounts : size_value (field size_letter parts) ≤ BIG → (micros : Option ℕ) → HasMicros (taken_part parts) micros → IfSome micros (λ m. m ≤ BIG) → SaysSomething setup line
    with-amounts within micros has few =
        let numbers : Numbers = record { date = date; minute = minute; status = status; bytes = size_value (field size_letter parts); micros = micros } in
        let all = has-numbers setup parts numbers host day request address moment is_status refl within has few in
        says-numbers (accepted-line setup line parts short fits all.accepted) numbers all

    by-time : size_value (field size_letter parts) ≤ BIG → (micros : Option ℕ) → HasMicros (taken_part parts) micros → SaysSomething setup line
    by-time within None has = with-amounts within None has tt
    by-time within (Some m) has = ⊎_elim (λ above. fails-for (too_slow m has above)) (λ few. with-amounts within (Some m) has few) (cases_lt BIG m)

    by-amounts : SaysSomething setup line
    by-amounts =
        let taken = some-micros (taken_part parts) in
        ⊎_elim (λ above. fails-for (too_large above)) (λ within. by-time within taken.0 taken.1) (cases_lt BIG (size_value (field size_letter parts)))

  by-parts : length line ≤ MAX_LINE → SaysSomething setup line
  by-parts short = host (known-missing (field host_letter parts)) (known-missing (day_text parts)) (known-missing (request_text parts))
      (known-no-address setup.no_ip_validation (field host_letter parts)) (known-said-moment setup (field both_letter parts) (field date_letter parts) (field time_letter parts)) (known-status setup.strict_status (field status_letter parts))
    where
      host : IsKnown (IsMissing (field host_letter parts)) → IsKnown (IsMissing (day_text parts)) → IsKnown (IsMissing (request_text parts))
          → IsKnown (IsNoAddress setup.no_ip_validation (field host_letter parts)) → IsKnown (IsMoment setup (field both_letter parts) (field date_letter parts) (field time_letter parts)) → IsKnown ((status : ℕ) × HasStatus setup.strict_status (field status_letter parts) status)
          → SaysSomething setup line
      host (inl none) day request address moment status = fails-for (no_host none)
      host (inr h) (inl none) request address moment status = fails-for (no_date none)
      host (inr h) (inr d) (inl none) address moment status = fails-for (no_request none)
      host (inr h) (inr d) (inr r) (inl bad) moment status = fails-for (no_address bad)
      host (inr h) (inr d) (inr r) (inr a) (inr none) status = fails-for (bad_moment (λ date minute says. none (date, minute, says)))
      host (inr h) (inr d) (inr r) (inr a) (inl m) (inr none) = fails-for (bad_status (λ status is. none (status, is)))
      host (inr h) (inr d) (inr r) (inr a) (inl m) (inl s) = by-amounts short h d r a m.0 m.1 m.2 s.0 s.1

abbrev pub EveryPieces : Type 0
EveryPieces = (leaves : List JsonLeaf) (line : List ℕ) → (pieces : Pieces) × PiecesOf leaves line pieces

-- whether a line fits the format, and with which fields
known-shape : EveryPieces → (shape : Shape) (line : List ℕ) → IsKnown ((parts : List Part) × FitsShape shape line parts)
known-shape every (Plain items) line = known-fit items line
known-shape every (Json leaves) line = by (every leaves line)
  where
    by : (pieces : Pieces) × PiecesOf leaves line pieces → IsKnown ((parts : List Part) × FitsShape (Json leaves) line parts)
    by (NoObject, none) = inr (λ (parts, fits). no-object-misfit leaves line none parts fits)
    by (Leaves ps, has) =
        ⊎_elim (λ (parts, fits). inl (parts, (ps, has, fits))) (λ none. inr (λ (parts, fits). pieces-misfit leaves line ps has (λ others f. none (others, f)) parts fits)) (known-leaves known-fit leaves ps)

-- a line that isn't passed over
unpassed : EveryPieces → (setup : LineSetup) (line : List ℕ) → ¬ IsPassedOver line → SaysSomething setup line
unpassed every setup line read =
    ⊎_elim (λ long. (Failed, (read, too_long long)))
    (λ short. ⊎_elim (λ (parts, fits). by-parts setup line read parts fits short) (λ none. (Failed, (read, misfit (λ parts fits. none (parts, fits))))) (known-shape every setup.format line))
    (cases_lt MAX_LINE (length line))

-- every line says something
pub says-something : EveryPieces → (setup : LineSetup) (line : List ℕ) → SaysSomething setup line
says-something every setup [] = (Skipped, inl refl)
says-something every setup (b ∷ rest) =
    ⊎_elim (λ comment. (Skipped, inr (rest, ap (λ (x : ℕ). x ∷ rest) comment)))
    (λ other. unpassed every setup (b ∷ rest) (⊎_elim (λ e. let l : length (b ∷ rest) ≡ 0 = ap length e in omega arith) (λ (comment, is). other (cons-head _ _ _ _ is))))
    (known-same b 35)
