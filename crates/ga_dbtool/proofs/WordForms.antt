-- What words are read as is what they say.
use Rattle.std.proofs.Common.{◌≡◌, ◌≢◌, ℕ, Bool, true, false, List, [], ◌∷◌, length, Result, Ok, Err, IfOk, IfErr, inl, inr, refl, sym, ap, subst, arith}
use Rattle.std.specs.Prelude.{codes, if◌then◌else◌}
use Rattle.std.specs.Str.{bytes_eq}
use Rattle.std.proofs.lemmas.Slice.Eq.{bytes_eq-Decides}
use Rattle.ga_dbtool.specs.Words.{AreBadAt, Begin, Say, Task}
use Rattle.ga_dbtool.specs.Words.Task.{checking, dumping, merging}
use Rattle.ga_dbtool.specs.Steps.Tasks.{Mean, named, one_name, read_words, two_names}
use Rattle.ga_dbtool.specs.declared.words.Task.{Task as TaskRead}

-- ---- words that are no form

no-words : (task : Task) → ¬ Say [] task
no-words (checking dir) (e, some) = cc
no-words (dumping dir) (e, some) = cc
no-words (merging dir other) (e, full, filled, differ) = cc

-- a word alone
no-name : (word : List ℕ) (task : Task) → ¬ Say (word ∷ []) task
no-name word (checking dir) (e, some) = cc
no-name word (dumping dir) (e, some) = cc
no-name word (merging dir other) (e, full, filled, differ) = cc

-- an empty name in front
no-first : (word : List ℕ) (more : List (List ℕ)) (task : Task) → ¬ Say (word ∷ [] ∷ more) task
no-first word more (checking dir) (e, some) = let same : dir ≡ [] = cc in absurd (some same)
no-first word more (dumping dir) (e, some) = let same : dir ≡ [] = cc in absurd (some same)
no-first word more (merging dir other) (e, full, filled, differ) = let same : dir ≡ [] = cc in absurd (full same)

-- the words of a form begin with its own word
other-word : (word : List ℕ) (names : List (List ℕ)) (task : Task) → bytes_eq word (codes "check") ≡ false → bytes_eq word (codes "dump") ≡ false → bytes_eq word (codes "merge") ≡ false
    → ¬ Say (word ∷ names) task
other-word word names (checking dir) check dump merge (e, full) = let same : word ≡ codes "check" = cc in absurd (cc (sym check, ap (λ (w : List ℕ). bytes_eq w (codes "check")) same))
other-word word names (dumping dir) check dump merge (e, full) = let same : word ≡ codes "dump" = cc in absurd (cc (sym dump, ap (λ (w : List ℕ). bytes_eq w (codes "dump")) same))
other-word word names (merging dir other) check dump merge (e, full, filled, differ) = let same : word ≡ codes "merge" = cc in absurd (cc (sym merge, ap (λ (w : List ℕ). bytes_eq w (codes "merge")) same))

-- ---- what begins a form

abbrev one : List ℕ
one = 1 ∷ []

abbrev two : List ℕ
two = 2 ∷ []

some : (byte : ℕ) (bytes : List ℕ) → (byte ∷ bytes) ≢ []
some byte bytes e = cc

apart : one ≢ two
apart e = let n : (◌≡◌ {A = ℕ} 1 2) = cc in absurd (omega (arith, n))

begin-none : Begin []
begin-none = (codes "check" ∷ one ∷ [], checking one, (refl, some 1 []))

begin-merge : Begin (codes "merge" ∷ [])
begin-merge = (one ∷ two ∷ [], merging one two, (refl, some 1 [], some 2 [], apart))

longer : (byte : ℕ) (bytes : List ℕ) → (byte ∷ bytes) ≢ (0 ∷ byte ∷ bytes)
longer byte bytes e = let n : length (byte ∷ bytes) ≡ length (0 ∷ byte ∷ bytes) = ap length e in absurd (omega arith)

begin-first : (byte : ℕ) (bytes : List ℕ) → Begin (codes "merge" ∷ (byte ∷ bytes) ∷ [])
begin-first byte bytes = ((0 ∷ byte ∷ bytes) ∷ [], merging (byte ∷ bytes) (0 ∷ byte ∷ bytes), (refl, some byte bytes, some 0 (byte ∷ bytes), longer byte bytes))

-- ---- a word and one name

module _ (word : List ℕ) (task : List ℕ → Task) (says : (dir : List ℕ) → dir ≢ [] → Say (word ∷ dir ∷ []) (task dir)) (other : ¬ (word ≡ codes "merge")) where
  begin-word : Begin (word ∷ [])
  begin-word = (one ∷ [], task one, says one (some 1 []))

  begin-name : (byte : ℕ) (bytes : List ℕ) → Begin (word ∷ (byte ∷ bytes) ∷ [])
  begin-name byte bytes = ([], task (byte ∷ bytes), says (byte ∷ bytes) (some byte bytes))

  too-long : (dir next : List ℕ) (more : List (List ℕ)) (t : Task) → ¬ Say (word ∷ dir ∷ next ∷ more) t
  too-long dir next more (checking d) (e, full) = cc
  too-long dir next more (dumping d) (e, full) = cc
  too-long dir next more (merging d o) (e, full, filled, differ) = let same : word ≡ codes "merge" = cc in absurd (other same)

  mean-one : (names : List (List ℕ)) → Mean (word ∷ names) (named task (one_name names))
  mean-one [] = record { before = begin-word; stop = inr (refl, no-name word) }
  mean-one ([] ∷ more) = record { before = begin-word; stop = inl (omega arith, λ (rest, t, say). no-first word rest t say) }
  mean-one ((byte ∷ bytes) ∷ []) = says (byte ∷ bytes) (some byte bytes)
  mean-one ((byte ∷ bytes) ∷ next ∷ more) = record {
    before = begin-name byte bytes;
    stop = inl (omega arith, λ (rest, t, say). too-long (byte ∷ bytes) next rest t say);
  }

-- ---- `merge` and two names

abbrev merge : List ℕ
merge = codes "merge"

not-check : ¬ (merge ≡ codes "check")
not-check e = absurd (cc (ap (λ (w : List ℕ). bytes_eq w (codes "check")) e))

not-dump : ¬ (merge ≡ codes "dump")
not-dump e = absurd (cc (ap (λ (w : List ℕ). bytes_eq w (codes "dump")) e))

no-other : (dir : List ℕ) (task : Task) → ¬ Say (merge ∷ dir ∷ []) task
no-other dir (checking d) (e, full) = let same : merge ≡ codes "check" = cc in absurd (not-check same)
no-other dir (dumping d) (e, full) = let same : merge ≡ codes "dump" = cc in absurd (not-dump same)
no-other dir (merging d o) (e, full, filled, differ) = cc

no-second : (dir : List ℕ) (rest : List (List ℕ)) (task : Task) → ¬ Say (merge ∷ dir ∷ [] ∷ rest) task
no-second dir rest (checking d) (e, full) = cc
no-second dir rest (dumping d) (e, full) = cc
no-second dir rest (merging d o) (e, full, filled, differ) = let same : o ≡ [] = cc in absurd (filled same)

no-equal : (dir other : List ℕ) (rest : List (List ℕ)) (task : Task) → other ≡ dir → ¬ Say (merge ∷ dir ∷ other ∷ rest) task
no-equal dir other rest (checking d) same (e, full) = cc
no-equal dir other rest (dumping d) same (e, full) = cc
no-equal dir other rest (merging d o) same (e, full, filled, differ) = let equal : d ≡ o = cc in absurd (differ equal)

no-third : (dir other next : List ℕ) (rest : List (List ℕ)) (task : Task) → ¬ Say (merge ∷ dir ∷ other ∷ next ∷ rest) task
no-third dir other next rest (checking d) (e, full) = cc
no-third dir other next rest (dumping d) (e, full) = cc
no-third dir other next rest (merging d o) (e, full, filled, differ) = cc

mean-pair : (byte : ℕ) (bytes : List ℕ) (char : ℕ) (chars : List ℕ) (b : Bool) → bytes_eq (char ∷ chars) (byte ∷ bytes) ≡ b
    → Mean (merge ∷ (byte ∷ bytes) ∷ (char ∷ chars) ∷ []) (if b then Err 2 else Ok (merging (byte ∷ bytes) (char ∷ chars)))
mean-pair byte bytes char chars true e =
    let same : (char ∷ chars) ≡ (byte ∷ bytes) = (bytes_eq-Decides (char ∷ chars) (byte ∷ bytes)).0 e in
    record { before = begin-first byte bytes; stop = inl (omega arith, λ (rest, t, say). no-equal (byte ∷ bytes) (char ∷ chars) rest t same say) }
mean-pair byte bytes char chars false e =
    (refl, some byte bytes, some char chars, λ same. absurd (cc (sym e, (bytes_eq-Decides (char ∷ chars) (byte ∷ bytes)).1 (sym same))))

mean-more : (byte : ℕ) (bytes : List ℕ) (char : ℕ) (chars next : List ℕ) (more : List (List ℕ)) (b : Bool) → bytes_eq (char ∷ chars) (byte ∷ bytes) ≡ b
    → Mean (merge ∷ (byte ∷ bytes) ∷ (char ∷ chars) ∷ next ∷ more) (if b then Err 2 else Err 3)
mean-more byte bytes char chars next more true e =
    let same : (char ∷ chars) ≡ (byte ∷ bytes) = (bytes_eq-Decides (char ∷ chars) (byte ∷ bytes)).0 e in
    record { before = begin-first byte bytes; stop = inl (omega arith, λ (rest, t, say). no-equal (byte ∷ bytes) (char ∷ chars) rest t same say) }
mean-more byte bytes char chars next more false e = record {
  before = ([], merging (byte ∷ bytes) (char ∷ chars), (refl, some byte bytes, some char chars, λ same. absurd (cc (sym e, (bytes_eq-Decides (char ∷ chars) (byte ∷ bytes)).1 (sym same)))));
  stop = inl (omega arith, λ (rest, t, say). no-third (byte ∷ bytes) (char ∷ chars) next rest t say);
}

mean-two : (names : List (List ℕ)) → Mean (merge ∷ names) (two_names names)
mean-two [] = record { before = begin-merge; stop = inr (refl, no-name merge) }
mean-two ([] ∷ more) = record { before = begin-merge; stop = inl (omega arith, λ (rest, t, say). no-first merge rest t say) }
mean-two ((byte ∷ bytes) ∷ []) = record { before = begin-first byte bytes; stop = inr (refl, no-other (byte ∷ bytes)) }
mean-two ((byte ∷ bytes) ∷ [] ∷ more) = record { before = begin-first byte bytes; stop = inl (omega arith, λ (rest, t, say). no-second (byte ∷ bytes) rest t say) }
mean-two ((byte ∷ bytes) ∷ (char ∷ chars) ∷ []) = mean-pair byte bytes char chars (bytes_eq (char ∷ chars) (byte ∷ bytes)) refl
mean-two ((byte ∷ bytes) ∷ (char ∷ chars) ∷ next ∷ more) = mean-more byte bytes char chars next more (bytes_eq (char ∷ chars) (byte ∷ bytes)) refl

-- ---- all words

says-check : (dir : List ℕ) → dir ≢ [] → Say (codes "check" ∷ dir ∷ []) (checking dir)
says-check dir full = (refl, full)

says-dump : (dir : List ℕ) → dir ≢ [] → Say (codes "dump" ∷ dir ∷ []) (dumping dir)
says-dump dir full = (refl, full)

check-apart : ¬ (codes "check" ≡ codes "merge")
check-apart e = not-check (sym e)

dump-apart : ¬ (codes "dump" ≡ codes "merge")
dump-apart e = not-dump (sym e)

module _ (verb : List ℕ) (names : List (List ℕ)) where
  at-verb : (word : List ℕ) (r : Result Task ℕ) → bytes_eq verb word ≡ true → Mean (word ∷ names) r → Mean (verb ∷ names) r
  at-verb word r e mean = subst (λ (w : List ℕ). Mean (w ∷ names) r) (sym ((bytes_eq-Decides verb word).0 e)) mean

  by-merge : (b : Bool) → bytes_eq verb (codes "check") ≡ false → bytes_eq verb (codes "dump") ≡ false → bytes_eq verb (codes "merge") ≡ b
      → Mean (verb ∷ names) (if b then two_names names else Err 0)
  by-merge true check dump e = at-verb (codes "merge") (two_names names) e (mean-two names)
  by-merge false check dump e = record { before = begin-none; stop = inl (omega arith, λ (rest, t, say). other-word verb rest t check dump e say) }

  by-dump : (b : Bool) → bytes_eq verb (codes "check") ≡ false → bytes_eq verb (codes "dump") ≡ b
      → Mean (verb ∷ names) (if b then named dumping (one_name names) else (if bytes_eq verb (codes "merge") then two_names names else Err 0))
  by-dump true check e = at-verb (codes "dump") (named dumping (one_name names)) e (mean-one (codes "dump") dumping says-dump dump-apart names)
  by-dump false check e = by-merge (bytes_eq verb (codes "merge")) check e refl

  by-check : (b : Bool) → bytes_eq verb (codes "check") ≡ b
      → Mean (verb ∷ names) (if b then named checking (one_name names) else (if bytes_eq verb (codes "dump") then named dumping (one_name names) else (if bytes_eq verb (codes "merge") then two_names names else Err 0)))
  by-check true e = at-verb (codes "check") (named checking (one_name names)) e (mean-one (codes "check") checking says-check check-apart names)
  by-check false e = by-dump (bytes_eq verb (codes "dump")) e refl

pub mean : (words : List (List ℕ)) → Mean words (read_words words)
mean [] = record { before = begin-none; stop = inr (refl, no-words) }
mean (verb ∷ names) = by-check verb names (bytes_eq verb (codes "check")) refl

pub means-task : (task : TaskRead → Task) (words : List (List ℕ)) (r : Result TaskRead ℕ) → IfOk r (λ t. read_words words ≡ Ok (task t)) → IfOk r (λ t. Say words (task t))
means-task task words (Ok t) e = subst (Mean words) e (mean words)
means-task task words (Err at) e = tt

pub means-bad : (words : List (List ℕ)) (r : Result TaskRead ℕ) → IfErr r (λ at. read_words words ≡ Err at) → IfErr r (AreBadAt words)
means-bad words (Ok t) e = tt
means-bad words (Err at) e = subst (Mean words) e (mean words)
