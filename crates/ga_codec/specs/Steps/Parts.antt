-- Parts, how they are read from the front of bytes, and how parts follow one another.
use Rattle.std.specs.Prelude.{◌≡◌, ℕ, ◌+◌, List, ◌++◌, length, Result, Ok, Err}
use Rattle.std.specs.List.{flat_map, AllByRecursion}
use Rattle.ga_codec.specs.declared.fault.CodecFault.{CodecFault}
use Rattle.ga_codec.specs.declared.fault.CodecFault.TheVariants.{NotInGrammar, NoMemory}
use Rattle.ga_codec.specs.Spelling.{list_bytes}
use Rattle.ga_codec.specs.Shapes.{IsLongest, FitsList}

-- a kind of part: how its values are spelled, and which of them have a spelling
pub record Part (A : Type 0) : Type 1 where
  pub spell : A → List ℕ
  pub fits : A → Type 0

abbrev pub IsSpelled : {A : Type 0} → Part A → List ℕ → Type 0
IsSpelled {A} part bytes = (a : A) × part.fits a × (bytes ≡ part.spell a)

-- no value is spelled at the front of the bytes, of which this many begin one
pub record StopsAt {A : Type 0} (part : Part A) (bytes : List ℕ) (at : ℕ) : Type 0 where
  pub none : (a : A) (rest : List ℕ) → part.fits a → bytes ≡ part.spell a ++ rest → ⊥
  pub longest : IsLongest (IsSpelled part) bytes at

-- where a reader stands: how many bytes it has read, and those that are left
pub record Cursor : Type 0 where
  pub place : ℕ
  pub rest : List ℕ

-- a value was read
pub record Takes {A : Type 0} (part : Part A) (a : A) (old new : Cursor) : Type 0 where
  pub fits : part.fits a
  pub bytes : old.rest ≡ part.spell a ++ new.rest
  pub place : new.place ≡ old.place + length (part.spell a)

-- no value is there, and the fault is told by its place from the first byte that was ever read
pub record Fails {A : Type 0} (part : Part A) (old : Cursor) (at : ℕ) : Type 0 where
  pub read : ℕ
  pub place : at ≡ old.place + read
  pub stops : StopsAt part old.rest read

abbrev pub Refuses : {A : Type 0} → Part A → Cursor → CodecFault → Type 0
Refuses part old (NotInGrammar at) = Fails part old at
Refuses part old NoMemory = Unit {0}

-- what a reader of a part answers, seen by view
abbrev pub Reads : {A X : Type 0} → Part A → (X → A) → Cursor → Cursor → Result X CodecFault → Type 0
Reads part view old new (Ok x) = Takes part (view x) old new
Reads part view old new (Err fault) = Refuses part old fault

-- ---- several parts

-- a part, and one that its value decides
unfoldable pub followed_by : {A B : Type 0} → Part A → (A → Part B) → Part (A × B)
followed_by first next = record { spell = λ p. first.spell p.0 ++ (next p.0).spell p.1; fits = λ p. first.fits p.0 × (next p.0).fits p.1 }

-- this many of one kind
unfoldable pub times : {A : Type 0} → ℕ → Part A → Part (List A)
times n part = record { spell = λ items. flat_map part.spell items; fits = λ items. (length items ≡ n) × AllByRecursion part.fits items }

-- their number, and these
abbrev pub listed : {A : Type 0} → Part A → Part (List A)
listed part = record { spell = λ items. list_bytes part.spell items; fits = λ items. FitsList part.fits items }

-- a value was written after what there was
pub record Writes {A : Type 0} (part : Part A) (a : A) (old new : List ℕ) : Type 0 where
  pub fits : part.fits a
  pub bytes : new ≡ old ++ part.spell a
