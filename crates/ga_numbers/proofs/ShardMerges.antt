-- What is so place by place, of lists that are put together of groups.
use Rattle.std.proofs.Common.{◌≡◌, ℕ, zero, suc, ◌<◌, List, [], ◌∷◌, ◌++◌, ◌∙◌, length, get_or, map, Result, Ok, IfOk, refl, ap, sym, subst, arith}
use Rattle.std.proofs.lemmas.List.{append_assoc, append-nil, get_or-map, length-map}
use Rattle.std.specs.List.{All, AllZip, flat_map}
use Rattle.ga_numbers.specs.Steps.ShardMerges.{with_others}
use Rattle.ga_numbers.specs.declared.shard_row.ShardRow.{ShardRow}

module _ {A B : Type 0} (R : A → B → Type 0) where
  pub zip-more : (xs : List A) (ys : List B) (x : A) (y : B) → AllZip R xs ys → R x y → AllZip R (xs ++ x ∷ []) (ys ++ y ∷ [])
  zip-more [] [] x y all is = (is, tt)
  zip-more [] (b ∷ ys) x y all is = absurd all
  zip-more (a ∷ xs) [] x y all is = absurd all
  zip-more (a ∷ xs) (b ∷ ys) x y all is = (all.0, zip-more xs ys x y all.1 is)

  pub zip-both : (xs more : List A) (ys others : List B) → AllZip R xs ys → AllZip R more others → AllZip R (xs ++ more) (ys ++ others)
  zip-both [] more [] others all rest = rest
  zip-both [] more (b ∷ ys) others all rest = absurd all
  zip-both (a ∷ xs) more [] others all rest = absurd all
  zip-both (a ∷ xs) more (b ∷ ys) others all rest = (all.0, zip-both xs more ys others all.1 rest)

  pub zip-at : (xs : List A) (ys : List B) → length xs ≡ length ys → ((i : ℕ) (a : A) (b : B) → i < length xs → R (get_or xs i a) (get_or ys i b)) → AllZip R xs ys
  zip-at [] [] long each = tt
  zip-at [] (b ∷ ys) long each = absurd (omega (arith, long))
  zip-at (a ∷ xs) [] long each = absurd (omega (arith, long))
  zip-at (a ∷ xs) (b ∷ ys) long each = (each zero a b (omega (arith)), zip-at xs ys (omega (arith, long)) (λ i x y within. each (suc i) x y (omega (arith, within))))

  pub at-zip : (xs : List A) (ys : List B) → AllZip R xs ys → (i : ℕ) (a : A) (b : B) → i < length xs → R (get_or xs i a) (get_or ys i b)
  at-zip [] ys all i a b within = absurd (omega (arith, within))
  at-zip (x ∷ xs) [] all i a b within = absurd all
  at-zip (x ∷ xs) (y ∷ ys) all zero a b within = all.0
  at-zip (x ∷ xs) (y ∷ ys) all (suc i) a b within = at-zip xs ys all.1 i a b (omega (arith, within))

  pub zip-long : (xs : List A) (ys : List B) → AllZip R xs ys → length xs ≡ length ys
  zip-long [] [] all = refl
  zip-long [] (y ∷ ys) all = absurd all
  zip-long (x ∷ xs) [] all = absurd all
  zip-long (x ∷ xs) (y ∷ ys) all = omega (arith, zip-long xs ys all.1)

pub zip-flat : {G P A B : Type 0} (R : A → B → Type 0) (items : G → List A) (parts : P → List B) (groups : List G) (all : List P)
    → AllZip (λ g p. AllZip R (items g) (parts p)) groups all → AllZip R (flat_map items groups) (flat_map parts all)
zip-flat R items parts [] [] is = tt
zip-flat R items parts [] (p ∷ all) is = absurd is
zip-flat R items parts (g ∷ groups) [] is = absurd is
zip-flat R items parts (g ∷ groups) (p ∷ all) is = zip-both R (items g) (flat_map items groups) (parts p) (flat_map parts all) is.0 (zip-flat R items parts groups all is.1)

pub element : {A : Type 0} (xs : List A) (i : ℕ) → i < length xs → (x : A) × ((d : A) → get_or xs i d ≡ x)
element [] i within = absurd (omega (arith, within))
element (x ∷ xs) zero within = (x, λ d. refl)
element (x ∷ xs) (suc i) within = element xs i (omega (arith, within))

pub flat-more : {G A : Type 0} (items : G → List A) (groups : List G) (g : G) → flat_map items (groups ++ g ∷ []) ≡ flat_map items groups ++ items g
flat-more items [] g = append-nil (items g)
flat-more items (x ∷ groups) g = ap (λ (more : _). items x ++ more) (flat-more items groups g) ∙ sym (append_assoc (items x) (flat_map items groups) (items g))

-- what calls gave, none of which ended in an error
pub zip-jobs : {M G E : Type 0} (P : M → G → Type 0) (jobs : List M) (results : List (Result G E)) (parts : List G)
    → results ≡ map Ok parts → length results ≡ length jobs
    → ((i : ℕ) (r : Result G E) → i < length jobs → (m : M) × ((d : M) → get_or jobs i d ≡ m) × IfOk (get_or results i r) (P m))
    → AllZip P jobs parts
zip-jobs {M} {G} {E} P jobs results parts are long each =
    let same : length parts ≡ length jobs = omega (arith, long, ap length are, length-map {B = Result G E} parts Ok) in
    zip-at P jobs parts (sym same) (λ i m g within.
    let job = each i (Ok g) within in
    let inside : i < length parts = omega (arith, within, same) in
    subst (λ (x : M). P x (get_or parts i g)) (sym (job.1 m))
    (subst (λ (r : Result G E). IfOk r (P job.0)) (ap (λ (rs : List (Result G E)). get_or rs i (Ok g)) are ∙ get_or-map Ok parts i g (Ok g) inside) job.2))

-- the shards of others that are merged into each shard, with those of one more
pub joined-at : (merges : List (List (List ShardRow))) (shards : List (List ShardRow)) (s : ℕ) → s < length merges → s < length shards → get_or (with_others merges shards) s [] ≡ get_or merges s [] ++ get_or shards s [] ∷ []
joined-at [] shards s within inside = absurd (omega (arith, within))
joined-at (m ∷ merges) [] s within inside = absurd (omega (arith, inside))
joined-at (m ∷ merges) (x ∷ shards) zero within inside = refl
joined-at (m ∷ merges) (x ∷ shards) (suc s) within inside = joined-at merges shards s (omega (arith, within)) (omega (arith, inside))

-- what holds of all that elements are mapped to
module _ {A B : Type 0} (f : A → B) (P : B → Type 0) where
  pub all-read : (xs : List A) → All P (map f xs) → All (λ x. P (f x)) xs
  all-read xs all k d within = subst P (get_or-map f xs k d (f d) within) (all k (f d) (omega (arith, within, length-map xs f)))
