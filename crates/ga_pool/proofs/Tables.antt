-- From the parts of tallies and the numbers of their items to tables that have what was counted.
use Rattle.std.proofs.Common.{◌≡◌, ℕ, ◌<◌, Bool, List, [], ◌∷◌, length, map, get_or, refl, ap, subst, arith, zero-add}
use Rattle.std.specs.List.{AllZip, sum_by}
use Rattle.ga_base.specs.contracts.key.KeyPartialEq.TheImpl.{ghosts as key_tests}
use Rattle.ga_base.specs.contracts.key.VisitorPartialEq.TheImpl.{ghosts as visitor_tests}
use Rattle.ga_base.specs.declared.key.Key.{Key}
use Rattle.ga_base.specs.declared.key.Visitor.{Visitor}
use Rattle.ga_base.specs.Orders.{is_same_key, is_same_visitor}
use Rattle.ga_pool.specs.Steps.Filling.{CanPut}
use Rattle.ga_pool.specs.Steps.TableInputs.{AreRowsOf}
use Rattle.ga_pool.specs.declared.table_inputs.TableRows.{TableRows}
use Rattle.ga_pool.proofs.AllWorkers.{keys_in, visitors_in}
use Rattle.ga_pool.proofs.CanPutRows.{all-can}
use Rattle.ga_pool.proofs.Numbered.{AreNumbered, are-numbered}
use Rattle.ga_pool.proofs.Standing.{have-numbers}
use Rattle.ga_shards.specs.Numbers.{IsNumbering, NumberingSeen}
use Rattle.ga_summary.specs.Outcomes.{Outcome}
use Rattle.ga_tallies.specs.Tallies.{AreTalliesOf, TallySeen}
use Rattle.ga_numbers.proofs.Same.{key-itself, key-test, same-key, same-visitor, visitor-itself, visitor-test}

pub as-long : {A B : Type 0} (R : A → B → Type 0) (xs : List A) (ys : List B) → AllZip R xs ys → length xs ≡ length ys
as-long R [] [] all = refl
as-long R [] (y ∷ ys) all = absurd all
as-long R (x ∷ xs) [] all = absurd all
as-long R (x ∷ xs) (y ∷ ys) all = let rest = as-long R xs ys all.1 in omega arith

-- numbers by the dictionaries' own tests are numbers by those of keys and visitors
pub key-numbering : (lists : List (List Key)) (ts : List TallySeen) (n : NumberingSeen Key) → lists ≡ map keys_in ts → IsNumbering key_tests.eq lists n → IsNumbering is_same_key (map keys_in ts) n
key-numbering lists ts n same is =
    subst (λ (eq : Key → Key → Bool). IsNumbering eq (map keys_in ts) n) key-test (subst (λ (ls : List (List Key)). IsNumbering key_tests.eq ls n) same is)

pub visitor-numbering : (lists : List (List Visitor)) (ts : List TallySeen) (n : NumberingSeen Visitor) → lists ≡ map visitors_in ts → IsNumbering visitor_tests.eq lists n → IsNumbering is_same_visitor (map visitors_in ts) n
visitor-numbering lists ts n same is =
    subst (λ (eq : Visitor → Visitor → Bool). IsNumbering eq (map visitors_in ts) n) visitor-test (subst (λ (ls : List (List Visitor)). IsNumbering visitor_tests.eq ls n) same is)

pub keys-numbered : (ts : List TallySeen) (n : NumberingSeen Key) → IsNumbering is_same_key (map keys_in ts) n → AreNumbered (map keys_in ts) n
keys-numbered ts n is = are-numbered is_same_key key-itself same-key (map keys_in ts) n is

pub visitors-numbered : (ts : List TallySeen) (n : NumberingSeen Visitor) → IsNumbering is_same_visitor (map visitors_in ts) n → AreNumbered (map visitors_in ts) n
visitors-numbered ts n is = are-numbered is_same_visitor visitor-itself same-visitor (map visitors_in ts) n is

-- the rows of all tallies can be put in
pub can-put-all : (parts : List (List Outcome)) (ts : List TallySeen) (rows : List TableRows) (keys : NumberingSeen Key) (visitors : NumberingSeen Visitor) → AreTalliesOf parts ts → AllZip AreRowsOf ts rows
    → IsNumbering is_same_key (map keys_in ts) keys → IsNumbering is_same_visitor (map visitors_in ts) visitors → sum_by (λ (l : List Key). length l) (map keys_in ts) < 4294967295
    → (worker : ℕ) (d : TableRows) → worker < length rows → CanPut (length keys.items) (length visitors.items) keys.numbers visitors.numbers worker (get_or rows worker d)
can-put-all parts ts rows keys visitors are mine nk nv few worker d lt =
    let hk = have-numbers keys_in (map keys_in ts) keys (keys-numbered ts keys nk) 0 ts (λ j. ap (λ (w : ℕ). get_or (map keys_in ts) w []) (zero-add j)) in
    let hv = have-numbers visitors_in (map visitors_in ts) visitors (visitors-numbered ts visitors nv) 0 ts (λ j. ap (λ (w : ℕ). get_or (map visitors_in ts) w []) (zero-add j)) in
    subst (λ (w : ℕ). CanPut (length keys.items) (length visitors.items) keys.numbers visitors.numbers w (get_or rows worker d)) (zero-add worker)
    (all-can keys.items visitors.items keys.numbers visitors.numbers 0 parts ts rows are mine hk hv few worker d lt)
