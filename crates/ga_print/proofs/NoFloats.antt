-- No tree of a row or of the general numbers has a float, and members that are put one after the other are put at once.
use Rattle.std.proofs.Common.{◌≡◌, ℕ, Bool, true, false, ◌||◌, List, [], ◌∷◌, ◌++◌, map, refl, Less, Equal, Greater}
use Rattle.std.specs.List.{AllByRecursion}
use Rattle.std.specs.Ordering.{nat_cmp, match_ordering}
use Rattle.std.specs.Prelude.{codes}
use Rattle.std.specs.declared.cmp.Ordering.{Ordering}
use Rattle.std.specs.Cmp.Lexicographic.{slice_cmp}
use Rattle.serde_json.specs.Data.{Data, Members, no_members, member, put}
use Rattle.serde_json.specs.View.{items_of}
use Rattle.serde_json.specs.Written.{has_float, items_have_float, members_have_float}
use Rattle.ga_report.specs.declared.report.General.{General}
use Rattle.ga_report.specs.declared.report.Item.{Item}
use Rattle.ga_report.specs.declared.report.Row.{Row}
use Rattle.ga_print.specs.Json.{put_all, object_of, share_of, where_present, item_members, item_tree, children_of, row_tree, general_tree}

pub put_all-append : (done : Members) (xs ys : List (List ℕ × Data)) → put_all done (xs ++ ys) ≡ put_all (put_all done xs) ys
put_all-append done [] ys = refl
put_all-append done (x ∷ xs) ys = put_all-append (put x.0 x.1 done) xs ys

neither : (a b : Bool) → a ≡ false → b ≡ false → (a || b) ≡ false
neither false b e f = f
neither true b e f = e

left-none : (a b : Bool) → (a || b) ≡ false → a ≡ false
left-none false b e = refl
left-none true b e = e

right-none : (a b : Bool) → (a || b) ≡ false → b ≡ false
right-none false b e = e
right-none true b e = cc

put-by : (o : Ordering) (k l : List ℕ) (d e : Data) (ms : Members) → has_float d ≡ false → has_float e ≡ false → members_have_float ms ≡ false → members_have_float (put k d ms) ≡ false
    → members_have_float (match_ordering o (member k d (member l e ms)) (member l d ms) (member l e (put k d ms))) ≡ false
put-by Less k l d e ms nd ne nms later = neither (has_float d) (has_float e || members_have_float ms) nd (neither (has_float e) (members_have_float ms) ne nms)
put-by Equal k l d e ms nd ne nms later = neither (has_float d) (members_have_float ms) nd nms
put-by Greater k l d e ms nd ne nms later = neither (has_float e) (members_have_float (put k d ms)) ne later

put-none : (k : List ℕ) (d : Data) (ms : Members) → has_float d ≡ false → members_have_float ms ≡ false → members_have_float (put k d ms) ≡ false
put-none k d no_members nd nms = neither (has_float d) false nd refl
put-none k d (member l e ms) nd nms =
    let ne = left-none (has_float e) (members_have_float ms) nms in
    let rest = right-none (has_float e) (members_have_float ms) nms in
    put-by (slice_cmp nat_cmp k l) k l d e ms nd ne rest (put-none k d ms nd rest)

abbrev NoFloats : List (List ℕ × Data) → Type 0
NoFloats ms = AllByRecursion (λ m. has_float m.1 ≡ false) ms

all-none : (done : Members) (ms : List (List ℕ × Data)) → members_have_float done ≡ false → NoFloats ms → members_have_float (put_all done ms) ≡ false
all-none done [] none all = none
all-none done (m ∷ ms) none all = all-none (put m.0 m.1 done) ms (put-none m.0 m.1 done all.0 none) all.1

object-none : (ms : List (List ℕ × Data)) → NoFloats ms → has_float (object_of ms) ≡ false
unfolding object_of
object-none ms all = all-none no_members ms refl all

append-none : (xs ys : List (List ℕ × Data)) → NoFloats xs → NoFloats ys → NoFloats (xs ++ ys)
append-none [] ys all all' = all'
append-none (x ∷ xs) ys all all' = (all.0, append-none xs ys all.1 all')

items-none : (X : Type 0) (f : X → Data) → ((x : X) → has_float (f x) ≡ false) → (xs : List X) → items_have_float (items_of (map f xs)) ≡ false
items-none X f none [] = refl
items-none X f none (x ∷ xs) = neither (has_float (f x)) (items_have_float (items_of (map f xs))) (none x) (items-none X f none xs)

present-none : (name text : List ℕ) → NoFloats (where_present name text)
present-none name [] = tt
present-none name (b ∷ bs) = (refl, tt)

share-none : (n hundredths : ℕ) → has_float (share_of n hundredths) ≡ false
share-none n hundredths = object-none _ (refl, (refl, tt))

members-none : (i : Item) → NoFloats (item_members i)
members-none i = (
  refl,
  (
    share-none i.bytes i.bytes_percent,
    (
      refl,
      (
        refl,
        (
          share-none i.hits i.hits_percent,
          (
            refl,
            (
              share-none i.visitors i.visitors_percent,
              append-none (where_present (codes "method") i.method) (where_present (codes "protocol") i.protocol) (present-none (codes "method") i.method) (present-none (codes "protocol") i.protocol),
            ),
          ),
        ),
      ),
    ),
  ),
)

item-none : (i : Item) → has_float (item_tree i) ≡ false
unfolding item_tree
item-none i = object-none (item_members i) (members-none i)

children-none : (groups : Bool) (children : List Item) → NoFloats (children_of groups children)
children-none false children = tt
children-none true children = (items-none Item item_tree item-none children, tt)

pub row-none : (groups : Bool) (row : Row) → has_float (row_tree groups row) ≡ false
unfolding row_tree
row-none groups row = object-none (item_members row.item ++ children_of groups row.children) (append-none (item_members row.item) (children_of groups row.children) (members-none row.item) (children-none groups row.children))

pub general-none : (general : General) → has_float (general_tree general) ≡ false
unfolding general_tree
general-none general = object-none _ (refl, (refl, (refl, (refl, (refl, (refl, tt))))))
