use Rattle.std.proofs.Common.{◌≡◌, ◌∙◌, ◌++◌, ◌∷◌, [], ℕ, ◌<◌, List, Some, length, get_or, ap, sym, subst, arith}
use Rattle.std.specs.Prelude.{slice_get}
use Rattle.ga_numbers.specs.Steps.Kept.{AreNamed, rows_in}
use Rattle.ga_numbers.specs.NotedNumbers.{IsNumbered}
use Rattle.ga_numbers.specs.Steps.ShardRows.{is_same_row}
use Rattle.ga_numbers.specs.declared.place.Place.{Place}
use Rattle.ga_numbers.specs.declared.shard_row.ShardRow.{ShardRow}
use Rattle.ga_numbers.proofs.Keeping.{kept-named, known-row, next-named, next-row}
use Rattle.ga_numbers.proofs.Setting.{once-long, reads, set-once, twice-here, twice-keeps, twice-long}
use Rattle.ga_numbers.proofs.place.assign.Goals as goal

inside : {s len long : ℕ} → s < len → len ≡ long → s < long
inside within ok = omega (arith, within, ok)

-- a shard knows the number of each place that has one
none-there : (shards : List (List ShardRow)) (numbers : List (List ℕ)) (places seen : List Place) (p : Place) (known : List ℕ) → AreNamed shards numbers places → get_or numbers p.shard [] ≡ known → seen ≡ places
    → ((n : ℕ) → slice_get known p.local ≡ Some n → slice_get seen n ≡ Some p → ⊥) → (n : ℕ) → slice_get places n ≡ Some p → ⊥
none-there shards numbers places seen p known named is same none n at =
    none n (subst (λ (l : List ℕ). slice_get l p.local ≡ Some n) is (named.known n p at)) (subst (λ (l : List Place). slice_get l n ≡ Some p) (sym same) at)

pub returns-in-Some-clause-ok : goal.returns-in-Some-clause-ok
returns-in-Some-clause-ok c = λ shards row are named stands.
    known-row shards _ c.args.places.now.items are named c.args.place row c.in-Some.number stands
    (subst (λ (l : List Place). slice_get l c.in-Some.number ≡ Some c.args.place) c.deref-2.ensures.value c.in-Some.ensures.some)

pub returns-in_err-make_room-clause-named : goal.returns-in_err-make_room-clause-named
returns-in_err-make_room-clause-named c = λ shards row are named stands.
    kept-named shards _ c.args.places.now.items are named _ (once-long (λ l. l.items) c.args.numbers.now.items c.args.place.shard c.make_room.new.numbers)
    (set-once (λ l. l.items) c.args.numbers.now.items c.args.place.shard (inside c.requires c.args.numbers.now.ok.0) c.index_mut.result.now c.make_room.new.numbers c.index_mut.ensures.value c.make_room.ensures.kept)

pub returns-in_err-push-clause-named : goal.returns-in_err-push-clause-named
returns-in_err-push-clause-named c = λ shards row are named stands.
    subst (AreNamed shards _) (sym c.in_err-push.ensures.items)
    (kept-named shards _ c.args.places.now.items are named _ (once-long (λ l. l.items) c.args.numbers.now.items c.args.place.shard c.make_room.new.numbers)
    (set-once (λ l. l.items) c.args.numbers.now.items c.args.place.shard (inside c.requires c.args.numbers.now.ok.0) c.index_mut.result.now c.make_room.new.numbers c.index_mut.ensures.value c.make_room.ensures.kept))

pub returns-clause-ok : goal.returns-clause-ok
returns-clause-ok c = λ shards row are named stands.
    let places = c.args.places.now.items in
    let p = c.args.place in
    let none = none-there shards _ places c.deref-2.result.now p c.deref.result.now named
    (reads (λ l. l.items) c.args.numbers.now.items p.shard (inside c.requires c.args.numbers.now.ok.0) c.index.result.now c.index.ensures ∙ sym c.deref.ensures.value) c.deref-2.ensures.value c.in_default.ensures.none in
    subst (λ (l : List Place). IsNumbered is_same_row row c.len-number.result (rows_in shards places) (rows_in shards l)) (sym c.in_ok-push.ensures.items)
    (subst (λ n. IsNumbered is_same_row row n (rows_in shards places) (rows_in shards (places ++ p ∷ []))) (omega (arith, c.len-number.ensures, c.args.places.now.ok)) (next-row shards _ places are named p row stands none))

pub returns-clause-named : goal.returns-clause-named
returns-clause-named c = λ shards row are named stands.
    let places = c.args.places.now.items in
    let p = c.args.place in
    let numbers = c.args.numbers.now.items in
    let none = none-there shards _ places c.deref-2.result.now p c.deref.result.now named
    (reads (λ l. l.items) numbers p.shard (inside c.requires c.args.numbers.now.ok.0) c.index.result.now c.index.ensures ∙ sym c.deref.ensures.value) c.deref-2.ensures.value c.in_default.ensures.none in
    let number : c.len-number.result ≡ length places = omega (arith, c.len-number.ensures, c.args.places.now.ok) in
    subst (AreNamed shards _) (sym c.in_ok-push.ensures.items)
    (next-named shards _ places are named p row _ stands none (twice-long (λ l. l.items) numbers p.shard c.make_room.new.numbers c.set.new.numbers)
    (omega (arith, number, c.if-len-ge-PLACES_MAX.false, c.len.ensures, c.args.places.now.ok))
    (twice-here (λ l. l.items) numbers p.shard (inside c.requires c.args.numbers.now.ok.0) c.index_mut.result.now c.make_room.new.numbers c.index_mut-2.result.now c.set.new.numbers p.local (length places) c.index_mut.ensures.value c.index_mut-2.ensures.value
    c.make_room.ensures.kept c.set.ensures.same (c.set.ensures.here ∙ ap Some number))
    (twice-keeps (λ l. l.items) numbers p.shard (inside c.requires c.args.numbers.now.ok.0) c.index_mut.result.now c.make_room.new.numbers c.index_mut-2.result.now c.set.new.numbers p.local (length places) c.index_mut.ensures.value c.index_mut-2.ensures.value
    c.make_room.ensures.kept c.set.ensures.same))
