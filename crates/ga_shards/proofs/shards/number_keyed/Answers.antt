use Rattle.std.proofs.Common.{◌≡◌, ◌∙◌, ℕ, ◌<◌, List, length, map, sym, ap, subst, arith}
use Rattle.std.specs.Prelude.{slice_index, sum_by}
use Rattle.std.proofs.lemmas.List.Concat.{length-flat_map}
use Rattle.ga_shards.specs.Numbers.{IsNumbering, NumberingSeen}
use Rattle.ga_shards.specs.Steps.{AreNumbered, AreParts, all_of, number_of, shard_at, shifted, start_of}
use Rattle.ga_shards.proofs.Room.{fits}
use Rattle.ga_shards.proofs.shards.number_keyed.Goals as goal

pub starts_of-requires-after_bounds : goal.starts_of-requires-after_bounds
starts_of-requires-after_bounds g c κs within =
    let eq = g.T.PartialEq.eq in
    let shard = shard_at g.T.Hash.hash_input c.args.shards in
    let lists = c.args.dictionaries.now in
    let parts = c.in_ok-parts.parts.items in
    let long : length parts ≡ c.args.shards = omega (arith, c.in_ok-parts.ensures.len, c.in_ok-parts.parts.ok) in
    let room = fits eq shard lists parts (λ s lt. c.in_ok-parts.ensures.each s (omega (arith, lt, long))) in
    subst (λ (ps : List (List _)). sum_by (λ items. length items) ps < 4294967296) (sym c.deref.ensures.value) (omega (arith, room, c.requires.fits))

pub all_numbers-requires-after_bounds : goal.all_numbers-requires-after_bounds
all_numbers-requires-after_bounds g c κs within =
    let eq = g.T.PartialEq.eq in
    let input = g.T.Hash.hash_input in
    let shard = shard_at input c.args.shards in
    let lists = c.args.dictionaries.now in
    let parts = c.in_ok-parts.parts.items in
    let starts = c.in_ok-starts.starts.items in
    let long : length parts ≡ c.args.shards = omega (arith, c.in_ok-parts.ensures.len, c.in_ok-parts.parts.ok) in
    let are : AreParts eq shard c.args.shards lists parts = record { some = c.requires.some; many = long; each = c.in_ok-parts.ensures.each } in
    let known = c.shards_are_a_numbering.ensures.known c.args.shards lists parts are in
    let room = fits eq shard lists parts (λ s lt. c.in_ok-parts.ensures.each s (omega (arith, lt, long))) in
    let same = c.deref.ensures.value in
    let base : AreNumbered eq shard parts starts lists = record {
      some = (omega (arith, long, c.requires.some), omega (arith, long, c.ranges.shards.fits));
      fits = omega (arith, room, c.requires.fits);
      many = omega (arith, c.in_ok-starts.ensures.len, c.in_ok-starts.starts.ok, ap length same);
      starts = subst (λ (ps : List (List _)). (s : ℕ) → s < length ps → slice_index starts s ≡ start_of ps s) same c.in_ok-starts.ensures.each;
      known = known;
    } in
    let by-length = subst (λ (n : ℕ). AreNumbered eq (shard_at input n) parts starts lists) (sym long) base in
    subst (λ (ps : List (List _)). AreNumbered eq (shard_at input (length ps)) ps c.deref-3.result.now lists) (sym c.deref-2.ensures.value)
    (subst (λ (ns : List ℕ). AreNumbered eq (shard_at input (length parts)) parts ns lists) (sym c.deref-3.ensures.value) by-length)

pub with-requires : goal.with-requires
with-requires g c =
    let eq = g.T.PartialEq.eq in
    let shard = shard_at g.T.Hash.hash_input c.args.shards in
    let lists = c.args.dictionaries.now in
    let parts = c.in_ok-parts.parts.items in
    let long : length parts ≡ c.args.shards = omega (arith, c.in_ok-parts.ensures.len, c.in_ok-parts.parts.ok) in
    let room = fits eq shard lists parts (λ s lt. c.in_ok-parts.ensures.each s (omega (arith, lt, long))) in
    let all : length c.in_ok-concat_items.field-0.items ≡ sum_by (λ l. length l) parts = ap length c.in_ok-concat_items.ensures ∙ length-flat_map (λ l. l) parts in
    omega (arith, all, room, c.requires.fits, c.in_ok-concat_items.field-0.ok)

pub returns : goal.returns
returns g c =
    let eq = g.T.PartialEq.eq in
    let input = g.T.Hash.hash_input in
    let shard = shard_at input c.args.shards in
    let lists = c.args.dictionaries.now in
    let parts = c.in_ok-parts.parts.items in
    let long : length parts ≡ c.args.shards = omega (arith, c.in_ok-parts.ensures.len, c.in_ok-parts.parts.ok) in
    let are : AreParts eq shard c.args.shards lists parts = record { some = c.requires.some; many = long; each = c.in_ok-parts.ensures.each } in
    let whole = c.shards_are_a_numbering.ensures.numbered c.args.shards lists parts are in
    let rows : map (λ row. row.items) c.in_ok-numbers.numbers.items ≡ map (λ items. map (number_of eq shard parts) items) lists =
    subst (λ (n : ℕ). map (λ row. row.items) c.in_ok-numbers.numbers.items ≡ map (λ items. map (number_of eq (shard_at input n) parts) items) lists) long
    (subst (λ (ps : List (List _)). map (λ row. row.items) c.in_ok-numbers.numbers.items ≡ map (λ items. map (number_of eq (shard_at input (length ps)) ps) items) lists) c.deref-2.ensures.value c.in_ok-numbers.ensures) in
    let seen : c.with.result ≡ shifted eq shard parts lists =
    c.with.ensures ∙ ap (λ (is : List _). record { items = is; numbers = map (λ row. row.items) c.in_ok-numbers.numbers.items }) c.in_ok-concat_items.ensures
    ∙ ap (λ (ns : List (List ℕ)). record { items = all_of parts; numbers = ns }) rows in
    subst (λ (n : NumberingSeen _). IsNumbering eq lists n) (sym seen) whole
