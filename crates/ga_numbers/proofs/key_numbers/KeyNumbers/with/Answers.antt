use Rattle.std.proofs.Common.{List, ℕ, map, subst}
use Rattle.ga_base.specs.Orders.{is_same_key}
use Rattle.ga_base.specs.declared.key.Key.{Key}
use Rattle.ga_numbers.specs.Steps.KeyPrefixes.{IsKeyPrefix, is_same_prefix, key_at, keys_in, no_key_prefix}
use Rattle.ga_numbers.specs.NotedNumbers.{AreNotedInTurn}
use Rattle.ga_numbers.specs.Steps.ShardRows.{is_same_row, remapped_each}
use Rattle.ga_numbers.proofs.PrefixedInTurn.{items-in-turn}
use Rattle.ga_numbers.proofs.Prefixings.{makes-keys}
use Rattle.ga_numbers.proofs.key_numbers.KeyNumbers.with.Goals as goal

pub invariant_of-known : goal.invariant_of-known
invariant_of-known g c =
    let old = c.self.inside in
    let rows = c.in_ok-rows.rows in
    let numbers : List (List ℕ) = map (λ l. l.items) c.in_ok-rows.numbers.items in
    let noted = subst (λ l. AreNotedInTurn is_same_row (remapped_each (map (λ n. n.items) l) c.in_ok-more_prefixes.more_rows.items) numbers old.rows rows) c.deref.ensures.value c.in_ok-rows.ensures in
    (items-in-turn no_key_prefix is_same_prefix is_same_key IsKeyPrefix key_at makes-keys c.args.others.items c.in_ok-more_prefixes.more_prefixes.items c.in_ok-more_prefixes.more_rows.items old.prefixes c.note_each.new.known old.rows rows
    (map (λ l. l.items) c.in_ok-places.places.items) numbers c.in_ok-more_prefixes.ensures c.self.invariant c.in_ok-places.ensures noted).1

pub returns : goal.returns
returns g c =
    let old = c.self.inside in
    let rows = c.in_ok-rows.rows in
    let numbers : List (List ℕ) = map (λ l. l.items) c.in_ok-rows.numbers.items in
    let noted = subst (λ l. AreNotedInTurn is_same_row (remapped_each (map (λ n. n.items) l) c.in_ok-more_prefixes.more_rows.items) numbers old.rows rows) c.deref.ensures.value c.in_ok-rows.ensures in
    let both = items-in-turn no_key_prefix is_same_prefix is_same_key IsKeyPrefix key_at makes-keys c.args.others.items c.in_ok-more_prefixes.more_prefixes.items c.in_ok-more_prefixes.more_rows.items old.prefixes c.note_each.new.known old.rows rows
    (map (λ l. l.items) c.in_ok-places.places.items) numbers c.in_ok-more_prefixes.ensures c.self.invariant c.in_ok-places.ensures noted in
    subst (λ (l : List Key). AreNotedInTurn is_same_key c.args.others.items numbers l (keys_in c.note_each.new.known rows)) c.self.view_is both.0
