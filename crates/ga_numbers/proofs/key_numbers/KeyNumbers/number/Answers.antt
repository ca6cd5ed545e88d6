use Rattle.std.proofs.Common.{List, ◌∙◌, ap, subst}
use Rattle.std.proofs.lemmas.Result.{IfOk-weaker}
use Rattle.ga_base.specs.Orders.{is_same_key}
use Rattle.ga_numbers.specs.Steps.KeyPrefixes.{IsKeyPrefix, prefix_of, is_same_prefix, key_at, no_key_prefix}
use Rattle.ga_numbers.specs.NotedNumbers.{IsNumbered}
use Rattle.ga_numbers.specs.declared.shard_row.ShardRow.{ShardRow}
use Rattle.ga_numbers.proofs.Prefixed.{extended, items_in, numbered}
use Rattle.ga_numbers.proofs.MergedShards.{on-err-so}
use Rattle.ga_base.specs.declared.key.Key.{Key}
use Rattle.ga_numbers.proofs.Prefixings.{makes-keys}
use Rattle.ga_numbers.proofs.key_numbers.KeyNumbers.number.Goals as goal

pub returns-clause-ok : goal.returns-clause-ok
returns-clause-ok c =
    let inside = c.self.inside in
    let prefix = c.in_ok-prefix_number.field-0 in
    let prefixes = c.prefix_number.new.prefixes in
    let rows = c.number.new.self in
    let row : ShardRow = record { prefix = prefix; date = c.args.key.now.date; text = c.args.key.now.label.now } in
    IfOk-weaker c.number.result _ _ (λ number one.
    subst (λ old. IsNumbered is_same_key (key_at (prefix_of c.args.key.now) row) number old (items_in no_key_prefix is_same_prefix is_same_key IsKeyPrefix key_at makes-keys prefixes rows)) c.self.view_is
    (numbered no_key_prefix is_same_prefix is_same_key IsKeyPrefix key_at makes-keys (prefix_of c.args.key.now) row number inside.prefixes prefixes inside.rows rows c.in_ok-prefix_number.ensures.ok (c.in_ok-prefix_number.ensures.distinct c.self.invariant.different) (c.in_ok-prefix_number.ensures.plain c.self.invariant.plain) c.self.invariant.prefixed one)) c.number.ensures.ok

pub returns-clause-err : goal.returns-clause-err
returns-clause-err c =
    let inside = c.self.inside in
    let prefixes = c.prefix_number.new.prefixes in
    on-err-so c.number.result (λ same.
    ap (items_in no_key_prefix is_same_prefix is_same_key IsKeyPrefix key_at makes-keys prefixes) same
    ∙ ap (λ (l : List Key). items_in no_key_prefix is_same_prefix is_same_key IsKeyPrefix key_at makes-keys l inside.rows) c.in_ok-prefix_number.ensures.ok.items
    ∙ extended no_key_prefix is_same_prefix is_same_key IsKeyPrefix key_at makes-keys inside.prefixes (prefix_of c.args.key.now) inside.rows c.self.invariant.prefixed
    ∙ c.self.view_is) c.number.ensures.err
