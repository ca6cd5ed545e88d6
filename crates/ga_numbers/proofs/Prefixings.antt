-- Keys and visitors are made of prefixes and rows.
use Rattle.std.proofs.Common.{sym, ap, ◌∙◌}
use Rattle.ga_base.specs.Orders.{is_same_key, is_same_visitor}
use Rattle.ga_base.specs.declared.key.Key.{Key}
use Rattle.ga_base.specs.declared.key.Visitor.{Visitor}
use Rattle.ga_numbers.specs.Steps.KeyPrefixes.{IsKeyPrefix, is_same_prefix, key_at}
use Rattle.ga_numbers.specs.Steps.ShardRows.{is_same_row}
use Rattle.ga_numbers.specs.Steps.VisitorRows.{IsAgent, visitor_at}
use Rattle.ga_numbers.proofs.Prefixed.{Makes}
use Rattle.ga_numbers.proofs.Same.{prefix-laws, key-itself, row-laws, same-prefix, same-key, same-row, same-visitor, visitor-itself}

pub makes-keys : Makes is_same_prefix is_same_key IsKeyPrefix key_at
makes-keys = record {
  laws = prefix-laws;
  exact = same-prefix;
  itself = key-itself;
  exact-items = same-key;
  says = λ f g r q plain other e. (
    (λ i. record {
      panel = (e i).panel;
      date = (plain.0 ∙ sym other.0) i;
      parent = (e i).parent;
      label = (plain.1 ∙ sym other.1) i;
      method = (e i).method;
      protocol = (e i).protocol;
    }),
    ap (λ (k : Key). k.date) e,
    ap (λ (k : Key). k.label) e,
  );
  only = λ f r q date text i. record { panel = f.panel; date = date i; parent = f.parent; label = text i; method = f.method; protocol = f.protocol };
}

pub makes-visitors : Makes is_same_row is_same_visitor IsAgent visitor_at
makes-visitors = record {
  laws = row-laws;
  exact = same-row;
  itself = visitor-itself;
  exact-items = same-visitor;
  says = λ f g r q plain other e. ((λ i. record { prefix = (plain.0 ∙ sym other.0) i; date = (plain.1 ∙ sym other.1) i; text = (e i).agent }), ap (λ (v : Visitor). v.date) e, ap (λ (v : Visitor). v.host) e);
  only = λ f r q date text i. record { host = text i; date = date i; agent = f.text };
}
