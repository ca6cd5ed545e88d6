-- What the borrowed forms of a visitor and of a key say.
use Rattle.ga_base.specs.declared.key.Key.{Key}
use Rattle.ga_base.specs.declared.key.Visitor.{Visitor}
use Rattle.ga_numbers.specs.declared.prefixed_key.PrefixedKey.{PrefixedKey}
use Rattle.ga_numbers.specs.declared.visitor_ref.VisitorRef.{VisitorRef}

-- the visitor whose values a borrowed one has
abbrev pub visitor_of : VisitorRef → Visitor
visitor_of v = record { host = v.host.now; date = v.date; agent = v.agent.now }

-- the key of a prefix, a day and a label
abbrev pub key_prefixed : PrefixedKey → Key
key_prefixed k = record k.shared.now { date = k.date; label = k.label.now }
