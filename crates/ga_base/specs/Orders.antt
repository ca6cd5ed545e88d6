-- How keys, visitors and the names of visitors are ordered, and when two of them are the same. Texts are ordered by
-- their bytes.
use Rattle.std.specs.Prelude.{ℕ, Bool, List, ◌==◌, ◌&&◌}
use Rattle.std.specs.declared.cmp.Ordering.{Ordering}
use Rattle.std.specs.Ordering.{nat_cmp, ordering_then, is_eq}
use Rattle.std.specs.Cmp.Lexicographic.{slice_cmp}
use Rattle.ga_base.specs.declared.key.Key.{Key}
use Rattle.ga_base.specs.declared.key.Visitor.{Visitor}
use Rattle.ga_base.specs.declared.name.Name.{Name}
use Rattle.ga_base.specs.Panels.{panel_number}

abbrev pub text_cmp : List ℕ → List ℕ → Ordering
text_cmp a b = slice_cmp nat_cmp a b

-- keys by panel, day, parent, label, method, protocol
unfoldable pub key_cmp : Key → Key → Ordering
key_cmp a b =
    ordering_then (nat_cmp (panel_number a.panel) (panel_number b.panel)) (ordering_then (nat_cmp a.date b.date) (ordering_then (text_cmp a.parent b.parent)
    (ordering_then (text_cmp a.label b.label) (ordering_then (text_cmp a.method b.method) (text_cmp a.protocol b.protocol)))))

-- visitors by host, day, agent
unfoldable pub visitor_cmp : Visitor → Visitor → Ordering
visitor_cmp a b = ordering_then (text_cmp a.host b.host) (ordering_then (nat_cmp a.date b.date) (text_cmp a.agent b.agent))

-- names by host, agent
unfoldable pub name_cmp : Name → Name → Ordering
name_cmp a b = ordering_then (text_cmp a.host b.host) (text_cmp a.agent b.agent)

abbrev pub is_same_key : Key → Key → Bool
is_same_key a b = is_eq (key_cmp a b)

abbrev pub is_same_name : Name → Name → Bool
is_same_name a b = is_eq (name_cmp a b)

-- a visitor's name on its day
abbrev pub name_of : Visitor → Name
name_of v = record { host = v.host; agent = v.agent }

abbrev pub is_same_visitor : Visitor → Visitor → Bool
is_same_visitor a b = (a.date == b.date) && is_same_name (name_of a) (name_of b)
