-- Visitors as agents and rows. An agent is a row that shares nothing with others, on day 0.
use Rattle.std.specs.Prelude.{◌≡◌, List, map, slice_index_or}
use Rattle.ga_base.specs.declared.key.Visitor.{Visitor}
use Rattle.ga_numbers.specs.Steps.Kept.{no_row}
use Rattle.ga_numbers.specs.declared.visitor_ref.VisitorRef.{VisitorRef}
use Rattle.ga_numbers.specs.declared.shard_row.ShardRow.{ShardRow}

-- a row that is an agent
abbrev pub IsAgent : ShardRow → Type 0
IsAgent row = (row.prefix ≡ 0) × (row.date ≡ 0)

-- the agent of a borrowed visitor
abbrev pub agent_of : VisitorRef → ShardRow
agent_of v = record { prefix = 0; date = 0; text = v.agent.now }

-- the visitor of an agent and a row
abbrev pub visitor_at : ShardRow → ShardRow → Visitor
visitor_at agent row = record { host = row.text; date = row.date; agent = agent.text }

-- the visitors of these agents and rows
abbrev pub visitors_in : List ShardRow → List ShardRow → List Visitor
visitors_in agents rows = map (λ (row : ShardRow). visitor_at (slice_index_or agents row.prefix no_row) row) rows
