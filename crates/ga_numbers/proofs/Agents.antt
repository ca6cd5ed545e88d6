-- Visitors are made of agents and rows, and agents share nothing with others.
use Rattle.std.proofs.Common.{◌≡◌, ℕ, ◌<◌, List, [], ◌∷◌, Result, Ok, Err, IfOk, OnErr, length, map, refl, sym, ap, subst, arith}
use Rattle.std.specs.List.{All, IsDistinct}
use Rattle.std.proofs.lemmas.List.Elements.{All-head, All-nil, All-tail}
use Rattle.std.proofs.lemmas.Map.Keys.{IsDistinct-from_apart}
use Rattle.std.proofs.lemmas.Option.{slice_get_within}
use Rattle.ga_base.specs.Orders.{is_same_visitor}
use Rattle.ga_base.specs.declared.key.Visitor.{Visitor}
use Rattle.ga_numbers.specs.Steps.Kept.{no_row}
use Rattle.ga_numbers.specs.NotedNumbers.{AreNotedInTurn, IsNumbered}
use Rattle.ga_numbers.specs.Steps.ShardRows.{HavePrefixes, AreMade, AreRowsOf, is_same_row, remapped_by, remapped_each}
use Rattle.ga_numbers.specs.Steps.Three.{AllThree}
use Rattle.ga_numbers.specs.Steps.VisitorRows.{IsAgent, visitor_at, visitors_in}
use Rattle.ga_numbers.specs.declared.shard_row.ShardRow.{ShardRow}
use Rattle.ga_numbers.proofs.PrefixedInTurn.{items-in-turn}
use Rattle.ga_numbers.proofs.Prefixings.{makes-visitors}
use Rattle.ga_numbers.proofs.Noted.{grows, noted-all, noted-distinct}
use Rattle.ga_numbers.proofs.Same.{row-laws}

pub no-agents : AreRowsOf is_same_row IsAgent [] []
no-agents = record {
  different = IsDistinct-from_apart is_same_row [] (λ i j d less within. let off : j < 0 = within in absurd (omega (arith, off)));
  plain = All-nil IsAgent;
  prefixed = All-nil (λ (row : ShardRow). row.prefix < 0);
}

-- what holds of all rows and of one more holds whether or not it was noted
noted-or-same : {E : Type 0} (P : ShardRow → Type 0) (row : ShardRow) (result : Result ℕ E) (old new : List ShardRow) → IfOk result (λ n. IsNumbered is_same_row row n old new) → OnErr result (new ≡ old)
    → All P old → P row → All P new
noted-or-same P row (Ok n) old new one same all own = subst (All P) (sym one.items) (noted-all is_same_row P old row all own)
noted-or-same P row (Err e) old new one same all own = subst (All P) (sym same) all

-- an agent was noted, and then a row of it, unless memory ran out
pub agent-noted : {E : Type 0} (agent row : ShardRow) (result : Result ℕ E) (agents agents-new rows rows-new : List ShardRow) → IsAgent agent → AreRowsOf is_same_row IsAgent agents rows
    → IsNumbered is_same_row agent row.prefix agents agents-new → IfOk result (λ n. IsNumbered is_same_row row n rows rows-new) → OnErr result (rows-new ≡ rows) → AreRowsOf is_same_row IsAgent agents-new rows-new
agent-noted agent row result agents agents-new rows rows-new is are told one same = record {
  different = subst (IsDistinct is_same_row) (sym told.items) (noted-distinct is_same_row row-laws agents agent are.different);
  plain = subst (All IsAgent) (sym told.items) (noted-all is_same_row IsAgent agents agent are.plain is);
  prefixed = noted-or-same (λ (r : ShardRow). r.prefix < length agents-new) row result rows rows-new one same rest here;
}
  where
    rest : HavePrefixes agents-new rows
    rest k d within = omega (arith, are.prefixed k d within, grows is_same_row agents agent, ap length told.items)

    here : row.prefix < length agents-new
    here = slice_get_within agents-new row.prefix agent told.stands

-- no prefix is remapped where there is none
not_remapped : (agents : List ShardRow) → All IsAgent agents → map (remapped_by []) agents ≡ agents
not_remapped [] plain = refl
not_remapped (agent ∷ agents) plain =
    let own = All-head IsAgent agent agents plain in
    let rest = not_remapped agents (All-tail IsAgent agent agents plain) in
    λ i. record { prefix = sym own.0 i; date = agent.date; text = agent.text } ∷ rest i

pub not_remapped-each : (agents : List (List ShardRow)) → All (All IsAgent) agents → remapped_each [] agents ≡ agents
not_remapped-each [] plain = refl
not_remapped-each (list ∷ agents) plain =
    let own = not_remapped list (All-head (All IsAgent) list agents plain) in
    let rest = not_remapped-each agents (All-tail (All IsAgent) list agents plain) in
    λ i. own i ∷ rest i

-- other agents were noted, list by list, and then rows of them: so were the visitors
pub visitors-in-turn : (visitors : List (List Visitor)) (more more-rows : List (List ShardRow)) (agents agents-new rows rows-new : List ShardRow) (places numbers : List (List ℕ))
    → AllThree (AreMade is_same_row IsAgent visitors_in) visitors more more-rows → AreRowsOf is_same_row IsAgent agents rows
    → AreNotedInTurn is_same_row (remapped_each [] more) places agents agents-new → AreNotedInTurn is_same_row (remapped_each places more-rows) numbers rows rows-new
    → AreNotedInTurn is_same_visitor visitors numbers (visitors_in agents rows) (visitors_in agents-new rows-new) × AreRowsOf is_same_row IsAgent agents-new rows-new
visitors-in-turn visitors more more-rows agents agents-new rows rows-new places numbers all are noted-agents noted-rows =
    items-in-turn no_row is_same_row is_same_visitor IsAgent visitor_at makes-visitors visitors more more-rows agents agents-new rows rows-new places numbers all are
    (subst (λ (l : List (List ShardRow)). AreNotedInTurn is_same_row l places agents agents-new) (not_remapped-each more plain) noted-agents) noted-rows
  where
    plain : All (All IsAgent) more
    plain k d within = (all.each k [] d [] (omega (arith, within, all.second))).parts.plain
