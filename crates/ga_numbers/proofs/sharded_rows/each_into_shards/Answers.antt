use Rattle.std.proofs.Common.{◌≡◌, ◌∷◌, ◌++◌, ◌∙◌, [], List, Vec, Global, ap, map, sym, subst}
use Rattle.std.proofs.lemmas.List.{map_push}
use Rattle.ga_numbers.specs.Steps.Kept.{AreOpened}
use Rattle.ga_numbers.specs.Steps.Three.{AllThree}
use Rattle.ga_numbers.specs.declared.place.Place.{Place}
use Rattle.ga_numbers.specs.declared.shard_row.ShardRow.{ShardRow}
use Rattle.ga_numbers.proofs.Three.{three-more}
use Rattle.ga_numbers.proofs.sharded_rows.each_into_shards.Goals as goal

pub loop-rows-preserved : goal.loop-rows-preserved
loop-rows-preserved c =
    let before = c.loop-rows.yielded ++ c.in-Some.rows ∷ [] in
    let shards : Vec (List ShardRow) Global → List (List ShardRow) = λ s. s.items in
    let order : Vec Place Global → List Place = λ o. o.items in
    let own = c.in_ok-own.own in
    let places = c.in_ok-own.order in
    let front = map shards c.loop-rows.shards.items in
    let behind = map order c.loop-rows.orders.items in
    let all-shards : map shards c.push.new.self.items ≡ front ++ own.items ∷ [] = ap (map shards) c.in_ok-push.ensures.items ∙ map_push shards c.loop-rows.shards.items own in
    let all-orders : map order c.push-in-loop-rows.new.self.items ≡ behind ++ places.items ∷ [] = ap (map order) c.in_ok-push-2.ensures.items ∙ map_push order c.loop-rows.orders.items places in
    subst (λ (l : List (List (List ShardRow))). AllThree AreOpened before l (map order c.push-in-loop-rows.new.self.items)) (sym all-shards)
    (subst (λ (l : List (List Place)). AllThree AreOpened before (front ++ own.items ∷ []) l) (sym all-orders)
    (three-more AreOpened c.loop-rows.yielded front behind c.in-Some.rows own.items places.items c.loop-rows.invariant c.in_ok-own.ensures))
