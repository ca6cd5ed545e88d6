use Rattle.std.proofs.Common.{◌≡◌, ◌∷◌, [], ◌++◌, List, sym, ap, ◌∙◌, subst, arith, append_assoc, append-nil, length-append}
use Rattle.std.specs.List.{All, flat_map}
use Rattle.std.specs.Vec.Iter.{into_iter_items}
use Rattle.std.proofs.lemmas.Grind.{flat_map-append}
use Rattle.std.proofs.lemmas.List.Sums.{sum_by_push}
use Rattle.ga_counts.specs.Counts.{SeatSeen, maximum_at, tally_at}
use Rattle.ga_pairs.specs.Pairs.{SeatSeen as PairSeatSeen}
use Rattle.ga_pairs.specs.declared.view.Pair.{Pair as Claim}
use Rattle.ga_pool.specs.declared.filling.TableSeats.{TableSeats}
use Rattle.ga_workers.proofs.DrawnPieces.{all-mid}
use Rattle.ga_pool.proofs.FillTables.{greatest-push, maximum-joined, tally-joined}
use Rattle.ga_pool.proofs.filling.join_all.Goals as goal

pub loop-put-preserved : goal.loop-put-preserved
loop-put-preserved c =
    let before = c.loop-put.invariant in
    let counts = c.join.ensures in
    let pairs = c.join-in-loop-put.ensures in
    let put = c.in-Some.put in
    let asked : TableSeats → List Claim = λ (p : TableSeats). p.pairs.claims.asked in
    let rest : c.loop-put.yielded ++ put ∷ into_iter_items c.next.new.self ≡ c.args.puts.items =
    ap (λ (l : List TableSeats). c.loop-put.yielded ++ l) (sym c.in-Some.ensures.steps.0) ∙ before.rest in
    let is = (all-mid (λ (p : TableSeats). (p.counts.table ≡ c.args.counts.now.table) × (p.pairs.table ≡ c.args.pairs.now.table) × (p.counts.view.share ≡ 1) × (p.pairs.claims.share ≡ 1)) c.loop-put.yielded _ put
    (subst (λ (l : List TableSeats). All (λ (p : TableSeats). (p.counts.table ≡ c.args.counts.now.table) × (p.pairs.table ≡ c.args.pairs.now.table) × (p.counts.view.share ≡ 1) × (p.pairs.claims.share ≡ 1)) l) (sym rest) c.requires.each)).0 in
    let many = length-append c.loop-put.yielded (put ∷ []) in
    record {
      count_table = ap (λ (s : SeatSeen). s.table) counts ∙ before.count_table;
      pair_table = ap (λ (s : PairSeatSeen). s.table) pairs ∙ before.pair_table;
      count_share = omega (arith, ap (λ (s : SeatSeen). s.view.share) counts, before.count_share, many, is.2);
      pair_share = omega (arith, ap (λ (s : PairSeatSeen). s.claims.share) pairs, before.pair_share, many, is.3);
      sums = λ word. omega (arith, ap (λ (s : SeatSeen). tally_at word s.view) counts, tally-joined word c.loop-put.count_seat.view put.counts.view, before.sums word, sum_by_push (λ (p : TableSeats). tally_at word p.counts.view) c.loop-put.yielded put);
      maxima = λ place. omega (arith, ap (λ (s : SeatSeen). maximum_at place s.view) counts, maximum-joined place c.loop-put.count_seat.view put.counts.view, before.maxima place, greatest-push (λ (p : TableSeats). maximum_at place p.counts.view) c.loop-put.yielded put);
      asked =
          ap (λ (s : PairSeatSeen). s.claims.asked) pairs ∙ ap (λ (l : List Claim). l ++ asked put) before.asked ∙ append_assoc c.args.pair_seat.now.claims.asked (flat_map asked c.loop-put.yielded) (asked put)
          ∙ ap (λ (l : List Claim). c.args.pair_seat.now.claims.asked ++ l) (sym (flat_map-append asked c.loop-put.yielded (put ∷ []) ∙ ap (λ (l : List Claim). flat_map asked c.loop-put.yielded ++ l) (append-nil (asked put))));
      rest = append_assoc c.loop-put.yielded (put ∷ []) _ ∙ rest;
    }
