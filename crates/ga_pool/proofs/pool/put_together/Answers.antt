use Rattle.std.proofs.Common.{◌≡◌, ◌+◌, ◌<◌, List, length, map, sym, ap, ◌∙◌, subst, arith}
use Rattle.std.specs.List.{AllZip, sum_by}
use Rattle.ga_base.specs.declared.counts.Totals.{Totals}
use Rattle.ga_base.specs.declared.key.Key.{Key}
use Rattle.ga_base.specs.Orders.{is_same_key, is_same_visitor}
use Rattle.ga_pool.specs.Steps.TableInputs.{AreRowsOf}
use Rattle.ga_pool.proofs.AllWorkers.{keys_in, visitors_in}
use Rattle.ga_pool.proofs.CanPutRows.{weigh-all}
use Rattle.ga_workers.specs.Together.{totals_in}
use Rattle.ga_pool.proofs.Standing.{stands}
use Rattle.ga_pool.proofs.SumExists.{stands-for-sum}
use Rattle.ga_workers.proofs.Together.{counted-totals, none-plus}
use Rattle.ga_base.specs.Totals.{no_totals, totals_plus, TotalsFit}
use Rattle.ga_tallies.specs.Tallies.{TallySeen}
use Rattle.ga_pool.proofs.Tables.{as-long, can-put-all, key-numbering, keys-numbered, visitor-numbering, visitors-numbered}
use Rattle.ga_shards.specs.Numbers.{IsNumbering}
use Rattle.ga_pool.proofs.pool.put_together.Given.{Over}
use Rattle.ga_pool.proofs.pool.put_together.Goals as goal

rows-of : (g : Over) (c : goal.After-visitors-2-1 g) → AllZip AreRowsOf c.args.tallies.items c.in_ok-keys.field-0.rows.items
rows-of g c = c.in_ok-keys.ensures.rows

as-many : (g : Over) (c : goal.After-visitors-2-1 g) → length c.args.tallies.items ≡ length c.in_ok-keys.field-0.rows.items
as-many g c = as-long AreRowsOf c.args.tallies.items c.in_ok-keys.field-0.rows.items (rows-of g c)

totals-are : (g : Over) (c : goal.After-visitors-2-1 g) → c.counters-totals.result ≡ totals_in c.args.tallies.items
totals-are g c = c.counters-totals.ensures ∙ ap (λ (l : List TallySeen). totals_plus no_totals (totals_in l)) c.deref.ensures.value ∙ none-plus (totals_in c.args.tallies.items)

pub fill-requires-clause-some : goal.fill-requires-clause-some
fill-requires-clause-some g c κs within = omega (arith, as-many g c, c.requires.some, c.args.tallies.ok, c.in_ok-keys.field-0.rows.ok)

pub fill-requires-clause-most : goal.fill-requires-clause-most
fill-requires-clause-most g c κs within = omega (arith, as-many g c, c.requires.most, c.args.tallies.ok, c.in_ok-keys.field-0.rows.ok)

pub fill-requires-clause-each : goal.fill-requires-clause-each
fill-requires-clause-each g c κs within =
    let ts = c.args.tallies.items in
    let keys = c.in_ok-keys.ensures.keys in
    let visitors = c.in_ok-keys.ensures.visitors in
    let few : sum_by (λ (l : List Key). length l) (map keys_in ts) < 4294967295 =
    subst (λ (ls : List (List Key)). sum_by (λ (l : List Key). length l) ls < 4294967295) keys c.in_ok-keys-2.ensures.few in
    can-put-all c.requires.tallies.1.parts ts c.in_ok-keys.field-0.rows.items c.in_ok-keys-2.keys c.in_ok-visitors.visitors c.requires.tallies.1.tallies_of (rows-of g c)
    (key-numbering _ ts c.in_ok-keys-2.keys keys c.in_ok-keys-2.ensures.numbering) (visitor-numbering _ ts c.in_ok-visitors.visitors visitors c.in_ok-visitors.ensures.numbering) few

pub fill-requires-clause-whole : goal.fill-requires-clause-whole
fill-requires-clause-whole g c κs within =
    weigh-all c.args.tallies.items c.in_ok-keys.field-0.rows.items (rows-of g c) ∙ ap (λ (t : Totals). t.lines + t.bytes + t.micros) (sym (totals-are g c))

pub returns : goal.returns
returns g c =
    let ts = c.args.tallies.items in
    let keys = c.in_ok-keys.ensures.keys in
    let visitors = c.in_ok-keys.ensures.visitors in
    let nk : IsNumbering is_same_key (map keys_in ts) c.in_ok-keys-2.keys = key-numbering _ ts c.in_ok-keys-2.keys keys c.in_ok-keys-2.ensures.numbering in
    let nv : IsNumbering is_same_visitor (map visitors_in ts) c.in_ok-visitors.visitors = visitor-numbering _ ts c.in_ok-visitors.visitors visitors c.in_ok-visitors.ensures.numbering in
    let totals : totals_plus no_totals (totals_in c.deref.result.now) ≡ totals_in ts = ap (λ (l : List TallySeen). totals_plus no_totals (totals_in l)) c.deref.ensures.value ∙ none-plus (totals_in ts) in
    λ outcomes counted can. stands-for-sum outcomes ts _ (subst TotalsFit (counted-totals outcomes ts counted) c.requires.fit)
    (λ parts are. stands parts ts c.in_ok-keys.field-0.rows.items c.in_ok-keys-2.keys c.in_ok-visitors.visitors c.in_ok-counts.counts c.in_ok-counts.pairs c.counters-totals.result are c.in_ok-keys.ensures.rows
    (keys-numbered ts c.in_ok-keys-2.keys nk) (visitors-numbered ts c.in_ok-visitors.visitors nv) nk.distinct nv.distinct (c.counters-totals.ensures ∙ totals)
    record { words = c.in_ok-counts.ensures.words; places = c.in_ok-counts.ensures.places; sums = c.in_ok-counts.ensures.sums; maxima = c.in_ok-counts.ensures.maxima; pairs = c.in_ok-counts.ensures.pairs }) counted can
