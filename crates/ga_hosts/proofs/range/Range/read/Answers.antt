use Rattle.std.proofs.Common.{is_some, sym, ap, ◌∙◌}
use Rattle.std.proofs.lemmas.Bool.{false≢true}
use Rattle.ga_hosts.specs.declared.address.Address.{Address}
use Rattle.ga_hosts.specs.Addresses.{Spells, IsAtMost}
use Rattle.ga_hosts.proofs.RangeLemmas.{at_most-same, reads-ok, reads-bad_first, reads-bad_second, reads-no_first, reads-one, reads-two, reads-no_second, none-above}
use Rattle.ga_hosts.proofs.range.Range.read.Goals as goal
use Rattle.ga_hosts.proofs.range.Range.read.Goals.{in_default-address_of-via-in-Some-address_of+else-is_at_most, in_default-address_of-via-in_default-address_of}

pub returns-in_default : goal.returns-in_default
returns-in_default c =
    let none = c.address_of.ensures.none.0 (ap is_some c.in_default.is) in
    let reads = reads-no_first c.args.text.now c.cut_at_dash.result.0.now _ c.cut_at_dash.ensures none in
    record { ok = reads-ok _ _ reads; ordered = tt; bad_first = reads-bad_first _ _ reads; bad_second = reads-bad_second _ _ reads }

pub returns-in_default-second : goal.returns-in_default-second
returns-in_default-second c =
    let cut = rw c.in_default-second.is at c.cut_at_dash.ensures in
    let low = (c.address_of.ensures.found c.in-Some.low).0 c.in-Some.is in
    let reads = reads-one c.args.text.now c.cut_at_dash.result.0.now c.in-Some.low cut low in
    record { ok = reads-ok _ _ reads; ordered = at_most-same c.in-Some.low; bad_first = reads-bad_first _ _ reads; bad_second = reads-bad_second _ _ reads }

pub returns-in-Some-address_of : goal.returns-in-Some-address_of
returns-in-Some-address_of c =
    let cut = rw c.in-Some-second.is at c.cut_at_dash.ensures in
    let low = (c.address_of.ensures.found c.in-Some.low).0 c.in-Some.is in
    let high = (c.address_of-2.ensures.found c.in-Some-address_of.high).0 c.in-Some-address_of.is in
    let ordered = c.is_at_most.ensures.0 c.if-is_at_most.true in
    let reads = reads-two c.args.text.now c.cut_at_dash.result.0.now c.in-Some-second.second.now c.in-Some.low c.in-Some-address_of.high cut low high ordered in
    record { ok = reads-ok _ _ reads; ordered = ordered; bad_first = reads-bad_first _ _ reads; bad_second = reads-bad_second _ _ reads }

pub returns-in_default-address_of : goal.returns-in_default-address_of
returns-in_default-address_of c =
    let cut = rw c.in-Some-second.is at c.cut_at_dash.ensures in
    let low = (c.address_of.ensures.found c.in-Some.low).0 c.in-Some.is in
    let none : (high : Address) → Spells c.in-Some-second.second.now high → IsAtMost c.in-Some.low high → ⊥ =
    elim c.in_default-address_of.branch [
      | in_default-address_of-via-in-Some-address_of+else-is_at_most w ↦
          none-above _ c.in-Some.low w.in-Some-address_of.high c.address_of-2.result c.address_of-2.ensures.found w.in-Some-address_of.is λ ordered.
          false≢true (sym w.if-is_at_most.false ∙ w.is_at_most.ensures.1 ordered)
      | in_default-address_of-via-in_default-address_of w ↦
          λ high is ordered. c.address_of-2.ensures.none.0 (ap is_some w.in_default-address_of.is) high is
    ] in
    let reads = reads-no_second c.args.text.now c.cut_at_dash.result.0.now c.in-Some-second.second.now c.in-Some.low cut low none in
    record { ok = reads-ok _ _ reads; ordered = tt; bad_first = reads-bad_first _ _ reads; bad_second = reads-bad_second _ _ reads }
