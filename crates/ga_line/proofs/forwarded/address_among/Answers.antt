use Rattle.std.proofs.Common.{◌<◌, List, ℕ, Some, length, sym, ◌∙◌, subst}
use Rattle.std.proofs.lemmas.Bool.{false≢true}
use Rattle.bstr.specs.Bytes.{is_in}
use Rattle.memchr.specs.Find.{IsFirstByte}
use Rattle.ga_hosts.specs.Addresses.{IsAddress}
use Rattle.ga_line.specs.Forwarded.{FirstAddress, entries}
use Rattle.ga_line.proofs.SeparatorLemmas.{first-here, first-later, last-here, last-none, cut-shorter, behind-byte}
use Rattle.ga_line.proofs.forwarded.address_among.Goals as goal

pub loop-end-init : goal.loop-end-init
loop-end-init c = λ host first. first

pub returns-then-is_address : goal.returns-then-is_address
returns-then-is_address c =
    let separators = c.args.separators.now in
    let first = subst (λ r. IsFirstByte (is_in separators) c.loop-end.rest.now r) c.in-Some.is c.find_byteset.ensures in
    let entry = c.split_at.result.0.now in
    let address : IsAddress entry = c.is_address.ensures.0 c.if-is_address.true in
    c.loop-end.invariant (Some entry)
    (subst (λ (t : List ℕ). FirstAddress (entries separators c.loop-end.rest.now) (Some t)) (sym c.split_at.ensures.front)
    (first-here separators c.loop-end.rest.now c.in-Some.end first (subst IsAddress c.split_at.ensures.front address)))

pub loop-end-smaller : goal.loop-end-smaller
loop-end-smaller c =
    let first = subst (λ r. IsFirstByte (is_in c.args.separators.now) c.loop-end.rest.now r) c.in-Some.is c.find_byteset.ensures in
    subst (λ (t : List ℕ). length t < length c.loop-end.rest.now) (sym (behind-byte c.loop-end.rest.now c.split_at.result.1.now c.in-Some.end c.split_at.ensures.back)) (cut-shorter c.loop-end.rest.now c.in-Some.end first.0.high)

pub loop-end-preserved : goal.loop-end-preserved
loop-end-preserved c = λ host later.
    let separators = c.args.separators.now in
    let first = subst (λ r. IsFirstByte (is_in separators) c.loop-end.rest.now r) c.in-Some.is c.find_byteset.ensures in
    let none : ¬ IsAddress c.split_at.result.0.now = λ address. false≢true (sym c.if-is_address.false ∙ c.is_address.ensures.1 address) in
    c.loop-end.invariant host
    (first-later separators c.loop-end.rest.now c.in-Some.end first (subst (λ (t : List ℕ). ¬ IsAddress t) c.split_at.ensures.front none) host
    (subst (λ (t : List ℕ). FirstAddress (entries separators t) host) (behind-byte c.loop-end.rest.now c.split_at.result.1.now c.in-Some.end c.split_at.ensures.back) later))

pub returns-then-is_address-2 : goal.returns-then-is_address-2
returns-then-is_address-2 c =
    let none = subst (λ r. IsFirstByte (is_in c.args.separators.now) c.loop-end.rest.now r) c.in_default.is c.find_byteset.ensures in
    c.loop-end.invariant _ (last-here c.args.separators.now c.loop-end.rest.now none (c.is_address-2.ensures.0 c.if-is_address-2.true))

pub returns-else-is_address-2 : goal.returns-else-is_address-2
returns-else-is_address-2 c =
    let none = subst (λ r. IsFirstByte (is_in c.args.separators.now) c.loop-end.rest.now r) c.in_default.is c.find_byteset.ensures in
    c.loop-end.invariant _
    (last-none c.args.separators.now c.loop-end.rest.now none (λ address. false≢true (sym c.if-is_address-2.false ∙ c.is_address-2.ensures.1 address)))
