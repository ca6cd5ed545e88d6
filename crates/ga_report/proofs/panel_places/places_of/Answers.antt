use Rattle.std.proofs.Common.{◌≡◌, ◌∙◌, Bool, inl, inr, subst, sym, arith, true, false}
use Rattle.ga_base.specs.declared.panel.Panel.{Panel}
use Rattle.ga_base.specs.Panels.{is_same_panel}
use Rattle.ga_report.specs.Source.{SourceRow}
use Rattle.ga_report.proofs.Lists.{at-some, get-some}
use Rattle.ga_report.proofs.PanelPlaces.{place-more, place-pass, places-all}
use Rattle.ga_report.proofs.panel_places.places_of.Goals as goal
use Rattle.ga_report.proofs.panel_places.places_of.Goals.{then-eq+in_ok-push, else-eq, else-loop-at-test, then-loop-at-test+then-len-most}

abbrev is-of : Panel → SourceRow → Bool
is-of panel row = is_same_panel row.key.panel panel

pub loop-at-preserved : goal.loop-at-preserved
loop-at-preserved g c =
    let rows = (g.T.RowSource.view c.args.source.now).rows in
    let at = c.loop-at.at in
    let there = get-some at rows (omega (arith, c.len-at-end.ensures, c.loop-at-test.true)) in
    let panel = at-some (λ row. c.panel.result ≡ row.key.panel) _ there.0 there.1 c.panel.ensures in
    elim c.if-eq.branch [
      | then-eq+in_ok-push w ↦
          let own = subst (λ (p : Panel). is_same_panel p c.args.panel ≡ true) panel (sym (c.panel_order.ensures.same _ _) ∙ sym c.eq.ensures ∙ w.if-eq.true) in
          rw w.places-is (place-more (is-of c.args.panel) rows rows at there.0 there.1 at c.loop-at.places.items _ there.1 own c.loop-at.invariant w.in_ok-push.ensures.items)
      | else-eq w ↦
          let other = subst (λ (p : Panel). is_same_panel p c.args.panel ≡ false) panel (sym (c.panel_order.ensures.same _ _) ∙ sym c.eq.ensures ∙ w.if-eq.false) in
          rw w.places-is (place-pass (is-of c.args.panel) rows rows at there.0 there.1 c.loop-at.places.items other c.loop-at.invariant)
    ]

pub returns : goal.returns
returns g c =
    let rows = (g.T.RowSource.view c.args.source.now).rows in
    places-all c.args.panel rows c.loop-at.places.items c.loop-at.at c.at_most-most.result c.loop-at.invariant c.at_most-most.ensures (elim c.loop-at-test.branch [
      | else-loop-at-test w ↦ inr (omega (arith, c.len-at-end.ensures, w.loop-at-test.false))
      | then-loop-at-test+then-len-most w ↦ inl (omega (arith, w.len.ensures, w.if-len-most.true, c.loop-at.places.ok))
    ])
