use Rattle.std.proofs.Common.{◌+◌, ◌∷◌, ◌++◌, [], List, Bor, Option, Some, None, ℕ, drop, sym, ap, ◌∙◌, subst, append_assoc, append-nil}
use Rattle.std.proofs.lemmas.List.{drop_all}
use Rattle.ga_base.specs.declared.formats.FormatItem.{FormatItem}
use Rattle.ga_base.specs.declared.formats.FormatItem.TheVariants.{Literal, Skip, Field, Forwarded}
use Rattle.std.specs.Option.{option_copied}
use Rattle.ga_line.specs.declared.fields.Fields.{Fields}
use Rattle.ga_line.specs.Fits.{Part, SkipsSpace, host_part}
use Rattle.ga_line.specs.Steps.Forwarding.{Forwards}
use Rattle.ga_line.specs.Steps.Fitting.{IsReadTo, AreNoted, EndsBefore, EndsLine}
use Rattle.ga_line.proofs.FitLemmas.{read-none, read-literal, read-space, read-field, read-to-end, read-forwarded, read-forwarded-end, read-unforwarded, forwards-here, forwards-nowhere, read-all, left-at, next-at}
use Rattle.ga_line.proofs.fitting.fit.Goals as goal
use Rattle.ga_line.proofs.fitting.fit.Goals.{in-Literal+in-Some, in-Skip, in-Field+in-Some-field_in, in-Forwarded+in-Some-forwarded_in+in-Some-after}

-- one more field after those that were noted first
after-first : (first before more : List Part) (fields : Fields) → AreNoted ((first ++ before) ++ more) fields → AreNoted (first ++ (before ++ more)) fields
after-first first before more fields are = subst (λ (ps : List Part). AreNoted ps fields) (append_assoc first before more) are

pub loop-at-init : goal.loop-at-init
loop-at-init c = ([], read-none c.args.items.now c.args.line.now, λ first are. subst (λ (ps : List Part). AreNoted ps c.args.fields.now) (sym (append-nil first)) are)

pub returns-in-None-field_in-clause-fits : goal.returns-in-None-field_in-clause-fits
returns-in-None-field_in-clause-fits c = λ fitted.
    let items = c.args.items.now in
    let left = left-at items c.loop-at.at c.index-items-at.result (Field c.in-Field.letter) c.loop-at-test.true (sym c.index-items-at.is ∙ c.in-Field.is) in
    let to = subst (λ (x : List FormatItem). IsReadTo items c.args.line.now x c.loop-at.rest.now c.loop-at.invariant.0) left c.loop-at.invariant.1 in
    let ends = subst (λ next. EndsLine next c.loop-at.rest.now) (c.item_at.ensures ∙ next-at items c.loop-at.at) c.in-None-field_in.ensures.none in (
      c.loop-at.invariant.0 ++ (c.in-Field.letter, c.loop-at.rest.now) ∷ [],
      read-to-end items c.args.line.now c.loop-at.invariant.0 (drop (c.loop-at.at + 1) items) c.loop-at.rest.now c.in-Field.letter to ends,
      λ first are. after-first first c.loop-at.invariant.0 ((c.in-Field.letter, c.loop-at.rest.now) ∷ []) _ (c.note-in-None-field_in.ensures (first ++ c.loop-at.invariant.0) (c.loop-at.invariant.2 first are)),
    )

pub returns-in_default-clause-misfit : goal.returns-in_default-clause-misfit
returns-in_default-clause-misfit c = λ failed.
    let items = c.args.items.now in
    let line = c.args.line.now in
    let rest = c.loop-at.rest.now in
    let left = left-at items c.loop-at.at c.index-items-at.result (Forwarded c.in-Forwarded.separators) c.loop-at-test.true (sym c.index-items-at.is ∙ c.in-Forwarded.is) in
    let to = subst (λ (x : List FormatItem). IsReadTo items line x rest c.loop-at.invariant.0) left c.loop-at.invariant.1 in
    read-unforwarded items line c.loop-at.invariant.0 (drop (c.loop-at.at + 1) items) rest c.in-Forwarded.separators to
    (forwards-nowhere items c.loop-at.at c.in-Forwarded.separators rest (option_copied c.item_at-next.result) c.bytes.result.now c.item_at-next.ensures c.bytes.ensures c.in_default.ensures.none)

pub returns-in-None-after-clause-fits : goal.returns-in-None-after-clause-fits
returns-in-None-after-clause-fits c = λ fitted.
    let items = c.args.items.now in
    let line = c.args.line.now in
    let rest = c.loop-at.rest.now in
    let before = c.loop-at.invariant.0 in
    let left = left-at items c.loop-at.at c.index-items-at.result (Forwarded c.in-Forwarded.separators) c.loop-at-test.true (sym c.index-items-at.is ∙ c.in-Forwarded.is) in
    let to = subst (λ (x : List FormatItem). IsReadTo items line x rest before) left c.loop-at.invariant.1 in
    let host = option_copied c.in-Some-forwarded_in.field.host in
    let found = subst (λ (a : Option (Bor (List ℕ))). Forwards (option_copied c.item_at-next.result) c.bytes.result.now rest host (option_copied a)) c.in-None-after.is c.in-Some-forwarded_in.ensures.found in
    let has = forwards-here items c.loop-at.at c.in-Forwarded.separators rest host None (option_copied c.item_at-next.result) c.bytes.result.now c.item_at-next.ensures c.bytes.ensures found in (
      before ++ host_part host,
      read-forwarded-end items line before (drop (c.loop-at.at + 1) items) rest c.in-Forwarded.separators to host has,
      λ first are. after-first first before (host_part host) _ (c.note_host.ensures (first ++ before) (c.loop-at.invariant.2 first are)),
    )

pub loop-at-preserved : goal.loop-at-preserved
loop-at-preserved c =
    let items = c.args.items.now in
    let line = c.args.line.now in
    let rest = c.loop-at.rest.now in
    let before = c.loop-at.invariant.0 in
    let more = drop (c.loop-at.at + 1) items in
    elim c.match-item.branch [
      | in-Literal+in-Some w ↦
          let left = left-at items c.loop-at.at c.index-items-at.result (Literal w.in-Literal.byte) c.loop-at-test.true (sym c.index-items-at.is ∙ w.in-Literal.is) in
          let to = subst (λ (x : List FormatItem). IsReadTo items line x rest before) left c.loop-at.invariant.1 in
          let begins = w.in-Some.ensures.found ∙ ap (λ (r : Bor (List ℕ)). w.in-Literal.byte ∷ r.now) (sym w.rest-is) in
          (before, read-literal items line before more rest w.in-Literal.byte c.match-item.rest.now begins to, λ first are. subst (AreNoted (first ++ before)) (sym w.fields-is) (c.loop-at.invariant.2 first are))
      | in-Forwarded+in-Some-forwarded_in+in-Some-after w ↦
          let left = left-at items c.loop-at.at c.index-items-at.result (Forwarded w.in-Forwarded.separators) c.loop-at-test.true (sym c.index-items-at.is ∙ w.in-Forwarded.is) in
          let to = subst (λ (x : List FormatItem). IsReadTo items line x rest before) left c.loop-at.invariant.1 in
          let host = option_copied w.in-Some-forwarded_in.field.host in
          let after = w.in-Some-after.after.now in
          let found = subst (λ (a : Option (Bor (List ℕ))). Forwards (option_copied w.item_at-next.result) w.bytes.result.now rest host (option_copied a)) w.in-Some-after.is w.in-Some-forwarded_in.ensures.found in
          let has = forwards-here items c.loop-at.at w.in-Forwarded.separators rest host (Some after) (option_copied w.item_at-next.result) w.bytes.result.now w.item_at-next.ensures w.bytes.ensures found in
          let read = read-forwarded items line before more rest w.in-Forwarded.separators to host after has in (
            before ++ host_part host,
            subst (λ (r : Bor (List ℕ)). IsReadTo items line more r.now (before ++ host_part host)) (sym w.rest-is) read,
            λ first are. subst (AreNoted (first ++ (before ++ host_part host))) (sym w.fields-is) (after-first first before (host_part host) _ (w.note_host.ensures (first ++ before) (c.loop-at.invariant.2 first are))),
          )
      | in-Skip w ↦
          let left = left-at items c.loop-at.at c.index-items-at.result Skip c.loop-at-test.true (sym c.index-items-at.is ∙ w.in-Skip.is) in
          let to = subst (λ (x : List FormatItem). IsReadTo items line x rest before) left c.loop-at.invariant.1 in
          let skips = subst (λ (r : Bor (List ℕ)). SkipsSpace rest r.now) (sym w.rest-is) w.after_space-rest.ensures in
          (before, read-space items line before more rest c.match-item.rest.now skips to, λ first are. subst (AreNoted (first ++ before)) (sym w.fields-is) (c.loop-at.invariant.2 first are))
      | in-Field+in-Some-field_in w ↦
          let left = left-at items c.loop-at.at c.index-items-at.result (Field w.in-Field.letter) c.loop-at-test.true (sym c.index-items-at.is ∙ w.in-Field.is) in
          let to = subst (λ (x : List FormatItem). IsReadTo items line x rest before) left c.loop-at.invariant.1 in
          let ends = subst (λ next. EndsBefore next rest w.in-Some-field_in.text.now w.in-Some-field_in.after.now) (w.item_at.ensures ∙ next-at items c.loop-at.at) w.in-Some-field_in.ensures.found in
          let read = read-field items line before more rest w.in-Field.letter to w.in-Some-field_in.text.now w.in-Some-field_in.after.now ends in (
            before ++ (w.in-Field.letter, w.in-Some-field_in.text.now) ∷ [],
            subst (λ (r : Bor (List ℕ)). IsReadTo items line more r.now (before ++ (w.in-Field.letter, w.in-Some-field_in.text.now) ∷ [])) (sym w.rest-is) read,
            λ first are. subst (AreNoted (first ++ (before ++ (w.in-Field.letter, w.in-Some-field_in.text.now) ∷ []))) (sym w.fields-is) (after-first first before ((w.in-Field.letter, w.in-Some-field_in.text.now) ∷ []) _ (w.note.ensures (first ++ before) (c.loop-at.invariant.2 first are))),
          )
    ]

pub returns-clause-fits : goal.returns-clause-fits
returns-clause-fits c = λ fitted.
    let items = c.args.items.now in
    let none = subst (λ (x : List FormatItem). IsReadTo items c.args.line.now x c.loop-at.rest.now c.loop-at.invariant.0) (drop_all c.loop-at.at items c.loop-at-test.false) c.loop-at.invariant.1 in
    (c.loop-at.invariant.0, read-all items c.args.line.now c.loop-at.rest.now c.loop-at.invariant.0 none, c.loop-at.invariant.2)
