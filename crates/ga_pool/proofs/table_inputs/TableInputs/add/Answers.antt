use Rattle.std.proofs.Common.{◌∷◌, [], ◌++◌, List, sym, ap, ◌∙◌, subst}
use Rattle.std.specs.List.{AllZip}
use Rattle.std.proofs.lemmas.List.{map-append}
use Rattle.ga_tallies.specs.Tallies.{TallySeen, lists_in, pairs_in}
use Rattle.ga_pool.specs.declared.table_inputs.TableRows.{TableRows}
use Rattle.ga_pool.specs.Steps.TableInputs.{AreRowsOf}
use Rattle.ga_pool.proofs.table_inputs.TableInputs.add.Goals as goal

zip-push : {A B : Type 0} (R : A → B → Type 0) (xs : List A) (ys : List B) (x : A) (y : B) → AllZip R xs ys → R x y → AllZip R (xs ++ x ∷ []) (ys ++ y ∷ [])
zip-push R [] [] x y all one = (one, tt)
zip-push R [] (y' ∷ ys) x y all one = absurd all
zip-push R (x' ∷ xs) [] x y all one = absurd all
zip-push R (x' ∷ xs) (y' ∷ ys) x y all one = (all.0, zip-push R xs ys x y all.1 one)

pub returns : goal.returns
returns c =
    let tally = c.args.tally in
    let parts = c.into_parts-keys.result in
    let seen = c.into_parts-keys.ensures in
    let rows : TableRows = record { totals = parts.totals; sums = parts.sums; pairs = c.in_ok-pairs_of.field-0 } in
    λ before old. record {
      keys =
          c.in_ok-push.ensures.items ∙ (λ i. old.keys i ++ (c.in_ok-into_dictionary.ensures ∙ ap (λ (t : TallySeen). t.keys) seen) i ∷ []) ∙ sym (map-append (λ (t : TallySeen). t.keys) before (tally ∷ []));
      visitors =
          c.in_ok-push-2.ensures.items ∙ (λ i. old.visitors i ++ (c.in_ok-into_dictionary-2.ensures ∙ ap (λ (t : TallySeen). t.visitors) seen) i ∷ []) ∙ sym (map-append (λ (t : TallySeen). t.visitors) before (tally ∷ []));
      rows =
          subst (AllZip AreRowsOf (before ++ tally ∷ [])) (sym c.in_ok-push-3.ensures.items)
          (zip-push AreRowsOf before c.args.self.now.rows.items tally rows old.rows
          record { totals = ap (λ (t : TallySeen). t.totals) seen; sums = ap (λ (t : TallySeen). t.sums) seen; pairs = c.in_ok-pairs_of.ensures ∙ (λ i. pairs_in (lists_in (c.deref.ensures.value i))) ∙ ap (λ (t : TallySeen). t.pairs) seen });
    }
