-- The text of an object, put together from those of its members' values, is its own.
use Rattle.std.proofs.Common.{◌≡◌, ℕ, Bool, true, false, List, [], ◌∷◌, ◌++◌, ◌∙◌, ap, map, refl, sym, Less, Equal, Greater}
use Rattle.std.specs.Ordering.{nat_cmp, match_ordering}
use Rattle.std.specs.Prelude.{codes}
use Rattle.std.specs.declared.cmp.Ordering.{Ordering}
use Rattle.std.specs.Cmp.Lexicographic.{slice_cmp}
use Rattle.serde_json.specs.Data.{Data, Members, string, no_members, member, put}
use Rattle.serde_json.specs.Written.{comma_if, compact_text, members_text}
use Rattle.ga_report.specs.declared.report.PanelList.{PanelList}
use Rattle.ga_report.specs.declared.report.Report.{Report}
use Rattle.ga_print.specs.Json.{general_tree, object_of, panel_member, put_all, report_tree}
use Rattle.ga_print.specs.Steps.Texts.{object_text, panel_text, texts_text}

-- the members with the text of each value in its place
abbrev with_texts : Members → Members
with_texts no_members = no_members
with_texts (member k d ms) = member k (string (compact_text d)) (with_texts ms)

abbrev as_text : List ℕ × Data → List ℕ × Data
as_text m = (m.0, string (compact_text m.1))

put-by : (o : Ordering) (k l : List ℕ) (d e : Data) (ms : Members) → with_texts (put k d ms) ≡ put k (string (compact_text d)) (with_texts ms)
    → with_texts (match_ordering o (member k d (member l e ms)) (member l d ms) (member l e (put k d ms)))
    ≡ match_ordering o (member k (string (compact_text d)) (with_texts (member l e ms))) (member l (string (compact_text d)) (with_texts ms))
    (member l (string (compact_text e)) (put k (string (compact_text d)) (with_texts ms)))
put-by Less k l d e ms later = refl
put-by Equal k l d e ms later = refl
put-by Greater k l d e ms later = ap (member l (string (compact_text e))) later

put-texts : (k : List ℕ) (d : Data) (ms : Members) → with_texts (put k d ms) ≡ put k (string (compact_text d)) (with_texts ms)
put-texts k d no_members = refl
put-texts k d (member l e ms) = put-by (slice_cmp nat_cmp k l) k l d e ms (put-texts k d ms)

all-texts : (done : Members) (ms : List (List ℕ × Data)) → with_texts (put_all done ms) ≡ put_all (with_texts done) (map as_text ms)
all-texts done [] = refl
all-texts done (m ∷ ms) = all-texts (put m.0 m.1 done) ms ∙ ap (λ (them : Members). put_all them (map as_text ms)) (put-texts m.0 m.1 done)

texts-are : (later : Bool) (ms : Members) → texts_text later (with_texts ms) ≡ members_text later ms
texts-are later no_members = refl
texts-are later (member k d ms) = ap (λ (rest : List ℕ). comma_if later ++ (compact_text (string k) ++ 58 ∷ (compact_text d ++ rest))) (texts-are true ms)

panels-texts : (lists : List PanelList) → map as_text (map panel_member lists) ≡ map panel_text lists
panels-texts [] = refl
panels-texts (list ∷ lists) = ap (λ (ms : List (List ℕ × Data)). panel_text list ∷ ms) (panels-texts lists)

pub report-texts : (report : Report)
    → object_text (put_all (put (codes "general") (string (compact_text (general_tree report.general))) no_members) (map panel_text report.panels)) ≡ compact_text (report_tree report)
unfolding report_tree object_of
report-texts report =
    let all = (codes "general", general_tree report.general) ∷ map panel_member report.panels in
    ap (λ (ms : List (List ℕ × Data)). object_text (put_all (put (codes "general") (string (compact_text (general_tree report.general))) no_members) ms)) (sym (panels-texts report.panels))
    ∙ ap object_text (sym (all-texts no_members all)) ∙ ap (λ (text : List ℕ). 123 ∷ text) (texts-are false (put_all no_members all))
