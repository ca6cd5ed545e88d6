-- What one more row, child, panel or key does to the text of them.
use Rattle.std.proofs.Common.{◌++◌, ◌∷◌, ◌≡◌, ◌≤◌, ◌<◌, ◌+◌, ◌∙◌, ap, sym, append_assoc, append-nil, List, ℕ, suc, drop, length, get_or, arith}
use Rattle.std.proofs.Math.Seq.{drop-cons}
use Rattle.std.proofs.lemmas.List.{drop_all}
use Rattle.std.proofs.lemmas.Option.{get_or_from_slice_get, slice_get_within}
use Rattle.std.specs.Prelude.{decimal, [], Some, slice_get}
use Rattle.ga_report.specs.declared.report.Item.{Item}
use Rattle.ga_report.specs.declared.report.PanelList.{PanelList}
use Rattle.ga_report.specs.declared.report.Row.{Row}
use Rattle.ga_summary.specs.SummaryRows.{SummaryRow}
use Rattle.ga_print.specs.Keys.{key_fields, key_lines}
use Rattle.ga_print.specs.Names.{panel_name}
use Rattle.ga_print.specs.Csv.{child_lines, item_fields, line, panel_lines, row_lines}

-- the next element in front of those that are left
pub next : {X : Type 0} (xs : List X) (n : ℕ) (x : X) → n < length xs → x ≡ get_or xs n x → drop n xs ≡ x ∷ drop (n + 1) xs
next {X} xs n x below at =
    let step : suc n ≡ n + 1 = omega arith in
    drop-cons xs n x below ∙ ap (λ (y : X). y ∷ drop (suc n) xs) (sym at) ∙ ap (λ (m : ℕ). x ∷ drop m xs) step

pub child-step : (panel : List ℕ) (parent id : ℕ) (children : List Item) (n : ℕ) (child : Item) (text whole : List ℕ) → n < length children → child ≡ get_or children n child
    → text ++ child_lines panel parent (suc id) (drop n children) ≡ whole
    → (text ++ line (item_fields panel (id + 1) (decimal parent) child)) ++ child_lines panel parent (suc (id + 1)) (drop (n + 1) children) ≡ whole
child-step panel parent id children n child text whole below at e =
    let step : id + 1 ≡ suc id = omega arith in
    ap (λ (m : ℕ). (text ++ line (item_fields panel m (decimal parent) child)) ++ child_lines panel parent (suc m) (drop (n + 1) children)) step
    ∙ append_assoc text (line (item_fields panel (suc id) (decimal parent) child)) (child_lines panel parent (suc (suc id)) (drop (n + 1) children))
    ∙ ap (λ (cs : List Item). text ++ child_lines panel parent (suc id) cs) (sym (next children n child below at)) ∙ e

pub child-done : (panel : List ℕ) (parent id : ℕ) (children : List Item) (n : ℕ) (text whole : List ℕ) → length children ≤ n
    → text ++ child_lines panel parent id (drop n children) ≡ whole → text ≡ whole
child-done panel parent id children n text whole all e =
    sym (append-nil text) ∙ ap (λ (cs : List Item). text ++ child_lines panel parent id cs) (sym (drop_all n children all)) ∙ e

pub row-step : (panel : List ℕ) (id : ℕ) (rows : List Row) (n : ℕ) (row : Row) (text whole : List ℕ) → n < length rows → row ≡ get_or rows n row
    → text ++ row_lines panel id (drop n rows) ≡ whole
    → ((text ++ line (item_fields panel id [] row.item)) ++ child_lines panel id (suc id) row.children) ++ row_lines panel (id + 1 + length row.children) (drop (n + 1) rows) ≡ whole
row-step panel id rows n row text whole below at e =
    let step : id + 1 + length row.children ≡ suc id + length row.children = omega arith in
    let own = line (item_fields panel id [] row.item) in
    let children = child_lines panel id (suc id) row.children in
    ap (λ (m : ℕ). ((text ++ own) ++ children) ++ row_lines panel m (drop (n + 1) rows)) step
    ∙ ap (λ (xs : List ℕ). xs ++ row_lines panel (suc id + length row.children) (drop (n + 1) rows)) (append_assoc text own children)
    ∙ append_assoc text (own ++ children) (row_lines panel (suc id + length row.children) (drop (n + 1) rows))
    ∙ ap (λ (rs : List Row). text ++ row_lines panel id rs) (sym (next rows n row below at)) ∙ e

pub row-done : (panel : List ℕ) (id : ℕ) (rows : List Row) (n : ℕ) (text whole : List ℕ) → length rows ≤ n → text ++ row_lines panel id (drop n rows) ≡ whole → text ≡ whole
row-done panel id rows n text whole all e =
    sym (append-nil text) ∙ ap (λ (rs : List Row). text ++ row_lines panel id rs) (sym (drop_all n rows all)) ∙ e

pub panel-step : (lists : List PanelList) (n : ℕ) (list : PanelList) (text whole : List ℕ) → n < length lists → list ≡ get_or lists n list
    → text ++ panel_lines (drop n lists) ≡ whole → (text ++ row_lines (panel_name list.panel) 0 list.rows) ++ panel_lines (drop (n + 1) lists) ≡ whole
panel-step lists n list text whole below at e =
    append_assoc text (row_lines (panel_name list.panel) 0 list.rows) (panel_lines (drop (n + 1) lists))
    ∙ ap (λ (ls : List PanelList). text ++ panel_lines ls) (sym (next lists n list below at)) ∙ e

pub panel-done : (lists : List PanelList) (n : ℕ) (text whole : List ℕ) → length lists ≤ n → text ++ panel_lines (drop n lists) ≡ whole → text ≡ whole
panel-done lists n text whole all e =
    sym (append-nil text) ∙ ap (λ (ls : List PanelList). text ++ panel_lines ls) (sym (drop_all n lists all)) ∙ e

pub key-step : (rows : List SummaryRow) (n : ℕ) (row : SummaryRow) (text whole : List ℕ) → slice_get rows n ≡ Some row → text ++ key_lines (drop n rows) ≡ whole
    → (text ++ line (key_fields row)) ++ key_lines (drop (n + 1) rows) ≡ whole
key-step rows n row text whole at e =
    append_assoc text (line (key_fields row)) (key_lines (drop (n + 1) rows))
    ∙ ap (λ (rs : List SummaryRow). text ++ key_lines rs) (sym (next rows n row (slice_get_within rows n row at) (sym (get_or_from_slice_get rows n row row at)))) ∙ e

pub key-done : (rows : List SummaryRow) (n : ℕ) (text whole : List ℕ) → length rows ≤ n → text ++ key_lines (drop n rows) ≡ whole → text ≡ whole
key-done rows n text whole all e = sym (append-nil text) ∙ ap (λ (rs : List SummaryRow). text ++ key_lines rs) (sym (drop_all n rows all)) ∙ e

pub six-lines : (t a b c d e f : List ℕ) → (((((t ++ a) ++ b) ++ c) ++ d) ++ e) ++ f ≡ t ++ (((((a ++ b) ++ c) ++ d) ++ e) ++ f)
six-lines t a b c d e f =
    ap (λ (x : List ℕ). (((x ++ c) ++ d) ++ e) ++ f) (append_assoc t a b) ∙ ap (λ (x : List ℕ). ((x ++ d) ++ e) ++ f) (append_assoc t (a ++ b) c)
    ∙ ap (λ (x : List ℕ). (x ++ e) ++ f) (append_assoc t ((a ++ b) ++ c) d) ∙ ap (λ (x : List ℕ). x ++ f) (append_assoc t (((a ++ b) ++ c) ++ d) e)
    ∙ append_assoc t ((((a ++ b) ++ c) ++ d) ++ e) f
