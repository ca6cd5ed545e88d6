use Rattle.std.proofs.Common.{◌≡◌, ◌∙◌, ◌++◌, ap, map, sym, All}
use Rattle.std.proofs.lemmas.List.{map-append}
use Rattle.ga_base.proofs.InPieces.{all-piece, whole-of}
use Rattle.ga_report.specs.Printable.{HasHits}
use Rattle.ga_print.specs.Steps.Texts.{panel_text, text_member}
use Rattle.ga_print.proofs.json_text.json_with.Goals as goal

pub map_pieces-requires-after_bounds : goal.map_pieces-requires-after_bounds
map_pieces-requires-after_bounds g c κs within = record {
  each = λ piece front back cut. all-piece (λ list. All HasHits list.rows) c.args.report.now.panels front piece.now back (sym c.items.ensures ∙ cut) c.requires.hits;
}

pub report_text-requires : goal.report_text-requires
report_text-requires g c =
    whole-of _ _ (λ lists texts. map text_member texts ≡ map panel_text lists) (λ lists texts call. call.says.met ∙ ap (map panel_text) call.shows)
    (λ low high front back some others. map-append text_member front back ∙ (λ i. some i ++ others i) ∙ sym (map-append panel_text low high)) c.in_ok-panels.ensures ∙ ap (map panel_text) c.items.ensures
