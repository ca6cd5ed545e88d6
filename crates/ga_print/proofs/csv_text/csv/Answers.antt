use Rattle.std.proofs.Common.{◌++◌, ◌∙◌, [], ap, List}
use Rattle.ga_report.specs.declared.report.PanelList.{PanelList}
use Rattle.ga_print.specs.Csv.{csv_text, general_lines, header_fields, line, panel_lines}
use Rattle.ga_print.proofs.csv_text.csv.Goals as goal

pub returns : goal.returns
unfolding csv_text
returns c =
    let header = c.in_ok-write_header.ensures [] c.new_writer-writer.ensures in
    let general = c.in_ok-write_general.ensures _ header in
    let panels = c.in_ok-write_panels.ensures _ general in
    c.from.ensures ∙ c.in_ok-finish.ensures _ panels
    ∙ ap (λ (lists : List PanelList). (line header_fields ++ general_lines c.args.report.now.general) ++ panel_lines lists) c.items.ensures
