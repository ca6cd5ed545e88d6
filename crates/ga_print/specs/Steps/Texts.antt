-- The text of the report's tree, put together from the texts of its members' values.
use Rattle.std.specs.Prelude.{ℕ, Bool, true, false, List, ◌∷◌, ◌++◌, [], string_bytes, unwrap_or}
use Rattle.serde_json.specs.Data.{Data, Members, string, no_members, member}
use Rattle.serde_json.specs.Find.{as_str}
use Rattle.serde_json.specs.Written.{comma_if, compact_text}
use Rattle.ga_report.specs.declared.report.PanelList.{PanelList}
use Rattle.ga_print.specs.declared.json_text.PanelText.{PanelText}
use Rattle.ga_print.specs.Json.{panel_tree}
use Rattle.ga_print.specs.Names.{panel_name}

-- a panel's member, whose value is a text
abbrev pub panel_text : PanelList → List ℕ × Data
panel_text list = (panel_name list.panel, string (compact_text (panel_tree list)))

abbrev pub text_member : PanelText → List ℕ × Data
text_member panel = (panel_name panel.panel, string (string_bytes panel.text))

-- the members of an object whose values are texts that are written as they are, with the closing bracket
abbrev pub texts_text : Bool → Members → List ℕ
texts_text later no_members = 125 ∷ []
texts_text later (member k d ms) = comma_if later ++ (compact_text (string k) ++ 58 ∷ (unwrap_or (as_str d) [] ++ texts_text true ms))

abbrev pub object_text : Members → List ℕ
object_text ms = 123 ∷ texts_text false ms
