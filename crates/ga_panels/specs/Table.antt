-- The panels' table, which says under which keys a record is counted. What counts is the set of those keys. They are
-- listed in rising order, since the rows are in the panels' order and a group comes before its entries.
use Rattle.std.specs.Prelude.{◌≡◌, ℕ, Bool, true, false, not, ◌&&◌, ◌||◌, ◌==◌, if◌then◌else◌, Option, Some, None, is_some, List, [], ◌∷◌, ◌++◌, flat_map, slice_get}
use Rattle.std.specs.Option.{option_and_then}
use Rattle.ga_base.specs.Days.{eight_digits}
use Rattle.ga_base.specs.Layers.{is_empty}
use Rattle.ga_base.specs.Panels.{has_panel, is_same_panel, panel_number}
use Rattle.ga_base.specs.declared.key.Key.{Key}
use Rattle.ga_base.specs.declared.record.Record.{Record}
use Rattle.ga_base.specs.declared.panel.Panel.{Panel}
use Rattle.ga_base.specs.declared.panel.Panel.TheVariants.{Visitors, Requests, RequestsStatic, NotFound, Hosts, Os, Browsers, VisitTimes, VirtualHosts, Referrers, ReferringSites, Keyphrases, StatusCodes, RemoteUser, CacheStatus, MimeType, TlsType}
use Rattle.ga_panels.specs.Facts.{Facts, HasFacts}
use Rattle.ga_panels.specs.Labels.{mime_group, part_digits, part_parent, status_group, text_in, three_digits, time_of}
use Rattle.ga_panels.specs.declared.setup.PanelSetup.{PanelSetup}

-- what the table says of a record in a panel: whether it has a key there, that key's parent, which is its group or, of a
-- part of a day, the day, and else empty, its data, and whether it has the request's method and protocol
pub record PanelRow : Type 0 where
  pub panel : Panel
  pub has_key : Bool
  pub parent : List ℕ
  pub label : List ℕ
  pub request : Bool

abbrev pub row : Panel → Bool → List ℕ → List ℕ → Bool → PanelRow
row panel has_key parent label request = record { panel = panel; has_key = has_key; parent = parent; label = label; request = request }

-- the status says that nothing was found: 404, or 444 where that counts as 404
abbrev pub is_missing : Bool → ℕ → Bool
is_missing as_404 status = status == 404 || (as_404 && status == 444)

abbrev pub table : PanelSetup → Record → Facts → List PanelRow
table setup rec facts =
    let missing = is_missing setup.as_404 rec.status in
    let agent = facts.agent in
    let part = part_digits setup.date_spec rec.minute in
    row Visitors true (part_parent rec.date part) (eight_digits rec.date ++ part) false ∷
    row Requests (not missing && not facts.is_static) [] rec.url true ∷
    row RequestsStatic (not missing && facts.is_static) [] rec.url true ∷
    row NotFound missing [] rec.url true ∷
    row Hosts true [] rec.host false ∷
    row Os (not (is_empty rec.agent)) agent.system_group agent.system false ∷
    row Browsers (not (is_empty rec.agent)) agent.category agent.browser false ∷
    row VisitTimes (is_some rec.minute) [] (time_of setup.hour_spec rec.minute) false ∷
    row VirtualHosts (not (is_empty rec.vhost)) [] rec.vhost false ∷
    row Referrers (not (is_empty rec.referrer)) [] rec.referrer false ∷
    row ReferringSites (is_some facts.site) [] (text_in facts.site) false ∷
    row Keyphrases (is_some facts.phrase) [] (text_in facts.phrase) false ∷
    row StatusCodes (not (rec.status == 0)) (status_group rec.status) (three_digits rec.status) false ∷
    row RemoteUser (not (is_empty rec.user)) [] rec.user false ∷
    row CacheStatus (not (is_empty rec.cache)) [] rec.cache false ∷
    row MimeType (not (is_empty rec.mime)) (mime_group rec.mime) rec.mime false ∷
    row TlsType (not (is_empty rec.tls)) [] rec.tls false ∷
    []

-- the key of the entry that a row gives, where it gives one
abbrev pub row_key : Record → PanelRow → Option Key
row_key rec row = if row.has_key then Some (record {
  panel = row.panel;
  date = rec.date;
  parent = row.parent;
  label = row.label;
  method = if row.request then rec.method else [];
  protocol = if row.request then rec.protocol else [];
}) else None

-- the key that a record has beside that of an entry with a parent: the day's, whose data the parent is, beside that of a part
-- of it, and the group's, which has no data, beside that of an entry in a group
abbrev pub key_above : Bool → Key → Key
key_above is_part key = record {
  panel = key.panel;
  date = key.date;
  parent = if is_part then [] else key.parent;
  label = if is_part then key.parent else [];
  method = [];
  protocol = [];
}

abbrev pub group_keys : Key → List ℕ → List Key
group_keys key [] = []
group_keys key (byte ∷ bytes) = key_above (is_same_panel key.panel Visitors) key ∷ []

-- a record that has an entry with a parent has that key too
abbrev pub with_group : Option Key → List Key
with_group None = []
with_group (Some key) = group_keys key key.parent ++ key ∷ []

-- a panel gives keys where it is enabled; VISITORS always does, and then is only not shown
abbrev pub is_counted : List Bool → Panel → Bool
is_counted panels panel = is_same_panel panel Visitors || has_panel panels panel

abbrev pub counted_key : List Bool → Record → PanelRow → Option Key
counted_key panels rec row = if is_counted panels row.panel then row_key rec row else None

-- the keys that the table gives a record with these facts
abbrev pub table_keys : PanelSetup → Record → Facts → List Key
table_keys setup rec facts = flat_map (λ row. with_group (counted_key setup.panels rec row)) (table setup rec facts)

-- the keys of a record
abbrev pub AreKeysOf : PanelSetup → Record → List Key → Type 0
AreKeysOf setup rec keys = (facts : Facts) × HasFacts setup rec facts × (keys ≡ table_keys setup rec facts)

-- the key of the entry that a panel's row gives, which is at the panel's number
abbrev pub entry_of : PanelSetup → Record → Facts → Panel → Option Key
entry_of setup rec facts panel = option_and_then (row_key rec) (slice_get (table setup rec facts) (panel_number panel))

-- the key of a record's entry in a panel
abbrev pub entry_in : PanelSetup → Record → Facts → Panel → Option Key
entry_in setup rec facts panel = if is_counted setup.panels panel then entry_of setup rec facts panel else None

-- a record's keys in a panel: its entry's, and its group's or its day's
abbrev pub keys_in : PanelSetup → Record → Facts → Panel → List Key
keys_in setup rec facts panel = with_group (entry_in setup rec facts panel)
