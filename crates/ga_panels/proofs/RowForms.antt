-- The rows of the table are in the panels' order, and their columns have the panels' form.
use Rattle.std.proofs.Common.{◌≡◌, ◌≢◌, ℕ, ◌<◌, Bool, true, false, List, [], ◌∷◌, ◌++◌, Option, IfSome, refl, sym, ap, ◌∙◌}
use Rattle.std.specs.Prelude.{codes, if◌then◌else◌, not}
use Rattle.std.specs.List.{AllByRecursion}
use Rattle.ga_agents.specs.Classes.{HasNames}
use Rattle.ga_base.specs.Days.{eight_digits}
use Rattle.ga_base.specs.Layers.{has_groups, has_requests, is_empty}
use Rattle.ga_base.specs.declared.panel.Panel.{Panel}
use Rattle.ga_base.specs.declared.panel.Panel.TheVariants.{Visitors, Requests, RequestsStatic, NotFound, Hosts, Os, Browsers, VisitTimes, VirtualHosts, Referrers, ReferringSites, Keyphrases, StatusCodes, RemoteUser, CacheStatus, MimeType, TlsType}
use Rattle.ga_base.specs.declared.record.Record.{Record}
use Rattle.ga_panels.specs.Facts.{Facts}
use Rattle.ga_panels.specs.Labels.{or_unknown, before_slash, part_digits, part_parent, status_group}
use Rattle.ga_panels.specs.Table.{row, table}
use Rattle.ga_panels.specs.declared.setup.PanelSetup.{PanelSetup}
use Rattle.ga_panels.proofs.Moments.{visit-form}
use Rattle.ga_panels.proofs.RowKeys.{IsFormed, StandFrom}

pub rows_stand : (setup : PanelSetup) (rec : Record) (facts : Facts) → StandFrom 0 (table setup rec facts)
rows_stand setup rec facts = (refl, (refl, (refl, (refl, (refl, (refl, (refl, (refl, (refl, (refl, (refl, (refl, (refl, (refl, (refl, (refl, (refl, tt)))))))))))))))))

present_some : (text : List ℕ) → not (is_empty text) ≡ true → text ≢ []
present_some [] present = λ e. cc
present_some (b ∷ text) present = λ e. cc

status_group_some : (status : ℕ) → status_group status ≢ []
status_group_some status = by_tests _ _ _ _
  where
    by_tests : (one two three four : Bool) → (if one then codes "1xx Informational" else if two then codes "2xx Success" else if three then codes "3xx Redirection" else if four then codes "4xx Client Errors" else codes "5xx Server Errors") ≢ []
    by_tests true two three four = λ e. cc
    by_tests false true three four = λ e. cc
    by_tests false false true four = λ e. cc
    by_tests false false false true = λ e. cc
    by_tests false false false false = λ e. cc

or_unknown_some : (text : List ℕ) → or_unknown text ≢ []
or_unknown_some text = by_test (is_empty text) (present_some text)
  where
    by_test : (empty : Bool) → (not empty ≡ true → text ≢ []) → (if empty then codes "Unknown" else text) ≢ []
    by_test true some = λ e. cc
    by_test false some = some refl

module _ (date : ℕ) where
  -- an entry without a group
  single : (panel : Panel) (has_key : Bool) (label : List ℕ) (request : Bool) → has_groups panel ≡ false → panel ≢ Visitors → (has_requests panel ≡ false → request ≡ false)
      → IsFormed date (row panel has_key [] label request)
  single panel has_key label request alone other none = record {
    visit = λ e. absurd (other e);
    parent = λ _. (λ _. alone, λ _. refl);
    request = none;
    some = λ some. absurd (some refl);
  }

  -- a day, or a part of it
  visit : (setup : PanelSetup) (minute : Option ℕ) → IfSome minute (λ m. m < 1440)
      → let part = part_digits setup.date_spec minute in IsFormed date (row Visitors true (part_parent date part) (eight_digits date ++ part) false)
  visit setup minute timed = record {
    visit = λ _. visit-form date setup.date_spec minute timed;
    parent = λ other. absurd (other refl);
    request = λ _. refl;
    some = λ _ e. cc;
  }

  -- an entry in a group
  grouped : (panel : Panel) (has_key : Bool) (parent label : List ℕ) → has_groups panel ≡ true → parent ≢ [] → label ≢ [] → IsFormed date (row panel has_key parent label false)
  grouped panel has_key parent label has some also = record {
    visit = λ e. let clash : true ≡ false = sym has ∙ ap has_groups e in cc;
    parent = λ _. (λ e. absurd (some e), λ none. let clash : true ≡ false = sym has ∙ none in cc);
    request = λ _. refl;
    some = λ _. also;
  }

pub rows_formed : (setup : PanelSetup) (rec : Record) (facts : Facts) → IfSome rec.minute (λ m. m < 1440) → HasNames facts.agent → AllByRecursion (λ row. row.has_key ≡ true → IsFormed rec.date row) (table setup rec facts)
rows_formed setup rec facts timed named =
    let date = rec.date in (
      λ _. visit date setup rec.minute timed,
      (
        λ _. single date Requests _ _ true refl (λ e. cc) (λ e. cc),
        (
          λ _. single date RequestsStatic _ _ true refl (λ e. cc) (λ e. cc),
          (
            λ _. single date NotFound _ _ true refl (λ e. cc) (λ e. cc),
            (
              λ _. single date Hosts _ _ false refl (λ e. cc) (λ _. refl),
              (
                λ _. grouped date Os _ _ _ refl named.system_group named.system,
                (
                  λ _. grouped date Browsers _ _ _ refl named.category named.browser,
                  (
                    λ _. single date VisitTimes _ _ false refl (λ e. cc) (λ _. refl),
                    (
                      λ _. single date VirtualHosts _ _ false refl (λ e. cc) (λ _. refl),
                      (
                        λ _. single date Referrers _ _ false refl (λ e. cc) (λ _. refl),
                        (
                          λ _. single date ReferringSites _ _ false refl (λ e. cc) (λ _. refl),
                          (
                            λ _. single date Keyphrases _ _ false refl (λ e. cc) (λ _. refl),
                            (
                              λ _. grouped date StatusCodes _ _ _ refl (status_group_some rec.status) (λ e. cc),
                              (
                                λ _. single date RemoteUser _ _ false refl (λ e. cc) (λ _. refl),
                                (
                                  λ _. single date CacheStatus _ _ false refl (λ e. cc) (λ _. refl),
                                  (
                                    λ has. grouped date MimeType _ _ _ refl (or_unknown_some (before_slash rec.mime)) (present_some rec.mime has),
                                    (
                                      λ _. single date TlsType _ _ false refl (λ e. cc) (λ _. refl),
                                      tt,
                                    ),
                                  ),
                                ),
                              ),
                            ),
                          ),
                        ),
                      ),
                    ),
                  ),
                ),
              ),
            ),
          ),
        ),
      ),
    )
