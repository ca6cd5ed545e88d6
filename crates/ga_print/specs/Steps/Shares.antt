-- The printed shares of an item.
use Rattle.std.specs.Prelude.{◌≡◌, string_bytes}
use Rattle.ga_report.specs.declared.report.Item.{Item}
use Rattle.ga_print.specs.Percents.{percent_text}
use Rattle.ga_print.specs.declared.csv_text.Shares.{Shares}

pub record AreShares (item : Item) (shares : Shares) : Type 0 where
  pub hits : string_bytes shares.hits ≡ percent_text item.hits_percent
  pub visitors : string_bytes shares.visitors ≡ percent_text item.visitors_percent
  pub bytes : string_bytes shares.bytes ≡ percent_text item.bytes_percent
