-- What the code's own table of options means, and which setting each of its entries makes.
use Rattle.std.specs.Prelude.{◌≡◌, ℕ, true, false, Some, List, [], ◌∷◌, ◌++◌, slice_set, ◌⊎◌}
use Rattle.ga_base.specs.Panels.{panel_number}
use Rattle.ga_base.specs.declared.date_spec.DateSpec.{DateSpec}
use Rattle.ga_base.specs.declared.hour_spec.HourSpec.{HourSpec}
use Rattle.ga_words.specs.declared.settings.Settings.{Settings}
use Rattle.ga_words.specs.declared.settings.Output.{Output}
use Rattle.ga_words.specs.declared.settings.Kind.{Kind}
use Rattle.ga_words.specs.declared.fault.WordFault.{WordFault}
use Rattle.ga_words.specs.declared.fault.WordFault.TheVariants.{BadValue, NoMemory}
use Rattle.ga_words.specs.declared.options.Takes.{Takes as CodeTakes}
use Rattle.ga_words.specs.declared.options.Takes.TheVariants as C
use Rattle.ga_words.specs.declared.options.Flag.{Flag as CodeFlag}
use Rattle.ga_words.specs.declared.options.Flag.TheVariants as F
use Rattle.ga_words.specs.declared.options.Format.{Format as CodeFormat}
use Rattle.ga_words.specs.declared.options.Format.TheVariants as T
use Rattle.ga_words.specs.declared.options.Name.{Name as CodeName}
use Rattle.ga_words.specs.declared.options.Name.TheVariants as N
use Rattle.ga_words.specs.declared.options.Number.{Number as CodeNumber}
use Rattle.ga_words.specs.declared.options.Number.TheVariants as M
use Rattle.ga_words.specs.Options.{Takes}
use Rattle.ga_words.specs.Options.Takes.{Flag, Format, Name, Number, Status, Target, Addresses, OfPanel, OneOf}
use Rattle.ga_words.specs.Options.{IsOutside, date_specs, hour_specs}

-- the target that a kind and a name make
abbrev pub output_in : Kind → List ℕ → Output
output_in kind name = record { kind = kind; name = name }

abbrev pub with_flag : CodeFlag → Settings → Settings
with_flag F.AllStatic s = record s { all_static = true }
with_flag F.NoQuery s = record s { no_query = true }
with_flag F.IgnoreCrawlers s = record s { ignore_crawlers = true }
with_flag F.NoIpValidation s = record s { no_ip_validation = true }
with_flag F.NoStrictStatus s = record s { strict_status = false }
with_flag F.Count4xx s = record s { count_4xx = true }
with_flag F.As404 s = record s { as_404 = true }
with_flag F.DoubleDecode s = record s { double_decode = true }
with_flag F.Persist s = record s { persist = true }
with_flag F.Restore s = record s { restore = true }

abbrev pub with_format : CodeFormat → List ℕ → Settings → Settings
with_format T.Log text s = record s { log_format = Some text }
with_format T.Date text s = record s { date_format = text }
with_format T.Time text s = record s { time_format = text }

abbrev pub with_name : CodeName → List ℕ → Settings → Settings
with_name N.BrowsersFile name s = record s { browsers_file = Some name }
with_name N.ConfigFile name s = record s { config_file = Some name }
with_name N.StaticFile name s = record s { statics = s.statics ++ name ∷ [] }
with_name N.DbPath name s = record s { db_path = name }

abbrev pub with_number : CodeNumber → ℕ → Settings → Settings
with_number M.MaxItems n s = record s { max_items = n }
with_number M.Jobs n s = record s { jobs = n }
with_number M.Chunk n s = record s { chunk = n }
with_number M.Keep n s = record s { keep = n }
with_number M.Generate n s = record s { generate = Some n }

abbrev pub with_date_spec : DateSpec → Settings → Settings
with_date_spec spec s = record s { date_spec = spec }

abbrev pub with_hour_spec : HourSpec → Settings → Settings
with_hour_spec spec s = record s { hour_spec = spec }

-- what an entry of the code's table says
abbrev pub meaning : CodeTakes → Takes
meaning (C.Flag flag) = Flag (with_flag flag)
meaning (C.Format format) = Format (with_format format)
meaning (C.Name name) = Name (with_name name)
meaning (C.Number number low high) = Number low high (with_number number)
meaning C.Status = Status (λ status s. record s { ignore_status = s.ignore_status ++ status ∷ [] })
meaning C.Target = Target (λ output s. record s { output = output })
meaning C.Addresses = Addresses (λ range s. record s { ranges = s.ranges ++ range ∷ [] })
meaning C.DateSpec = OneOf date_specs
meaning C.HourSpec = OneOf hour_specs
meaning (C.OfPanel on) = OfPanel (λ panel s. record s { panels = slice_set s.panels (panel_number panel) on })

-- the fault is lack of memory, or the value at this place is none that the option takes
abbrev pub IsValueFault : CodeTakes → List ℕ → ℕ → WordFault → Type 0
IsValueFault takes value at fault = (fault ≡ NoMemory) ⊎ ((fault ≡ BadValue at) × IsOutside (meaning takes) value)
