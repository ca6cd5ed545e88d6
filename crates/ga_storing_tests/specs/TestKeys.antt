-- The keys of the tests.
use Rattle.std.specs.Prelude.{ℕ, List, []}
use Rattle.ga_base.specs.declared.key.Key.{Key}
use Rattle.ga_base.specs.declared.panel.Panel.TheVariants.{Hosts}

abbrev pub TEST_DAY : ℕ
TEST_DAY = 20240115

abbrev pub host_key : List ℕ → Key
host_key label = record { panel = Hosts; date = TEST_DAY; parent = []; label = label; method = []; protocol = [] }
