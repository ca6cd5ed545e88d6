-- Sides that say the same have the same answers.
use Rattle.std.proofs.Common.{inl, inr, Option}
use Rattle.ga_disk.specs.Sides.{Sides}
use Rattle.ga_keep.specs.RunDatabase.{SidesHave}
use Rattle.ga_line.specs.declared.setup.LineSetup.{LineSetup}
use Rattle.ga_ports.specs.Files.{FilesView}
use Rattle.ga_store.specs.Database.{DbValue}
use Rattle.ga_store.specs.Database.Reading.{damaged, stored as reads_as}
use Rattle.ga_words.specs.declared.settings.Settings.{Settings}
use Rattle.ga_one_run.specs.OneRun.{SidesAgree}
use Rattle.ga_one_run.specs.Told.{Answers, Yield}
use Rattle.ga_one_run.specs.Told.Answers.{answers_rules, answers_damage, answers_differs, answers_full, answers_generation, answers_done}
use Rattle.ga_one_run.specs.declared.status.Status.{Status}

module _ {sides sides' : Sides} (agree : SidesAgree sides sides') where
  have-on : (s : Settings) (stored : DbValue) → SidesHave s sides' stored → SidesHave s sides stored
  have-on s stored (inl (uses, has)) = inl (uses, (agree (reads_as stored)).1 has)
  have-on s stored (inr (none, empty)) = inr (none, empty)

  pub answers-on : (line : LineSetup) (s : Settings) (files : FilesView) (status : Status) (yield : Option Yield) → Answers line s files sides' status yield → Answers line s files sides status yield
  answers-on line s files status yield (answers_rules h) = answers_rules h
  answers-on line s files status yield (answers_damage rules {side} {at} told uses h) = answers_damage rules told uses ((agree (damaged side at)).1 h)
  answers-on line s files status yield (answers_differs rules stored told has h) = answers_differs rules stored told (have-on s stored has) h
  answers-on line s files status yield (answers_full rules stored told has agrees h) = answers_full rules stored told (have-on s stored has) agrees h
  answers-on line s files status yield (answers_generation rules stored whole entries told has agrees h lacks) =
      answers_generation rules stored whole entries told (have-on s stored has) agrees h lacks
  answers-on line s files status yield (answers_done rules stored told has agrees h room is) = answers_done rules stored told (have-on s stored has) agrees h room is
