use Rattle.std.proofs.Common.{[], refl, sym, subst}
use Rattle.std.proofs.lemmas.List.{append-nil}
use Rattle.ga_conf.specs.Steps.{GivesAs}
use Rattle.ga_conf.proofs.FileLemmas.{line_given, line_refused}
use Rattle.ga_conf.proofs.conf_file.read_line.Goals as goal

pub returns-in-PassedOver-clause-ok : goal.returns-in-PassedOver-clause-ok
returns-in-PassedOver-clause-ok c =
    let s = c.in-Setting in (
      [],
      line_given c.args.line.now c.in-Some.line s.name s.value s.is c.in-Some.ensures [] (subst (GivesAs s.name.now s.value.now) c.in-PassedOver.is c.in_ok-setting_of.ensures),
      sym (append-nil c.args.words.now),
    )

pub returns-in-Refused-clause-fault : goal.returns-in-Refused-clause-fault
returns-in-Refused-clause-fault c =
    let s = c.in-Setting in
    (refl, line_refused c.args.line.now c.in-Some.line s.name s.value s.is c.in-Some.ensures (subst (GivesAs s.name.now s.value.now) c.in-Refused.is c.in_ok-setting_of.ensures))
