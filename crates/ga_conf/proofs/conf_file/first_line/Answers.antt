use Rattle.std.proofs.Common.{◌+◌, sym, ◌∙◌}
use Rattle.std.proofs.lemmas.List.{take_rest}
use Rattle.ga_conf.proofs.FirstLine.{ended, unended}
use Rattle.ga_conf.proofs.conf_file.first_line.Goals as goal

pub returns-in-Some : goal.returns-in-Some
returns-in-Some c =
    ended c.args.text.now _ _ c.in-Some.end (sym c.first_feed.ensures ∙ c.in-Some.is) c.without_return.ensures (take_rest c.args.text.now (c.in-Some.end + 1))

pub returns-in-None : goal.returns-in-None
returns-in-None c = unended c.args.text.now c.requires (sym c.first_feed.ensures ∙ c.in-None.is)
