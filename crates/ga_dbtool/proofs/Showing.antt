-- From a call that writes a text to what was printed.
use Rattle.std.proofs.Common.{◌≡◌, ℕ, List, refl, sym, ap, ◌∙◌}
use Rattle.ga_ports.specs.Outs.{OutsView, TargetView, fails_once, takes}
use Rattle.ga_ports.specs.declared.outs.To.TheVariants.{Stdout}
use Rattle.std.specs.Prelude.{take}
use Rattle.ga_targets.specs.Printing.{ChangesOnly, Stops, printed}
use Rattle.ga_dbtool.specs.Ends.{but_errors}
use Rattle.ga_dbtool.specs.Steps.Parts.{Shows}
use Rattle.ga_dbtool.specs.Steps.Parts.Shows.{all, front}
use Rattle.ga_dbtool.specs.declared.status.DbStatus.TheVariants.{Done, OutFault}

-- what standard error took, and the numbers of calls, are those of the view itself
as-new : (old new : OutsView) (x : TargetView) (calls starved : ℕ) → new ≡ record old { stdout = x; calls = calls; starved = starved } → new ≡ but_errors new (record old { stdout = x })
as-new old new x calls starved e =
    e ∙ (λ i. record old { stdout = x; stderr = sym (ap (λ (v : OutsView). v.stderr) e) i; calls = sym (ap (λ (v : OutsView). v.calls) e) i; starved = sym (ap (λ (v : OutsView). v.starved) e) i })

pub shows-all : (text : List ℕ) (old new : OutsView) → new ≡ printed Stdout text new.calls old → Shows text old new Done
shows-all text old new e = all (as-new old new (takes text old.stdout) new.calls old.starved e)

pub shows-front : (text : List ℕ) (at : ℕ) (old new : OutsView) → Stops at text old.stdout new.stdout → ChangesOnly Stdout old new → Shows text old new (OutFault Stdout at)
shows-front text at old new stops others =
    front (
      refl,
      stops.early,
      as-new old new (fails_once (takes (take at text) old.stdout)) new.calls new.starved
          (others ∙ ap (λ (x : TargetView). record old { stdout = x; calls = new.calls; starved = new.starved }) stops.front),
    )
