use Rattle.std.proofs.Common.{arith, refl, sym, ap, ◌∙◌}
use Rattle.ga_ports.specs.declared.contents.Content.{Content}
use Rattle.ga_ports.proofs.Places.{bytes_at-within, bytes_at-past}
use Rattle.ga_ports.proofs.contents.open_bytes.Goals as goal
use Rattle.ga_ports.proofs.contents.open_bytes.Goals.{in_default-via-in-Some+else-place-contents, in_default-via-in_default}

pub returns-in-Some : goal.returns-in-Some
returns-in-Some c =
    rw (c.in-Some.is, bytes_at-within c.args.contents.now c.in-Some.place c.index-contents-place.result (omega arith) c.index-contents-place.is)
    (c.deref.ensures.value ∙ sym (ap (λ (c : Content). c.bytes.items) c.index-contents-place.is))

pub returns-in_default : goal.returns-in_default
returns-in_default c =
    elim c.in_default.branch [
      | in_default-via-in-Some+else-place-contents w ↦ rw (w.in-Some.is, bytes_at-past c.args.contents.now w.in-Some.place (omega arith)) refl
      | in_default-via-in_default w ↦ rw w.in_default.is refl
    ]
