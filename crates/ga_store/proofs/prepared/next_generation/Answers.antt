use Rattle.std.proofs.Common.{◌∙◌, ◌+◌, ◌<◌, ◌^◌, List, ℕ, Some, length, map, refl, ap, subst}
use Rattle.ga_base.specs.declared.entry.Entry.{Entry}
use Rattle.ga_codec.specs.Shapes.{SpellSnapshot}
use Rattle.ga_codec.specs.Values.{entry_value}
use Rattle.ga_store.specs.Commit.{closed_part}
use Rattle.ga_store.specs.declared.side_parts.TheConstants.{LENGTH}
use Rattle.ga_store.proofs.Tails.{drop-appended}
use Rattle.ga_store.proofs.prepared.next_generation.Goals as goal

pub returns : goal.returns
returns c =
    let appends = c.in_ok-push_snapshot.ensures in
    let is = drop-appended LENGTH c.in_ok-part.part.items appends.bytes c.push_snapshot.new.out.items c.in_ok-part.ensures appends.appended in
    record {
      side = c.other_side.ensures;
      gate = refl;
      kind = refl;
      body = appends.bytes;
      size = subst (λ (b : List ℕ). length b < 2 ^ 64) is c.in_ok-end_part.ensures.size;
      tail = c.in_ok-end_part.ensures.part ∙ ap closed_part is;
      spells = subst (λ (entries : List Entry). SpellSnapshot appends.bytes (record { generation = c.args.position.generation + 1; keep = Some c.args.keep; summary = c.args.merged.now; entries = map entry_value entries })) c.items-entries.ensures appends.spells;
    }
