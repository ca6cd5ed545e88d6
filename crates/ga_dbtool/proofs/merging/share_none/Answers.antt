use Rattle.std.proofs.Common.{ℕ, List, Option, MatchOption, map, subst}
use Rattle.ga_base.specs.declared.entry.Entry.{Entry}
use Rattle.ga_codec.specs.Values.{entry_value}
use Rattle.ga_dbtool.specs.Merged.{ShareFirst, ShareNone}
use Rattle.ga_dbtool.proofs.merging.share_none.Goals as goal

pub returns-in-None-clause-ok : goal.returns-in-None-clause-ok
returns-in-None-clause-ok c =
    let xs = map entry_value c.items.result.now in
    let ys = map entry_value c.items-2.result.now in
    let shown = subst (λ (o : Option (ℕ × ℕ)). MatchOption o (ShareNone xs ys) (λ places. ShareFirst xs ys places.0 places.1)) c.in-None.is c.first_shared.ensures in
    subst (λ (es : List Entry). ShareNone (map entry_value es) (map entry_value c.args.right.now.entries)) c.items.ensures
    (subst (λ (es : List Entry). ShareNone xs (map entry_value es)) c.items-2.ensures shown)
