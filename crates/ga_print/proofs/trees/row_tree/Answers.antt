use Rattle.std.proofs.Common.{ap, sym, ◌∙◌}
use Rattle.serde_json.specs.Data.{Members, object, no_members}
use Rattle.ga_print.specs.Json.{children_of, item_members, object_of, put_all, row_tree}
use Rattle.ga_print.proofs.NoFloats.{put_all-append}
use Rattle.ga_print.proofs.trees.row_tree.Goals as goal

pub returns : goal.returns
unfolding row_tree object_of
returns c =
    c.from.ensures ∙ ap object (c.in_ok-put_children.ensures ∙ ap (λ (done : Members). put_all done (children_of c.args.groups c.items.result.now)) c.in_ok-members.ensures
    ∙ ap (λ children. put_all (put_all no_members (item_members c.args.row.now.item)) (children_of c.args.groups children)) c.items.ensures
    ∙ sym (put_all-append no_members (item_members c.args.row.now.item) (children_of c.args.groups c.args.row.now.children)))
