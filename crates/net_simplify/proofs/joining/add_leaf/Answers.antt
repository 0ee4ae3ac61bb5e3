use Rattle.std.proofs.Common.{◌∙◌, ap, sym}
use Rattle.net_simplify.specs.private.Lists.{is_at_place, leaf_place}
use Rattle.net_simplify.proofs.StepLemmas.{leaf_added, leaf_kept}
use Rattle.net_simplify.proofs.joining.add_leaf.Goals as goal

pub returns : goal.returns
returns c =
    leaf_added c.args.leaf c.place_of-place.result c.args.leaves.now.items _ c.stands_at.result
    (c.place_of-place.ensures.place ∙ ap (leaf_place c.args.leaf) c.as_slice.ensures)
    (c.stands_at.ensures ∙ ap (λ xs. is_at_place xs c.place_of-place.result c.args.leaf) c.as_slice-2.ensures)
    c.if-stands_at.false c.in_ok-insert.ensures.ok

pub returns-then-stands_at : goal.returns-then-stands_at
returns-then-stands_at c =
    leaf_kept c.args.leaf c.place_of-place.result c.args.leaves.now.items c.stands_at.result
    (c.place_of-place.ensures.place ∙ ap (leaf_place c.args.leaf) c.as_slice.ensures)
    (c.stands_at.ensures ∙ ap (λ xs. is_at_place xs c.place_of-place.result c.args.leaf) c.as_slice-2.ensures)
    c.if-stands_at.true
