use Rattle.net_simplify.specs.Form.{Form}
use Rattle.net_simplify.proofs.HalfLemmas.{left_by, left_form}
use Rattle.net_simplify.proofs.reducing.reduced.Goals as goal

pub returns-clause-form : goal.returns-clause-form
returns-clause-form c =
    let start : Form = record { leaves = c.args.leaves.items; table = c.args.table } in
    left_form start c.reduced_below.result c.reduced_below.ensures.few c.reduced_below.ensures.fits (c.reduced_below.ensures.left start (left_by start c.new-form.result c.places-places.result c.new-form.ensures c.places-places.ensures.count c.requires.rises))

pub returns-clause-same : goal.returns-clause-same
returns-clause-same c =
    let start : Form = record { leaves = c.args.leaves.items; table = c.args.table } in
    (c.reduced_below.ensures.left start (left_by start c.new-form.result c.places-places.result c.new-form.ensures c.places-places.ensures.count c.requires.rises)).same
