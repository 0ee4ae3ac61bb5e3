use Rattle.net_simplify.specs.private.Marks.{HasLabelsTo}
use Rattle.net_simplify.proofs.rebuilding.add_labels.Given as goal

abbrev pub invariant-loop-number : goal.invariant-loop-number
invariant-loop-number l = HasLabelsTo l.net l.number l.maker
