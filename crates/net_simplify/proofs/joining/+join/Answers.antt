use Rattle.net_simplify.specs.private.Lists.{forms_of}
use Rattle.net_simplify.proofs.StepLemmas.{forms_over_first}
use Rattle.net_simplify.proofs.joining.+join.Goals as goal

pub returns-then-not-branch : goal.returns-then-not-branch
returns-then-not-branch t c = forms_over_first c.args.limit c.args.opened c.args.nets.now c.args.leaves.now.items _ c.leaves.result.now (forms_of c.args.known.now) c.taken-form.result.now _ c.in-len1-up.len_at_least c.taken-form.ensures (c.leaves.ensures.leaves) c.if-not-branch.true c.in_ok-add_leaves-in-len1-up.ensures
