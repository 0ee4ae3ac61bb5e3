use Rattle.std.proofs.Common.{refl, ◌-◌}
use Rattle.net_simplify.proofs.HalfLemmas.{left_more}
use Rattle.net_simplify.proofs.reducing.+reduced_below.Goals as goal

pub returns-else-place-eq0-clause-left : goal.returns-else-place-eq0-clause-left
returns-else-place-eq0-clause-left t c = λ start is. c.reduced_below.ensures.left start (left_more start c.args.form c.without_idle.result c.args.place (c.args.place - 1) refl c.if-place-eq0.false is c.without_idle.ensures.reduces)
