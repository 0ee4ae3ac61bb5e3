use Rattle.poly_mixed.proofs.ExponentLemmas.{fits, below, wraps}
use Rattle.word_subst.proofs.multiple.sum_exponent.Goals as goal

pub overflow_sub-top-2 : goal.overflow_sub-top-2
overflow_sub-top-2 c = fits c.args.k c.args.b c.requires.some c.requires.most c.requires.right

pub overflow_sub-result : goal.overflow_sub-result
overflow_sub-result c = fits c.args.k c.args.b c.requires.some c.requires.most c.requires.right

pub returns-then-a-top : goal.returns-then-a-top
returns-then-a-top c = below c.args.k c.args.a c.args.b c.requires.some c.requires.most c.requires.right c.if-a-top.true

pub returns-else-a-top : goal.returns-else-a-top
returns-else-a-top c = wraps c.args.k c.args.a c.args.b c.requires.some c.requires.most c.requires.right c.if-a-top.false
