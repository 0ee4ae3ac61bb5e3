use Rattle.std.proofs.Common.{arith}
use Rattle.net_simplify.proofs.BitLemmas.{pushed_below, pushed_fits, pushed_here, pushed_small}
use Rattle.net_simplify.proofs.halves.with_value.Goals as goal

pub overflow_add-result : goal.overflow_add-result
overflow_add-result c = omega (arith, pushed_fits c.args.table c.args.value c.args.index c.requires.value c.requires.index c.requires.fits)

pub returns-clause-fits : goal.returns-clause-fits
returns-clause-fits c = pushed_small c.args.table c.args.value c.args.index c.requires.value c.requires.index c.requires.fits

pub returns-clause-here : goal.returns-clause-here
returns-clause-here c = pushed_here c.args.table c.args.value c.args.index c.requires.value c.requires.index c.requires.fits

pub returns-clause-below : goal.returns-clause-below
returns-clause-below c = pushed_below c.args.table c.args.value c.args.index c.requires.value c.requires.index
