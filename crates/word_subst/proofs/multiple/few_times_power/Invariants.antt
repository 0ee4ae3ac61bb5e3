use Rattle.std.proofs.Common.{◌≡◌, ◌++◌, drop}
use Rattle.word_subst.specs.Multiple.{multiplied}
use Rattle.word_subst.proofs.multiple.few_times_power.Given as goal

abbrev pub invariant-loop-e : goal.invariant-loop-e
invariant-loop-e g l = l.out ++ multiplied (g.F.Ring.degree l.field) (g.F.Ring.product l.field) (l.exponent, l.c) (drop l.e-index l.powers) ≡ multiplied (g.F.Ring.degree l.field) (g.F.Ring.product l.field) (l.exponent, l.c) l.powers
