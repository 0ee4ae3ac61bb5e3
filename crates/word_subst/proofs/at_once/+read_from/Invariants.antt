use Rattle.std.proofs.Common.{◌-◌}
use Rattle.word_subst.proofs.at_once.+read_from.Given as goal

abbrev pub decreases-read_from : goal.decreases-read_from
decreases-read_from g l = g.F.Ring.degree l.field.now - l.place
