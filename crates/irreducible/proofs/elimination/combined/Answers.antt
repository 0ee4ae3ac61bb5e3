use Rattle.std.proofs.Common.{arith}
use Rattle.irreducible.proofs.MatrixLaws.{rest_one, rest_zero}
use Rattle.irreducible.proofs.elimination.combined.Goals as goal
use Rattle.irreducible.proofs.elimination.combined.Goals.{then-choice-i-eq1, else-choice-i-eq1}

pub loop-i-preserved : goal.loop-i-preserved
loop-i-preserved c = elim c.if-choice-i-eq1.branch [
  | then-choice-i-eq1 w ↦ rw (w.sum-is) (rest_one c.args.rows.now c.args.choice c.loop-i.sum c.loop-i.i (omega arith) w.if-choice-i-eq1.true c.loop-i.invariant)
  | else-choice-i-eq1 w ↦ rw (w.sum-is) (rest_zero c.args.rows.now c.args.choice c.loop-i.sum c.loop-i.i (omega arith) w.if-choice-i-eq1.false c.loop-i.invariant)
]
