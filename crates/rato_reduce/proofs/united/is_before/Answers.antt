use Rattle.std.proofs.Common.{get_or, arith}
use Rattle.std.proofs.lemmas.Bool.{ltb-true}
use Rattle.rato_reduce.proofs.united.is_before.Goals as goal

pub returns-then-bits-gt0 : goal.returns-then-bits-gt0
returns-then-bits-gt0 c before some = ltb-true c.args.rank (get_or c.args.bits.now 0 0) before

pub returns : goal.returns
returns c before some = absurd (omega (arith, some, c.if-bits-gt0.false))
