use Rattle.std.proofs.Common.{arith}
use Rattle.std.proofs.lemmas.Nat.{one_shl}
use Rattle.mult_composite.proofs.powers.y_of.Goals as goal

pub returns : goal.returns
returns c = one_shl c.args.n 64 (omega arith)
