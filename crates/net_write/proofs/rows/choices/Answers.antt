use Rattle.std.proofs.Common.{arith}
use Rattle.std.proofs.Math.Pow.{pow_mono}
use Rattle.std.proofs.lemmas.Nat.{one_shl}
use Rattle.net_write.proofs.rows.choices.Goals as goal

pub returns-clause-count : goal.returns-clause-count
returns-clause-count c = one_shl c.args.inputs 32 (omega (arith, c.requires))

pub returns-clause-few : goal.returns-clause-few
returns-clause-few c = omega (arith, one_shl c.args.inputs 32 (omega (arith, c.requires)), pow_mono {i = c.args.inputs} {j = 6} c.requires)
