use Rattle.std.proofs.Common.{◌≤◌, ◌^◌, length, arith, one-mul}
use Rattle.std.proofs.Math.Nat.{pow-le-pow_right}
use Rattle.rato_reduce.proofs.monomials.monomials.Goals as goal

pub add_monomials-requires-clause-within : goal.add_monomials-requires-clause-within
add_monomials-requires-clause-within c = let le : 2 ^ length c.args.ranks.now ≤ 2 ^ 6 = pow-le-pow_right (omega arith) c.requires in omega (arith, one-mul (2 ^ length c.args.ranks.now))
