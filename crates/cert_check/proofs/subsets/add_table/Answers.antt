use Rattle.std.proofs.Common.{◌≤◌, ◌^◌, length, arith, one-mul}
use Rattle.std.proofs.Math.Nat.{pow-le-pow_right}
use Rattle.std.specs.List.Sorted.{IsStrictlySortedBy}
use Rattle.cert_check.proofs.subsets.add_table.Goals as goal

pub add_sets-requires-clause-within : goal.add_sets-requires-clause-within
add_sets-requires-clause-within g c = let le : 2 ^ length c.args.ranks.now ≤ 2 ^ 6 = pow-le-pow_right (omega arith) c.requires.few in omega (arith, one-mul (2 ^ length c.args.ranks.now))

pub add_sets-requires-clause-set : goal.add_sets-requires-clause-set
unfolding IsStrictlySortedBy
add_sets-requires-clause-set g c = tt
