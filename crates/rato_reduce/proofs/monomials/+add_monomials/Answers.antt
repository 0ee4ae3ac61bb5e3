use Rattle.std.proofs.Common.{length, arith, rules}
use Rattle.lists.specs.laws.PowerLaws.{halved_subsets}
use Rattle.lists.specs.laws.TestLaws.{some_if_not_zero}
use Rattle.rato_reduce.proofs.monomials.+add_monomials.Goals as goal

pub add_monomials-requires : goal.add_monomials-requires
add_monomials-requires t c = let more = some_if_not_zero (length c.args.ranks.now) c.if-is_empty.ensures in (search rules, (omega arith, halved_subsets c.args.ranks.now c.args.step more c.requires.within))

pub add_monomials-requires-2 : goal.add_monomials-requires-2
add_monomials-requires-2 t c = let more = some_if_not_zero (length c.args.ranks.now) c.if-is_empty.ensures in (search rules, (omega arith, halved_subsets c.args.ranks.now c.args.step more c.requires.within))
