use Rattle.poly_mixed.proofs.FieldLaws.{field_of}
use Rattle.std.proofs.Common.{IfOk, ℕ, ◌+◌, ◌-◌, ◌*◌, cond, List, length, take, drop, get_or, subst, sym, arith, rules}
use Rattle.lists.specs.laws.PowerLaws.{halved_subsets}
use Rattle.lists.specs.laws.TestLaws.{some_if_not_zero}
use Rattle.poly_mixed.specs.Table.{index, table_bit}
use Rattle.poly_mixed.specs.Polynomial.{IsPolynomialOf}
use Rattle.poly_mixed.proofs.SimpleLemmas.{leaf_element, turned, first_and_rest}
use Rattle.poly_mixed.proofs.table.+table_from.Goals as goal

pub constant-requires : goal.constant-requires
constant-requires g t c = leaf_element (field_of _ _ (g.met.F.Ring.laws c.args.field.now) (g.met.F.Field.no_zero_divisors c.args.field.now)) c.args.table c.args.base

pub table_from-requires : goal.table_from-requires
table_from-requires g t c κs within = let more = some_if_not_zero (length c.args.ranks.now) c.if-is_empty.ensures in (search rules, (search rules, (search rules, (omega arith, halved_subsets c.args.ranks.now c.args.step more c.requires.within))))

pub table_from-requires-2 : goal.table_from-requires-2
table_from-requires-2 g t c κs within = let more = some_if_not_zero (length c.args.ranks.now) c.if-is_empty.ensures in (search rules, (search rules, (search rules, (omega arith, halved_subsets c.args.ranks.now c.args.step more c.requires.within))))

pub returns : goal.returns
returns g t c =
    let f = (field_of _ _ (g.met.F.Ring.laws c.args.field.now) (g.met.F.Field.no_zero_divisors c.args.field.now)) in
    let rs = take (length c.args.ranks.now - 1) (drop 1 c.args.ranks.now) in
    let more = some_if_not_zero (length c.args.ranks.now) c.if-is_empty.ensures in
    let P : List ℕ → Type 0 = λ xs. IfOk c.choose.result (λ q. IsPolynomialOf (g.F.Ring.degree c.args.field.now) (g.F.Ring.product c.args.field.now) (λ p. cond (table_bit c.args.table (c.args.base + c.args.step * index p.is_one xs)) 1 0) q.terms) in
    subst P (sym (first_and_rest c.args.ranks.now more))
    (turned f c.args.table c.args.base c.args.step (get_or c.args.ranks.now 0 0) rs c.in_ok-low.low.terms c.in_ok-high.high.terms c.choose.result c.in_ok-low.ensures c.in_ok-high.ensures c.choose.ensures.reduced c.choose.ensures.choice)
