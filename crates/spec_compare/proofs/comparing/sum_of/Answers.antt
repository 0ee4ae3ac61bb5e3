use Rattle.std.proofs.Common.{sym, subst}
use Rattle.std.proofs.lemmas.Result.{IfOk-weaker}
use Rattle.poly_mixed.specs.Polynomial.{IsReduced, Terms}
use Rattle.poly_mixed.proofs.FieldLaws.{field_of}
use Rattle.poly_mixed.proofs.SimpleLemmas.{reduced_nothing}
use Rattle.spec_compare.proofs.ComparedLemmas.{moved_sum, sum_is}
use Rattle.spec_compare.proofs.comparing.sum_of.Goals as goal

pub add_into-requires-clause-over : goal.add_into-requires-clause-over
add_into-requires-clause-over g c =
    let P : Terms → Type 0 = IsReduced (g.F.Ring.degree c.args.field.now) in
    subst P (sym c.zero-sum.ensures) (reduced_nothing (field_of _ _ (g.met.F.Ring.laws c.args.field.now) (g.met.F.Field.no_zero_divisors c.args.field.now)))

pub returns : goal.returns
returns g c =
    let k = g.F.Ring.degree c.args.field.now in
    let mul = g.F.Ring.product c.args.field.now in
    let left = c.args.left.now.terms in
    let right = c.args.right.now.terms in
    let sum = c.add_into-2.new.self.terms in
    let first = c.in_ok-add_into.ensures in
    let second = c.in_ok-add_into-2.ensures in
    let is = sum_is k mul left right c.zero-sum.result.terms c.add_into.new.self.terms sum c.zero-sum.ensures c.requires.left c.requires.right second.reduced first.map second.map first.values second.values in
    IfOk-weaker c.terms.result _ _ (λ list same. moved_sum k mul left right sum list.items same is) c.terms.ensures
