use Rattle.poly_mixed.proofs.FieldLaws.{field_of}
use Rattle.std.proofs.Common.{sym, ◌∙◌, ap, subst}
use Rattle.std.proofs.lemmas.Result.{on_ok_weaker}
use Rattle.poly_mixed.specs.Polynomial.{Terms, IsReduced, value}
use Rattle.poly_mixed.proofs.SimpleLemmas.{one_rank_rises}
use Rattle.rato_reduce.proofs.ProductLemmas.{reduced_bit, value_bit}
use Rattle.rato_reduce.proofs.in_buckets.put_bit.Goals as goal

pub add-requires-clause-rising : goal.add-requires-clause-rising
add-requires-clause-rising g c = one_rank_rises c.args.rank

pub returns-clause-reduced : goal.returns-clause-reduced
returns-clause-reduced g c =
    let degree = g.F.Ring.degree c.args._field.now in
    let f = field_of degree (g.F.Ring.product c.args._field.now) (g.met.F.Ring.laws c.args._field.now) (g.met.F.Field.no_zero_divisors c.args._field.now) in
    let P : Terms → Type 0 = IsReduced degree in
    on_ok_weaker c.add.result (λ e. subst P (sym e) (reduced_bit f c.args.sum.now.terms c.args.rank c.args.element c.requires.sum c.requires.element c.if-element-eq0.false)) c.add.ensures

pub returns-clause-values : goal.returns-clause-values
returns-clause-values g c =
    let degree = g.F.Ring.degree c.args._field.now in
    let mul = g.F.Ring.product c.args._field.now in
    let f = field_of degree mul (g.met.F.Ring.laws c.args._field.now) (g.met.F.Field.no_zero_divisors c.args._field.now) in
    on_ok_weaker c.add.result (λ e p at. ap (λ (ts : Terms). value mul p ts) e ∙ value_bit f c.args.sum.now.terms c.args.rank c.args.element c.requires.sum c.requires.element c.if-element-eq0.false p at) c.add.ensures
