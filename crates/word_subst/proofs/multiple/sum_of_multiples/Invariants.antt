use Rattle.std.proofs.Common.{◌≡◌, drop, bit_xor}
use Rattle.poly_mixed.specs.Polynomial.{IsElement}
use Rattle.word_subst.specs.Univariate.{IsUnivariate, value_of}
use Rattle.word_subst.proofs.multiple.sum_of_multiples.Given as goal

abbrev pub invariant-loop-exponent : goal.invariant-loop-exponent
invariant-loop-exponent g l =
    let k = g.F.Ring.degree l.field in
    let mul = g.F.Ring.product l.field in
    record {
      univariate : IsUnivariate k l.out;
      values : (x : _) → IsElement k x → bit_xor (value_of mul x l.out) (mul (value_of mul x l.left) (value_of mul x (drop l.exponent-index l.right))) ≡ mul (value_of mul x l.left) (value_of mul x l.right);
    }
