use Rattle.poly_mixed.proofs.FieldLaws.{field_of}
use Rattle.std.proofs.Common.{◌≡◌, ◌≤◌, ℕ, List, [], length, drop, sym, arith}
use Rattle.std.proofs.Math.ListN.{drop_of_length-le}
use Rattle.poly_mixed.specs.Polynomial.{powers}
use Rattle.poly_mixed.proofs.ValueLemmas.{one_element}
use Rattle.poly_mixed.proofs.evaluate.powers.Goals as goal

past : (mul : ℕ → ℕ → ℕ) (n : ℕ) (es ws : List ℕ) → length es ≤ n → 1 ≡ powers mul (drop n es) (drop n ws)
past mul n es ws h = let none : drop n es ≡ [] = drop_of_length-le es h in λ i. powers mul (sym none i) (drop n ws)

pub loop-i-init : goal.loop-i-init
loop-i-init g c = record {
  within = omega arith;
  value = past (g.F.Ring.product c.args.field.now) 8 c.args.exponents.now c.args.words.now (omega arith);
  element = one_element (field_of _ _ (g.met.F.Ring.laws c.args.field.now) (g.met.F.Field.no_zero_divisors c.args.field.now));
}
