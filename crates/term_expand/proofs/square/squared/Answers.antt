use Rattle.std.proofs.Common.{◌≡◌, subst, ℕ, Some, arith}
use Rattle.std.specs.Prelude.{slice_get}
use Rattle.lists.specs.laws.ReadLaws.{got_read}
use Rattle.poly_mixed.specs.Monomial.{Monomial}
use Rattle.poly_mixed.specs.Polynomial.{Terms}
use Rattle.term_expand.proofs.SquareLemmas.{squares_none, squares_more}
use Rattle.term_expand.proofs.square.squared.Goals as goal

pub loop-i-init : goal.loop-i-init
loop-i-init g c =
    let k : ℕ = g.F.Ring.degree c.args.field.now in
    let mul : ℕ → ℕ → ℕ = g.F.Ring.product c.args.field.now in
    let ring = g.met.F.Ring.laws c.args.field.now in
    let free = g.met.F.Field.no_zero_divisors c.args.field.now in
    squares_none k mul ring free c.args.poly.now.terms c.zero-sum.result.terms c.zero-sum.ensures

pub loop-i-preserved : goal.loop-i-preserved
loop-i-preserved g c =
    let k : ℕ = g.F.Ring.degree c.args.field.now in
    let mul : ℕ → ℕ → ℕ = g.F.Ring.product c.args.field.now in
    let ring = g.met.F.Ring.laws c.args.field.now in
    let free = g.met.F.Field.no_zero_divisors c.args.field.now in
    let ts : Terms = c.args.poly.now.terms in
    let i : ℕ = c.loop-i.i in
    let t : Monomial × ℕ = c.index.result.now in
    let P : Terms → Type 0 = λ us. slice_get us i ≡ Some t in
    let at : slice_get ts i ≡ Some t = subst P c.in_ok-terms.ensures (got_read c.in_ok-terms.terms.items i t (omega (arith, c.loop-i-test.true, c.len-i-end.ensures)) c.index.ensures) in
    squares_more k mul ring free ts c.loop-i.sum.terms c.in_ok-square.square.terms c.add_into.new.self.terms i t at c.loop-i.invariant c.in_ok-square.ensures c.in_ok-add_into.ensures.reduced c.in_ok-add_into.ensures.values
