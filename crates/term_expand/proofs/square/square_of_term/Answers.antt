use Rattle.std.proofs.Common.{◌≡◌, ◌∙◌, ap, ℕ, []}
use Rattle.poly_mixed.specs.Monomial.{Monomial}
use Rattle.poly_mixed.specs.Polynomial.{term_value}
use Rattle.poly_mixed.specs.Sum.{with_coefficient}
use Rattle.term_expand.proofs.SquareLemmas.{both_ok, single, square_from}
use Rattle.term_expand.proofs.square.square_of_term.Goals as goal

pub returns : goal.returns
returns g c =
    let k : ℕ = g.F.Ring.degree c.args.field.now in
    let mul : ℕ → ℕ → ℕ = g.F.Ring.product c.args.field.now in
    let ring = g.met.F.Ring.laws c.args.field.now in
    let free = g.met.F.Field.no_zero_divisors c.args.field.now in
    let t : Monomial × ℕ = c.args.term.now in
    let mono : Monomial = t.0 in
    let exponents = c.exponents.ensures.value ∙ ap (λ (m : Monomial). m.exponents) c.mono-mono.ensures in
    let bits = c.bits.ensures.value ∙ ap (λ (m : Monomial). m.bits) c.mono-mono.ensures in
    let same : c.in_ok-copy.copy ≡ mono = c.in_ok-copy.ensures ∙ (λ i. record { exponents = exponents i; bits = bits i }) in
    let is : c.in_ok-single.single.terms ≡ with_coefficient t.0 t.1 [] = c.in_ok-single.ensures ∙ (λ i. with_coefficient (same i) (c.coefficient.ensures i) []) in
    let here = single k mul ring free t c.in_ok-single.single.terms c.requires is in
    both_ok c.mul.result _ _ _ (λ q reduced values. square_from k mul ring free (λ p. term_value mul p t) c.in_ok-single.single.terms q.terms here reduced values) c.mul.ensures.reduced c.mul.ensures.values
