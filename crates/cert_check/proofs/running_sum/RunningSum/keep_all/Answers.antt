use Rattle.std.proofs.Common.{◌≡◌, ◌∙◌, ◌+◌, ◌∷◌, ap, sym, subst, ℕ, Some, [], drop, drop_of_length-le, arith}
use Rattle.std.specs.List.{AllByRecursion}
use Rattle.std.proofs.lemmas.List.{drop_more}
use Rattle.poly_mixed.specs.Monomial.{Monomial}
use Rattle.poly_mixed.specs.Polynomial.{Terms, IsTerm}
use Rattle.cert_check.specs.private.Held.{dual_of, form_value, rows_value}
use Rattle.cert_check.proofs.RowLemmas.{nothing_kept}
use Rattle.cert_check.proofs.running_sum.RunningSum.keep_all.Goals as goal

pub keep-requires-clause-term : goal.keep-requires-clause-term
keep-requires-clause-term g c =
    let n : ℕ = c.loop-term.term-index in
    let ts : Terms = c.args.terms.now in
    let item : Monomial × ℕ = c.term-item.result in
    let next : drop n ts ≡ item ∷ drop (n + 1) ts = drop_more ts n item c.loop-term-test.true ∙ ap (λ (t : Monomial × ℕ). t ∷ drop (n + 1) ts) (sym c.term-item.is) in
    let T : Terms → Type 0 = AllByRecursion (IsTerm (g.F.Ring.degree c.args.field.now)) in
    (subst T next c.loop-term.invariant.terms).0

pub returns-clause-values : goal.returns-clause-values
returns-clause-values g c p at =
    let k : ℕ = g.F.Ring.degree c.args.field.now in
    let mul : ℕ → ℕ → ℕ = g.F.Ring.product c.args.field.now in
    let dual : ℕ → ℕ → ℕ = dual_of c.args.circuit.now c.args.bases.now in
    let ts : Terms = c.args.terms.now in
    let past : drop c.loop-term.term-index ts ≡ [] = drop_of_length-le ts {i = c.loop-term.term-index} (omega (arith, c.loop-term-test.false)) in
    nothing_kept (g.met.F.Ring.laws c.args.field.now) (g.met.F.Field.no_zero_divisors c.args.field.now) p (rows_value k mul dual p c.loop-term.self.rows.items) (form_value k mul dual p (Some c.args.form.now)) (drop c.loop-term.term-index ts) past
    ∙ c.loop-term.invariant.values p at
