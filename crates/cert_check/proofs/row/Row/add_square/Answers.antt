use Rattle.std.proofs.Common.{sym, subst, ◌<◌, ◌≤◌, ◌*◌, ◌%◌, ◌^◌, ℕ, arith}
use Rattle.std.specs.List.{AllByRecursion}
use Rattle.lists.specs.laws.PowerLaws.{one_at_below}
use Rattle.poly_mixed.specs.Monomial.{Monomial}
use Rattle.cert_check.proofs.PartLemmas.{square_put, no_square}
use Rattle.cert_check.proofs.PlaceLemmas.{power_exponents}
use Rattle.cert_check.proofs.row.Row.add_square.Goals as goal

pub overflow_shl-j : goal.overflow_shl-j
overflow_shl-j g c = let small = (g.met.F.Ring.laws c.args.field.now).small in omega (arith, c.requires.j, small)

pub product-requires-clause-k_in : goal.product-requires-clause-k_in
product-requires-clause-k_in g c =
    let ring = g.met.F.Ring.laws c.args.field.now in
    let Q : ℕ → Type 0 = λ n. (1 ≤ n) × (n ≤ 64) in
    subst Q (sym c.k.ensures) (ring.some, ring.small)

pub product-requires-clause-left : goal.product-requires-clause-left
product-requires-clause-left g c =
    let Q : ℕ → Type 0 = λ n. AllByRecursion (λ e. e < 2 ^ n) c.args.self.now.mono.exponents in
    subst Q (sym c.k.ensures) c.requires.row.monomial.exponents

pub product-requires-clause-right : goal.product-requires-clause-right
product-requires-clause-right g c =
    let k : ℕ = g.F.Ring.degree c.args.field.now in
    let ring = g.met.F.Ring.laws c.args.field.now in
    let Q : ℕ → Type 0 = λ n. AllByRecursion (λ e. e < 2 ^ n) c.in_ok-power.power.exponents in
    subst Q (sym c.k.ensures) (let R : Monomial → Type 0 = λ m. AllByRecursion (λ e. e < 2 ^ k) m.exponents in
    subst R (sym c.in_ok-power.ensures) (power_exponents k c.args.self.now.word ((1 * 2 ^ c.args.j) % 2 ^ 64) (one_at_below c.args.j k c.requires.j ring.small)))

pub returns-in_ok-add_term : goal.returns-in_ok-add_term
returns-in_ok-add_term g c =
    square_put (g.F.Ring.degree c.args.field.now) c.k.result c.args.j c.args.c c.args.self.now c.in_ok-power.power c.in_ok-mono.mono c.args.poly.now.terms c.add_term.new.self.terms c.requires.j (g.met.F.Ring.laws c.args.field.now).small c.k.ensures c.in_ok-power.ensures c.in_ok-mono.ensures c.if-c-ne0.true c.in_ok-add_term.ensures

pub returns-else-c-ne0 : goal.returns-else-c-ne0
returns-else-c-ne0 g c = no_square (g.F.Ring.degree c.args.field.now) c.args.j c.args.c c.args.self.now c.args.poly.now.terms c.if-c-ne0.false
