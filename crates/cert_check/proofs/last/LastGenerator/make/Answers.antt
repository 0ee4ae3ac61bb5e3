use Rattle.std.proofs.Common.{◌≡◌, subst, ℕ}
use Rattle.poly_mixed.specs.declared.steps.Generator.{Generator}
use Rattle.cert_check.specs.Running.{generator_value}
use Rattle.cert_check.specs.private.Held.{IsSplit}
use Rattle.cert_check.proofs.last.LastGenerator.make.Goals as goal

pub returns-then-is-clause-generator : goal.returns-then-is-clause-generator
returns-then-is-clause-generator g c = c.is.ensures c.if-is.true

pub returns-clause-last : goal.returns-clause-last
returns-clause-last g c h is =
    let k : ℕ = g.F.Ring.degree c.args.field.now in
    let mul : ℕ → ℕ → ℕ = g.F.Ring.product c.args.field.now in
    let same : c.args.generator ≡ h = cc in
    let P : Generator → Type 0 = λ x. IsSplit k mul c.args.circuit.now c.args.bases.now (generator_value k mul c.args.circuit.now c.args.bases.now x) c.in_ok-split.split.near.terms c.in_ok-split.split.form in
    subst P same c.in_ok-split.ensures
