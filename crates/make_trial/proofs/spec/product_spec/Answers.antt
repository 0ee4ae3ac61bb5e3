use Rattle.std.proofs.Common.{◌≡◌, ◌≤◌, ap, sym, subst, ℕ, length, arith}
use Rattle.poly_mixed.specs.Labels.{Labelling}
use Rattle.spec_expand.specs.Specification.{SpecTerms, IsOverWords}
use Rattle.make_trial.proofs.SpecLemmas.{product_over}
use Rattle.make_trial.proofs.spec.product_spec.Goals as goal

pub returns-in-Ok-clause-over : goal.returns-in-Ok-clause-over
returns-in-Ok-clause-over g c =
    let k = g.F.Ring.degree c.args.field.now in
    let words = length c.args.labels.now.words in
    let count : words ≡ 2 = ap (λ (l : Labelling). length l.words) c.requires in
    let two : 2 ≤ words = omega (arith, count) in
    let P : SpecTerms → Type 0 = IsOverWords k words in
    subst P (sym c.in-Ok.ensures) (product_over k words (g.met.F.Ring.laws c.args.field.now).some two)
