use Rattle.std.proofs.Common.{◌≡◌, ◌∙◌, ap, sym, refl, subst, ℕ, ◌<◌, ◌^◌, arith}
use Rattle.poly_mixed.proofs.FieldLaws.{field_of}
use Rattle.poly_mixed.proofs.SharedLemmas.{frobenius_in}
use Rattle.stage_model.proofs.WordBitLemmas.{part_value, exponent_is, whole_value}
use Rattle.word_subst.proofs.FormListLemmas.{IsPartForm, no_power, next_power}
use Rattle.word_subst.proofs.forms.form.Goals as goal

pub loop-j-init : goal.loop-j-init
loop-j-init g c = subst (IsPartForm (g.F.Ring.degree c.args.field.now) (g.F.Ring.product c.args.field.now) c.linear_of-linear.result 0) (sym c.zero-form.ensures) (no_power (g.F.Ring.degree c.args.field.now) (g.F.Ring.product c.args.field.now) c.linear_of-linear.result)

pub loop-j-preserved : goal.loop-j-preserved
loop-j-preserved g c =
    let k : ℕ = g.F.Ring.degree c.args.field.now in
    let mul : ℕ → ℕ → ℕ = g.F.Ring.product c.args.field.now in
    let P : ℕ → Type 0 = λ x. x < 2 ^ k in
    let less : c.loop-j.j < k = omega (arith, c.loop-j-test.true, c.k-j-end.ensures) in
    let in_field = subst P (sym (c.linear_of-linear.ensures.squares c.loop-j.j less))
    (frobenius_in k mul c.loop-j.j _ (g.met.F.Ring.laws c.args.field.now) (g.met.F.Field.no_zero_divisors c.args.field.now)
    (c.requires.over.dual.inside c.args.place (omega (arith, c.requires.place, c.requires.over.dual.size)))) in
    next_power (field_of k mul (g.met.F.Ring.laws c.args.field.now) (g.met.F.Field.no_zero_divisors c.args.field.now)) c.linear_of-linear.result c.loop-j.j _ _ c.loop-j.form _ less (exponent_is c.loop-j.j k less (g.met.F.Ring.laws c.args.field.now).small) refl in_field c.in_ok-add_power.ensures c.loop-j.invariant

pub returns : goal.returns
returns g c =
    let k : ℕ = g.F.Ring.degree c.args.field.now in
    let mul : ℕ → ℕ → ℕ = g.F.Ring.product c.args.field.now in
    let last : c.loop-j.j ≡ k = omega (arith, c.loop-j-test.false, c.loop-j.auto.j-end, c.k-j-end.ensures) in
    record {
      univariate = c.loop-j.invariant.univariate;
      linear = c.loop-j.invariant.is_linear;
      values = λ x d at bits. c.loop-j.invariant.values x at ∙ (ap (part_value mul c.linear_of-linear.result x) last ∙ (whole_value k mul c.linear_of-linear.result x (g.met.F.Ring.laws c.args.field.now) at ∙ c.linear_of-linear.ensures.bit x d bits));
    }
