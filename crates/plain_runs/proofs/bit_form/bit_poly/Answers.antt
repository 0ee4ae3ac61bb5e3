use Rattle.std.proofs.Common.{◌≡◌, ◌∙◌, ap, sym, subst, ℕ, ◌<◌, ◌^◌, arith}
use Rattle.std.specs.Prelude.{slice_index}
use Rattle.lists.specs.laws.PowerLaws.{one_at_below}
use Rattle.poly_mixed.proofs.SharedLemmas.{frobenius_in, element_in}
use Rattle.stage_model.proofs.WordBitLemmas.{part_value, whole_value}
use Rattle.plain_runs.proofs.bit_form.bit_poly.Goals as goal

pub scaled_power-requires-clause-element : goal.scaled_power-requires-clause-element
scaled_power-requires-clause-element g c =
    let k : ℕ = g.F.Ring.degree c.args.field.now in
    let P : ℕ → Type 0 = λ x. x < 2 ^ k in
    let less : c.loop-j.j < k = omega (arith, c.loop-j-test.true, c.k-j-end.ensures) in
    subst P (sym (c.linear_of-linear.ensures.squares c.loop-j.j less))
    (frobenius_in k (g.F.Ring.product c.args.field.now) c.loop-j.j _ (g.met.F.Ring.laws c.args.field.now) (g.met.F.Field.no_zero_divisors c.args.field.now)
    (c.requires.over.dual.inside c.args.place (omega (arith, c.requires.place, c.requires.over.dual.size))))

pub scaled_power-requires-clause-exponent : goal.scaled_power-requires-clause-exponent
scaled_power-requires-clause-exponent g c =
    let less : c.loop-j.j < g.F.Ring.degree c.args.field.now = omega (arith, c.loop-j-test.true, c.k-j-end.ensures) in
    one_at_below c.loop-j.j (g.F.Ring.degree c.args.field.now) less (g.met.F.Ring.laws c.args.field.now).small

pub returns : goal.returns
returns g c =
    let k : ℕ = g.F.Ring.degree c.args.field.now in
    let mul : ℕ → ℕ → ℕ = g.F.Ring.product c.args.field.now in
    let last : c.loop-j.j ≡ k = omega (arith, c.loop-j-test.false, c.loop-j.auto.j-end, c.k-j-end.ensures) in
    record {
      reduced = c.loop-j.invariant.reduced;
      values = λ p d at bits.
          let x : ℕ = slice_index p.words c.args.word in
          c.loop-j.invariant.values p at
          ∙ (ap (part_value mul c.linear_of-linear.result x) last
          ∙ (whole_value k mul c.linear_of-linear.result x (g.met.F.Ring.laws c.args.field.now) (element_in k p c.args.word at c.requires.word)
          ∙ c.linear_of-linear.ensures.bit x d bits));
    }
