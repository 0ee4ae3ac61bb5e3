use Rattle.std.proofs.Common.{◌≡◌, ◌%◌, ◌∙◌, refl, sym, ap, arith, take, add-one}
use native.Mathlib.Nat.{mod-eq_of_lt}
use Rattle.std.proofs.lemmas.List.{length-take-le, get_or-take}
use Rattle.gf_field.specs.Trace.{frobenius, trace}
use Rattle.gf_field.specs.laws.TraceLaws.{trace_at_most_one}
use Rattle.gf_basis.specs.private.TraceWord.{parity, parity_word}
use Rattle.gf_basis.proofs.ParityLaws.{form_first, form_next, mask_first, mask_next}
use Rattle.gf_basis.proofs.duals.trace_mask.Goals as goal

pub loop-init : goal.loop-init
loop-init g c = record { forms = form_first _ _; masks = mask_first _ _ }

pub loop-preserved : goal.loop-preserved
loop-preserved g c =
    let law = g.met.F.Ring.laws c.args.field.now in
    let k = g.F.Ring.degree c.args.field.now in let mul = g.F.Ring.product c.args.field.now in
    let inv = c.loop.invariant in
    record {
      forms = λ y h. ap (λ form. parity form y) (c.parities-form.ensures.word ∙ ap (λ n. parity_word (take n c.unit_squares-squares.result) c.loop.form) c.k.ensures)
          ∙ form_next k mul law (take k c.unit_squares-squares.result) c.loop.form c.loop.counter (length-take-le k c.unit_squares-squares.result (omega (arith, law.small)))
          (λ j l. get_or-take k c.unit_squares-squares.result j 0 l ∙ c.unit_squares-squares.ensures j l) inv.forms y h
          ∙ ap (λ n. frobenius mul n y % 2) (sym (add-one c.loop.counter));
      masks = λ y h. mask_next k mul law c.loop.mask c.loop.form c.loop.counter 64 (omega arith) (omega arith) inv.forms inv.masks y h
          ∙ ap (λ n. trace mul n y % 2) (sym (add-one c.loop.counter));
    }

pub returns : goal.returns
returns g c =
    let law = g.met.F.Ring.laws c.args.field.now in let field = g.met.F.Field.no_zero_divisors c.args.field.now in
    let k = g.F.Ring.degree c.args.field.now in let mul = g.F.Ring.product c.args.field.now in
    let done : c.loop.counter ≡ k = omega (arith, c.k-end.ensures) in
    λ y h. c.loop.invariant.masks y h ∙ ap (λ n. trace mul n y % 2) done
    ∙ mod-eq_of_lt (let small = trace_at_most_one k mul law field y (trace mul k y) h refl in omega arith)
