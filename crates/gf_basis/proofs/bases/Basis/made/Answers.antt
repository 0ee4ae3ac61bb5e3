use Rattle.std.proofs.Common.{◌≡◌, ◌<◌, ◌^◌, ◌∙◌, refl, sym, ap, arith, length, length-set, take, subst}
use Rattle.std.proofs.lemmas.Nat.{one_shl, pow_below}
use Rattle.irreducible.specs.Span.{combination}
use Rattle.irreducible.specs.laws.SpanLaws.{combination_below}
use Rattle.irreducible.specs.BitMatrix.{rows_of}
use Rattle.irreducible.proofs.MatrixLaws.{set_more}
use Rattle.gf_basis.specs.Basis.{IsBasis}
use Rattle.gf_basis.specs.Dual.{AreDual}
use Rattle.gf_basis.specs.private.TraceWord.{trace_word}
use Rattle.gf_basis.proofs.TraceWordLaws.{IsIndependent-matrix, IsIndependent-from_matrix, trace_word-dual}
use Rattle.gf_basis.proofs.BasisLaws.{IsBasis-from_independent, AreDual-from_array}
use Rattle.gf_basis.proofs.bases.Basis.made.Goals as goal

pub returns-in-None-clause-found : goal.returns-in-None-clause-found
returns-in-None-clause-found g c =
    (λ h. cc, λ free. let bad = c.in-None.ensures.found.1 (IsIndependent-matrix _ _ (g.met.F.Ring.laws c.args.field.now) (g.met.F.Field.no_zero_divisors c.args.field.now) c.args.elements.now c.requires.size c.requires.inside (rows_of c.trace_matrix.result) c.trace_matrix.ensures free) in cc)

pub returns-clause-found : goal.returns-clause-found
returns-clause-found g c =
    (λ h. IsIndependent-from_matrix _ _ (g.met.F.Ring.laws c.args.field.now) (g.met.F.Field.no_zero_divisors c.args.field.now) c.args.elements.now c.requires.size c.requires.inside (rows_of c.trace_matrix.result) c.trace_matrix.ensures (c.in-Some.ensures.found.0 refl), λ h. refl)

pub apply-requires : goal.apply-requires
apply-requires g c =
    let law = g.met.F.Ring.laws c.args.field.now in
    let size : length (rows_of c.in-Some.inverse) ≡ length c.args.elements.now = c.in-Some.ensures.inverse.size ∙ c.trace_matrix.ensures.size in
    rw (one_shl c.loop-i.i 64 (omega (arith, law.small, c.requires.size)), size) (pow_below c.loop-i.i (length c.args.elements.now) (omega arith))

pub loop-i-preserved : goal.loop-i-preserved
loop-i-preserved g c =
    let law = g.met.F.Ring.laws c.args.field.now in
    let inv = c.loop-i.invariant in
    let room : c.loop-i.i < length c.loop-i.duals = omega (arith, law.small, c.requires.size, inv.whole) in
    let small : c.loop-i.i < 64 = omega (arith, law.small, c.requires.size) in
    let is : c.combined.result ≡ combination c.args.elements.now (combination (rows_of c.in-Some.inverse) (2 ^ c.loop-i.i)) =
    c.combined.ensures ∙ ap (combination c.args.elements.now) (c.apply.ensures.sum ∙ ap (combination (rows_of c.in-Some.inverse)) (one_shl c.loop-i.i 64 small)) in
    record {
      whole = length-set c.loop-i.duals c.loop-i.i c.combined.result ∙ inv.whole;
      words = set_more (λ j x. trace_word (g.F.Ring.product c.args.field.now) (g.F.Ring.degree c.args.field.now) c.args.elements.now x ≡ 2 ^ j) c.loop-i.duals c.loop-i.i c.combined.result room inv.words
          (ap (trace_word (g.F.Ring.product c.args.field.now) (g.F.Ring.degree c.args.field.now) c.args.elements.now) is
          ∙ trace_word-dual _ _ law (g.met.F.Field.no_zero_divisors c.args.field.now) c.args.elements.now c.requires.size c.requires.inside (rows_of c.trace_matrix.result) c.trace_matrix.ensures (rows_of c.in-Some.inverse) c.in-Some.ensures.inverse c.loop-i.i (omega arith));
      inside = set_more (λ j x. x < 2 ^ g.F.Ring.degree c.args.field.now) c.loop-i.duals c.loop-i.i c.combined.result room inv.inside
          (rw (c.combined.ensures) (combination_below c.args.elements.now (g.F.Ring.degree c.args.field.now) c.apply.result c.requires.inside));
    }

pub coordinates-requires-clause-free : goal.coordinates-requires-clause-free
coordinates-requires-clause-free g c = IsIndependent-from_matrix _ _ (g.met.F.Ring.laws c.args.field.now) (g.met.F.Field.no_zero_divisors c.args.field.now) c.args.elements.now c.requires.size c.requires.inside (rows_of c.trace_matrix.result) c.trace_matrix.ensures (c.in-Some.ensures.found.0 refl)

pub returns-clause-over : goal.returns-clause-over
returns-clause-over g c =
    let law = g.met.F.Ring.laws c.args.field.now in let field = g.met.F.Field.no_zero_divisors c.args.field.now in
    let k = g.F.Ring.degree c.args.field.now in let mul = g.F.Ring.product c.args.field.now in
    let bs = c.args.elements.now in let ds = take (length c.args.elements.now) c.loop-i.duals in
    let dual : AreDual k mul bs ds = AreDual-from_array _ _ law field bs c.loop-i.duals c.requires.size (omega (arith, law.small, c.requires.size, c.loop-i.invariant.whole))
    (λ j h. c.loop-i.invariant.words j (omega arith)) (λ j h. c.loop-i.invariant.inside j (omega arith)) in
    record {
      elements = subst (IsBasis k) (sym c.filled.ensures.numbers)
          (IsBasis-from_independent _ bs c.requires.size c.requires.inside
          (IsIndependent-from_matrix _ _ law field bs c.requires.size c.requires.inside (rows_of c.trace_matrix.result) c.trace_matrix.ensures (c.in-Some.ensures.found.0 refl)));
      dual = subst (λ xs. AreDual k mul xs ds) (sym c.filled.ensures.numbers) dual;
    }
