use Rattle.std.proofs.Common.{◌^◌, ◌∙◌, sym, arith, subst}
use Rattle.gf_field.specs.Element.{AreElements}
use Rattle.irreducible.specs.Span.{IsIndependent}
use Rattle.gf_basis.proofs.CodeLaws.{taken_same, AreElements-units, IsIndependent-powers}
use Rattle.gf_basis.proofs.bases.Basis.poly.Goals as goal

pub made-requires-clause-inside : goal.made-requires-clause-inside
made-requires-clause-inside g c =
    let law = g.met.F.Ring.laws c.args.field.now in
    subst (AreElements (g.F.Ring.degree c.args.field.now))
    (sym (taken_same (g.F.Ring.degree c.args.field.now) c.k-k.result (λ i. 2 ^ i) c.loop-i.units c.k-k.ensures (omega (arith, law.small, c.loop-i.invariant.whole)) (λ i h. c.loop-i.invariant.before i (omega (arith, c.k-k.ensures)))))
    (AreElements-units (g.F.Ring.degree c.args.field.now))

pub unwrap-requires : goal.unwrap-requires
unwrap-requires g c =
    let law = g.met.F.Ring.laws c.args.field.now in
    c.made.ensures.found.1 (subst IsIndependent
    (sym (taken_same (g.F.Ring.degree c.args.field.now) c.k-k.result (λ i. 2 ^ i) c.loop-i.units c.k-k.ensures (omega (arith, law.small, c.loop-i.invariant.whole)) (λ i h. c.loop-i.invariant.before i (omega (arith, c.k-k.ensures)))))
    (IsIndependent-powers (g.F.Ring.degree c.args.field.now)))

pub returns-clause-elements : goal.returns-clause-elements
returns-clause-elements g c =
    let law = g.met.F.Ring.laws c.args.field.now in
    (rw (c.unwrap.ensures) at c.made.ensures.elements)
    ∙ taken_same (g.F.Ring.degree c.args.field.now) c.k-k.result (λ i. 2 ^ i) c.loop-i.units c.k-k.ensures (omega (arith, law.small, c.loop-i.invariant.whole)) (λ i h. c.loop-i.invariant.before i (omega (arith, c.k-k.ensures)))
