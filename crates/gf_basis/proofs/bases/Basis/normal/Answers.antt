use Rattle.std.proofs.Common.{◌∙◌, refl, sym, arith, subst}
use Rattle.gf_field.specs.Trace.{frobenius}
use Rattle.irreducible.specs.Span.{IsIndependent}
use Rattle.gf_basis.proofs.CodeLaws.{taken_same}
use Rattle.gf_basis.proofs.bases.Basis.normal.Goals as goal

pub returns-in-Some-clause-elements : goal.returns-in-Some-clause-elements
returns-in-Some-clause-elements g c =
    let law = g.met.F.Ring.laws c.args.field.now in
    c.in-Some.ensures.elements
    ∙ taken_same (g.F.Ring.degree c.args.field.now) c.k.result (λ i. frobenius (g.F.Ring.product c.args.field.now) i c.args.gamma) c.conjugates-all.result c.k.ensures (omega (arith, law.small)) c.conjugates-all.ensures.squares

pub returns-in-Some-clause-accepted : goal.returns-in-Some-clause-accepted
returns-in-Some-clause-accepted g c =
    let law = g.met.F.Ring.laws c.args.field.now in (
      λ h. (
        c.if-not-is_element.ensures.0 refl,
        subst IsIndependent
            (taken_same (g.F.Ring.degree c.args.field.now) c.k.result (λ i. frobenius (g.F.Ring.product c.args.field.now) i c.args.gamma) c.conjugates-all.result c.k.ensures (omega (arith, law.small)) c.conjugates-all.ensures.squares)
            (c.in-Some.ensures.found.0 refl),
      ),
      λ h. refl,
    )

pub returns-in-None-clause-fault : goal.returns-in-None-clause-fault
returns-in-None-clause-fault g c =
    let law = g.met.F.Ring.laws c.args.field.now in (
      c.if-not-is_element.ensures.0 refl,
      λ free. let bad = c.in-None.ensures.found.1 (subst IsIndependent
          (sym (taken_same (g.F.Ring.degree c.args.field.now) c.k.result (λ i. frobenius (g.F.Ring.product c.args.field.now) i c.args.gamma) c.conjugates-all.result c.k.ensures (omega (arith, law.small)) c.conjugates-all.ensures.squares)) free) in cc,
    )

pub returns-in-None-clause-accepted : goal.returns-in-None-clause-accepted
returns-in-None-clause-accepted g c = (λ h. cc, λ h. absurd ((returns-in-None-clause-fault g c).1 h.1))
