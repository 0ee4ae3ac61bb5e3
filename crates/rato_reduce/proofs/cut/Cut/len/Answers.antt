use Rattle.std.proofs.Common.{◌+◌, cond, length, sym, ◌∙◌, ap}
use Rattle.std.proofs.lemmas.Bool.{eq-eqb, ne_eqb}
use Rattle.rato_reduce.specs.private.CutTerms.{CutPolynomial}
use Rattle.rato_reduce.proofs.ConstantLemmas.{constant_size}
use Rattle.rato_reduce.proofs.cut.Cut.len.Goals as goal

pub returns-then-self-eq0 : goal.returns-then-self-eq0
returns-then-self-eq0 c =
    let entries = c.self.inside.map.entries in
    c.len-bits.ensures.len
    ∙ sym (constant_size c.self.inside.places.items c.self.inside.constant entries c.self.invariant ∙ ap (λ b. cond b (length entries) (length entries + 1)) (eq-eqb c.self.inside.constant 0 c.if-self-eq0.true))
    ∙ ap (λ (q : CutPolynomial). length q.terms) c.self.view_is

pub returns-else-self-eq0 : goal.returns-else-self-eq0
returns-else-self-eq0 c =
    let entries = c.self.inside.map.entries in
    ap (λ n. n + 1) c.len-bits.ensures.len
    ∙ sym (constant_size c.self.inside.places.items c.self.inside.constant entries c.self.invariant ∙ ap (λ b. cond b (length entries) (length entries + 1)) (ne_eqb c.self.inside.constant 0 c.if-self-eq0.false))
    ∙ ap (λ (q : CutPolynomial). length q.terms) c.self.view_is
