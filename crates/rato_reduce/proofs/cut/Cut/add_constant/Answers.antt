use Rattle.std.proofs.Common.{[], ◌∙◌, ap}
use Rattle.poly_mixed.specs.Monomial.{text_cmp}
use Rattle.poly_mixed.specs.Sum.{plus_term}
use Rattle.rato_reduce.specs.private.CutTerms.{CutPolynomial, of_bits}
use Rattle.rato_reduce.proofs.ConstantLemmas.{constant_terms_more}
use Rattle.rato_reduce.proofs.cut.Cut.add_constant.Goals as goal

pub returns : goal.returns
returns c =
    constant_terms_more c.self.inside.places.items c.self.inside.constant c.args.c c.self.inside.map.entries c.self.invariant c.requires
    ∙ ap (λ (q : CutPolynomial). plus_term text_cmp q.terms (of_bits [], c.args.c)) c.self.view_is
