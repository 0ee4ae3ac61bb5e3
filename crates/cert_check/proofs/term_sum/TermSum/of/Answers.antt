use Rattle.std.proofs.Common.{ap}
use Rattle.poly_mixed.specs.Monomial.{text_cmp}
use Rattle.poly_mixed.specs.Polynomial.{Terms}
use Rattle.poly_mixed.specs.Sum.{plus}
use Rattle.cert_check.specs.private.Waiting.{nonzero_of}
use Rattle.cert_check.proofs.term_sum.TermSum.of.Goals as goal

pub returns : goal.returns
returns c = ap (λ (ws : Terms). plus text_cmp c.args.map.terms (nonzero_of ws)) c.none.ensures
