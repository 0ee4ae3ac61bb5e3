use Rattle.std.proofs.Common.{◌≡◌, drop}
use Rattle.poly_mixed.specs.Monomial.{text_cmp}
use Rattle.poly_mixed.specs.Sum.{plus}
use Rattle.cert_check.specs.private.Waiting.{nonzero_of}
use Rattle.cert_check.proofs.term_map.TermMap.add_summands.Given as goal

abbrev pub invariant-loop-summand : goal.invariant-loop-summand
invariant-loop-summand l = plus text_cmp l.self.terms (nonzero_of (drop l.summand-index l.summands)) ≡ plus text_cmp l.initial.self.terms (nonzero_of l.summands)
