use Rattle.std.proofs.Common.{sym, subst}
use Rattle.poly_mixed.specs.Polynomial.{Terms, IsMap}
use Rattle.poly_mixed.proofs.ValueLemmas.{nothing_map}
use Rattle.cert_check.proofs.term_map.TermMap.add_term.Goals as goal

pub invariant_of-self-in-Err : goal.invariant_of-self-in-Err
invariant_of-self-in-Err c = let P : Terms → Type 0 = IsMap in subst P (sym c.clear.ensures.empty) nothing_map
