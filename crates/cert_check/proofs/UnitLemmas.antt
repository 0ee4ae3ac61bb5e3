-- Sums of monomials.
use Rattle.std.proofs.Common.{◌≡◌, ◌≢◌, ◌∙◌, ap, ℕ, ◌+◌, List, [], ◌∷◌, ◌++◌, drop, arith}
use Rattle.std.proofs.lemmas.List.{map-append}
use Rattle.std.specs.List.{AllByRecursion}
use Rattle.poly_mixed.specs.Monomial.{Monomial}
use Rattle.cert_check.specs.private.Units.{units}

pub nonzero : (ms : List Monomial) → AllByRecursion (λ t. t.1 ≢ 0) (units ms)
nonzero [] = tt
nonzero (m ∷ ms) = ((λ e. omega arith), nonzero ms)

-- one more monomial
pub units_more : (ms new : List Monomial) (m : Monomial) → new ≡ ms ++ m ∷ [] → units new ≡ units ms ++ (m, 1) ∷ []
units_more ms new m is = ap units is ∙ map-append (λ (n : Monomial). (n, 1)) ms (m ∷ [])

-- the next one of those that are left
pub units_next : (ms : List Monomial) (i : ℕ) (item : Monomial) → drop i ms ≡ item ∷ drop (i + 1) ms → units (drop i ms) ≡ (item, 1) ∷ units (drop (i + 1) ms)
units_next ms i item is = ap units is
