-- What a recorder of a certificate keeps. Source: this project's own.
use Rattle.std.specs.Prelude.{ℕ, ◌==◌, cond, List, [], ◌∷◌, map, replicate, Option, Some, None}
use Rattle.poly_mixed.specs.Monomial.{Monomial}
use Rattle.poly_mixed.specs.Polynomial.{Terms}
use Rattle.poly_mixed.specs.Steps.{Step}
use Rattle.cert_make.specs.declared.certificate.Entry.{Entry}

-- at most one rank
abbrev pub bits_kept : Option ℕ → List ℕ
bits_kept None = []
bits_kept (Some r) = r ∷ []

-- the monomial without words that has at most one bit
abbrev pub monomial_kept : Option ℕ → Monomial
monomial_kept rank = record { exponents = replicate 8 0; bits = bits_kept rank }

-- the one term of a coefficient and at most one bit, or with the coefficient 0 the terms that are kept
abbrev pub terms_kept : ℕ → Option ℕ → Terms → Terms
terms_kept c rank ts = cond (c == 0) ts ((monomial_kept rank, c) ∷ [])

-- a pair
abbrev pub pair_of : Entry → Step
pair_of e = (e.generator, terms_kept e.coefficient e.rank e.terms.items)

-- the pairs
abbrev pub pairs_of : List Entry → List Step
pairs_of entries = map pair_of entries
