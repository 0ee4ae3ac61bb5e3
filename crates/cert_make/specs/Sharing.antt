-- Which multipliers of a certificate are shared: those of at least two pairs, numbered by their first pairs.
-- Source: this project's own, docs/FORMATS.md.
use Rattle.std.specs.Prelude.{ℕ, ◌+◌, Bool, ◌&&◌, cond, List, [], ◌∷◌, ◌++◌, nat_lt, Option, Some, None, is_some, not}
use Rattle.std.specs.Option.{option_map}
use Rattle.std.specs.Ordering.{nat_cmp, on, then_cmp, eq_by_cmp}
use Rattle.std.specs.declared.cmp.Ordering.{Ordering}
use Rattle.std.specs.Cmp.Lexicographic.{slice_cmp}
use Rattle.poly_mixed.specs.Monomial.{Monomial, text_cmp}
use Rattle.poly_mixed.specs.Polynomial.{Terms}
use Rattle.poly_mixed.specs.Steps.{Step}

-- terms by their monomials, and then by their coefficients
abbrev pub term_cmp : Monomial × ℕ → Monomial × ℕ → Ordering
term_cmp = then_cmp (on (λ t. t.0) text_cmp) (on (λ t. t.1) nat_cmp)

-- whether polynomials have the same terms
abbrev pub are_same : Terms → Terms → Bool
are_same = eq_by_cmp (slice_cmp term_cmp)

-- how many of the pairs have this multiplier
abbrev pub uses : List Step → Terms → ℕ
uses [] m = 0
uses (s ∷ pairs) m = cond (are_same m s.1) 1 0 + uses pairs m

-- a multiplier of at least two of the pairs is shared
abbrev pub is_shared : List Step → Terms → Bool
is_shared pairs m = nat_lt 1 (uses pairs m)

-- the number of a multiplier among shared ones, counted from 0
abbrev pub number_of : List Terms → Terms → Option ℕ
number_of [] m = None
number_of (x ∷ xs) m = cond (are_same m x) (Some 0) (option_map (λ i. i + 1) (number_of xs m))

-- a multiplier is shared, and none of these is it: its first pair is at hand
abbrev pub is_first : List Step → List Terms → Terms → Bool
is_first pairs shares m = is_shared pairs m && not (is_some (number_of shares m))

-- the shared multipliers up to a pair with this multiplier, where these are shared before it
abbrev pub shares_with : List Step → List Terms → Terms → List Terms
shares_with pairs shares m = cond (is_first pairs shares m) (shares ++ m ∷ []) shares

-- all shared multipliers of these pairs in the order of their first pairs, where these are shared before
abbrev pub shares_from : List Step → List Terms → List Step → List Terms
shares_from pairs shares [] = shares
shares_from pairs shares (s ∷ rest) = shares_from pairs (shares_with pairs shares s.1) rest

-- all shared multipliers
abbrev pub shares_of : List Step → List Terms
shares_of pairs = shares_from pairs [] pairs
