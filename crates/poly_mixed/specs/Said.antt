-- What the terms of a text say over labels. Source: this project's own, docs/FORMATS.md.
use Rattle.std.specs.Prelude.{ℕ, ◌+◌, ◌^◌, cond, List, [], ◌∷◌, nat_lt, Option, None, Some, slice_set}
use Rattle.std.specs.Option.{option_and_then}
use Rattle.poly_mixed.specs.Labels.{Labelling, bit_count, word_of, bit_of, net_of}
use Rattle.poly_mixed.specs.Monomial.{Monomial, text_cmp}
use Rattle.poly_mixed.specs.Polynomial.{Terms}
use Rattle.poly_mixed.specs.Product.{with_rank}
use Rattle.poly_mixed.specs.Sum.{with_coefficient, plus}
use Rattle.poly_mixed.specs.Token.{word, bit, net}
use Rattle.poly_mixed.specs.Grammar.{Part, number, factor}

-- the rank of a net, below 2^32
abbrev pub net_rank : Labelling → ℕ → Option ℕ
net_rank l n = option_and_then (λ i. cond (nat_lt (bit_count l.words + i) (2 ^ 32)) (Some (bit_count l.words + i)) None) (net_of l.nets n)

-- the monomial without variables
abbrev pub one : Monomial
one = record { exponents = 0 ∷ 0 ∷ 0 ∷ 0 ∷ 0 ∷ 0 ∷ 0 ∷ 0 ∷ []; bits = [] }

-- the monomial with an exponent of a word
abbrev pub with_power : Monomial → Option ℕ → ℕ → Monomial
with_power m None e = m
with_power m (Some w) e = record { exponents = slice_set m.exponents w e; bits = m.bits }

-- the monomial with a rank
abbrev pub with_bit_of : Monomial → Option ℕ → Monomial
with_bit_of m None = m
with_bit_of m (Some r) = record { exponents = m.exponents; bits = with_rank m.bits r }

-- the monomial with a variable that the labels name
abbrev pub with_part : Labelling → Monomial → Part → Monomial
with_part l m (number c) = m
with_part l m (factor (word name) e) = with_power m (word_of l.words name) e
with_part l m (factor (bit name place) e) = with_bit_of m (bit_of l.words name place)
with_part l m (factor (net n) e) = with_bit_of m (net_rank l n)

abbrev pub monomial_of : Labelling → Monomial → List Part → Monomial
monomial_of l m [] = m
monomial_of l m (p ∷ ps) = monomial_of l (with_part l m p) ps

-- the coefficient in front, 1 where none stands
abbrev pub coefficient_of : List Part → ℕ
coefficient_of [] = 1
coefficient_of (number c ∷ ps) = c
coefficient_of (factor v e ∷ ps) = 1

-- the terms with one more; equal monomials add up
abbrev pub added : Terms → ℕ → Monomial → Terms
added sum c m = plus text_cmp sum (with_coefficient m c [])

-- the sum with one more term; the term `0` adds nothing
abbrev pub with_term : Labelling → Terms → List Part → Terms
with_term l sum [] = sum
with_term l sum (p ∷ ps) = added sum (coefficient_of (p ∷ ps)) (monomial_of l one (p ∷ ps))

-- the sum of the terms
abbrev pub sum_of : Labelling → Terms → List (List Part) → Terms
sum_of l sum [] = sum
sum_of l sum (t ∷ ts) = sum_of l (with_term l sum t) ts
