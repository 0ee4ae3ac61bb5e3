-- Monomials, and the order of terms in a text: falling lexicographic order of the exponents of all variables.
-- Source: Lidl and Niederreiter, Finite Fields, chapter 7; the order is this project's own.
use Rattle.std.specs.Prelude.{ℕ, Bool, List, nat_eq}
use Rattle.std.specs.declared.cmp.Ordering.{Ordering}
use Rattle.std.specs.Ordering.{nat_cmp, on, flip_args, then_cmp}
use Rattle.std.specs.Cmp.{IsTotalOrder, nat_cmp_total, on_total, then_total, back_total}
use Rattle.std.specs.Cmp.Lexicographic.{slice_cmp, nat_list_cmp_total, lists_total}
use Rattle.std.specs.List.{list_any}

-- a product of powers of the words and of different bits: the exponent of each word, and the ranks of the bits, rising
pub record Monomial : Type 0 where
  pub exponents : List ℕ
  pub bits : List ℕ

-- whether the bit of this rank stands in the monomial
abbrev pub has_bit : ℕ → Monomial → Bool
has_bit bit m = list_any (λ r. nat_eq r bit) m.bits

-- of two lists of exponents the one that is greater at the first place where they differ stands first
abbrev pub exponents_cmp : List ℕ → List ℕ → Ordering
exponents_cmp = flip_args (slice_cmp nat_cmp)

-- of two sets of ranks the one with the least rank that only one of them has stands first
abbrev pub ranks_cmp : List ℕ → List ℕ → Ordering
ranks_cmp = flip_args (slice_cmp (flip_args nat_cmp))

-- by the exponents of the words, then by the ranks
abbrev pub text_cmp : Monomial → Monomial → Ordering
text_cmp = then_cmp (on (λ m. m.exponents) exponents_cmp) (on (λ m. m.bits) ranks_cmp)

-- it is a total order
pub text_cmp_total : IsTotalOrder text_cmp
text_cmp_total =
    then_total (on_total (λ m. m.exponents) (back_total nat_list_cmp_total))
    (on_total (λ m. m.bits) (back_total (lists_total (back_total nat_cmp_total))))
