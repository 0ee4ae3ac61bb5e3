-- Small worked examples of the definitions of specs/, which the check computes: the polynomial A^3 + 0x3*A[0]*A[1] over
-- the field of four elements, whose modulus is 7, with one word A of two bits.
use Rattle.std.proofs.Common.{◌≡◌, ℕ, [], ◌∷◌, List, true, false, Some, inl, codes, refl, arith}
use Rattle.std.specs.Fmt.{digits}
use Rattle.std.specs.declared.cmp.Ordering.TheVariants.{Less}
use Rattle.gf_field.specs.Bit.{bit_mul}
use Rattle.gf_field.specs.Quotient.{product}
use Rattle.gf_field.specs.Power.{power}
use Rattle.poly_mixed.specs.Monomial.{Monomial, text_cmp}
use Rattle.poly_mixed.specs.Polynomial.{Terms, point, coefficient, value}
use Rattle.poly_mixed.specs.Sum.{plus}
use Rattle.poly_mixed.specs.Product.{times}
use Rattle.poly_mixed.specs.Cofactor.{cofactors, lacking}
use Rattle.poly_mixed.specs.Order.{exponent_list}
use Rattle.poly_mixed.specs.Labels.{Labelling, rank_text}
use Rattle.poly_mixed.specs.Text.{text}
use Rattle.poly_mixed.specs.Token.{word, bit, variable, hex, times_sign, token_front}
use Rattle.poly_mixed.specs.Grammar.{number, factor, IsPolynomial}
use Rattle.poly_mixed.specs.Said.{sum_of}
use Rattle.poly_mixed.specs.TextOutcome.{name_fault, no_such_bit}

abbrev four : ℕ → ℕ → ℕ
four = product 1 2 bit_mul 7

abbrev labels : Labelling
labels = record { output = codes "Z"; words = (codes "A", 2) ∷ []; nets = 7 ∷ [] }

-- A to the power e, without bits
abbrev power_of_A : ℕ → Monomial
power_of_A e = record { exponents = e ∷ 0 ∷ 0 ∷ 0 ∷ 0 ∷ 0 ∷ 0 ∷ 0 ∷ []; bits = [] }

-- the product of these bits
abbrev of_bits : List ℕ → Monomial
of_bits bits = record { exponents = 0 ∷ 0 ∷ 0 ∷ 0 ∷ 0 ∷ 0 ∷ 0 ∷ 0 ∷ []; bits = bits }

abbrev example : Terms
example = (power_of_A 3, 1) ∷ (of_bits (0 ∷ 1 ∷ []), 3) ∷ []

-- its text
text_of_example : text labels example ≡ codes "A^3 + 0x3*A[0]*A[1]"
unfolding digits
text_of_example = refl

-- the text without terms is `0`
text_of_nothing : text labels [] ≡ codes "0"
text_of_nothing = refl

-- rank 2 is the net with the number 7, the first after the two bits of A
text_of_rank_two : rank_text labels.words labels.nets 2 ≡ codes "@7"
unfolding digits
text_of_rank_two = refl

-- the first token of `A[1] + @7`, and what stands after it
first_token : token_front (codes "A[1] + @7") ≡ Some (variable (bit (codes "A") 1), codes " + @7")
first_token = refl

-- `0x3*A` is a polynomial of one term with two parts
two_parts : IsPolynomial 2 (hex 3 ∷ times_sign ∷ variable (word (codes "A")) ∷ []) ((number 3 ∷ factor (word (codes "A")) 1 ∷ []) ∷ [])
two_parts = ((hex 3 ∷ [], variable (word (codes "A")) ∷ [], refl, (refl, omega arith), inl (refl, refl)), (tt, tt), (tt, tt))

-- the terms 0x3*A[1]*A[0] and A^3 say the example
said_of_terms : sum_of labels [] ((number 3 ∷ factor (bit (codes "A") 1) 1 ∷ factor (bit (codes "A") 0) 1 ∷ []) ∷ (factor (word (codes "A")) 3 ∷ []) ∷ []) ≡ example
said_of_terms = refl

-- A has no bit 2
no_bit_two : name_fault labels (variable (bit (codes "A") 2)) ≡ Some no_such_bit
no_bit_two = refl

-- A^3 stands before A[0]*A[1], for the word counts first
cube_comes_first : text_cmp (power_of_A 3) (of_bits (0 ∷ 1 ∷ [])) ≡ Less
cube_comes_first = refl

-- A[0]*A[1] stands before A[0]: the exponents of the ranks 0 and 1 are 1, 1 and 1, 0
both_before_first : text_cmp (of_bits (0 ∷ 1 ∷ [])) (of_bits (0 ∷ [])) ≡ Less
both_before_first = refl

-- A[0] stands before A[1]: they are 1, 0 and 0, 1
first_before_second : text_cmp (of_bits (0 ∷ [])) (of_bits (1 ∷ [])) ≡ Less
first_before_second = refl

-- the exponents of A[1] are eight zeros for the words, and then 0 and 1 for the ranks 0 and 1
exponents_of_bit_one : exponent_list 2 (of_bits (1 ∷ [])) ≡ 0 ∷ 0 ∷ 0 ∷ 0 ∷ 0 ∷ 0 ∷ 0 ∷ 0 ∷ 0 ∷ 1 ∷ []
exponents_of_bit_one = refl

-- where A is 2 and both bits are 1, the value is 2^3 + 3 = 1 + 3 = 2
value_with_both : value four (point (2 ∷ 0 ∷ 0 ∷ 0 ∷ 0 ∷ 0 ∷ 0 ∷ 0 ∷ []) (true ∷ true ∷ [])) example ≡ 2
unfolding product power
value_with_both = refl

-- where A is 2 and one bit is 0, it is 2^3 = 1
value_with_one : value four (point (2 ∷ 0 ∷ 0 ∷ 0 ∷ 0 ∷ 0 ∷ 0 ∷ 0 ∷ []) (false ∷ true ∷ [])) example ≡ 1
unfolding product power
value_with_one = refl

-- the coefficient of A[0]*A[1] is 3
coefficient_of_both : coefficient example (of_bits (0 ∷ 1 ∷ [])) ≡ 3
coefficient_of_both = refl

-- that of A^2 is 0
coefficient_of_square : coefficient example (power_of_A 2) ≡ 0
coefficient_of_square = refl

-- the cofactor of A[0] is 0x3*A[1]
cofactor_of_bit : cofactors 0 example ≡ (of_bits (1 ∷ []), 3) ∷ []
cofactor_of_bit = refl

-- and A^3 lacks A[0]
lacking_bit : lacking 0 example ≡ (power_of_A 3, 1) ∷ []
lacking_bit = refl

-- the sum with itself has no terms
sum_with_itself : plus text_cmp example example ≡ []
sum_with_itself = refl

-- A^3 * A^2 is A^2, for A^4 is A at each of the four elements
product_of_powers : times 2 (power_of_A 3) (power_of_A 2) ≡ power_of_A 2
product_of_powers = refl

-- A[1] times A[0]*A[1] is A[0]*A[1]
product_of_bits : times 2 (of_bits (1 ∷ [])) (of_bits (0 ∷ 1 ∷ [])) ≡ of_bits (0 ∷ 1 ∷ [])
product_of_bits = refl
