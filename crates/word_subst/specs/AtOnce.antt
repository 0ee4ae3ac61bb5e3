-- All terms of a polynomial read from a word at once. Source: this project's own.
use Rattle.std.specs.Prelude.{◌≡◌, ℕ, ◌+◌, ◌-◌, ◌*◌, ◌≤◌, ◌==◌, ◌&&◌, nat_le, nat_lt, cond, List, None, length, slice_index, bit_xor}
use Rattle.std.specs.Int.{bit_at}
use Rattle.std.specs.List.{filter, list_all}
use Rattle.gf_basis.specs.Basis.{AreBits}
use Rattle.gf_field.specs.Power.{power}
use Rattle.poly_mixed.specs.Monomial.{Monomial}
use Rattle.poly_mixed.specs.Polynomial.{Terms, IsElement}
use Rattle.poly_mixed.specs.Sum.{xor_sum}
use Rattle.stage_model.specs.PlainWord.{IsSumOf}
use Rattle.word_subst.specs.Univariate.{Powers, IsUnivariate, value_of}
use Rattle.word_subst.specs.Read.{AreTermsWithin}
use Rattle.word_subst.specs.ReadSteps.{TellsTerms}

-- those of these ranks that are a word's, from one of its places on
abbrev pub ranks_from : ℕ → ℕ → ℕ → List ℕ → List ℕ
ranks_from k w place = filter (λ r. nat_le (k * w + place) r && nat_lt r (k * w + k))

-- new has at each element the value of low plus the product of those of high and form
pub record IsPlusProduct (k : ℕ) (mul : ℕ → ℕ → ℕ) (low high form new : Powers) : Type 0 where
  pub univariate : IsUnivariate k new
  pub values : (x : ℕ) → IsElement k x → value_of mul x new ≡ bit_xor (value_of mul x low) (mul (value_of mul x high) (value_of mul x form))

module _ (k : ℕ) (mul : ℕ → ℕ → ℕ) (elements : List ℕ) (w : ℕ) where
  -- a term without its bits of other words, and without those of the word that stand below a place
  abbrev pub value_from : ℕ → ℕ → ℕ → Monomial × ℕ → ℕ
  value_from place d x t = cond (list_all (λ r. bit_at d (r - k * w) == 1) (ranks_from k w place t.0.bits)) (mul t.1 (power mul x (slice_index t.0.exponents w))) 0

  -- a term's power of the word times its coefficient
  abbrev pub power_of : ℕ → Monomial × ℕ → ℕ
  power_of x t = mul t.1 (power mul x (slice_index t.0.exponents w))

  -- a polynomial in the word with the sum of these
  pub record IsSumOfPowers (ts : Terms) (us : Powers) : Type 0 where
    pub univariate : IsUnivariate k us
    pub values : (x : ℕ) → IsElement k x → value_of mul x us ≡ xor_sum (power_of x) ts

  -- a polynomial in the word with the sum of the terms' values
  pub record IsReadFrom (place : ℕ) (ts : Terms) (us : Powers) : Type 0 where
    pub univariate : IsUnivariate k us
    pub values : (x d : ℕ) → IsElement k x → AreBits elements x d → value_of mul x us ≡ xor_sum (value_from place d x) ts

  -- the sum of all terms, where no stage is over the bound; where nobody asks for pairs, none are told
  pub record IsReadAtOnce (terms : Terms) (bound : ℕ) (ts : Terms) : Type 0 where
    pub sum : IsSumOf k mul elements w terms (length terms) ts
    pub small : length ts ≤ bound
    pub within : AreTermsWithin k mul elements w terms (length terms) bound
    pub quiet : TellsTerms k mul elements w terms None None
