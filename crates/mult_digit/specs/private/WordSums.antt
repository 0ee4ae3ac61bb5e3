-- The sums of a multiplier over words, in a field. Source: this project's own.
use Rattle.std.specs.Prelude.{ℕ, List}
use Rattle.gf_field.specs.Bit.{bit_mul}
use Rattle.gf_field.specs.Quotient.{product}
use Rattle.make_laws.specs.Indeterminate.{x_of}
use Rattle.net_words.specs.declared.word.WordText.{WordText}
use Rattle.mult_digit.specs.DigitNet.{digit_sums_of}
use Rattle.mult_digit.specs.DigitPlan.{Sums}

-- the sums that the product takes, in the field of the polynomials modulo g, of degree k
abbrev pub sums_modulo : (k g width : ℕ) → List WordText → Sums
sums_modulo k g width words = digit_sums_of k (product 1 k bit_mul g) (x_of k g) width words
