-- The net list of a multiplier digit by digit over the words and feeds of a signature. Source: L. Song and K. K. Parhi,
-- Low-energy digit-serial/parallel finite field multipliers, Journal of VLSI Signal Processing 19 (1998); docs/FORMATS.md.
use Rattle.std.specs.Prelude.{ℕ, ◌+◌, List, length}
use Rattle.std.specs.List.{range_with_len}
use Rattle.gf_field.specs.Bit.{bit_mul}
use Rattle.gf_field.specs.Quotient.{product}
use Rattle.net_core.specs.NetList.{NetList}
use Rattle.net_words.specs.declared.feed.FeedText.{FeedText}
use Rattle.net_words.specs.declared.word.Role.TheVariants.{Input, Output}
use Rattle.net_words.specs.declared.word.WordText.{WordText}
use Rattle.make_laws.specs.Indeterminate.{x_of}
use Rattle.make_nets.specs.Made.{made_of}
use Rattle.make_nets.specs.Ports.{role_nets, word_names}
use Rattle.mult_digit.specs.DigitForm.{digit_names}
use Rattle.mult_digit.specs.DigitPlan.{Sums, digit_latches, sums_from}

-- the nets of a digit, after those of the words
abbrev pub fed_nets : ℕ → List WordText → List ℕ
fed_nets width words = range_with_len (length (word_names words)) width

-- the sums that the product takes
abbrev pub digit_sums_of : ℕ → (ℕ → ℕ → ℕ) → ℕ → ℕ → List WordText → Sums
digit_sums_of k mul x width words = sums_from (length (word_names words) + width) k mul x (fed_nets width words) (role_nets Input 0 words) (role_nets Output 0 words)

-- the net list over fed nets of these names
abbrev pub net_over : ℕ → (ℕ → ℕ → ℕ) → ℕ → ℕ → List WordText → List (List ℕ) → NetList
net_over k mul x width words fed =
    made_of words fed (digit_latches k (digit_sums_of k mul x width words).nets (role_nets Output 0 words)) (digit_sums_of k mul x width words).plan

-- the net list, where the lines of the first cycle feed the nets of a digit
abbrev pub digit_net : ℕ → (ℕ → ℕ → ℕ) → ℕ → ℕ → List WordText → List FeedText → NetList
digit_net k mul x width words feeds = net_over k mul x width words (digit_names width feeds)

-- the net list over fed nets of these names, in the field of the polynomials modulo g, of degree k
abbrev pub net_modulo : (k g : ℕ) → ℕ → List WordText → List (List ℕ) → NetList
net_modulo k g width words fed = net_over k (product 1 k bit_mul g) (x_of k g) width words fed
