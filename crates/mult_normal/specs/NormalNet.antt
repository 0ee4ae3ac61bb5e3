-- The net list of a multiplier in a normal basis over the words of a signature. Source: J. L. Massey and J. K. Omura,
-- Computational method and apparatus for finite field arithmetic, US patent 4,587,627 (1986); docs/FORMATS.md.
use Rattle.std.specs.Prelude.{ℕ, List, [], drop, length, take}
use Rattle.net_core.specs.LatchValue.{LatchValue}
use Rattle.net_core.specs.NetList.{NetList}
use Rattle.net_words.specs.declared.word.Role.TheVariants.{State, Output}
use Rattle.net_words.specs.declared.word.WordText.{WordText}
use Rattle.make_nets.specs.Computes.{ComputesOfTwo}
use Rattle.make_nets.specs.Made.{made_of}
use Rattle.make_nets.specs.Ports.{role_nets, word_names}
use Rattle.mult_normal.specs.Coordinates.{counts_in}
use Rattle.mult_normal.specs.NormalPlan.{Products, normal_latches, products_from, sum_net, summed}

-- the nets of the first and of the second state word, of k nets each, and those of the output word
abbrev pub first_factor : ℕ → List WordText → List ℕ
first_factor k words = take k (role_nets State 0 words)

abbrev pub second_factor : ℕ → List WordText → List ℕ
second_factor k words = drop k (role_nets State 0 words)

abbrev pub product_nets : List WordText → List ℕ
product_nets words = role_nets Output 0 words

-- the products of bits of both factors that count for the last coordinate in the basis of these elements
abbrev pub normal_products : ℕ → (ℕ → ℕ → ℕ) → List ℕ → List WordText → Products
normal_products k mul elements words = products_from (length (word_names words)) k (counts_in k mul elements) (first_factor k words) (second_factor k words)

-- the latches
abbrev pub latches_of : ℕ → (ℕ → ℕ → ℕ) → List ℕ → List WordText → List LatchValue
latches_of k mul elements words = normal_latches k (sum_net (normal_products k mul elements words)) (first_factor k words) (second_factor k words) (product_nets words)

-- the net list
abbrev pub normal_net : ℕ → (ℕ → ℕ → ℕ) → List ℕ → List WordText → NetList
normal_net k mul elements words = made_of words [] (latches_of k mul elements words) (summed (normal_products k mul elements words))

-- it computes the product of two words after k cycles
abbrev pub MultipliesInCycles : (k : ℕ) → (ℕ → ℕ → ℕ) → NetList → List WordText → (basis : List ℕ) → Type 0
MultipliesInCycles k mul net words basis = ComputesOfTwo k mul net words basis k mul
