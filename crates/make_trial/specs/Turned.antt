-- A multiplier with one bit of one table turned over. Source: this project's own.
use Rattle.std.specs.Prelude.{◌≢◌, ℕ, ◌<◌, ◌+◌, ◌*◌, ◌/◌, ◌%◌, ◌^◌, ◌==◌, List, [], ◌∷◌, bit_xor, drop, slice_index, take, if◌then◌else◌}
use Rattle.std.specs.Int.{bit_at}
use Rattle.gf_field.specs.Bit.{bit_mul}
use Rattle.gf_field.specs.Quotient.{product}
use Rattle.gf_basis.specs.Basis.{first_values}
use Rattle.net_core.specs.GateValue.{GateValue}
use Rattle.net_core.specs.Turned.{turned}
use Rattle.net_words.specs.declared.word.Role.TheVariants.{Input}
use Rattle.net_words.specs.declared.word.WordText.{WordText}
use Rattle.make_laws.specs.ProductBits.{x_to}
use Rattle.make_nets.specs.Computes.{ComputesOfTwo}
use Rattle.make_nets.specs.Form.{AllWide, HasWords}
use Rattle.make_nets.specs.MakerNames.{AreMakerNames}
use Rattle.make_nets.specs.Ports.{outer_names}
use Rattle.mult_gen.specs.Form.{inputs_in, made_mastrovito, outer_of}

-- What the multiplier modulo g, of degree k, gives where bit `index` of the table of its product number p is turned over: the
-- product of bit p / k of a and bit p % k of b. Where these two bits are the index, x to the sum of both places is added.
abbrev pub turned_product : (k g p index a b : ℕ) → ℕ
turned_product k g p index a b =
    bit_xor (product 1 k bit_mul g a b) (if bit_at a (p / k) + 2 * bit_at b (p % k) == index then x_to k g (p / k + p % k) else 0)

-- the gate that is 1 where bit i of the first factor and bit j of the second are
abbrev pub product_gate : (k : ℕ) → List WordText → (i j : ℕ) → GateValue
product_gate k words i j = record { out = outer_of words + i * k + j; inputs = slice_index (take k (inputs_in words)) i ∷ slice_index (drop k (inputs_in words)) j ∷ []; table = 8 }

-- whatever the words of k nets, and whichever bit of the table of a product is turned over, the net gives the turned product of its words
abbrev pub TurnedNetsAddAPower : (k g : ℕ) → Type 0
TurnedNetsAddAPower k g = (words : List WordText) (p index : ℕ) → HasWords Input 2 words → AllWide k words → AreMakerNames (outer_names words []) → p < k * k → index < 4 → ComputesOfTwo k (product 1 k bit_mul g) (turned (made_mastrovito k g words) p index) words (first_values k (λ i. 2 ^ i)) 0 (turned_product k g p index)

-- whichever bit is turned over, the turned product is another than the product at some elements
abbrev pub TurnedProductsDiffer : (k g : ℕ) → Type 0
TurnedProductsDiffer k g = (p index : ℕ) → p < k * k → index < 4 → (a b : ℕ) × (a < 2 ^ k) × (b < 2 ^ k) × (turned_product k g p index a b ≢ product 1 k bit_mul g a b)
