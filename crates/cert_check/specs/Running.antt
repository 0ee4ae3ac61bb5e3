-- Generators and the running sum of a certificate, as functions of points at which all variables are free.
-- At a list of bits that agrees with the gates, and with the words, each generator is 0.
-- Source: Lidl and Niederreiter, Finite Fields, chapter 2 (dual bases and traces); Lv, Kalla, Enescu, IEEE TCAD 2013 (gates as
-- polynomials); Clegg, Edmonds, Impagliazzo, STOC 1996 (proofs by sums of multiples).
use Rattle.std.specs.Prelude.{ℕ, ◌+◌, ◌*◌, ◌==◌, Bool, cond, List, [], ◌∷◌, map, bit_xor, slice_index, slice_get, Option, None, Some}
use Rattle.std.specs.List.{position_or_len}
use Rattle.gf_field.specs.Polynomial.{sum_of_first}
use Rattle.gf_field.specs.Trace.{frobenius}
use Rattle.irreducible.specs.Span.{combination}
use Rattle.gf_basis.specs.BasisParts.{elements_of, duals_of}
use Rattle.gf_basis.specs.declared.bases.Basis.{Basis}
use Rattle.net_core.specs.NetList.{nets}
use Rattle.net_core.specs.GateValue.{GateValue}
use Rattle.net_words.specs.Binding.{BoundNet}
use Rattle.net_words.specs.BoundTo.{output_bits}
use Rattle.net_words.specs.Variables.{variables}
use Rattle.poly_mixed.specs.Polynomial.{Point, value}
use Rattle.poly_mixed.specs.Steps.{Step}
use Rattle.poly_mixed.specs.Table.{index, table_value}
use Rattle.poly_mixed.specs.declared.steps.Generator.{Generator}
use Rattle.poly_mixed.specs.declared.steps.Generator.TheVariants.{Net, Bit}
use Rattle.circuit_model.specs.Word.{Word}
use Rattle.circuit_model.specs.OfBinding.{words_of, output_basis}
use Rattle.cert_check.specs.Certificate.{Certificate}
use Rattle.cert_check.specs.Driver.{driver}

-- the place of a net among the variables
abbrev pub rank_among : List ℕ → ℕ → ℕ
rank_among vars n = position_or_len (λ m. m == n) vars

-- the bit that a point gives to a net
abbrev pub net_bit : List ℕ → Point → ℕ → Bool
net_bit vars p n = p.is_one (rank_among vars n)

-- 1 or 0 as an element of the field
abbrev pub bit_value : Bool → ℕ
bit_value b = cond b 1 0

-- what the net's gate makes of the bits of its inputs
abbrev pub driven_value : List ℕ → Point → Option GateValue → ℕ
driven_value vars p None = 0
driven_value vars p (Some g) = table_value g.table g.inputs (net_bit vars p)

-- the sum of the conjugates of d, each times the conjugate of x: the trace of the product
abbrev pub dual_form : ℕ → (ℕ → ℕ → ℕ) → ℕ → ℕ → ℕ
dual_form k mul d x = sum_of_first k (λ j. mul (frobenius mul j d) (frobenius mul j x))

-- element i of the dual basis of an input, state or fed word
abbrev pub dual_at : Option Word → ℕ → ℕ
dual_at None i = 0
dual_at (Some word) i = slice_index word.basis i

-- the input, state and fed words with the dual bases in place of the bases
abbrev pub dual_words : BoundNet → List Basis → List Word
dual_words netlist bases = words_of netlist.binding.words (map duals_of bases)

module _ (k : ℕ) (mul : ℕ → ℕ → ℕ) (netlist : BoundNet) (bases : List Basis) where
  -- the words' bits and the other nets in the order of variables
  abbrev pub order : List ℕ
  order = variables (nets netlist.net) netlist.binding.words

  -- Of a net: its bit plus what its gate makes of its inputs. Of place i of word w, whose rank is k * w + i: the bit plus
  -- the linear form that reads it from the word.
  abbrev pub generator_value : Generator → Point → ℕ
  generator_value (Net n) p = bit_xor (bit_value (net_bit order p n)) (driven_value order p (driver netlist.net n))
  generator_value (Bit w i) p = bit_xor (bit_value (p.is_one (k * w + i))) (dual_form k mul (dual_at (slice_get (dual_words netlist bases) w) i) (slice_index p.words w))

  -- the sum of the products of generator and multiplier
  abbrev pub products : List Step → Point → ℕ
  products [] p = 0
  products (s ∷ steps) p = bit_xor (mul (generator_value s.0 p) (value mul p s.1)) (products steps p)

  -- the sum of the output word's basis elements whose bits are 1
  abbrev pub output_value : Point → ℕ
  output_value p = combination (output_basis netlist.binding.words (map elements_of bases)) (index (net_bit order p) (output_bits netlist.binding.words))

  -- the running sum after the certificate's pairs
  abbrev pub running : Certificate → Point → ℕ
  running c p = bit_xor (bit_xor (output_value p) (value mul p c.claim)) (products c.pairs p)
