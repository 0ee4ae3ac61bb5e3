-- The output of a circuit as a polynomial in its words. Source: Pruss, Kalla, Enescu, DAC 2014.
use Rattle.std.specs.Prelude.{length}
use Rattle.poly_mixed.specs.Polynomial.{Terms, Point, IsPoint, IsReduced, value}
use Rattle.poly_mixed.specs.laws.Uniqueness.{InFirstWords}
use Rattle.circuit_model.specs.Circuit.{Circuit}
use Rattle.circuit_model.specs.Out.{IsOut}
use Rattle.stage_model.specs.First.{InFirstRanks}
use Rattle.stage_model.specs.InputPoint.{input_of}

-- reduced, in the input, state and fed words alone, without bits, and at each input, by its point, the output's value
pub record IsOutputInWords (circuit : Circuit) (ts : Terms) : Type 0 where
  pub reduced : IsReduced circuit.k ts
  pub words_alone : InFirstWords (length circuit.words) ts
  pub no_bits : InFirstRanks 0 ts
  pub values : (p : Point) → IsPoint circuit.k p → IsOut circuit (input_of circuit p) (value circuit.product p ts)
