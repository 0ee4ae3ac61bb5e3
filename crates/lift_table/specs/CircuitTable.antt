-- The table of a circuit's output. Source: this project's own.
use Rattle.std.specs.Prelude.{◌≡◌, ℕ, ◌*◌, ◌^◌, List, length, take}
use Rattle.circuit_model.specs.Circuit.{Circuit, IsInput}
use Rattle.circuit_model.specs.Out.{IsOut}
use Rattle.poly_mixed.specs.Polynomial.{Point, IsPoint, Terms, value}
use Rattle.lift_table.specs.Table.{IsTableValue}
use Rattle.lift_table.specs.TablePolynomial.{IsPolynomialOfTable}

-- a row for each input, and the table's function is the output
pub record IsTableOf (circuit : Circuit) (table : List ℕ) : Type 0 where
  pub long : length table ≡ 2 ^ (circuit.k * length circuit.words)
  pub values : (xs : List ℕ) (e : ℕ) → IsInput circuit xs → IsTableValue circuit.k table xs e → IsOut circuit xs e

-- the polynomial of the table of a circuit, in the circuit's field and words
abbrev pub IsItsPolynomial : Circuit → List ℕ → Terms → Type 0
IsItsPolynomial circuit table ts = IsPolynomialOfTable circuit.k circuit.product (length circuit.words) table ts

-- the terms have at each input the circuit's output as their value
abbrev pub HasOutputs : Circuit → Terms → Type 0
HasOutputs circuit ts = (p : Point) → IsPoint circuit.k p → IsOut circuit (take (length circuit.words) p.words) (value circuit.product p ts)
