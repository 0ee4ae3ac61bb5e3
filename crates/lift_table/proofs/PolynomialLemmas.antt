-- Polynomials of tables.
use Rattle.std.proofs.Common.{◌≡◌, subst, ℕ, zero, suc, ◌<◌, ◌≤◌, ◌^◌, List, [], ◌∷◌, length, take, arith, Some}
use Rattle.std.specs.Prelude.{slice_get}
use Rattle.std.specs.List.{AllByRecursion}
use Rattle.std.proofs.lemmas.List.{length-take-le}
use Rattle.lists.specs.Lists.{Has}
use Rattle.poly_mixed.specs.Polynomial.{Terms, Point, IsPoint, IsElement, value}
use Rattle.circuit_model.specs.Circuit.{Circuit, IsInput}
use Rattle.circuit_model.specs.Out.{IsOut}
use Rattle.circuit_model.specs.WellFormed.{IsWellFormed}
use Rattle.lift_table.specs.CircuitTable.{IsTableOf}
use Rattle.lift_table.specs.TablePolynomial.{IsPolynomialOfTable}

pub same_value : (table : List ℕ) (row a b : ℕ) → slice_get table row ≡ Some a → slice_get table row ≡ Some b → a ≡ b
same_value table row a b first second = cc

taken_has : (k n : ℕ) (xs : List ℕ) → AllByRecursion (IsElement k) xs → (x : ℕ) → Has (take n xs) x → x < 2 ^ k
taken_has k zero xs elements x (i, got) = absurd (cc got)
taken_has k (suc n) [] elements x (i, got) = absurd (cc got)
taken_has k (suc n) (y ∷ ys) elements x (zero, got) = let same : y ≡ x = cc got in subst (λ (m : ℕ). m < 2 ^ k) same elements.0
taken_has k (suc n) (y ∷ ys) elements x (suc i, got) = taken_has k n ys elements.1 x (i, got)

pub output_at : (circuit : Circuit) (table : List ℕ) (ts : Terms) → IsWellFormed circuit → IsTableOf circuit table → IsPolynomialOfTable circuit.k circuit.product (length circuit.words) table ts
    → (p : Point) → IsPoint circuit.k p → IsOut circuit (take (length circuit.words) p.words) (value circuit.product p ts)
output_at circuit table ts well is_table is p at =
    let n = length circuit.words in
    let within : n ≤ length p.words = omega (arith, well.few, at.words) in
    let input : IsInput circuit (take n p.words) = record { long = length-take-le n p.words within; elements = taken_has circuit.k n p.words at.elements } in
    is_table.values (take n p.words) (value circuit.product p ts) input (is.values p at)
