-- The value of a polynomial in input, state and fed bits at an input. Source: this project's own.
use Rattle.std.specs.Prelude.{◌≡◌, ℕ, ◌≤◌, List, [], ◌∷◌, length, nat_eq}
use Rattle.std.specs.List.{list_any}
use Rattle.poly_mixed.specs.Polynomial.{Terms, Point, IsReduced, value}
use Rattle.poly_mixed.specs.Cofactor.{LacksBit}
use Rattle.poly_mixed.specs.laws.Uniqueness.{InBits}
use Rattle.circuit_model.specs.Word.{word_nets}
use Rattle.circuit_model.specs.Circuit.{Circuit}
use Rattle.circuit_model.specs.Ones.{AreOnes}

-- the point with these ranks at 1 and all others at 0
abbrev pub at_ones : List ℕ → Point
at_ones ones = record { words = 0 ∷ 0 ∷ 0 ∷ 0 ∷ 0 ∷ 0 ∷ 0 ∷ 0 ∷ []; is_one = λ r. list_any (λ x. nat_eq x r) ones }

-- e is the polynomial's value where the bits of the input that are 1 are 1
pub record IsValueAt (circuit : Circuit) (ts : Terms) (xs : List ℕ) (e : ℕ) : Type 0 where
  pub ones : List ℕ
  pub are : AreOnes circuit xs ones
  pub value_is : value circuit.product (at_ones ones) ts ≡ e

-- a reduced polynomial in the bits of the input, state and fed words alone: no word stands in it and no bit of another net
pub record IsInInputBits (circuit : Circuit) (ts : Terms) : Type 0 where
  pub reduced : IsReduced circuit.k ts
  pub bits : InBits ts
  pub ranks : (rank : ℕ) → length (word_nets circuit.words) ≤ rank → LacksBit rank ts
