-- Terms of tables, for the clauses of private functions. Source: this project's own.
use Rattle.std.specs.Prelude.{◌≡◌, ℕ, ◌*◌, ◌<◌, ◌≤◌, ◌^◌, List, [], bit_xor, drop, length, slice_index, take}
use Rattle.std.specs.List.{AllByRecursion}
use Rattle.gf_field.specs.Element.{AreElements}
use Rattle.poly_mixed.specs.Monomial.{Monomial}
use Rattle.poly_mixed.specs.Polynomial.{Terms, Point, IsElement, IsPoint, IsReduced, powers, value}
use Rattle.poly_mixed.specs.laws.Uniqueness.{IsZeros}
use Rattle.lift_table.specs.Small.{IsSmall}
use Rattle.lift_table.specs.Table.{IsTableValue}

-- new has at each point the value of old and the product of the table's value at the first words with these powers
abbrev pub AddsTable : ℕ → (ℕ → ℕ → ℕ) → ℕ → List ℕ → List ℕ → Terms → Terms → Type 0
AddsTable k mul words exponents table old new = (p : Point) (e : ℕ) → IsPoint k p → IsTableValue k table (take words p.words) e → value mul p new ≡ bit_xor (value mul p old) (mul e (powers mul exponents p.words))

-- no word from this one on stands in the term, and no bit
abbrev pub IsOfWords : ℕ → Monomial × ℕ → Type 0
IsOfWords words t = IsZeros (drop words t.0.exponents) × (t.0.bits ≡ [])

abbrev pub AreOfWords : ℕ → Terms → Type 0
AreOfWords words ts = AllByRecursion (IsOfWords words) ts

-- new has at each point the value of old and the product of the coefficient with these powers
abbrev pub AddsPowers : ℕ → (ℕ → ℕ → ℕ) → ℕ → List ℕ → Terms → Terms → Type 0
AddsPowers k mul coefficient exponents old new = (p : Point) → IsPoint k p → value mul p new ≡ bit_xor (value mul p old) (mul coefficient (powers mul exponents p.words))

-- a table of the first words, with exponents for the others
pub record IsPart (k words : ℕ) (exponents table : List ℕ) : Type 0 where
  pub small : IsSmall k words
  pub few : words ≤ 8
  pub long : length table ≡ 2 ^ (k * words)
  pub elements : AreElements k table
  pub raised : AllByRecursion (IsElement k) exponents
  pub zeros : (v : ℕ) → v < words → slice_index exponents v ≡ 0

-- new is old and the product of the table's polynomial with these powers, and no other word stands in it
pub record AddsPart (k : ℕ) (mul : ℕ → ℕ → ℕ) (words : ℕ) (exponents table : List ℕ) (old new : Terms) : Type 0 where
  pub reduced : IsReduced k new
  pub values : AddsTable k mul words exponents table old new
  pub kept : (all : ℕ) → words ≤ all → IsZeros (drop all exponents) → AreOfWords all old → AreOfWords all new
