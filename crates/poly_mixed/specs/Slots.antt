-- The slots of a polynomial: each monomial of its terms stands in exactly one of them, and for each bit there is the rising
-- list of the slots of the monomials that have it.
-- Source: the inverted file of Knuth, The Art of Computer Programming, volume 3, section 6.5.
use Rattle.std.specs.Prelude.{◌≡◌, ◌≢◌, ℕ, Bool, false, List, Option, Some, None, nat_eq, slice_index_or}
use Rattle.std.specs.List.{list_any}
use Rattle.std.specs.List.Sorted.{IsStrictlySortedBy}
use Rattle.std.specs.Option.{option_map}
use Rattle.std.specs.Ordering.{nat_cmp}
use Rattle.poly_mixed.specs.Monomial.{Monomial, has_bit}
use Rattle.poly_mixed.specs.Polynomial.{Polynomial, Terms, Slots, coefficient}

-- the monomial in a slot
abbrev pub slot_at : Slots → ℕ → Option Monomial
slot_at slots slot = slice_index_or slots slot None

-- the coefficient and the monomial in a slot
abbrev pub term_in : Polynomial → ℕ → Option (ℕ × Monomial)
term_in p slot = option_map (λ m. (coefficient p.terms m, m)) (slot_at p.slots slot)

-- whether a slot holds a monomial that has the bit
abbrev pub stands : ℕ → Option Monomial → Bool
stands bit None = false
stands bit (Some m) = has_bit bit m

-- the rising list of exactly the slots whose monomials have the bit
pub record IsListOf (bit : ℕ) (slots : Slots) (list : List ℕ) : Type 0 where
  pub rising : IsStrictlySortedBy nat_cmp list
  pub exactly : (slot : ℕ) → list_any (λ s. nat_eq s slot) list ≡ stands bit (slot_at slots slot)

-- each monomial of the terms stands in exactly one slot, and no other monomial in any
pub record AreSlotsOf (ts : Terms) (slots : Slots) : Type 0 where
  pub each : (m : Monomial) → coefficient ts m ≢ 0 → (slot : ℕ) × (slot_at slots slot ≡ Some m)
  pub once : (m : Monomial) (s t : ℕ) → slot_at slots s ≡ Some m → slot_at slots t ≡ Some m → s ≡ t
  pub only : (slot : ℕ) (m : Monomial) → slot_at slots slot ≡ Some m → coefficient ts m ≢ 0
