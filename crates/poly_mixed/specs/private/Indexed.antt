-- Monomials in a map, each with its coefficient and its slot. Source: this project's own.
use Rattle.std.specs.Prelude.{◌≡◌, ◌≢◌, ℕ, List, Option, Some, map}
use Rattle.std.specs.Map.{lookup, remove_entry}
use Rattle.std.specs.Option.{option_map}
use Rattle.std.specs.Ordering.{eq_by_cmp}
use Rattle.poly_mixed.specs.Monomial.{Monomial, text_cmp}
use Rattle.poly_mixed.specs.Polynomial.{Terms, Slots, IsMap}
use Rattle.poly_mixed.specs.Slots.{slot_at}
use Rattle.poly_mixed.specs.declared.place.Place.{Place}

abbrev pub Entries : Type 0
Entries = List (Monomial × Place)

-- the terms of the map
abbrev pub terms_in : Entries → Terms
terms_in entries = map (λ e. (e.0, e.1.coefficient)) entries

-- the slot of a monomial
abbrev pub slot_of : Entries → Monomial → Option ℕ
slot_of entries m = option_map (λ p. p.slot) (lookup (eq_by_cmp text_cmp m) entries)

-- the terms are a polynomial's, and each monomial of the map stands in its slot, and no other in any
pub record IsIndexed (entries : Entries) (slots : Slots) : Type 0 where
  pub is_map : IsMap (terms_in entries)
  pub there : (m : Monomial) (slot : ℕ) → slot_of entries m ≡ Some slot → slot_at slots slot ≡ Some m
  pub back : (slot : ℕ) (m : Monomial) → slot_at slots slot ≡ Some m → slot_of entries m ≡ Some slot

-- ts has the term t, and us are the others
pub record IsTaken (ts : Terms) (t : Monomial × ℕ) (us : Terms) : Type 0 where
  pub had : lookup (eq_by_cmp text_cmp t.0) ts ≡ Some t.1
  pub left : us ≡ remove_entry (eq_by_cmp text_cmp t.0) ts

-- one slot holds this, and each other holds what it held
pub record Changes (old new : Slots) (slot : ℕ) (holds : Option Monomial) : Type 0 where
  pub changed : slot_at new slot ≡ holds
  pub others : (s : ℕ) → s ≢ slot → slot_at new s ≡ slot_at old s
