-- Bits of the table of a gate, and its exclusive-or form. Source: the covers of the BLIF format of UC Berkeley, written as a
-- table of bits; the form is the algebraic normal form (Zhegalkin; Reed and Muller).
use Rattle.std.specs.Prelude.{ℕ, ◌+◌, ◌*◌, Bool, true, false, not, ◌&&◌, cond, List, [], ◌∷◌, ◌==◌}
use Rattle.std.specs.Int.{bit_at}

-- the number that the bits of these nets or ranks make, the first one lowest; one may come more than once
abbrev pub index : (ℕ → Bool) → List ℕ → ℕ
index bit [] = 0
index bit (n ∷ ns) = cond (bit n) 1 0 + 2 * index bit ns

-- whether a place of the table is 1
abbrev pub table_bit : ℕ → ℕ → Bool
table_bit table i = bit_at table i == 1

-- what a table gives, as an element of the field
abbrev pub table_value : ℕ → List ℕ → (ℕ → Bool) → ℕ
table_value table ns bit = cond (table_bit table (index bit ns)) 1 0

-- whether exactly one of two holds
abbrev pub differ : Bool → Bool → Bool
differ true b = not b
differ false b = b

-- whether f holds an odd number of times at the subsets of an index: at `base` and any of the weights of the inputs that
-- are 1, where the first input has the weight `step`, and each the double of the one before
abbrev pub subset_parity : (ℕ → Bool) → (ℕ → Bool) → List ℕ → ℕ → ℕ → Bool
subset_parity f bit [] base step = f base
subset_parity f bit (n ∷ ns) base step = differ (subset_parity f bit ns base (2 * step)) (bit n && subset_parity f bit ns (base + step) (2 * step))
