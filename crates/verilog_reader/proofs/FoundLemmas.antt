-- What is found of the bits of a vector.
use Rattle.std.proofs.Common.{◌≡◌, ap, refl, ℕ, ◌+◌, ◌-◌, ◌/◌, ◌%◌, ◌^◌, ◌<◌, ◌≤◌, Bool, true, false, List, [], ◌∷◌, ◌++◌, length, decimal, length-append, None, Some, arith}
use Rattle.std.specs.Prelude.{nat_lt, slice_get}
use Rattle.std.proofs.lemmas.Bool.{ltb-true, ltb-false}
use Rattle.std.proofs.lemmas.Fmt.{decimal_by_steps, decimal_step, length-decimal-le}
use Rattle.net_verilog.specs.Declarations.{Declarations, bit_name, range_of}
use Rattle.verilog_reader.specs.private.Meets.{AreShort, Decides, HasScalar, IsFound}
use Rattle.verilog_reader.proofs.NameLemmas.{name_split}

-- a number with more digits is larger
decimal_rises : (i j : ℕ) → i ≤ j → j < 2 ^ 64 → length (decimal i) ≤ length (decimal j)
decimal_rises i j below small = decimal_by_steps Rises one more j small i below (omega (arith, below, small))
  where
    Rises : ℕ → List ℕ → Type 0
    Rises n ds = (i : ℕ) → i ≤ n → i < 2 ^ 64 → length (decimal i) ≤ length ds

    one : (n : ℕ) → n < 10 → Rises n ((48 + n) ∷ [])
    one n few i below small = length-decimal-le 1 i (omega arith) (omega (arith, few, below)) small

    more : (n : ℕ) (ds : List ℕ) → 10 ≤ n → Rises (n / 10) ds → Rises n (ds ++ ((48 + n % 10) ∷ []))
    more n ds many rises i below small = by (nat_lt i 10) refl
      where
        by : (b : Bool) → nat_lt i 10 ≡ b → length (decimal i) ≤ length (ds ++ ((48 + n % 10) ∷ []))
        by true is = omega (arith, length-decimal-le 1 i (omega arith) (omega (arith, ltb-true i 10 is)) small, length-append ds ((48 + n % 10) ∷ []))
        by false is = omega (arith, rises (i / 10) (omega (arith, below)) (omega (arith, small)), ap length (decimal_step i (ltb-false i 10 is) small), length-append (decimal (i / 10)) ((48 + i % 10) ∷ []), length-append ds ((48 + n % 10) ∷ []))

bit_length : (name : List ℕ) (i : ℕ) → length (bit_name name i) ≡ length name + (2 + length (decimal i))
bit_length name i = omega (arith, ap length (name_split name i), length-append name (91 ∷ (decimal i ++ 93 ∷ [])), length-append (decimal i) (93 ∷ []))

-- no index before a place of a list is inside a range and that of a declared scalar
abbrev pub IsNoneBefore : Declarations → List ℕ → ℕ → ℕ → List ℕ → ℕ → Type 0
IsNoneBefore declared name low high list end = (place i : ℕ) → place < end → slice_get list place ≡ Some i → low ≤ i → i ≤ high → range_of declared (bit_name name i) ≡ Some None → ⊥

module _ (declared : Declarations) (name : List ℕ) (low high : ℕ) where
  all_short : high ≤ 65535 → length (bit_name name high) ≤ 255 → AreShort name low (1 + high)
  all_short small short i above below = omega (arith, short, bit_length name i, bit_length name high, decimal_rises i high (omega (arith, below)) (omega (arith, small)))

  pub found_short : high ≤ 65535 → nat_lt 255 (length (bit_name name high)) ≡ false → (met : Bool) → Decides met (HasScalar declared name low (1 + high)) → IsFound declared name low (1 + high) (Some met)
  found_short small short true has = (all_short small (omega (arith, ltb-false 255 (length (bit_name name high)) short)), has)
  found_short small short false none = (all_short small (omega (arith, ltb-false 255 (length (bit_name name high)) short)), none)
