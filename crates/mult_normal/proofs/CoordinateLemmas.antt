-- Coordinates in a basis are its bits.
use Rattle.std.proofs.Common.{◌≡◌, ◌∙◌, ap, ap₂, sym, refl, subst, ℕ, ◌<◌, ◌-◌, ◌/◌, ◌%◌, ◌^◌, zero, suc, inl, inr, Bool, true, false, cond, List, length, arith}
use Rattle.std.specs.Prelude.{◌==◌, slice_index}
use Rattle.gf_basis.specs.Basis.{AreBits, IsBasis, HasOnlyBits}
use Rattle.mult_normal.specs.Coordinates.{coordinates_in, counts_in, found_below}
use Rattle.std.proofs.lemmas.Bool.{cases_eq, eq-eqb, eqb-true}
use Rattle.irreducible.specs.Span.{combination}

-- the only number below n that has a property is found
found_is : (n : ℕ) (property : ℕ → Bool) (c : ℕ) → c < n → property c ≡ true → ((b : ℕ) → b < n → property b ≡ true → b ≡ c) → found_below n property ≡ c
unfolding found_below
found_is zero property c less has only = absurd (omega arith)
found_is (suc n) property c less has only = elim (property n) as (λ r. property n ≡ r → cond r n (found_below n property) ≡ c) [
  | true ↦ λ here. only n (omega arith) here
  | false ↦ λ none. found_is n property c (lower none) has (λ b low holds. only b (omega (arith, low)) holds)
] refl
  where
    lower : property n ≡ false → c < n
    lower none = elim (cases_eq c n) [
      | inl same ↦ let other : property n ≡ true = (let P : ℕ → Type 0 = λ m. property m ≡ true in subst P same has) in absurd (cc)
      | inr differ ↦ omega (arith, less, differ)
    ]

module _ (k : ℕ) (elements : List ℕ) (basis : IsBasis k elements) where
  found_bits : (x : ℕ) → HasOnlyBits elements x → AreBits elements x (coordinates_in elements x)
  unfolding coordinates_in
  found_bits x one =
      subst (AreBits elements x)
      (sym (found_is (2 ^ length elements) (λ bits. combination elements bits == x) one.choice one.chosen.short (eq-eqb (combination elements one.choice) x one.chosen.is) (λ b low holds. one.only b (record { short = low; is = eqb-true (combination elements b) x holds }))))
      one.chosen

  pub coordinates_are : (x : ℕ) → x < 2 ^ k → AreBits elements x (coordinates_in elements x)
  coordinates_are x below = found_bits x (basis.sums x below)

  bits_are : (x b : ℕ) → HasOnlyBits elements x → AreBits elements x b → b ≡ coordinates_in elements x
  bits_are x b one are = one.only b are ∙ sym (one.only (coordinates_in elements x) (found_bits x one))

  -- the last bit of a product of two elements of the basis
  pub counts_are : (mul : ℕ → ℕ → ℕ) (i j x b m : ℕ) → x < 2 ^ k → x ≡ mul (slice_index elements i) (slice_index elements j) → AreBits elements x b → m ≡ k → (b / 2 ^ (m - 1) % 2 == 1) ≡ counts_in k mul elements i j
  counts_are mul i j x b m below product are same =
      ap₂ (λ v n. v / 2 ^ (n - 1) % 2 == 1) (bits_are x b (basis.sums x below) are ∙ ap (coordinates_in elements) product) same
