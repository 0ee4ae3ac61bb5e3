-- Sums with one term changed.
use Rattle.std.proofs.Common.{◌≡◌, ◌≢◌, ◌∙◌, ap, ap₂, sym, inl, inr, ℕ, zero, suc, ◌<◌, ◌≤◌, ◌+◌, ◌*◌, cond, arith}
use Rattle.std.specs.Prelude.{bit_xor, ◌==◌}
use Rattle.std.specs.Int.Bits.{xor_assoc, xor_comm, xor_zero_r}
use Rattle.std.proofs.lemmas.Nat.{same_from_place}
use Rattle.lists.specs.laws.NumberLaws.{nat_eq_or}
use Rattle.lists.specs.laws.TestLaws.{chosen_equal, chosen_other}
use Rattle.gf_field.proofs.SharedLemmas.{same_sum}
use Rattle.gf_field.specs.Polynomial.{sum_of_first}

-- no term is changed
sum_kept : (n place h : ℕ) (f : ℕ → ℕ) → n ≤ place → sum_of_first n (λ i. bit_xor (f i) (cond (i == place) h 0)) ≡ sum_of_first n f
sum_kept n place h f high = same_sum n (λ i. bit_xor (f i) (cond (i == place) h 0)) f (λ i less. ap (bit_xor (f i)) (chosen_other i place h 0 (λ e. omega (arith, e, less, high))) ∙ xor_zero_r (f i))

-- one term is changed by h
pub sum_one : (n place h : ℕ) (f : ℕ → ℕ) → place < n → sum_of_first n (λ i. bit_xor (f i) (cond (i == place) h 0)) ≡ bit_xor (sum_of_first n f) h
sum_one zero place h f less = absurd (omega arith)
sum_one (suc n) place h f less =
    elim (nat_eq_or place n) [
      | inl same ↦
          ap₂ bit_xor (sum_kept n place h f (omega (arith, same))) (ap (bit_xor (f n)) (chosen_equal n place h 0 (sym same)))
          ∙ sym (xor_assoc (sum_of_first n f) (f n) h)
      | inr other ↦
          ap₂ bit_xor (sum_one n place h f (omega (arith, less, other))) (ap (bit_xor (f n)) (chosen_other n place h 0 (λ e. other (sym e))) ∙ xor_zero_r (f n))
          ∙ (xor_assoc (sum_of_first n f) h (f n) ∙ (ap (bit_xor (sum_of_first n f)) (xor_comm h (f n)) ∙ sym (xor_assoc (sum_of_first n f) (f n) h)))
    ]

-- one term of a double sum, that of place q of k rows of k, is changed by h
pub sum_pair : (k row place : ℕ) (f : ℕ → ℕ → ℕ) (h : ℕ) → row < k → place < k → sum_of_first k (λ i. sum_of_first k (λ j. bit_xor (f i j) (cond (i * k + j == row * k + place) h 0))) ≡ bit_xor (sum_of_first k (λ i. sum_of_first k (f i))) h
sum_pair k row place f h first second =
    same_sum k (λ i. sum_of_first k (λ j. bit_xor (f i j) (cond (i * k + j == row * k + place) h 0))) (λ i. bit_xor (sum_of_first k (f i)) (cond (i == row) h 0)) (λ i less. by i less)
    ∙ sum_one k row h (λ i. sum_of_first k (f i)) first
  where
    in_row : (i j : ℕ) → i ≡ row → cond (i * k + j == row * k + place) h 0 ≡ cond (j == place) h 0
    in_row i j same =
        elim (nat_eq_or j place) [
          | inl e ↦ chosen_equal (i * k + j) (row * k + place) h 0 (ap₂ (λ x y. x * k + y) same e) ∙ sym (chosen_equal j place h 0 e)
          | inr e ↦ chosen_other (i * k + j) (row * k + place) h 0 (λ all. e (omega (arith, all, ap (λ x. x * k) same))) ∙ sym (chosen_other j place h 0 e)
        ]

    elsewhere : (i j : ℕ) → i ≢ row → j < k → cond (i * k + j == row * k + place) h 0 ≡ 0
    elsewhere i j other less = chosen_other (i * k + j) (row * k + place) h 0 (λ all. other (same_from_place i j row place k less second all).0)

    by : (i : ℕ) → i < k → sum_of_first k (λ j. bit_xor (f i j) (cond (i * k + j == row * k + place) h 0)) ≡ bit_xor (sum_of_first k (f i)) (cond (i == row) h 0)
    by i less =
        elim (nat_eq_or i row) [
          | inl same ↦
              same_sum k (λ j. bit_xor (f i j) (cond (i * k + j == row * k + place) h 0)) (λ j. bit_xor (f i j) (cond (j == place) h 0)) (λ j low. ap (bit_xor (f i j)) (in_row i j same))
              ∙ (sum_one k place h (f i) second ∙ ap (bit_xor (sum_of_first k (f i))) (sym (chosen_equal i row h 0 same)))
          | inr other ↦
              same_sum k (λ j. bit_xor (f i j) (cond (i * k + j == row * k + place) h 0)) (f i) (λ j low. ap (bit_xor (f i j)) (elsewhere i j other low) ∙ xor_zero_r (f i j))
              ∙ (sym (xor_zero_r (sum_of_first k (f i))) ∙ ap (bit_xor (sum_of_first k (f i))) (sym (chosen_other i row h 0 other)))
        ]
