-- Repeated squares and the trace (Lidl and Niederreiter, Finite Fields, chapter 2, section 3).
use Rattle.std.specs.Prelude.{◌≡◌, ℕ, zero, suc, ◌<◌, ◌^◌, ◌⊎◌, bit_xor}

-- a squared j times
unfoldable pub frobenius : (ℕ → ℕ → ℕ) → ℕ → ℕ → ℕ
frobenius mul zero a = a
frobenius mul (suc j) a = mul (frobenius mul j a) (frobenius mul j a)

-- the sum of a squared 0 to k - 1 times
unfoldable pub trace : (ℕ → ℕ → ℕ) → ℕ → ℕ → ℕ
trace mul zero a = 0
trace mul (suc k) a = bit_xor (trace mul k a) (frobenius mul k a)

-- the trace is 0 or 1, is additive, and some element has the trace 1
pub record IsTrace (k : ℕ) (mul : ℕ → ℕ → ℕ) : Type 0 where
  pub bit : (a : ℕ) → a < 2 ^ k → (trace mul k a ≡ 0) ⊎ (trace mul k a ≡ 1)
  pub additive : (a b : ℕ) → trace mul k (bit_xor a b) ≡ bit_xor (trace mul k a) (trace mul k b)
  pub witness : ℕ
  pub element : witness < 2 ^ k
  pub not_zero : trace mul k witness ≡ 1
