-- The inverse that an elimination of independent rows gives.
use Rattle.std.proofs.Common.{◌≡◌, ℕ, sym, ◌∙◌, ap, ◌<◌, ◌^◌, ◌%◌, inl, inr, arith, pow_pos, pow-suc, List, length, get_or}
use Rattle.std.specs.Prelude.{bit_xor, slice_index}
use Rattle.std.specs.Int.Bits.{xor_self, xor_lt, xor_zero_r}
use Rattle.std.proofs.lemmas.Bool.{cases_lt}
use Rattle.std.proofs.lemmas.Nat.{pow_below}
use Rattle.std.proofs.lemmas.Nat.Bits.{same_from_bits, bit_at_above}
use native.Mathlib.Nat.{mod-eq_of_lt}
use Rattle.lists.specs.laws.XorLaws.{xor_same, xor_cancel}
use Rattle.gf_field.specs.laws.PigeonholeLaws.{FoundAt}
use Rattle.irreducible.specs.Span.{combination, InSpan, IsIndependent}
use Rattle.irreducible.specs.laws.SpanLaws.{span_all, combination-xor, combination_below, reaches, IsIndependent-from_rank, rank-from_independent}
use Rattle.irreducible.specs.laws.AdditiveLaws.{IsAdditive-self, IsAdditive-combination, additive-combination}
use Rattle.irreducible.specs.private.Pivots.{IsTop, IsCleared, IsRankSoFar, AreChoices}
use Rattle.irreducible.specs.Matrix.{IsSquare, AreInverse}
use Rattle.irreducible.proofs.PivotLaws.{rank_end}
use Rattle.irreducible.proofs.MatrixLaws.{choices_make, choices_short}

-- rows of full rank are independent, others are not
pub full_rank : (rows sums : List ℕ) (r : ℕ) → IsRankSoFar rows sums (length rows) r → r ≡ length rows → IsIndependent rows
full_rank rows sums r k e = IsIndependent-from_rank rows r (rank_end rows sums (length rows) r k (omega arith)) e

pub rank_full : (rows sums : List ℕ) (r : ℕ) → IsRankSoFar rows sums (length rows) r → IsIndependent rows → r ≡ length rows
rank_full rows sums r k free = rank-from_independent rows r (rank_end rows sums (length rows) r k (omega arith)) free

-- independent rows keep words apart, and reach each word
pub sums_apart : (rows : List ℕ) → IsIndependent rows → (i j : ℕ) → i < 2 ^ length rows → j < 2 ^ length rows → combination rows i ≡ combination rows j → i ≡ j
sums_apart rows free i j hi hj e = xor_same i j (free.only_zero (bit_xor i j) (xor_lt (length rows) i j hi hj) (combination-xor rows i j ∙ ap (λ x. bit_xor x (combination rows j)) e ∙ xor_self (combination rows j)))

pub sums_reach : (rows : List ℕ) → IsSquare rows → IsIndependent rows → (v : ℕ) → v < 2 ^ length rows → FoundAt (combination rows) (2 ^ length rows) v
sums_reach rows square free = reaches (2 ^ length rows) (combination rows) (λ i h. combination_below rows (length rows) i square) (sums_apart rows free)

module _ (rows sums choices : List ℕ) (square : IsSquare rows) (r : ℕ) (k : IsRankSoFar rows sums (length rows) r) (e : r ≡ length rows) (a : AreChoices rows sums choices) (same : length choices ≡ length sums) where
  free : IsIndependent rows
  free = full_rank rows sums r k e

  top_pivot : (t : ℕ) → t < length rows → IsTop t (slice_index sums t)
  top_pivot t h = k.complete (2 ^ t) t (in_basis (sums_reach rows square free (2 ^ t) (pow_below t (length rows) h))) (record { low = omega arith; high = omega (arith, pow-suc 2 t, pow_pos t) })
    where
      in_basis : FoundAt (combination rows) (2 ^ length rows) (2 ^ t) → InSpan k.basis (2 ^ t)
      in_basis w = let p : InSpan k.basis (combination rows w.at) = span_all rows k.basis k.spans w.at in record { choice = p.choice; is = p.is ∙ w.is }

  sums_below : (used : ℕ) → combination sums used < 2 ^ length rows
  sums_below used = combination_below sums (length rows) used (λ t l. rw (sym (a.makes t)) (combination_below rows (length rows) (slice_index choices t) square))

  unit_cleared : (i left used : ℕ) → i < length rows → IsCleared sums (2 ^ i) left used 0 → left ≡ 0
  unit_cleared i left used h d = same_from_bits left 0 (λ t. elim (cases_lt t (length rows)) [
    | inl less ↦ d.cleared t (omega arith) (top_pivot t less) ∙ sym (bit_at_above 0 t t (pow_pos t) (omega arith))
    | inr more ↦ bit_at_above left (length rows) t small more ∙ sym (bit_at_above 0 t t (pow_pos t) (omega arith))
  ])
    where
      small : left < 2 ^ length rows
      small = rw (sym (ap (bit_xor (2 ^ i)) d.within ∙ xor_cancel (2 ^ i) left)) (xor_lt (length rows) (2 ^ i) (combination sums used) (pow_below i (length rows) h) (sums_below used))

  pub inverse_row : (i left used : ℕ) → i < length rows → IsCleared sums (2 ^ i) left used 0 → combination rows (combination choices used) ≡ 2 ^ i
  inverse_row i left used h d = choices_make rows sums choices a same used ∙ d.within ∙ ap (bit_xor (2 ^ i)) (unit_cleared i left used h d) ∙ xor_zero_r (2 ^ i)

  pub inverse_short : (used : ℕ) → combination choices used < 2 ^ length rows
  inverse_short used = choices_short rows sums choices a used

  pub AreInverse-from_rows : (b : List ℕ) → length b ≡ length rows → ((i : ℕ) → i < length rows → combination rows (get_or b i 0) ≡ 2 ^ i) → ((i : ℕ) → i < length rows → get_or b i 0 < 2 ^ length rows) → AreInverse rows b
  AreInverse-from_rows b size undo short = record {
    size = size;
    square = λ i h. rw (size) (short i (omega (arith, size)));
    after = after_at;
    before = λ v h. sums_apart rows free (combination b (combination rows v)) v (below (combination rows v)) h (after_at (combination rows v) (combination_below rows (length rows) v square));
  }
    where
      below : (v : ℕ) → combination b v < 2 ^ length rows
      below v = combination_below b (length rows) v (λ i h. short i (omega (arith, size)))

      after_at : (v : ℕ) → v < 2 ^ length rows → combination rows (combination b v) ≡ v
      after_at v h = additive-combination b (combination rows) (λ x. x) (IsAdditive-combination rows) IsAdditive-self (λ i l. undo i (omega (arith, size))) v ∙ ap (λ n. v % 2 ^ n) size ∙ mod-eq_of_lt h
