-- The steps of the code on bases.
use Rattle.std.proofs.Common.{◌≡◌, ℕ, zero, suc, refl, sym, ◌∙◌, ap, ap₂, ◌<◌, ◌≤◌, ◌^◌, ◌+◌, ◌*◌, ◌%◌, arith, List, length, get_or, take, drop, drop-cons, length-drop, bit_or}
use Rattle.std.specs.Int.Bits.{or_shifted}
use Rattle.std.proofs.lemmas.Nat.{shl_whole, pow_below}
use Rattle.std.proofs.lemmas.List.{ext_get_or, get_or-take, length-take-le}
use native.Mathlib.Nat.{mod-eq_of_lt}
use Rattle.gf_field.specs.Ring.{IsRing}
use Rattle.gf_field.specs.Field.{HasNoZeroDivisors}
use Rattle.gf_field.specs.Element.{AreElements}
use Rattle.gf_field.specs.Trace.{trace}
use Rattle.irreducible.specs.Span.{IsIndependent}
use Rattle.irreducible.specs.laws.AdditiveLaws.{IsAdditive-self, combination-additive}
use Rattle.gf_basis.specs.Basis.{first_values}
use Rattle.gf_basis.specs.private.TraceWord.{trace_word}
use Rattle.gf_basis.proofs.TraceWordLaws.{trace_word_below}

-- ---- first values
pub length-first_values : (k : ℕ) (f : ℕ → ℕ) → length (first_values k f) ≡ k
length-first_values zero f = refl
length-first_values (suc k) f = ap suc (length-first_values k (λ i. f (suc i)))

pub get_or-first_values : (k : ℕ) (f : ℕ → ℕ) (i : ℕ) → i < k → get_or (first_values k f) i 0 ≡ f i
get_or-first_values zero f i h = absurd (omega arith)
get_or-first_values (suc k) f zero h = refl
get_or-first_values (suc k) f (suc i) h = get_or-first_values k (λ j. f (suc j)) i (omega arith)

pub first_values_same : (k : ℕ) (f : ℕ → ℕ) (all : List ℕ) → k ≤ length all → ((i : ℕ) → i < k → get_or all i 0 ≡ f i) → take k all ≡ first_values k f
first_values_same k f all room same = ext_get_or 0 (take k all) (first_values k f) (count ∙ sym (length-first_values k f)) (λ i h. at i (omega (arith, count)))
  where
    count : length (take k all) ≡ k
    count = length-take-le k all room

    at : (i : ℕ) → i < k → get_or (take k all) i 0 ≡ get_or (first_values k f) i 0
    at i h = get_or-take k all i 0 h ∙ same i h ∙ sym (get_or-first_values k f i h)

-- the powers of 2 are independent
pub IsIndependent-units : (units : List ℕ) → ((i : ℕ) → i < length units → get_or units i 0 ≡ 2 ^ i) → IsIndependent units
IsIndependent-units units at = record { only_zero = λ c h e. sym (mod-eq_of_lt h) ∙ sym (combination-additive units (λ x. x) IsAdditive-self at c) ∙ e }

-- ---- a word of traces
module _ (k : ℕ) (mul : ℕ → ℕ → ℕ) (ring : IsRing k mul) (field : HasNoZeroDivisors k mul) where
  pub traces_step : (bs : List ℕ) (x i r t : ℕ) → length bs ≤ 64 → suc i ≤ length bs → r ≡ trace_word mul k (drop (suc i) bs) x → t ≡ trace mul k (mul (get_or bs i 0) x) → t ≤ 1 → bit_or (r * 2 % 2 ^ 64) t ≡ trace_word mul k (drop i bs) x
  traces_step bs x i r t few h is t_is small =
      ap (λ y. bit_or y t) (shl_whole r (length (drop (suc i) bs)) 1 64 (rw (is) (trace_word_below k mul ring field (drop (suc i) bs) x)) (omega (arith, length-drop (suc i) bs)))
      ∙ or_shifted r 1 t (omega arith)
      ∙ ap₂ (λ p q. p * 2 + q) is t_is
      ∙ sym (ap (λ l. trace_word mul k l x) (drop-cons bs i 0 h))

-- ---- the polynomial basis
pub taken_same : (k n : ℕ) (f : ℕ → ℕ) (all : List ℕ) → n ≡ k → k ≤ length all → ((i : ℕ) → i < k → get_or all i 0 ≡ f i) → take n all ≡ first_values k f
taken_same k n f all e room same = ap (λ m. take m all) e ∙ first_values_same k f all room same

pub AreElements-units : (k : ℕ) → AreElements k (first_values k (λ i. 2 ^ i))
AreElements-units k i h = let l : i < k = omega (arith, length-first_values k (λ i. 2 ^ i)) in rw (get_or-first_values k (λ i. 2 ^ i) i l) (pow_below i k l)

pub IsIndependent-powers : (k : ℕ) → IsIndependent (first_values k (λ i. 2 ^ i))
IsIndependent-powers k = IsIndependent-units (first_values k (λ i. 2 ^ i)) (λ i h. get_or-first_values k (λ i. 2 ^ i) i (omega (arith, length-first_values k (λ i. 2 ^ i))))
