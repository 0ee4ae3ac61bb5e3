-- Tables that are made bit by bit.
use Rattle.std.proofs.Common.{◌≡◌, ◌≢◌, ◌⊎◌, ◌∙◌, ap, sym, refl, inl, inr, subst, ℕ, zero, suc, ◌<◌, ◌≤◌, ◌+◌, ◌*◌, ◌-◌, ◌/◌, ◌%◌, ◌^◌, Bool, arith, pow-suc, pow_mono, mod-eq_of_lt, zero-mul, one-mul}
use Rattle.std.specs.Int.{bit_at}
use Rattle.std.proofs.lemmas.Nat.Bits.{bit_at_cat_low, bit_at_cat_high, bit_at_lowest, same_from_bits_below}
use Rattle.lists.specs.laws.NumberLaws.{nat_eq_or}
use Rattle.net_simplify.specs.private.Lists.{with_place}

shl_small : (v i : ℕ) → v < 2 → i < 64 → v * 2 ^ i % 18446744073709551616 ≡ v * 2 ^ i
shl_small zero i small less = mod-eq_of_lt (omega (arith, zero-mul (2 ^ i)))
shl_small (suc zero) i small less = mod-eq_of_lt (omega (arith, one-mul (2 ^ i), pow_mono {i = i} {j = 63} (omega (arith, less))))
shl_small (suc (suc v)) i small less = absurd (omega arith)

pub pushed_small : (table v i : ℕ) → v < 2 → i < 64 → table < 2 ^ i → table + v * 2 ^ i % 18446744073709551616 < 2 ^ (i + 1)
pushed_small table v i small less fits = by v small (shl_small v i small less)
  where
    by : (w : ℕ) → w < 2 → v * 2 ^ i % 18446744073709551616 ≡ w * 2 ^ i → table + v * 2 ^ i % 18446744073709551616 < 2 ^ (i + 1)
    by zero w e = omega (arith, fits, e, zero-mul (2 ^ i), pow-suc 2 i, next)
      where
        next : 2 ^ (i + 1) ≡ 2 ^ suc i
        next = let same : i + 1 ≡ suc i = omega arith in ap (λ k. 2 ^ k) same
    by (suc zero) w e = omega (arith, fits, e, one-mul (2 ^ i), pow-suc 2 i, next)
      where
        next : 2 ^ (i + 1) ≡ 2 ^ suc i
        next = let same : i + 1 ≡ suc i = omega arith in ap (λ k. 2 ^ k) same
    by (suc (suc u)) w e = absurd (omega arith)

pub pushed_fits : (table v i : ℕ) → v < 2 → i < 64 → table < 2 ^ i → table + v * 2 ^ i % 18446744073709551616 < 18446744073709551616
pushed_fits table v i small less fits = omega (arith, pushed_small table v i small less fits, pow_mono {i = i + 1} {j = 64} (omega (arith, less)))

cat_form : (table v i : ℕ) → v < 2 → i < 64 → table + v * 2 ^ i % 18446744073709551616 ≡ v * 2 ^ i + table
cat_form table v i small less = omega (arith, shl_small v i small less)

pub pushed_here : (table v i : ℕ) → v < 2 → i < 64 → table < 2 ^ i → bit_at (table + v * 2 ^ i % 18446744073709551616) i ≡ v
pushed_here table v i small less fits =
    ap (λ t. bit_at t i) (cat_form table v i small less)
    ∙ bit_at_cat_high v i table i fits (omega arith)
    ∙ (let e : i - i ≡ 0 = omega arith in ap (bit_at v) e)
    ∙ bit_at_lowest v
    ∙ mod-eq_of_lt small

pub pushed_below : (table v i : ℕ) → v < 2 → i < 64 → (k : ℕ) → k < i → bit_at (table + v * 2 ^ i % 18446744073709551616) k ≡ bit_at table k
pushed_below table v i small less k low = ap (λ t. bit_at t k) (cat_form table v i small less) ∙ bit_at_cat_low v i table k low

-- two tables that are not the same differ at some index
pub differ_at : (w a b : ℕ) → a < 2 ^ w → b < 2 ^ w → a ≢ b → (i : ℕ) × (i < w) × (bit_at a i ≢ bit_at b i)
differ_at w a b fits fits' apart = elim (search_to w) [
  | inl found ↦ found
  | inr same ↦ absurd (apart (same_from_bits_below w a b fits fits' same))
]
  where
    search_to : (n : ℕ) → ((i : ℕ) × (i < n) × (bit_at a i ≢ bit_at b i)) ⊎ ((i : ℕ) → i < n → bit_at a i ≡ bit_at b i)
    search_to zero = inr (λ i less. absurd (omega arith))
    search_to (suc n) = elim (search_to n) [
      | inl found ↦ inl (found.0, omega (arith, found.1), found.2)
      | inr same ↦ elim (nat_eq_or (bit_at a n) (bit_at b n)) [
        | inr other ↦ inl (n, omega arith, other)
        | inl equal ↦ inr (λ i less. elim (nat_eq_or i n) [
          | inl here ↦ ap (bit_at a) here ∙ equal ∙ ap (bit_at b) (sym here)
          | inr there ↦ same i (omega (arith, less, there))
        ])
      ]
    ]

-- an index with one more place is below twice as much
pub with_place_small : (place bit index k : ℕ) → bit < 2 → place ≤ k → index < 2 ^ k → with_place place bit index < 2 ^ suc k
with_place_small zero bit index k small within less = omega (arith, small, less, pow-suc 2 k)
with_place_small (suc place) bit index zero small within less = absurd (omega arith)
with_place_small (suc place) bit index (suc k) small within less = omega (arith, with_place_small place bit (index / 2) k small (omega (arith, within)) (omega (arith, less, pow-suc 2 k)), pow-suc 2 (suc k), pow-suc 2 k)

pub with_place_table : (place bit index k : ℕ) → bit < 2 → place ≤ k → k ≤ 5 → index < 2 ^ k → with_place place bit index < 64
with_place_table place bit index k small within few less = omega (arith, with_place_small place bit index k small within less, pow_mono {i = suc k} {j = 6} (omega (arith, few)))

-- the same with a place less, as a number that is made so
pub bit_low : (place bit index r : ℕ) → bit < 2 → place ≤ 5 → index < 32 → r ≡ with_place (place - 1) bit (index / 2) → r < 64
bit_low place bit index r small within less same = omega (arith, same, with_place_table (place - 1) bit (index / 2) 5 small (omega (arith, within)) (omega arith) (omega (arith, less)))
