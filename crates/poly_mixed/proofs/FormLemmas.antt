-- The exclusive-or form of a table: six steps, each of which is its own inverse.
use Rattle.std.proofs.Common.{◌≡◌, ℕ, zero, suc, ◌+◌, ◌-◌, ◌*◌, ◌/◌, ◌%◌, ◌^◌, ◌<◌, ◌≤◌, Bool, true, false, cond, ◌&&◌, ◌==◌, List, [], ◌∷◌, length, bit_and, bit_xor, min, inl, inr, refl, sym, ◌∙◌, ap, subst, arith, pow-suc, mul_assoc, mul_comm, mul-add, add_assoc, mul-one}
use Rattle.std.specs.Int.{bit_at}
use Rattle.std.proofs.lemmas.Bool.{eqb-true, and_parts, cases_lt, cases_eq}
use Rattle.std.proofs.lemmas.Nat.{div-mul-add, pow_pos, pow-add}
use Rattle.std.proofs.Math.Nat.{pow-le-pow_right}
use Rattle.std.proofs.lemmas.Nat.Bits.{bit_at_xor, bit_at_and, bit_at-lt, bit_at_cat_low, bit_at_cat_high}
use native.Mathlib.Nat.{div-eq_of_lt, div-add-mod'}
use Rattle.lists.specs.laws.NumberLaws.{self_plus_zero, one_more_times}
use Rattle.poly_mixed.specs.Table.{index, table_bit, differ, subset_parity}

-- whether a number is odd
abbrev is_odd : ℕ → Bool
is_odd n = n % 2 == 1

-- at the places whose digit of weight s is 1 the bit s places below is added
abbrev pub step : ℕ → (ℕ → Bool) → ℕ → Bool
step s f n = differ (f n) (is_odd (n / s) && f (n - s))

-- ---- what the code does is a step

differ_false : (b : Bool) → differ b false ≡ b
differ_false true = refl
differ_false false = refl

add_bits : (a b : ℕ) → a < 2 → b < 2 → ((a + b) % 2 == 1) ≡ differ (a == 1) (b == 1)
add_bits zero zero la lb = refl
add_bits zero (suc zero) la lb = refl
add_bits (suc zero) zero la lb = refl
add_bits (suc zero) (suc zero) la lb = refl
add_bits zero (suc (suc b)) la lb = absurd (omega arith)
add_bits (suc zero) (suc (suc b)) la lb = absurd (omega arith)
add_bits (suc (suc a)) b la lb = absurd (omega arith)

least_bit : (a m : ℕ) → a < 2 → m < 2 → (min a m == 1) ≡ ((m == 1) && (a == 1))
least_bit zero zero la lm = refl
least_bit zero (suc zero) la lm = refl
least_bit (suc zero) zero la lm = refl
least_bit (suc zero) (suc zero) la lm = refl
least_bit zero (suc (suc m)) la lm = absurd (omega arith)
least_bit (suc zero) (suc (suc m)) la lm = absurd (omega arith)
least_bit (suc (suc a)) m la lm = absurd (omega arith)

-- a bit of a number that was shifted up in 64 places
shifted : (t s n : ℕ) → s ≤ n → n < 64 → bit_at (t * 2 ^ s % 2 ^ 64) n ≡ bit_at t (n - s)
shifted t s n low less =
    let x = t * 2 ^ s in
    sym (bit_at_cat_low (x / 2 ^ 64) 64 (x % 2 ^ 64) n less)
    ∙ ap (λ y. bit_at y n) (div-add-mod' x (2 ^ 64) ∙ self_plus_zero x)
    ∙ bit_at_cat_high t s 0 n (pow_pos s) low

below_even : (n s : ℕ) → n < s → is_odd (n / s) ≡ false
below_even n s less = ap (λ d. d % 2 == 1) (div-eq_of_lt less)

pub code_step : (s t mask : ℕ) → ((n : ℕ) → n < 64 → bit_at mask n ≡ n / s % 2) → (n : ℕ) → n < 64
    → table_bit (bit_xor t (bit_and (t * 2 ^ s % 2 ^ 64) mask)) n ≡ step s (table_bit t) n
code_step s t mask digits n less =
    let up = t * 2 ^ s % 2 ^ 64 in
    ap (λ b. b == 1) (bit_at_xor t (bit_and up mask) n)
    ∙ add_bits (bit_at t n) (bit_at (bit_and up mask) n) (bit_at-lt t n) (bit_at-lt (bit_and up mask) n)
    ∙ ap (differ (table_bit t n))
    (ap (λ b. b == 1) (bit_at_and up mask n)
    ∙ least_bit (bit_at up n) (bit_at mask n) (bit_at-lt up n) (bit_at-lt mask n)
    ∙ ap (λ d. (d == 1) && (bit_at up n == 1)) (digits n less)
    ∙ elim (cases_lt n s) [
      | inl low ↦ ap (λ b. b && (bit_at up n == 1)) (below_even n s low) ∙ sym (ap (λ b. b && table_bit t (n - s)) (below_even n s low))
      | inr high ↦ ap (λ b. is_odd (n / s) && (b == 1)) (shifted t s n high less)
    ])

-- a test of all numbers below a bound
abbrev all_below : (ℕ → Bool) → ℕ → Bool
all_below f zero = true
all_below f (suc n) = f n && all_below f n

tested : (f : ℕ → Bool) (m n : ℕ) → all_below f m ≡ true → n < m → f n ≡ true
tested f zero n all less = absurd (omega arith)
tested f (suc m) n all less =
    let parts = and_parts (f m) (all_below f m) all in
    elim (cases_eq n m) [
      | inl same ↦ ap f same ∙ parts.0
      | inr other ↦ tested f m n parts.1 (omega arith)
    ]

mask_digits : (s mask : ℕ) → all_below (λ n. bit_at mask n == n / s % 2) 64 ≡ true → (n : ℕ) → n < 64 → bit_at mask n ≡ n / s % 2
mask_digits s mask all n less = eqb-true (bit_at mask n) (n / s % 2) (tested (λ n. bit_at mask n == n / s % 2) 64 n all less)

pub digits_32 : (n : ℕ) → n < 64 → bit_at 18446744069414584320 n ≡ n / 32 % 2
digits_32 = mask_digits 32 18446744069414584320 refl

pub digits_16 : (n : ℕ) → n < 64 → bit_at 18446462603027742720 n ≡ n / 16 % 2
digits_16 = mask_digits 16 18446462603027742720 refl

pub digits_8 : (n : ℕ) → n < 64 → bit_at 18374966859414961920 n ≡ n / 8 % 2
digits_8 = mask_digits 8 18374966859414961920 refl

pub digits_4 : (n : ℕ) → n < 64 → bit_at 17361641481138401520 n ≡ n / 4 % 2
digits_4 = mask_digits 4 17361641481138401520 refl

pub digits_2 : (n : ℕ) → n < 64 → bit_at 14757395258967641292 n ≡ n / 2 % 2
digits_2 = mask_digits 2 14757395258967641292 refl

pub digits_1 : (n : ℕ) → n < 64 → bit_at 12297829382473034410 n ≡ n / 1 % 2
digits_1 = mask_digits 1 12297829382473034410 refl

-- ---- a step, summed over the subsets of an index, is undone

-- the digit of weight s is 0
abbrev IsLow : ℕ → ℕ → Type 0
IsLow s c = (q : ℕ) × (r : ℕ) × (r < s) × (c ≡ 2 * q * s + r)

-- a multiple of the weight's double
abbrev IsTwice : ℕ → ℕ → Type 0
IsTwice s t = (m : ℕ) × (t ≡ 2 * m * s)

low_more : (s c t : ℕ) → IsLow s c → IsTwice s t → IsLow s (c + t)
low_more s c t (q, r, less, is) (m, twice) =
    (q + m, r, less, (λ i. is i + twice i) ∙ shuffle (2 * q * s) r (2 * m * s) ∙ ap (λ n. n + r) (sum s q m))
  where
    shuffle : (a b c : ℕ) → a + b + c ≡ a + c + b
    shuffle a b c = omega arith

    sum : (s q m : ℕ) → 2 * q * s + 2 * m * s ≡ 2 * (q + m) * s
    sum s q m = (λ i. mul_comm (2 * q) s i + mul_comm (2 * m) s i) ∙ sym (mul-add s (2 * q) (2 * m)) ∙ mul_comm s (2 * q + 2 * m) ∙ ap (λ n. n * s) (sym (mul-add 2 q m))

twice_more : (s t : ℕ) → IsTwice s t → IsTwice s (2 * t)
twice_more s t (m, twice) = (2 * m, ap (λ n. 2 * n) twice ∙ sym (mul_assoc 2 (2 * m) s))

low_even : (s c : ℕ) → IsLow s c → is_odd (c / s) ≡ false
low_even s c (q, r, less, is) =
    ap (λ n. is_odd (n / s)) is ∙ ap is_odd (div-mul-add (2 * q) s r less) ∙ ap (λ n. n == 1) (let even : 2 * q % 2 ≡ 0 = omega arith in even)

high_odd : (s c : ℕ) → IsLow s c → is_odd ((c + s) / s) ≡ true
high_odd s c (q, r, less, is) =
    ap (λ n. is_odd ((n + s) / s)) is ∙ ap (λ n. is_odd (n / s)) (next (2 * q) s r) ∙ ap is_odd (div-mul-add (2 * q + 1) s r less) ∙ ap (λ n. n == 1) (let odd : (2 * q + 1) % 2 ≡ 1 = omega arith in odd)
  where
    next : (a s r : ℕ) → a * s + r + s ≡ (a + 1) * s + r
    next a s r = let more : (a + 1) * s ≡ a * s + s = mul_comm (a + 1) s ∙ mul-add s a 1 ∙ (λ i. mul_comm s a i + mul-one s i) in omega arith

swap : (b y x z w : Bool) → differ (differ y x) (b && differ z w) ≡ differ (differ y (b && z)) (differ x (b && w))
swap true true true true true = refl
swap true true true true false = refl
swap true true true false true = refl
swap true true true false false = refl
swap true true false true true = refl
swap true true false true false = refl
swap true true false false true = refl
swap true true false false false = refl
swap true false true true true = refl
swap true false true true false = refl
swap true false true false true = refl
swap true false true false false = refl
swap true false false true true = refl
swap true false false true false = refl
swap true false false false true = refl
swap true false false false false = refl
swap false y x z w = differ_false (differ y x) ∙ (λ i. differ (sym (differ_false y) i) (sym (differ_false x) i))

module _ (s : ℕ) (f bit : ℕ → Bool) where
  at_low : (ns : List ℕ) (c t : ℕ) → IsLow s c → IsTwice s t → subset_parity (step s f) bit ns c t ≡ subset_parity f bit ns c t
  at_low [] c t low twice = ap (λ b. differ (f c) (b && f (c - s))) (low_even s c low) ∙ differ_false (f c)
  at_low (n ∷ ns) c t low twice = λ i. differ (at_low ns c (2 * t) low (twice_more s t twice) i) (bit n && at_low ns (c + t) (2 * t) (low_more s c t low twice) (twice_more s t twice) i)

  at_high : (ns : List ℕ) (c t : ℕ) → IsLow s c → IsTwice s t → subset_parity (step s f) bit ns (c + s) t ≡ differ (subset_parity f bit ns (c + s) t) (subset_parity f bit ns c t)
  at_high [] c t low twice =
      let same : c + s - s ≡ c = omega arith in
      ap (λ b. differ (f (c + s)) (b && f (c + s - s))) (high_odd s c low) ∙ ap (λ n. differ (f (c + s)) (f n)) same
  at_high (n ∷ ns) c t low twice =
      let turn : c + s + t ≡ c + t + s = omega arith in
      let more = at_high ns (c + t) (2 * t) (low_more s c t low twice) (twice_more s t twice) in
      (λ i. differ (at_high ns c (2 * t) low (twice_more s t twice) i) (bit n && (ap (λ m. subset_parity (step s f) bit ns m (2 * t)) turn ∙ more) i))
      ∙ swap (bit n) (subset_parity f bit ns (c + s) (2 * t)) (subset_parity f bit ns c (2 * t)) (subset_parity f bit ns (c + t + s) (2 * t)) (subset_parity f bit ns (c + t) (2 * t))
      ∙ ap (λ m. differ (differ (subset_parity f bit ns (c + s) (2 * t)) (bit n && subset_parity f bit ns m (2 * t))) (differ (subset_parity f bit ns c (2 * t)) (bit n && subset_parity f bit ns (c + t) (2 * t)))) (sym turn)

  undone : (n : ℕ) (ns : List ℕ) (base : ℕ) → base < s → subset_parity (step s f) bit (n ∷ ns) base s ≡ subset_parity f bit ns (cond (bit n) (base + s) base) (2 * s)
  undone n ns base less =
      let low : IsLow s base = (0, base, less, (let zero_times : 2 * 0 * s + base ≡ base = omega arith in sym zero_times)) in
      let twice : IsTwice s (2 * s) = (1, refl) in
      let x = subset_parity f bit ns base (2 * s) in
      let y = subset_parity f bit ns (base + s) (2 * s) in
      (λ i. differ (at_low ns base (2 * s) low twice i) (bit n && at_high ns base (2 * s) low twice i))
      ∙ elim (bit n) as (λ b. differ x (b && differ y x) ≡ subset_parity f bit ns (cond b (base + s) base) (2 * s)) [ true ↦ cancel x y | false ↦ differ_false x ]
    where
      cancel : (x y : Bool) → differ x (differ y x) ≡ y
      cancel true true = refl
      cancel true false = refl
      cancel false true = refl
      cancel false false = refl

-- bits that agree below 64 have one sum
same_below : (f g bit : ℕ → Bool) → ((n : ℕ) → n < 64 → f n ≡ g n) → (ns : List ℕ) (base s : ℕ) → base < s → s * 2 ^ length ns ≤ 64 → subset_parity f bit ns base s ≡ subset_parity g bit ns base s
same_below f g bit same [] base s less within = same base (omega arith)
same_below f g bit same (n ∷ ns) base s less within =
    let twice : 2 * s * 2 ^ length ns ≤ 64 = (let P : ℕ → Type 0 = λ m. m ≤ 64 in subst P (double s (length ns)) within) in
    λ i. differ (same_below f g bit same ns base (2 * s) (omega arith) twice i) (bit n && same_below f g bit same ns (base + s) (2 * s) (omega arith) twice i)
  where
    double : (s m : ℕ) → s * 2 ^ suc m ≡ 2 * s * 2 ^ m
    double s m = ap (λ p. s * p) (pow-suc 2 m ∙ mul_comm (2 ^ m) 2) ∙ sym (mul_assoc s 2 (2 ^ m)) ∙ ap (λ p. p * 2 ^ m) (mul_comm s 2)

-- ---- six steps

double_power : (j : ℕ) → 2 ^ suc j ≡ 2 * 2 ^ j
double_power j = pow-suc 2 j ∙ mul_comm (2 ^ j) 2

power_small : (j : ℕ) → j ≤ 6 → 2 ^ j ≤ 64
power_small j few = let le : 2 ^ j ≤ 2 ^ 6 = pow-le-pow_right (omega arith) few in omega arith

-- the first digit of an index
first_digit : (base step : ℕ) (b : Bool) (rest : ℕ) → base + step * (cond b 1 0 + 2 * rest) ≡ cond b (base + step) base + 2 * step * rest
first_digit base step true rest = ap (λ n. base + n) (one_more_times step rest) ∙ sym (add_assoc base step (2 * step * rest))
first_digit base step false rest = ap (λ n. base + n) (ap (λ n. step * n) (nothing rest) ∙ sym (mul_assoc step 2 rest) ∙ ap (λ n. n * rest) (mul_comm step 2))
  where
    nothing : (i : ℕ) → 0 + 2 * i ≡ 2 * i
    nothing i = omega arith

module _ (F : ℕ → ℕ → Bool) (bit : ℕ → Bool) (steps : (j : ℕ) → j < 6 → (n : ℕ) → n < 64 → F j n ≡ step (2 ^ j) (F (suc j)) n) where
  small : (d j : ℕ) → d + j ≡ 6 → (base : ℕ) → base < 2 ^ j → F j base ≡ F 6 base
  small zero j e base less = let same : j ≡ 6 = omega arith in ap (λ i. F i base) same
  small (suc d) j e base less =
      let le = power_small j (omega arith) in
      let up = double_power j in
      steps j (omega arith) base (omega arith)
      ∙ ap (λ b. differ (F (suc j) base) (b && F (suc j) (base - 2 ^ j))) (below_even base (2 ^ j) less)
      ∙ differ_false (F (suc j) base)
      ∙ small d (suc j) (omega arith) base (omega arith)

  sum : (ns : List ℕ) (j base : ℕ) → j + length ns ≤ 6 → base < 2 ^ j → subset_parity (F j) bit ns base (2 ^ j) ≡ F 6 (base + 2 ^ j * index bit ns)
  sum [] j base few less =
      let d : 6 - j + j ≡ 6 = omega arith in
      let none : base ≡ base + 2 ^ j * 0 = omega arith in
      small (6 - j) j d base less ∙ ap (F 6) none
  sum (n ∷ ns) j base few less =
      let s = 2 ^ j in
      let next = cond (bit n) (base + s) base in
      let up = double_power j in
      let inside : next < 2 ^ suc j = elim (bit n) as (λ b. cond b (base + s) base < 2 ^ suc j) [ true ↦ omega arith | false ↦ omega arith ] in
      let within : s * 2 ^ length (n ∷ ns) ≤ 64 = (let P : ℕ → Type 0 = λ m. m ≤ 64 in subst P (pow-add 2 j (length (n ∷ ns))) (power_small (j + length (n ∷ ns)) few)) in
      same_below (F j) (step s (F (suc j))) bit (steps j (omega arith)) (n ∷ ns) base s less within
      ∙ undone s (F (suc j)) bit n ns base less
      ∙ ap (λ t. subset_parity (F (suc j)) bit ns next t) (sym up)
      ∙ sum ns (suc j) next (omega arith) inside
      ∙ ap (F 6) (ap (λ t. next + t * index bit ns) up ∙ sym (first_digit base s (bit n) (index bit ns)))

-- what the code does in one step
abbrev pub spread : ℕ → ℕ → ℕ → ℕ
spread form places mask = bit_xor form (bit_and (form * 2 ^ places % 2 ^ 64) mask)

abbrev levels : (t0 t1 t2 t3 t4 t5 table : ℕ) → ℕ → ℕ
levels t0 t1 t2 t3 t4 t5 table zero = t0
levels t0 t1 t2 t3 t4 t5 table (suc zero) = t1
levels t0 t1 t2 t3 t4 t5 table (suc (suc zero)) = t2
levels t0 t1 t2 t3 t4 t5 table (suc (suc (suc zero))) = t3
levels t0 t1 t2 t3 t4 t5 table (suc (suc (suc (suc zero)))) = t4
levels t0 t1 t2 t3 t4 t5 table (suc (suc (suc (suc (suc zero))))) = t5
levels t0 t1 t2 t3 t4 t5 table (suc (suc (suc (suc (suc (suc j)))))) = table

one_step : (s t mask form : ℕ) → form ≡ spread t s mask → ((n : ℕ) → n < 64 → bit_at mask n ≡ n / s % 2) → (n : ℕ) → n < 64 → table_bit form n ≡ step s (table_bit t) n
one_step s t mask form is digits n less = ap (λ x. table_bit x n) is ∙ code_step s t mask digits n less

pub form_law : (table t5 t4 t3 t2 t1 t0 : ℕ) → t5 ≡ spread table 32 18446744069414584320 → t4 ≡ spread t5 16 18446462603027742720 → t3 ≡ spread t4 8 18374966859414961920
    → t2 ≡ spread t3 4 17361641481138401520 → t1 ≡ spread t2 2 14757395258967641292 → t0 ≡ spread t1 1 12297829382473034410
    → (bit : ℕ → Bool) (inputs : List ℕ) → length inputs ≤ 6 → table_bit table (index bit inputs) ≡ subset_parity (table_bit t0) bit inputs 0 1
form_law table t5 t4 t3 t2 t1 t0 e5 e4 e3 e2 e1 e0 bit inputs few =
    let F : ℕ → ℕ → Bool = λ j. table_bit (levels t0 t1 t2 t3 t4 t5 table j) in
    let whole : 0 + 1 * index bit inputs ≡ index bit inputs = omega arith in
    sym (sum F bit steps inputs 0 0 (omega arith) (omega arith) ∙ ap (table_bit table) whole)
  where
    steps : (j : ℕ) → j < 6 → (n : ℕ) → n < 64 → table_bit (levels t0 t1 t2 t3 t4 t5 table j) n ≡ step (2 ^ j) (table_bit (levels t0 t1 t2 t3 t4 t5 table (suc j))) n
    steps zero less = one_step 1 t1 12297829382473034410 t0 e0 digits_1
    steps (suc zero) less = one_step 2 t2 14757395258967641292 t1 e1 digits_2
    steps (suc (suc zero)) less = one_step 4 t3 17361641481138401520 t2 e2 digits_4
    steps (suc (suc (suc zero))) less = one_step 8 t4 18374966859414961920 t3 e3 digits_8
    steps (suc (suc (suc (suc zero)))) less = one_step 16 t5 18446462603027742720 t4 e4 digits_16
    steps (suc (suc (suc (suc (suc zero))))) less = one_step 32 table 18446744069414584320 t5 e5 digits_32
    steps (suc (suc (suc (suc (suc (suc j)))))) less = absurd (omega arith)
