-- The rows of inputs.
use Rattle.std.proofs.Common.{◌≡◌, ◌∙◌, ap, sym, refl, subst, Some, ℕ, zero, suc, ◌+◌, ◌-◌, ◌*◌, ◌<◌, ◌≤◌, ◌^◌, ◌/◌, ◌%◌, List, [], ◌∷◌, length, take, get_or, mul_assoc, arith}
use Rattle.std.proofs.Math.Nat.{mul-add, mul-one, mul-zero, mul-suc, mul_comm, mul-le-mul_left, add-mul-mod_self_left, mod-eq_of_lt, mod-lt, mod-add-div, div-one, div-div-eq-div-mul, div-lt_iff_lt-mul}
use Rattle.std.specs.List.{AllByRecursion}
use Rattle.std.specs.Prelude.{slice_get}
use Rattle.std.proofs.lemmas.Nat.{pow_pos, pow-add, div-mul-add}
use Rattle.lift_table.specs.Table.{row_of}
use Rattle.lift_table.specs.private.Digits.{digits_of}

-- 2^k * (a + b * c) is 2^k * a + (2^k * b) * c
spread : (q a b c : ℕ) → q * (a + b * c) ≡ q * a + (q * b) * c
spread q a b c = mul-add q a (b * c) ∙ ap (λ n. q * a + n) (sym (mul_assoc q b c))

power_next : (k w : ℕ) → 2 ^ k * 2 ^ (k * w) ≡ 2 ^ (k * suc w)
power_next k w =
    let next : k * suc w ≡ k + k * w = (let m = mul-suc k w in omega arith) in
    sym (ap (λ n. 2 ^ n) next ∙ pow-add 2 k (k * w))

-- one more word
pub row_next : (k w : ℕ) (xs : List ℕ) → w < length xs → row_of k (take (suc w) xs) ≡ row_of k (take w xs) + 2 ^ (k * w) * get_or xs w 0
row_next k w [] less = absurd (omega arith)
row_next k zero (x ∷ xs) less =
    let none : 2 ^ k * 0 ≡ 0 = mul-zero (2 ^ k) in
    let one : 2 ^ (k * 0) * x ≡ x = ap (λ n. 2 ^ n * x) (mul-zero k) ∙ omega arith in
    omega (arith, none, one)
row_next k (suc w) (x ∷ xs) less =
    let front = row_of k (take w xs) in
    let later : row_of k (take (suc w) xs) ≡ front + 2 ^ (k * w) * get_or xs w 0 = row_next k w xs (omega arith) in
    let product : 2 ^ k * row_of k (take (suc w) xs) ≡ 2 ^ k * front + 2 ^ (k * suc w) * get_or xs w 0 =
    ap (λ n. 2 ^ k * n) later ∙ (spread (2 ^ k) front (2 ^ (k * w)) (get_or xs w 0) ∙ ap (λ n. 2 ^ k * front + n * get_or xs w 0) (power_next k w)) in
    omega (arith, product)

pub row_below : (k : ℕ) (xs : List ℕ) → AllByRecursion (λ x. x < 2 ^ k) xs → row_of k xs < 2 ^ (k * length xs)
row_below k [] elements = let one : 2 ^ (k * 0) ≡ 1 = ap (λ n. 2 ^ n) (mul-zero k) in omega (arith, one)
row_below k (x ∷ xs) elements =
    let r = row_of k xs in
    let low : r < 2 ^ (k * length xs) = row_below k xs elements.1 in
    let below : r + 1 ≤ 2 ^ (k * length xs) = omega arith in
    let scaled : 2 ^ k * (r + 1) ≤ 2 ^ k * 2 ^ (k * length xs) = mul-le-mul_left (2 ^ k) below in
    let spread_out : 2 ^ k * (r + 1) ≡ 2 ^ k * r + 2 ^ k * 1 = mul-add (2 ^ k) r 1 in
    let one : 2 ^ k * 1 ≡ 2 ^ k = mul-one (2 ^ k) in
    let next : 2 ^ k * 2 ^ (k * length xs) ≡ 2 ^ (k * suc (length xs)) = power_next k (length xs) in
    let first : x < 2 ^ k = elements.0 in
    omega (arith, scaled, spread_out, one, next, first)

-- word 0 is the row's remainder
first_digit : (k x r : ℕ) → x < 2 ^ k → (x + 2 ^ k * r) % 2 ^ k ≡ x
first_digit k x r less = add-mul-mod_self_left x (2 ^ k) r ∙ mod-eq_of_lt less

later_digits : (k x r : ℕ) → x < 2 ^ k → (x + 2 ^ k * r) / 2 ^ k ≡ r
later_digits k x r less =
    let turned : x + 2 ^ k * r ≡ r * 2 ^ k + x = omega (arith, mul_comm (2 ^ k) r) in
    ap (λ n. n / 2 ^ k) turned ∙ div-mul-add r (2 ^ k) x less

-- word w is digit w of the row
pub digit_at : (k : ℕ) (xs : List ℕ) (w x : ℕ) → AllByRecursion (λ y. y < 2 ^ k) xs → slice_get xs w ≡ Some x → row_of k xs / 2 ^ (k * w) % 2 ^ k ≡ x
digit_at k [] w x elements got = absurd (cc got)
digit_at k (y ∷ ys) zero x elements got =
    let same : y ≡ x = cc got in
    ap (λ n. (y + 2 ^ k * row_of k ys) / 2 ^ n % 2 ^ k) (mul-zero k) ∙ (ap (λ n. n % 2 ^ k) (div-one (y + 2 ^ k * row_of k ys)) ∙ (first_digit k y (row_of k ys) elements.0 ∙ same))
digit_at k (y ∷ ys) (suc w) x elements got =
    ap (λ n. (y + 2 ^ k * row_of k ys) / n % 2 ^ k) (sym (power_next k w))
    ∙ (ap (λ n. n % 2 ^ k) (sym (div-div-eq-div-mul (y + 2 ^ k * row_of k ys) (2 ^ k) (2 ^ (k * w))) ∙ ap (λ n. n / 2 ^ (k * w)) (later_digits k y (row_of k ys) elements.0))
    ∙ digit_at k ys w x elements.1 got)

-- inputs with one row are the same
pub one_input : (k : ℕ) (xs ys : List ℕ) → length xs ≡ length ys → AllByRecursion (λ x. x < 2 ^ k) xs → AllByRecursion (λ y. y < 2 ^ k) ys → row_of k xs ≡ row_of k ys → xs ≡ ys
one_input k [] [] long first second same = refl
one_input k [] (y ∷ ys) long first second same = absurd (omega arith)
one_input k (x ∷ xs) [] long first second same = absurd (omega arith)
one_input k (x ∷ xs) (y ∷ ys) long first second same =
    let low : x ≡ y = sym (first_digit k x (row_of k xs) first.0) ∙ (ap (λ n. n % 2 ^ k) same ∙ first_digit k y (row_of k ys) second.0) in
    let high : row_of k xs ≡ row_of k ys = sym (later_digits k x (row_of k xs) first.0) ∙ (ap (λ n. n / 2 ^ k) same ∙ later_digits k y (row_of k ys) second.0) in
    λ i. low i ∷ one_input k xs ys (omega arith) first.1 second.1 high i

pub digits_long : (k words row : ℕ) → length (digits_of k words row) ≡ words
digits_long k zero row = refl
digits_long k (suc words) row = ap suc (digits_long k words (row / 2 ^ k))

pub digits_below : (k words row : ℕ) → AllByRecursion (λ x. x < 2 ^ k) (digits_of k words row)
digits_below k zero row = tt
digits_below k (suc words) row = (mod-lt row (pow_pos k), digits_below k words (row / 2 ^ k))

pub row_of_digits : (k words row : ℕ) → row < 2 ^ (k * words) → row_of k (digits_of k words row) ≡ row
row_of_digits k zero row less = let one : 2 ^ (k * 0) ≡ 1 = ap (λ n. 2 ^ n) (mul-zero k) in omega (arith, one)
row_of_digits k (suc words) row less =
    let turned : 2 ^ (k * suc words) ≡ 2 ^ (k * words) * 2 ^ k = sym (power_next k words) ∙ mul_comm (2 ^ k) (2 ^ (k * words)) in
    let smaller : row / 2 ^ k < 2 ^ (k * words) = (div-lt_iff_lt-mul {x = row} {y = 2 ^ (k * words)} (pow_pos k)).1 (subst (λ (n : ℕ). row < n) turned less) in
    ap (λ n. row % 2 ^ k + 2 ^ k * n) (row_of_digits k words (row / 2 ^ k) smaller) ∙ mod-add-div row (2 ^ k)

-- a table of one word more
pub rows_split : (k words : ℕ) → 1 ≤ words → 2 ^ (k * words) ≡ 2 ^ (k * (words - 1)) * 2 ^ k
rows_split k zero some = absurd (omega arith)
rows_split k (suc words) some =
    let before : suc words - 1 ≡ words = omega arith in
    sym (power_next k words) ∙ (mul_comm (2 ^ k) (2 ^ (k * words)) ∙ ap (λ n. 2 ^ (k * n) * 2 ^ k) (sym before))
