-- The bits of the indices that rows fit, a row at a time.
use Rattle.std.proofs.Common.{◌≡◌, ◌∙◌, inl, inr, ap, sym, refl, subst, ℕ, zero, suc, ◌<◌, ◌≤◌, ◌+◌, ◌-◌, ◌*◌, ◌/◌, ◌%◌, ◌^◌, max, Bool, true, false, cond, not, List, [], ◌∷◌, ◌++◌, length, take, get_or, arith, div-one, eqb-true, pow-add, pow_mono, ap₂, length-take-le, take_all, Option, None, Some}
use Rattle.std.specs.Prelude.{◌==◌, ◌||◌, ◌&&◌}
use Rattle.std.specs.Int.{bit_at}
use Rattle.std.specs.Int.RustNames.{bit_or}
use Rattle.std.proofs.Math.Nat.{pow-succ'}
use native.Mathlib.Nat.{div-eq_of_lt}
use Rattle.std.proofs.lemmas.Bool.{cases_lt}
use Rattle.std.proofs.lemmas.List.{take_more}
use Rattle.std.proofs.lemmas.Nat.{div-mul-add, mul-add-lt, shl_whole, shr-shr}
use Rattle.std.proofs.lemmas.Nat.Bits.{bit_at-zero, bit_at_above, bit_at_cat_low, bit_at_cat_high, bit_at_or, same_from_bits, same_from_bits_below}
use Rattle.lists.specs.laws.BoolLaws.{and_into}
use Rattle.net_blif.specs.Cover.{bit_value, cell_fits, fits, fits_some, gate_bit, number_of_bits}
use Rattle.net_blif.specs.private.Rows.{unless}
use Rattle.net_blif.proofs.TableLemmas.{bits_same, bits_small}

-- ---- one more cell, which asks for the highest bit

and_true : (x : Bool) → (x && true) ≡ x
and_true true = refl
and_true false = refl

halves : (i n : ℕ) → i / 2 / 2 ^ n ≡ i / 2 ^ suc n
halves i n = shr-shr i 1 n ∙ ap (λ k. i / 2 ^ k) (let e : 1 + n ≡ suc n = omega arith in e)

fits_push : (cells : List ℕ) (c i : ℕ) → fits (cells ++ c ∷ []) i ≡ (fits cells i && cell_fits c (i / 2 ^ length cells))
fits_push [] c i = and_true (cell_fits c i) ∙ ap (cell_fits c) (sym (div-one i))
fits_push (d ∷ ds) c i =
    ap (λ b. cell_fits d i && b) (fits_push ds c (i / 2) ∙ ap (λ j. fits ds (i / 2) && cell_fits c j) (halves i (length ds)))
    ∙ and_into (cell_fits d i) (fits ds (i / 2)) (cell_fits c (i / 2 ^ suc (length ds)))

-- cells ask for no bit above theirs
fits_low : (cells : List ℕ) (i : ℕ) → fits cells (2 ^ length cells + i) ≡ fits cells i
fits_low [] i = refl
fits_low (d ∷ ds) i =
    let p : 2 ^ suc (length ds) ≡ 2 * 2 ^ length ds = pow-succ' 2 (length ds) in
    let even : (2 ^ suc (length ds) + i) % 2 ≡ i % 2 = omega (arith, p) in
    let half : (2 ^ suc (length ds) + i) / 2 ≡ 2 ^ length ds + i / 2 = omega (arith, p) in
    rw (even, half) (ap (λ b. cell_fits d i && b) (fits_low ds (i / 2)))

-- where the highest bit is 0 only a `1` does not fit
free_low : (c : ℕ) → cell_fits c 0 ≡ not (c == 49)
free_low c = by (c == 48) (c == 49) refl refl
  where
    by : (x y : Bool) → (c == 48) ≡ x → (c == 49) ≡ y → cond x true (cond y false true) ≡ not y
    by true true e f = absurd (omega (arith, eqb-true c 48 e, eqb-true c 49 f))
    by true false e f = refl
    by false true e f = refl
    by false false e f = refl

-- where it is 1 only a `0` does not fit
free_high : (c : ℕ) → cell_fits c 1 ≡ not (c == 48)
free_high c = by (c == 48) (c == 49)
  where
    by : (x y : Bool) → cond x false (cond y true true) ≡ not x
    by true y = refl
    by false true = refl
    by false false = refl

low_fits : (cells : List ℕ) (c i : ℕ) → i < 2 ^ length cells → fits (cells ++ c ∷ []) i ≡ (fits cells i && not (c == 49))
low_fits cells c i below =
    let none : i / 2 ^ length cells ≡ 0 = div-eq_of_lt below in
    fits_push cells c i ∙ ap (λ b. fits cells i && b) (ap (cell_fits c) none ∙ free_low c)

high_fits : (cells : List ℕ) (c i : ℕ) → i < 2 ^ length cells → fits (cells ++ c ∷ []) (2 ^ length cells + i) ≡ (fits cells i && not (c == 48))
high_fits cells c i below =
    let width = 2 ^ length cells in
    let turned : 1 * width + i ≡ width + i = omega arith in
    let one : (width + i) / width ≡ 1 = subst (λ (n : ℕ). n / width ≡ 1) turned (div-mul-add 1 width i below) in
    fits_push cells c (width + i) ∙ (ap (λ b. b && cell_fits c ((width + i) / width)) (fits_low cells i) ∙ ap (λ b. fits cells i && b) (ap (cell_fits c) one ∙ free_high c))

unless_bit : (never : Bool) (bits i : ℕ) (bit : Bool) → bit_at bits i ≡ bit_value bit → bit_at (unless never bits) i ≡ bit_value (bit && not never)
unless_bit true bits i true is = bit_at-zero i
unless_bit true bits i false is = bit_at-zero i
unless_bit false bits i true is = is
unless_bit false bits i false is = is

unless_small : (never : Bool) (bits n : ℕ) → bits < n → unless never bits < n
unless_small true bits n less = omega (arith, less)
unless_small false bits n less = less

-- the bits of a row with one more cell
pub row_more : (cells : List ℕ) (c bits : ℕ) → bits ≡ number_of_bits (fits cells) (2 ^ length cells) → unless (c == 48) bits * 2 ^ (2 ^ length cells) + unless (c == 49) bits ≡ number_of_bits (fits (cells ++ c ∷ [])) (2 ^ suc (length cells))
row_more cells c bits is = same_from_bits_below (2 ^ suc (length cells)) _ _ sum_small (bits_small (fits (cells ++ c ∷ [])) (2 ^ suc (length cells))) same
  where
    width : ℕ
    width = 2 ^ length cells

    twice : 2 ^ suc (length cells) ≡ 2 ^ length cells + 2 ^ length cells
    twice = let p : 2 ^ suc (length cells) ≡ 2 * 2 ^ length cells = pow-succ' 2 (length cells) in omega (arith, p)

    small : bits < 2 ^ (2 ^ length cells)
    small = rw is (bits_small (fits cells) (2 ^ length cells))

    sum_small : unless (c == 48) bits * 2 ^ (2 ^ length cells) + unless (c == 49) bits < 2 ^ (2 ^ suc (length cells))
    sum_small = rw (twice, pow-add) (mul-add-lt (unless (c == 48) bits) (2 ^ (2 ^ length cells)) (unless (c == 49) bits) (2 ^ (2 ^ length cells)) (unless_small (c == 48) bits (2 ^ (2 ^ length cells)) small) (unless_small (c == 49) bits (2 ^ (2 ^ length cells)) small))

    each : (i : ℕ) → i < 2 ^ length cells → bit_at bits i ≡ bit_value (fits cells i)
    each i less = ap (λ n. bit_at n i) is ∙ bits_same (fits cells) (2 ^ length cells) i less

    made : (i : ℕ) → i < 2 ^ length cells + 2 ^ length cells → bit_at (unless (c == 48) bits * 2 ^ (2 ^ length cells) + unless (c == 49) bits) i ≡ bit_value (fits (cells ++ c ∷ []) i)
    made i less = elim (cases_lt i (2 ^ length cells)) [
      | inl below ↦ bit_at_cat_low (unless (c == 48) bits) (2 ^ length cells) (unless (c == 49) bits) i below ∙ (unless_bit (c == 49) bits i (fits cells i) (each i below) ∙ ap bit_value (sym (low_fits cells c i below)))
      | inr above ↦ high i above (omega (arith, less, above))
    ]
      where
        high : (i : ℕ) → 2 ^ length cells ≤ i → i - 2 ^ length cells < 2 ^ length cells → bit_at (unless (c == 48) bits * 2 ^ (2 ^ length cells) + unless (c == 49) bits) i ≡ bit_value (fits (cells ++ c ∷ []) i)
        high i above below =
            let back : 2 ^ length cells + (i - 2 ^ length cells) ≡ i = omega (arith, above) in
            bit_at_cat_high (unless (c == 48) bits) (2 ^ length cells) (unless (c == 49) bits) i (unless_small (c == 49) bits (2 ^ (2 ^ length cells)) small) above
            ∙ (unless_bit (c == 48) bits (i - 2 ^ length cells) (fits cells (i - 2 ^ length cells)) (each (i - 2 ^ length cells) below)
            ∙ (ap bit_value (sym (high_fits cells c (i - 2 ^ length cells) below)) ∙ ap (λ j. bit_value (fits (cells ++ c ∷ []) j)) back))

    same : (i : ℕ) → i < 2 ^ suc (length cells) → bit_at (unless (c == 48) bits * 2 ^ (2 ^ length cells) + unless (c == 49) bits) i ≡ bit_at (number_of_bits (fits (cells ++ c ∷ [])) (2 ^ suc (length cells))) i
    same i less = made i (omega (arith, less, twice)) ∙ sym (bits_same (fits (cells ++ c ∷ [])) (2 ^ suc (length cells)) i less)

-- ---- several rows

or_bits : (x y : Bool) → max (bit_value x) (bit_value y) ≡ bit_value (x || y)
or_bits true true = refl
or_bits true false = refl
or_bits false true = refl
or_bits false false = refl

-- the indices that one of two tests passes
pub bits_or : (f g : ℕ → Bool) (n : ℕ) → bit_or (number_of_bits f n) (number_of_bits g n) ≡ number_of_bits (λ i. f i || g i) n
bits_or f g n = same_from_bits _ _ each
  where
    each : (i : ℕ) → bit_at (bit_or (number_of_bits f n) (number_of_bits g n)) i ≡ bit_at (number_of_bits (λ i. f i || g i) n) i
    each i = elim (cases_lt i n) [
      | inl less ↦ bit_at_or (number_of_bits f n) (number_of_bits g n) i ∙ (ap₂ max (bits_same f n i less) (bits_same g n i less) ∙ (or_bits (f i) (g i) ∙ sym (bits_same (λ i. f i || g i) n i less)))
      | inr past ↦ bit_at_or (number_of_bits f n) (number_of_bits g n) i ∙ (ap₂ max (bit_at_above (number_of_bits f n) n i (bits_small f n) past) (bit_at_above (number_of_bits g n) n i (bits_small g n) past) ∙ sym (bit_at_above (number_of_bits (λ i. f i || g i) n) n i (bits_small (λ i. f i || g i) n) past))
    ]

-- numbers of the same bits
pub bits_alike : (f g : ℕ → Bool) (n : ℕ) → ((i : ℕ) → f i ≡ g i) → number_of_bits f n ≡ number_of_bits g n
bits_alike f g zero same = refl
bits_alike f g (suc n) same = ap₂ ◌+◌ (bits_alike f g n same) (ap (λ b. cond b (2 ^ n) 0) (same n))

some_push : (rows : List (List ℕ)) (row : List ℕ) (i : ℕ) → fits_some (rows ++ row ∷ []) i ≡ (fits_some rows i || fits row i)
some_push [] row i = or_false (fits row i)
  where
    or_false : (x : Bool) → (x || false) ≡ x
    or_false true = refl
    or_false false = refl
some_push (r ∷ rows) row i = ap (λ b. fits r i || b) (some_push rows row i) ∙ or_turned (fits r i) (fits_some rows i) (fits row i)
  where
    or_turned : (x y z : Bool) → (x || (y || z)) ≡ ((x || y) || z)
    or_turned true y z = refl
    or_turned false y z = refl

pub rows_more : (rows : List (List ℕ)) (row : List ℕ) (n bits : ℕ) → bits ≡ number_of_bits (fits_some rows) n → bit_or bits (number_of_bits (fits row) n) ≡ number_of_bits (fits_some (rows ++ row ∷ [])) n
rows_more rows row n bits is =
    ap (λ b. bit_or b (number_of_bits (fits row) n)) is ∙ (bits_or (fits_some rows) (fits row) n ∙ bits_alike (λ i. fits_some rows i || fits row i) (fits_some (rows ++ row ∷ [])) n (λ i. sym (some_push rows row i)))

-- ---- by the output

pub no_bits : (n : ℕ) → number_of_bits (λ i. false) n ≡ 0
no_bits zero = refl
no_bits (suc n) = omega (arith, no_bits n)

pub other_bits : (f : ℕ → Bool) (n : ℕ) → number_of_bits (λ i. not (f i)) n + number_of_bits f n + 1 ≡ 2 ^ n
other_bits f zero = refl
other_bits f (suc n) = by (f n) (other_bits f n)
  where
    by : (b : Bool) → number_of_bits (λ i. not (f i)) n + number_of_bits f n + 1 ≡ 2 ^ n → (number_of_bits (λ i. not (f i)) n + cond (not b) (2 ^ n) 0) + (number_of_bits f n + cond b (2 ^ n) 0) + 1 ≡ 2 ^ suc n
    by true e = rw pow-succ' (omega (arith, e))
    by false e = rw pow-succ' (omega (arith, e))

-- ---- steps of the code

pub width_small : (i width : ℕ) → width ≡ 2 ^ i → i < 6 → width ≤ 32
width_small i width is less = let most : 2 ^ i ≤ 2 ^ 5 = pow_mono {i = i} {j = 5} (omega (arith, less)) in omega (arith, is, most)

pub shifted : (bits width : ℕ) → bits < 2 ^ width → width ≤ 32 → (bits * 2 ^ width) % 2 ^ 64 ≡ bits * 2 ^ width
shifted bits width less small = shl_whole bits width width 64 less (omega (arith, small))

pub twice_fits : (bits width : ℕ) → bits < 2 ^ width → width ≤ 32 → bits * 2 ^ width + bits < 2 ^ 64
twice_fits bits width less small =
    let most : 2 ^ (width + width) ≤ 2 ^ 64 = pow_mono {i = width + width} {j = 64} (omega (arith, small)) in
    let sum : bits * 2 ^ width + bits < 2 ^ (width + width) = rw pow-add (mul-add-lt bits (2 ^ width) bits (2 ^ width) less less) in
    omega (arith, most, sum)

pub bits_before : (pattern : List ℕ) (i width bits : ℕ) → width ≡ 2 ^ i → bits ≡ number_of_bits (fits (take i pattern)) (2 ^ i) → bits < 2 ^ width
bits_before pattern i width bits wide is = rw (wide, is) (bits_small (fits (take i pattern)) (2 ^ i))

pub width_step : (i width : ℕ) → width ≡ 2 ^ i → width * 2 ≡ 2 ^ (i + 1)
width_step i width is =
    let p : 2 ^ suc i ≡ 2 * 2 ^ i = pow-succ' 2 i in
    let next : suc i ≡ i + 1 = omega arith in
    let P : ℕ → Type 0 = λ n. width * 2 ≡ 2 ^ n in
    subst P next (omega (arith, is, p))

pub row_step : (pattern : List ℕ) (i bits width new : ℕ) → i < length pattern → width ≡ 2 ^ i → bits ≡ number_of_bits (fits (take i pattern)) (2 ^ i) → new ≡ unless (get_or pattern i 0 == 48) bits * 2 ^ width + unless (get_or pattern i 0 == 49) bits → new ≡ number_of_bits (fits (take (i + 1) pattern)) (2 ^ (i + 1))
row_step pattern i bits width new below wide is made =
    let c = get_or pattern i 0 in
    let size : length (take i pattern) ≡ i = length-take-le i pattern (omega (arith, below)) in
    let Q : ℕ → Type 0 = λ n. bits ≡ number_of_bits (fits (take i pattern)) (2 ^ n) in
    let R : ℕ → Type 0 = λ n. unless (c == 48) bits * 2 ^ (2 ^ n) + unless (c == 49) bits ≡ number_of_bits (fits (take i pattern ++ c ∷ [])) (2 ^ suc n) in
    let step : unless (c == 48) bits * 2 ^ (2 ^ i) + unless (c == 49) bits ≡ number_of_bits (fits (take i pattern ++ c ∷ [])) (2 ^ suc i) = subst R size (row_more (take i pattern) c bits (subst Q (sym size) is)) in
    let next : suc i ≡ i + 1 = omega arith in
    made ∙ (ap (λ w. unless (c == 48) bits * 2 ^ w + unless (c == 49) bits) wide ∙ (step ∙ (ap (λ l. number_of_bits (fits l) (2 ^ suc i)) (sym (take_more pattern i 0 below)) ∙ ap (λ n. number_of_bits (fits (take (i + 1) pattern)) (2 ^ n)) next)))

pub rows_step : (rows : List (List ℕ)) (i n bits one new : ℕ) (row d : List ℕ) → i < length rows → row ≡ get_or rows i d → bits ≡ number_of_bits (fits_some (take i rows)) n → one ≡ number_of_bits (fits row) n → new ≡ bit_or bits one → new ≡ number_of_bits (fits_some (take (i + 1) rows)) n
rows_step rows i n bits one new row d below at is row_is made =
    let longer : take (i + 1) rows ≡ take i rows ++ row ∷ [] = take_more rows i d below ∙ ap (λ (r : List ℕ). take i rows ++ r ∷ []) (sym at) in
    made ∙ (ap (bit_or bits) row_is ∙ (rows_more (take i rows) row n bits is ∙ ap (λ (rs : List (List ℕ)). number_of_bits (fits_some rs) n) (sym longer)))

pub rows_all : (rows : List (List ℕ)) (i n bits : ℕ) → length rows ≤ i → bits ≡ number_of_bits (fits_some (take i rows)) n → bits ≡ number_of_bits (fits_some rows) n
rows_all rows i n bits past is = is ∙ ap (λ (rs : List (List ℕ)). number_of_bits (fits_some rs) n) (take_all i rows past)

pub cells_all : (pattern : List ℕ) (i bits : ℕ) → i ≡ length pattern → bits ≡ number_of_bits (fits (take i pattern)) (2 ^ i) → bits ≡ number_of_bits (fits pattern) (2 ^ length pattern)
cells_all pattern i bits end is =
    is ∙ (ap (λ n. number_of_bits (fits (take i pattern)) (2 ^ n)) end ∙ ap (λ l. number_of_bits (fits l) (2 ^ length pattern)) (take_all i pattern (omega (arith, end))))

pub table_small : (f : ℕ → Bool) (n table : ℕ) → table ≡ number_of_bits f n → table < 2 ^ n
table_small f n table is = rw is (bits_small f n)

pub other_table : (f : ℕ → Bool) (n ones bits : ℕ) → ones + 1 ≡ 2 ^ n → bits ≡ number_of_bits f n → ones - bits ≡ number_of_bits (λ i. not (f i)) n
other_table f n ones bits all is = omega (arith, all, is, other_bits f n)

pub within_ones : (f : ℕ → Bool) (n ones bits : ℕ) → ones + 1 ≡ 2 ^ n → bits ≡ number_of_bits f n → bits ≤ ones
within_ones f n ones bits all is = omega (arith, all, is, bits_small f n)

pub no_rows : (n : ℕ) → 0 ≡ number_of_bits (fits_some []) n
no_rows n = sym (no_bits n)

pub no_output : (rows : List (List ℕ)) (output : Option Bool) (n : ℕ) → output ≡ None → 0 ≡ number_of_bits (λ index. gate_bit output (fits_some rows index)) n
no_output rows output n is = rw is (sym (no_bits n))

pub output_zero : (rows : List (List ℕ)) (output : Option Bool) (n ones bits : ℕ) → output ≡ Some false → ones + 1 ≡ 2 ^ n → bits ≡ number_of_bits (fits_some rows) n → ones - bits ≡ number_of_bits (λ index. gate_bit output (fits_some rows index)) n
output_zero rows output n ones bits is all bits_is = rw is (other_table (fits_some rows) n ones bits all bits_is)
