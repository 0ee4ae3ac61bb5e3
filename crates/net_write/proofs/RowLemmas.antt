-- The rows of a cover say the table that they were written from.
use Rattle.std.proofs.Common.{◌≡◌, ◌∙◌, ap, sym, refl, subst, ℕ, zero, suc, ◌+◌, ◌*◌, ◌/◌, ◌%◌, ◌^◌, ◌<◌, ◌≤◌, ◌==◌, ◌&&◌, Bool, true, false, cond, List, [], ◌∷◌, ◌++◌, length, map, Option, None, Some, arith, add-one, append-nil, append_assoc}
use Rattle.std.specs.Prelude.{◌≢◌, filter}
use Rattle.std.specs.Int.{bit_at}
use Rattle.std.specs.List.{list_all, range_with_len}
use Rattle.std.proofs.lemmas.Bool.Decides.{nat_tests}
use Rattle.std.proofs.lemmas.List.FromFn.{length-map-range_with_len}
use Rattle.std.proofs.lemmas.Nat.Bits.{bit_at-lt, bit_at-suc, bit_at_lowest, same_from_bits_below}
use Rattle.std.proofs.Math.Nat.{pow-succ'}
use Rattle.net_blif.specs.Cover.{CoverValue, begun, bit_value, cell_fits, fits, fits_some, gate_bit, gate_of, number_of_bits, with_row}
use Rattle.net_blif.specs.Statement.{Token, is_cell}
use Rattle.net_blif.specs.declared.item.Item.TheVariants.{Gate}
use Rattle.net_blif.proofs.TableLemmas.{bits_same, bits_small}
use Rattle.net_write.specs.Written.{ones, pattern}
use Rattle.net_write.proofs.LineTextLemmas.{ArePlain}

-- the lowest bit first, and then those of the half
shifted : (a n index : ℕ) → map (λ i. 48 + bit_at index i) (range_with_len (a + 1) n) ≡ map (λ i. 48 + bit_at (index / 2) i) (range_with_len a n)
shifted a zero index = refl
shifted a (suc n) index =
    let first : bit_at index (a + 1) ≡ bit_at (index / 2) a = rw add-one (bit_at-suc index a) in
    ap (λ (b : ℕ). (48 + b) ∷ map (λ i. 48 + bit_at index i) (range_with_len (a + 1 + 1) n)) first ∙ ap (λ (l : List ℕ). (48 + bit_at (index / 2) a) ∷ l) (shifted (a + 1) n index)

pattern_first : (n index : ℕ) → pattern (suc n) index ≡ (48 + index % 2) ∷ pattern n (index / 2)
pattern_first n index = ap (λ (b : ℕ). (48 + b) ∷ map (λ i. 48 + bit_at index i) (range_with_len (0 + 1) n)) (bit_at_lowest index) ∙ ap (λ (l : List ℕ). (48 + index % 2) ∷ l) (shifted 0 n index)

pub pattern_length : (n index : ℕ) → length (pattern n index) ≡ n
pattern_length n index = length-map-range_with_len (λ i. 48 + bit_at index i) 0 n

bit_cases : (b : ℕ) (P : ℕ → Type 0) → b < 2 → P 0 → P 1 → P b
bit_cases zero P less h k = h
bit_cases (suc zero) P less h k = k
bit_cases (suc (suc b)) P less h k = absurd (omega (arith, less))

-- the characters of a pattern
pub pattern_plain : (n index : ℕ) → ArePlain (pattern n index)
pattern_plain zero index = tt
pattern_plain (suc n) index =
    let P : List ℕ → Type 0 = ArePlain in
    let byte : (33 ≤ 48 + index % 2) × (48 + index % 2 ≤ 126) × (48 + index % 2 ≢ 35) × (48 + index % 2 ≢ 92) = (omega arith, omega arith, (λ e. omega (arith, e)), (λ e. omega (arith, e))) in
    subst P (sym (pattern_first n index)) (byte, pattern_plain n (index / 2))

pub pattern_cells : (n index : ℕ) → list_all is_cell (pattern n index) ≡ true
pattern_cells zero index = refl
pattern_cells (suc n) index =
    let P : Token → Type 0 = λ cells. list_all is_cell cells ≡ true in
    let more : list_all is_cell (pattern n (index / 2)) ≡ true = pattern_cells n (index / 2) in
    subst P (sym (pattern_first n index)) (bit_cases (index % 2) (λ b. (is_cell (48 + b) && list_all is_cell (pattern n (index / 2))) ≡ true) (omega arith) more more)

-- a pattern fits its index
fits_own : (n index : ℕ) → fits (pattern n index) index ≡ true
fits_own zero index = refl
fits_own (suc n) index = let P : Token → Type 0 = λ cells. fits cells index ≡ true in subst P (sym (pattern_first n index)) (by (index % 2) refl (fits_own n (index / 2)))
  where
    by : (b : ℕ) → index % 2 ≡ b → fits (pattern n (index / 2)) (index / 2) ≡ true → (cell_fits (48 + index % 2) index && fits (pattern n (index / 2)) (index / 2)) ≡ true
    by zero is more = rw (is, more) refl
    by (suc zero) is more = rw (is, more) refl
    by (suc (suc b)) is more = absurd (omega (arith, is))

-- and no other
fits_only : (n i j : ℕ) → i < 2 ^ n → j < 2 ^ n → i ≢ j → fits (pattern n i) j ≡ false
fits_only zero i j low less other = absurd (other (omega (arith, low, less)))
fits_only (suc n) i j low less other = let P : Token → Type 0 = λ cells. fits cells j ≡ false in subst P (sym (pattern_first n i)) (by (i % 2) (j % 2) refl refl (rest (λ low less other. fits_only n (i / 2) (j / 2) low less other)))
  where
    half : (k : ℕ) → k < 2 ^ suc n → k / 2 < 2 ^ n
    half k below = let whole : k < 2 * 2 ^ n = rw (← pow-succ') below in omega (arith, whole)

    rest : (i / 2 < 2 ^ n → j / 2 < 2 ^ n → i / 2 ≢ j / 2 → fits (pattern n (i / 2)) (j / 2) ≡ false) → i % 2 ≡ j % 2 → fits (pattern n (i / 2)) (j / 2) ≡ false
    rest more same = more (half i low) (half j less) (λ e. other (omega (arith, e, same)))

    by : (b c : ℕ) → i % 2 ≡ b → j % 2 ≡ c → (i % 2 ≡ j % 2 → fits (pattern n (i / 2)) (j / 2) ≡ false) → (cell_fits (48 + i % 2) j && fits (pattern n (i / 2)) (j / 2)) ≡ false
    by zero zero is are more = rw (is, are, more (is ∙ sym are)) refl
    by zero (suc zero) is are more = rw (is, are) refl
    by (suc zero) zero is are more = rw (is, are) refl
    by (suc zero) (suc zero) is are more = rw (is, are, more (is ∙ sym are)) refl
    by (suc (suc b)) c is are more = absurd (omega (arith, is))
    by zero (suc (suc c)) is are more = absurd (omega (arith, are))
    by (suc zero) (suc (suc c)) is are more = absurd (omega (arith, are))

module _ (n : ℕ) (test : ℕ → Bool) (j : ℕ) (within : j < 2 ^ n) where
  -- rows of indexes above
  misses : (a m : ℕ) → j < a → a + m ≤ 2 ^ n → fits_some (map (pattern n) (filter test (range_with_len a m))) j ≡ false
  misses a zero above few = refl
  misses a (suc m) above few =
      let more = misses (a + 1) m (omega (arith, above)) (omega (arith, few)) in
      by (test a) more
    where
      by : (b : Bool) → fits_some (map (pattern n) (filter test (range_with_len (a + 1) m))) j ≡ false → fits_some (map (pattern n) (cond b (a ∷ filter test (range_with_len (a + 1) m)) (filter test (range_with_len (a + 1) m)))) j ≡ false
      by true more = rw (fits_only n a j (omega (arith, few)) within (λ e. omega (arith, e, above)), more) refl
      by false more = more

  -- a row fits exactly where the index passes
  pub hits : (a m : ℕ) → a ≤ j → j < a + m → a + m ≤ 2 ^ n → fits_some (map (pattern n) (filter test (range_with_len a m))) j ≡ test j
  hits a zero low high few = absurd (omega (arith, low, high))
  hits a (suc m) low high few = by (a == j) refl (λ low. hits (a + 1) m low (omega (arith, high)) (omega (arith, few)))
    where
      rest : List ℕ
      rest = filter test (range_with_len (a + 1) m)

      here : (b : Bool) → test a ≡ b → a ≡ j → fits_some (map (pattern n) (cond b (a ∷ rest) rest)) j ≡ test j
      here true passes same = let P : ℕ → Type 0 = λ k. fits (pattern n a) k ≡ true in rw (subst P same (fits_own n a)) (sym passes ∙ ap test same)
      here false passes same = misses (a + 1) m (omega (arith, same)) (omega (arith, few)) ∙ (sym passes ∙ ap test same)

      later : (b : Bool) → (a + 1 ≤ j → fits_some (map (pattern n) rest) j ≡ test j) → a ≢ j → fits_some (map (pattern n) (cond b (a ∷ rest) rest)) j ≡ test j
      later true more other = rw (fits_only n a j (omega (arith, few)) within other) (more (omega (arith, low, other)))
      later false more other = more (omega (arith, low, other))

      by : (b : Bool) → (a == j) ≡ b → (a + 1 ≤ j → fits_some (map (pattern n) rest) j ≡ test j) → fits_some (map (pattern n) (cond (test a) (a ∷ rest) rest)) j ≡ test j
      by true e more = here (test a) refl (grind (arith, nat_tests))
      by false e more = later (test a) more (grind (arith, nat_tests))

-- the output of a cover after rows with output 1
abbrev pub output_after : Option Bool → List Token → Option Bool
output_after output [] = output
output_after output (row ∷ rows) = Some true

abbrev pub with_rows : CoverValue → List Token → CoverValue
with_rows cover [] = cover
with_rows cover (row ∷ rows) = with_rows (with_row row true cover) rows

stays_one : (rows : List Token) → output_after (Some true) rows ≡ Some true
stays_one [] = refl
stays_one (row ∷ rows) = refl

-- a cover with further rows
with_rows_is : (cover : CoverValue) (rows : List Token) → with_rows cover rows ≡ record { line = cover.line; inputs = cover.inputs; out = cover.out; output = output_after cover.output rows; rows = cover.rows ++ rows }
with_rows_is cover [] = ap (λ (rows : List Token). record { line = cover.line; inputs = cover.inputs; out = cover.out; output = cover.output; rows = rows }) (sym (append-nil cover.rows))
with_rows_is cover (row ∷ rows) =
    with_rows_is (with_row row true cover) rows
    ∙ ap (λ (o : Option Bool). record { line = cover.line; inputs = cover.inputs; out = cover.out; output = o; rows = cover.rows ++ row ∷ [] ++ rows }) (stays_one rows)
    ∙ ap (λ (l : List Token). record { line = cover.line; inputs = cover.inputs; out = cover.out; output = Some true; rows = l }) (append_assoc cover.rows (row ∷ []) rows)

-- without rows nothing fits
one_where_fits : (rows : List Token) (index : ℕ) → gate_bit (output_after None rows) (fits_some rows index) ≡ fits_some rows index
one_where_fits [] index = refl
one_where_fits (row ∷ rows) index = refl

bit_same : (b : ℕ) → b < 2 → bit_value (b == 1) ≡ b
bit_same b less = bit_cases b (λ c. bit_value (c == 1) ≡ c) less refl refl

same_bits : (f g : ℕ → Bool) (n : ℕ) → ((i : ℕ) → i < n → f i ≡ g i) → number_of_bits f n ≡ number_of_bits g n
same_bits f g zero same = refl
same_bits f g (suc n) same = rw (same_bits f g n (λ i less. same i (omega (arith, less))), same n (omega arith)) refl

-- the rows of a table's ones say that table
pub rows_say : (line : ℕ) (inputs : List Token) (out : Token) (table : ℕ) → table < 2 ^ (2 ^ length inputs) → gate_of (with_rows (begun line inputs out) (map (pattern (length inputs)) (ones (length inputs) table))) ≡ Gate line inputs out table
rows_say line inputs out table small = ap gate_of (with_rows_is (begun line inputs out) rows) ∙ ap (Gate line inputs out) (number_same ∙ table_same)
  where
    n : ℕ
    n = length inputs

    test : ℕ → Bool
    test index = bit_at table index == 1

    rows : List Token
    rows = map (pattern n) (ones n table)

    number_same : number_of_bits (λ index. gate_bit (output_after None rows) (fits_some rows index)) (2 ^ n) ≡ number_of_bits test (2 ^ n)
    number_same = same_bits _ test (2 ^ n) (λ index less. one_where_fits rows index ∙ hits n test index less 0 (2 ^ n) (omega arith) (omega (arith, less)) (omega arith))

    table_same : number_of_bits test (2 ^ n) ≡ table
    table_same = same_from_bits_below (2 ^ n) (number_of_bits test (2 ^ n)) table (bits_small test (2 ^ n)) small (λ index less. bits_same test (2 ^ n) index less ∙ bit_same (bit_at table index) (bit_at-lt table index))

-- the same, where the number of inputs stands by itself
pub rows_say_at : (n line : ℕ) (inputs : List Token) (out : Token) (table : ℕ) → length inputs ≡ n → table < 2 ^ (2 ^ n) → gate_of (with_rows (begun line inputs out) (map (pattern n) (ones n table))) ≡ Gate line inputs out table
rows_say_at n line inputs out table is small =
    let P : ℕ → Type 0 = λ m. table < 2 ^ (2 ^ m) → gate_of (with_rows (begun line inputs out) (map (pattern m) (ones m table))) ≡ Gate line inputs out table in
    subst P is (rows_say line inputs out table) small
