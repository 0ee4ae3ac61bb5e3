-- Places on which a table does not depend.
use Rattle.std.proofs.Common.{◌≡◌, ◌≢◌, ◌∙◌, ap, ap₂, sym, refl, inl, inr, subst, ℕ, zero, suc, ◌<◌, ◌≤◌, ◌+◌, ◌-◌, ◌*◌, ◌/◌, ◌%◌, ◌^◌, true, false, min, arith, div-le_self, eq-eqb, pow-suc, pow_mono, shr-shr}
use Rattle.std.specs.Prelude.{◌==◌}
use Rattle.std.specs.Int.{bit_at}
use Rattle.std.specs.Int.RustNames.{bit_and, bit_xor}
use Rattle.std.proofs.lemmas.Nat.{and_le_l, xor_lt}
use Rattle.std.proofs.lemmas.Nat.Bits.{bit_at-suc, bit_at-zero, bit_at_above, bit_at_and, bit_at_lowest, bit_at_xor}
use Rattle.lists.specs.laws.NumberLaws.{nat_eq_or}
use Rattle.net_simplify.specs.private.Lists.{IsTold, with_place}
use Rattle.net_simplify.proofs.BitLemmas.{differ_at, with_place_table}
use Rattle.net_simplify.proofs.FormLemmas.{bit_small}
use Rattle.net_simplify.proofs.TableWordLemmas.{same_from_test}

with_place_high : (place i : ℕ) → with_place place 1 i ≡ with_place place 0 i + 2 ^ place
with_place_high zero i = omega arith
with_place_high (suc place) i = omega (arith, with_place_high place (i / 2), pow-suc 2 place)

with_place_bit : (place i : ℕ) → bit_at (with_place place 0 i) place ≡ 0
with_place_bit zero i = bit_at_lowest (0 + 2 * i) ∙ omega arith
with_place_bit (suc place) i =
    let half : (i % 2 + 2 * with_place place 0 (i / 2)) / 2 ≡ with_place place 0 (i / 2) = omega arith in
    bit_at-suc (i % 2 + 2 * with_place place 0 (i / 2)) place ∙ ap (λ x. bit_at x place) half ∙ with_place_bit place (i / 2)

-- an index whose bit at a place is 0 is one with a place more
place_out : (place j k : ℕ) → place ≤ k → bit_at j place ≡ 0 → j < 2 ^ suc k → (i : ℕ) × (i < 2 ^ k) × (j ≡ with_place place 0 i)
place_out zero j k within clear less = (j / 2, omega (arith, less, pow-suc 2 k), omega (arith, bit_at_lowest j, clear))
place_out (suc place) j zero within clear less = absurd (omega arith)
place_out (suc place) j (suc k) within clear less =
    let r = place_out place (j / 2) k (omega (arith, within)) (sym (bit_at-suc j place) ∙ clear) (omega (arith, less, pow-suc 2 (suc k))) in
    let low : (j % 2 + 2 * r.0) % 2 ≡ j % 2 = omega arith in
    let high : (j % 2 + 2 * r.0) / 2 ≡ r.0 = omega arith in (
      j % 2 + 2 * r.0,
      omega (arith, r.1, pow-suc 2 k),
      omega (arith, r.2, ap₂ (λ a b. a + 2 * with_place place 0 b) low high),
    )

-- the bit of what differs between a table and the same moved down
moved_bit : (table s j : ℕ) → bit_at (bit_xor table (table / 2 ^ s)) j ≡ (bit_at table j + bit_at table (j + s)) % 2
moved_bit table s j =
    let e : s + j ≡ j + s = omega arith in
    bit_at_xor table (table / 2 ^ s) j ∙ ap (λ x. (bit_at table j + x) % 2) (ap (λ x. x % 2) (shr-shr table s j) ∙ ap (bit_at table) e)

same_bits : (a b c : ℕ) → a < 2 → b < 2 → c ≡ 1 → min ((a + b) % 2) c ≡ 0 → a ≡ b
same_bits zero zero c sa sb one none = refl
same_bits (suc zero) (suc zero) c sa sb one none = refl
same_bits zero (suc zero) c sa sb one none = let never : ◌≡◌ {A = ℕ} 1 0 = sym (ap (min 1) one) ∙ none in absurd (omega (arith, never))
same_bits (suc zero) zero c sa sb one none = let never : ◌≡◌ {A = ℕ} 1 0 = sym (ap (min 1) one) ∙ none in absurd (omega (arith, never))
same_bits (suc (suc a)) b c sa sb one none = absurd (omega arith)
same_bits zero (suc (suc b)) c sa sb one none = absurd (omega arith)
same_bits (suc zero) (suc (suc b)) c sa sb one none = absurd (omega arith)

pub idle_bits : (table s low place places : ℕ) → s ≡ 2 ^ place → place ≤ places → places ≤ 5 → ((i : ℕ) → i < 64 → bit_at low i ≡ 1 - bit_at i place) → bit_and (bit_xor table (table / 2 ^ s)) low ≡ 0 → (i : ℕ) → i < 2 ^ places → bit_at table (with_place place 0 i) ≡ bit_at table (with_place place 1 i)
idle_bits table s low place places wide within few is none i less =
    let j : ℕ = with_place place 0 i in
    let one : bit_at low j ≡ 1 = is j (with_place_table place 0 i places (omega arith) within few less) ∙ ap (λ b. 1 - b) (with_place_bit place i) in
    let zero_bit : min ((bit_at table j + bit_at table (j + s)) % 2) (bit_at low j) ≡ 0 =
    ap (λ b. min b (bit_at low j)) (sym (moved_bit table s j)) ∙ sym (bit_at_and (bit_xor table (table / 2 ^ s)) low j) ∙ ap (λ x. bit_at x j) none ∙ bit_at-zero j in
    same_bits (bit_at table j) (bit_at table (j + s)) (bit_at low j) (bit_small table j) (bit_small table (j + s)) one zero_bit
    ∙ ap (λ d. bit_at table (j + d)) wide ∙ ap (bit_at table) (sym (with_place_high place i))

pub told_bits : (table s low place places : ℕ) → s ≡ 2 ^ place → place ≤ places → table < 2 ^ (2 ^ (places + 1)) → bit_and (bit_xor table (table / 2 ^ s)) low < 2 ^ 64 → ((i : ℕ) → i < 64 → bit_at low i ≡ 1 - bit_at i place) → bit_and (bit_xor table (table / 2 ^ s)) low ≢ 0 → IsTold table places place
told_bits table s low place places wide within fits small is some =
    let at = differ_at 64 (bit_and (bit_xor table (table / 2 ^ s)) low) 0 small (omega arith) some in
    found at.0 at.1 (λ none. at.2 (none ∙ sym (bit_at-zero at.0)))
  where
    bit : (j : ℕ) → bit_at (bit_and (bit_xor table (table / 2 ^ s)) low) j ≡ min ((bit_at table j + bit_at table (j + s)) % 2) (bit_at low j)
    bit j = bit_at_and (bit_xor table (table / 2 ^ s)) low j ∙ ap (λ b. min b (bit_at low j)) (moved_bit table s j)

    alike : (j : ℕ) → bit_at table j ≡ bit_at table (j + s) → bit_at (bit_and (bit_xor table (table / 2 ^ s)) low) j ≡ 0
    alike j same =
        let twice : (bit_at table j + bit_at table (j + s)) % 2 ≡ 0 = omega (arith, same) in
        bit j ∙ ap (λ b. min b (bit_at low j)) twice ∙ min_zero (bit_at low j)
      where
        min_zero : (x : ℕ) → ◌≡◌ {A = ℕ} (min 0 x) 0
        min_zero x = omega arith

    found : (j : ℕ) → j < 64 → (bit_at (bit_and (bit_xor table (table / 2 ^ s)) low) j ≡ 0 → ⊥) → IsTold table places place
    found j less there = elim (nat_eq_or (bit_at j place) 0) [
      | inr set ↦
          let none : bit_at low j ≡ 0 = is j less ∙ omega (arith, set) in
          absurd (there (bit j ∙ ap (min ((bit_at table j + bit_at table (j + s)) % 2)) none ∙ omega arith))
      | inl clear ↦ elim (nat_eq_or (suc j - 2 ^ suc places) 0) [
        | inr above ↦
            let up : places + 1 ≡ suc places = omega arith in
            let P : ℕ → Type 0 = λ k. table < 2 ^ (2 ^ k) in
            let over : 2 ^ suc places ≤ j = omega (arith, above) in
            let one : bit_at table j ≡ 0 = bit_at_above table (2 ^ suc places) j (subst P up fits) over in
            let two : bit_at table (j + s) ≡ 0 = bit_at_above table (2 ^ suc places) (j + s) (subst P up fits) (omega (arith, over)) in
            absurd (there (alike j (one ∙ sym two)))
        | inl under ↦
            let at = place_out place j places within clear (omega (arith, under)) in
            let next : j + s ≡ with_place place 1 at.0 = omega (arith, at.2, wide, with_place_high place at.0) in
            (at.0, at.1, λ same. there (alike j (ap (bit_at table) at.2 ∙ same ∙ ap (bit_at table) (sym next))))
      ]
    ]

-- the same by the test for 0
pub idle_tested : (table s low place places : ℕ) → s ≡ 2 ^ place → place ≤ places → places ≤ 5 → ((i : ℕ) → i < 64 → bit_at low i ≡ 1 - bit_at i place) → (bit_and (bit_xor table (table / 2 ^ s)) low == 0) ≡ true → (i : ℕ) → i < 2 ^ places → bit_at table (with_place place 0 i) ≡ bit_at table (with_place place 1 i)
idle_tested table s low place places wide within few is test = idle_bits table s low place places wide within few is (same_from_test (bit_and (bit_xor table (table / 2 ^ s)) low) 0 test)

pub told_tested : (table s low place places : ℕ) → s ≡ 2 ^ place → place ≤ places → places ≤ 5 → table < 2 ^ (2 ^ (places + 1)) → ((i : ℕ) → i < 64 → bit_at low i ≡ 1 - bit_at i place) → (bit_and (bit_xor table (table / 2 ^ s)) low == 0) ≡ false → IsTold table places place
told_tested table s low place places wide within few fits is test = told_bits table s low place places wide within fits small is some
  where
    some : bit_and (bit_xor table (table / 2 ^ s)) low ≢ 0
    some none = let never : true ≡ false = sym (eq-eqb (bit_and (bit_xor table (table / 2 ^ s)) low) 0 none) ∙ test in absurd (cc)

    word : table < 2 ^ 64
    word = omega (arith, fits, pow_mono {i = 2 ^ (places + 1)} {j = 64} (omega (arith, pow_mono {i = places + 1} {j = 6} (omega (arith, few)))))

    small : bit_and (bit_xor table (table / 2 ^ s)) low < 2 ^ 64
    small = omega (arith, and_le_l (bit_xor table (table / 2 ^ s)) low, xor_lt 64 table (table / 2 ^ s) word (omega (arith, word, div-le_self table (2 ^ s))))
