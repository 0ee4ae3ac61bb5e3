-- The plans of the makers are short, and so the texts of their nets fit a file.
use Rattle.std.proofs.Common.{◌≡◌, ◌∙◌, ap, sym, inl, inr, ℕ, zero, suc, ◌<◌, ◌≤◌, ◌+◌, ◌*◌, ◌-◌, ◌^◌, List, [], length, take, drop, None, Some, arith}
use Rattle.std.specs.Prelude.{◌==◌, ◌≢◌, slice_index}
use Rattle.std.specs.Int.{bit_at}
use Rattle.std.proofs.Math.Nat.{mul-suc, suc-mul}
use Rattle.std.proofs.lemmas.Bool.{cases_lt}
use Rattle.std.proofs.lemmas.Nat.Bits.{bit_at-pow_other}
use Rattle.lists.specs.Limits.{most_bytes}
use Rattle.lists.specs.laws.NumberLaws.{mul_few, nat_eq_or, square_few}
use Rattle.gf_field.specs.Modulus.{IsModulus}
use Rattle.net_words.specs.declared.word.Role.TheVariants.{Input}
use Rattle.net_words.specs.declared.word.WordText.{WordText}
use Rattle.net_write.specs.Written.{written}
use Rattle.make_laws.specs.ProductBits.{x_to}
use Rattle.make_laws.proofs.IndeterminateLemmas.{power_x}
use Rattle.make_nets.specs.Plan.{Plan, begun, gathered, where_so, with_and, with_chain, with_xor}
use Rattle.make_nets.specs.Form.{AllWide, HasWords}
use Rattle.make_nets.specs.Made.{IsPlanFor, made_of}
use Rattle.make_nets.specs.MakerNames.{AreMakerNames}
use Rattle.make_nets.specs.Ports.{outer_names}
use Rattle.make_nets.specs.ShortPlan.{IsShort, ReadTwo}
use Rattle.make_nets.proofs.LabelLemmas.{append_long}
use Rattle.make_nets.proofs.ShortLemmas.{short_text}
use Rattle.make_nets.proofs.TwoLemmas.{and_two, begun_two, chain_two, each_two, xor_two}
use Rattle.mult_gen.specs.Chains.{added_bits, added_in_row, added_products, adder_plan, chains, mastrovito_plan, product_row, products, squarer_plan}
use Rattle.mult_gen.specs.Form.{inputs_in, made_adder, made_mastrovito, made_squarer, outer_of, outputs_in}
use Rattle.mult_gen.proofs.AdderLemmas.{adder_next}
use Rattle.mult_gen.proofs.ChainLemmas.{chains_next, where_few}
use Rattle.mult_gen.proofs.ComputeLemmas.{adder_fits, mastrovito_fits, squarer_fits}
use Rattle.mult_gen.proofs.PlanLemmas.{drop_long, inputs_long, outer_are, outer_few, outputs_long, take_long}
use Rattle.mult_gen.proofs.ProductLemmas.{rows_next}
use Rattle.mult_gen.proofs.SquarerLemmas.{squarer_few}

-- ---- how many products add to a bit: each power below the degree k has one bit that is 1, so it adds to one bit alone

module _ (k : ℕ) (power : ℕ → ℕ) (unit : (e : ℕ) → e < k → power e ≡ 2 ^ e) (l : ℕ) where
  not_added : (e n : ℕ) → e < k → e ≢ l → length (where_so (bit_at (power e) l == 1) n) ≡ 0
  not_added e n low other = ap (λ b. length (where_so (b == 1) n)) (ap (λ p. bit_at p l) (unit e low) ∙ bit_at-pow_other e l (λ same. other (sym same)))

  -- of the first products of a row, while their powers are below the degree
  low_few : (first i n : ℕ) → i + n ≤ k → (length (added_in_row power first i l n) ≤ 1) × (i + n ≤ l → length (added_in_row power first i l n) ≡ 0)
  low_few first i zero low = (omega arith, λ before. omega arith)
  low_few first i (suc n) low =
      let rest = low_few first i n (omega (arith, low)) in
      let long = append_long (added_in_row power first i l n) (where_so (bit_at (power (i + n)) l == 1) (first + n)) in
      elim (nat_eq_or (i + n) l) [
        | inl here ↦ (
          omega (arith, long, rest.1 (omega (arith, here)), where_few (bit_at (power (i + n)) l == 1) (first + n)),
          λ before. absurd (omega (arith, here, before)),
        )
        | inr other ↦
            let none = not_added (i + n) (first + n) (omega (arith, low)) other in
            (omega (arith, long, rest.0, none), λ before. omega (arith, long, rest.1 (omega (arith, before)), none))
      ]

  -- and of the others each may
  row_few : (first i n : ℕ) → length (added_in_row power first i l n) ≤ suc (i + n - k)
  row_few first i zero = omega arith
  row_few first i (suc n) =
      elim (cases_lt (i + n) k) [
        | inl low ↦ omega (arith, (low_few first i (suc n) (omega (arith, low))).0)
        | inr high ↦ omega (arith, high, append_long (added_in_row power first i l n) (where_so (bit_at (power (i + n)) l == 1) (first + n)), row_few first i n, where_few (bit_at (power (i + n)) l == 1) (first + n))
      ]

  rows_few : (first : ℕ → ℕ) (w : ℕ) → length (gathered w (λ i. added_in_row power (first i) i l k)) * 2 ≤ w * suc w
  rows_few first zero = omega arith
  rows_few first (suc w) =
      omega (
        arith,
        append_long (gathered w (λ i. added_in_row power (first i) i l k)) (added_in_row power (first w) w l k),
        rows_few first w,
        row_few (first w) w k,
        suc-mul w (suc (suc w)),
        mul-suc w (suc w),
      )

  -- so there are at most 2080 of 64 rows
  pub added_in_rows : (first : ℕ → ℕ) (w : ℕ) → w ≤ 64 → length (gathered w (λ i. added_in_row power (first i) i l k)) ≤ 2080
  added_in_rows first w few = omega (arith, rows_few first w, mul_few w (suc w) 64 65 few (omega (arith, few)))

-- ---- gates of at most two inputs

pub chains_two : (k : ℕ) (z : List ℕ) (lists : ℕ → List ℕ) (plan : Plan) → ReadTwo plan → ReadTwo (chains k z lists plan)
chains_two k z lists plan two = each_two k (λ l. with_chain (Some (slice_index z l)) (lists l)) plan two (λ l p. chain_two (Some (slice_index z l)) (lists l) p)

pub row_two : (n x : ℕ) (b : List ℕ) (plan : Plan) → ReadTwo plan → ReadTwo (product_row n x b plan)
row_two n x b plan two = each_two n (λ j. with_and None x (slice_index b j)) plan two (λ j p. and_two None x (slice_index b j) p)

pub products_two : (k : ℕ) (a b : List ℕ) (plan : Plan) → ReadTwo plan → ReadTwo (products k a b plan)
products_two k a b plan two = each_two k (λ i. product_row k (slice_index a i) b) plan two (λ i p. row_two k (slice_index a i) b p)

-- ---- short plans, and texts that fit

-- a plan of few inner nets has few gates
module _ (count k : ℕ) (words : List WordText) (has : HasWords Input count words) (wide : AllWide k words) (small : k ≤ 64) (plan : Plan) (fits : IsPlanFor words [] [] (outputs_in words) plan) where
  pub short_plan : ReadTwo plan → plan.next ≤ outer_of words + 151900 → IsShort plan
  short_plan two few = record { two = two; few = omega (arith, fits.shape.count, outer_are words, few, outputs_long count k words has wide, small) }

  pub text_fits : count ≤ 2 → AreMakerNames (outer_names words []) → IsShort plan → length (written (made_of words [] [] plan)) ≤ most_bytes
  text_fits few names short = short_text words [] [] (outputs_in words) plan names fits short (omega (arith, outer_few k count words small few has wide)) (omega arith)

module _ (k g : ℕ) (ok : IsModulus k g) (words : List WordText) (has : HasWords Input 2 words) (wide : AllWide k words) (names : AreMakerNames (outer_names words [])) where
  abbrev a : List ℕ
  a = take k (inputs_in words)

  abbrev b : List ℕ
  b = drop k (inputs_in words)

  mastrovito_next : (mastrovito_plan (outer_of words) k g a b (outputs_in words)).next ≤ outer_of words + 137280
  mastrovito_next =
      let lists = added_products k g (outer_of words) in
      omega (
        arith,
        chains_next k (outputs_in words) lists (products k a b (begun (outer_of words))) k 2081 (λ l less. omega (arith, added_in_rows k (x_to k g) (λ e low. power_x k g e ok low) l (λ i. outer_of words + i * k) k ok.small)),
        rows_next k k a b (begun (outer_of words)),
        square_few k ok.small,
        mul_few k 2081 64 2081 ok.small (omega arith),
      )

  -- the text of the multiplier
  pub mastrovito_text : length (written (made_mastrovito k g words)) ≤ most_bytes
  mastrovito_text =
      let plan : Plan = mastrovito_plan (outer_of words) k g a b (outputs_in words) in
      let fits = mastrovito_fits k g ok.small words has wide in
      let two : ReadTwo (mastrovito_plan (outer_of words) k g a b (outputs_in words)) = chains_two k (outputs_in words) (added_products k g (outer_of words)) (products k a b (begun (outer_of words))) (products_two k a b (begun (outer_of words)) (begun_two (outer_of words))) in
      text_fits 2 k words has wide ok.small plan fits (omega arith) names (short_plan 2 k words has wide ok.small plan fits two (omega (arith, mastrovito_next)))

module _ (k : ℕ) (small : k ≤ 64) (words : List WordText) (names : AreMakerNames (outer_names words [])) where
  -- the text of the adder
  pub adder_text : HasWords Input 2 words → AllWide k words → length (written (made_adder k words)) ≤ most_bytes
  adder_text has wide =
      let a = take k (inputs_in words) in
      let b = drop k (inputs_in words) in
      let z = outputs_in words in
      let plan : Plan = adder_plan (outer_of words) k a b z in
      let fits = adder_fits k 0 small words has wide in
      let two : ReadTwo (adder_plan (outer_of words) k a b z) = each_two k (λ i. with_xor (Some (slice_index z i)) (slice_index a i) (slice_index b i)) (begun (outer_of words)) (begun_two (outer_of words)) (λ i p. xor_two (Some (slice_index z i)) (slice_index a i) (slice_index b i) p) in
      let next = adder_next (outer_of words) k a b z (take_long 2 k words has wide (omega arith)) (drop_long k words has wide) (outputs_long 2 k words has wide) k in
      text_fits 2 k words has wide small plan fits (omega arith) names (short_plan 2 k words has wide small plan fits two (omega (arith, next)))

  -- the text of the squarer
  pub squarer_text : (g : ℕ) → HasWords Input 1 words → AllWide k words → length (written (made_squarer k g words)) ≤ most_bytes
  squarer_text g has wide =
      let plan : Plan = squarer_plan (outer_of words) k g (inputs_in words) (outputs_in words) in
      let fits = squarer_fits k g small words has wide in
      let one_long : length (inputs_in words) ≡ k = inputs_long 1 k words has wide ∙ omega arith in
      let two : ReadTwo (squarer_plan (outer_of words) k g (inputs_in words) (outputs_in words)) = chains_two k (outputs_in words) (added_bits k g (inputs_in words)) (begun (outer_of words)) (begun_two (outer_of words)) in
      let next = squarer_few (outer_of words) k g (inputs_in words) (outputs_in words) small one_long (outputs_long 1 k words has wide) in
      text_fits 1 k words has wide small plan fits (omega arith) names (short_plan 1 k words has wide small plan fits two (omega (arith, next)))
