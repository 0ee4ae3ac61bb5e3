-- The bits after a round, and after all.
use Rattle.std.proofs.Common.{◌≡◌, ne_eqb, ℕ, zero, suc, refl, sym, ◌∙◌, ap, ap₂, ◌<◌, ◌^◌, ◌+◌, ◌*◌, ◌%◌, ◌-◌, inl, inr, arith, List, [], ◌∷◌, length, Bool, true, false, None, Some, subst}
use Rattle.std.specs.Prelude.{bit_xor, slice_index, ◌==◌, if◌then◌else◌}
use Rattle.std.specs.Int.{bit_at}
use Rattle.std.specs.Int.Bits.{xor_zero_l, xor_zero_r, xor_lt}
use Rattle.std.proofs.lemmas.Nat.Bits.{bit_at_above, bit_at_lowest, bit_at-lt}
use Rattle.std.proofs.lemmas.Bool.{cases_lt}
use Rattle.std.proofs.Math.Nat.{mul-zero, mul-one}
use Rattle.gf_field.specs.Bit.{bit_mul}
use Rattle.gf_field.specs.Modulus.{IsModulus}
use Rattle.gf_field.specs.Quotient.{product}
use Rattle.make_laws.proofs.BitLemmas.{times_below}
use Rattle.make_laws.proofs.HalvingLemmas.{bit_at-halved, top_bit}
use Rattle.make_laws.proofs.MontgomeryLemmas.{running_below, montgomery}
use Rattle.make_laws.specs.ProductBits.{x_to}
use Rattle.make_laws.proofs.Halving.{halved, running_sum}
use Rattle.make_nets.specs.Plan.{Plan, begun, with_xor, with_buffer}
use Rattle.make_nets.specs.PlanValue.{Agrees, bit_at_net}
use Rattle.make_nets.proofs.EachLemmas.{each_keeps}
use Rattle.make_nets.proofs.ValueLemmas.{agrees_before, xor_value, buffer_value}
use Rattle.make_nets.specs.Row.{Row, begun_row, row_by, and_row, xor_row}
use Rattle.mult_montgomery.specs.Montgomery.{moved_plan, moved_net, divided_row, summed_row, round, rounds, buffered, montgomery_plan}
use Rattle.make_nets.proofs.RowLemmas.{HaveBits, IsRowOf, value_in_row, have_none, row_push, row_values, row_before, and_row_bits, xor_row_bits, xor_row_before}

-- after the first round the products are added to the row before
pub summed_later : (k : ℕ) (a b : List ℕ) (i : ℕ) (row : Row) → (i ≡ 0 → ⊥) → summed_row k a b i row ≡ xor_row k row.nets (and_row k (slice_index a i) b row.plan).nets (and_row k (slice_index a i) b row.plan).plan
summed_later k a b i row some = ap (λ t. if t then and_row k (slice_index a i) b row.plan else xor_row k row.nets (and_row k (slice_index a i) b row.plan).nets (and_row k (slice_index a i) b row.plan).plan) (ne_eqb i 0 some)

module _ (bits : List Bool) (k g : ℕ) where
  moved_before : (sum : List ℕ) (j : ℕ) (p : Plan) → Agrees bits (moved_plan g sum j p) → Agrees bits p
  moved_before sum j p = by (bit_at g (j + 1) == 1)
    where
      by : (t : Bool) → Agrees bits (if t then with_xor None (slice_index sum (j + 1)) (slice_index sum 0) p else p) → Agrees bits p
      by true agrees = agrees_before bits None (slice_index sum (j + 1) ∷ slice_index sum 0 ∷ []) 6 p agrees
      by false agrees = agrees

  -- a place of the sum divided by x
  moved_bit : (x : ℕ) (sum : List ℕ) → length sum ≡ k → HaveBits bits sum x → (j : ℕ) (p : Plan) → suc j < k → Agrees bits (moved_plan g sum j p) → bit_at_net bits (moved_net g sum j p) ≡ bit_at (halved g x) j
  moved_bit x sum long have j p less = by (bit_at g (j + 1)) (bit_at-lt g (j + 1)) refl
    where
      next : bit_at (halved g x) j ≡ bit_xor (bit_at x (j + 1)) (x % 2 * bit_at g (j + 1))
      next =
          let same : suc j ≡ j + 1 = omega arith in
          bit_at-halved g x j ∙ ap (λ i. bit_xor (bit_at x i) (x % 2 * bit_at g i)) same

      later : bit_at_net bits (slice_index sum (j + 1)) ≡ bit_at x (j + 1)
      later = value_in_row bits sum (bit_at x) (j + 1) have (omega (arith, less, long))

      first : bit_at_net bits (slice_index sum 0) ≡ x % 2
      first = value_in_row bits sum (bit_at x) 0 have (omega (arith, less, long)) ∙ bit_at_lowest x

      by : (c : ℕ) → c < 2 → bit_at g (j + 1) ≡ c → Agrees bits (if c == 1 then with_xor None (slice_index sum (j + 1)) (slice_index sum 0) p else p) → bit_at_net bits (if c == 1 then p.next else slice_index sum (j + 1)) ≡ bit_at (halved g x) j
      by zero low is agrees = later ∙ sym (next ∙ ap (λ c. bit_xor (bit_at x (j + 1)) (x % 2 * c)) is ∙ ap (bit_xor (bit_at x (j + 1))) (mul-zero (x % 2)) ∙ xor_zero_r (bit_at x (j + 1)))
      by (suc zero) low is agrees =
          xor_value bits None (slice_index sum (j + 1)) (slice_index sum 0) p agrees
          ∙ ap₂ bit_xor later first
          ∙ sym (next ∙ ap (λ c. bit_xor (bit_at x (j + 1)) (x % 2 * c)) is ∙ ap (bit_xor (bit_at x (j + 1))) (mul-one (x % 2)))
      by (suc (suc c)) low is agrees = absurd (omega (arith, low))

  divided_before : (sum : Row) → Agrees bits (divided_row k g sum).plan → Agrees bits sum.plan
  divided_before sum = row_before bits (moved_plan g sum.nets) (moved_net g sum.nets) (k - 1) sum.plan (moved_before sum.nets)

  -- the sum divided by x
  divided_bits : (x : ℕ) (sum : Row) → IsModulus k g → x < 2 ^ k → length sum.nets ≡ k → HaveBits bits sum.nets x → Agrees bits (divided_row k g sum).plan → IsRowOf bits sum.plan k (bit_at (halved g x)) (divided_row k g sum)
  divided_bits x sum ok below long have agrees =
      let moved = row_values bits (moved_plan g sum.nets) (moved_net g sum.nets) (k - 1) sum.plan (moved_before sum.nets) (bit_at (halved g x)) (λ j p less. moved_bit x sum.nets long have j p (omega (arith, less))) agrees in
      let P : ℕ → Type 0 = λ l. IsRowOf bits sum.plan l (bit_at (halved g x)) (divided_row k g sum) in
      subst P one_more (row_push bits sum.plan (k - 1) (bit_at (halved g x)) (slice_index sum.nets 0) (row_by (k - 1) (moved_plan g sum.nets) (moved_net g sum.nets) sum.plan) (divided_row k g sum) refl moved last)
    where
      one_more : suc (k - 1) ≡ k
      one_more = omega (arith, ok.some)

      last : bit_at_net bits (slice_index sum.nets 0) ≡ bit_at (halved g x) (k - 1)
      last =
          value_in_row bits sum.nets (bit_at x) 0 have (omega (arith, long, ok.some))
          ∙ bit_at_lowest x
          ∙ sym (bit_at-halved g x (k - 1) ∙ ap (λ i. bit_xor (bit_at x i) (x % 2 * bit_at g i)) one_more ∙ ap₂ (λ u v. bit_xor u (x % 2 * v)) (bit_at_above x k k below (omega arith)) (top_bit k g ok) ∙ xor_zero_l (x % 2 * 1) ∙ mul-one (x % 2))

  module _ (ok : IsModulus k g) (odd : g % 2 ≡ 1) (x y : ℕ) (x_below : x < 2 ^ k) (y_below : y < 2 ^ k) (a b : List ℕ) (long_a : length a ≡ k) (long_b : length b ≡ k) (have_a : HaveBits bits a x) (have_b : HaveBits bits b y) where
    -- after i rounds the nets have the bits of the sum so far
    pub record IsSum (i : ℕ) (row : Row) : Type 0 where
      pub long : 0 < i → length row.nets ≡ k
      pub have : HaveBits bits row.nets (running_sum g x y i)

    summed_bits : (i : ℕ) (row : Row) → i < k → (Agrees bits row.plan → IsSum i row) → Agrees bits (summed_row k a b i row).plan → IsRowOf bits row.plan k (bit_at (bit_xor (running_sum g x y i) (bit_at x i * y))) (summed_row k a b i row)
    unfolding running_sum
    summed_bits zero row less kept agrees =
        let P : ℕ → Type 0 = λ s. IsRowOf bits row.plan k (bit_at s) (and_row k (slice_index a 0) b row.plan) in
        subst P (sym (xor_zero_l (bit_at x 0 * y)))
        (and_row_bits bits k (slice_index a 0) (bit_at x 0) y b row.plan (bit_at-lt x 0) (value_in_row bits a (bit_at x) 0 have_a (omega (arith, less, long_a))) long_b have_b agrees)
    summed_bits (suc i) row less kept agrees' =
        let later = summed_later k a b (suc i) row (λ none. absurd (omega (arith, none))) in
        let agrees = subst (λ (sum : Row). Agrees bits sum.plan) later agrees' in
        let P : Row → Type 0 = λ sum. IsRowOf bits row.plan k (bit_at (bit_xor (running_sum g x y (suc i)) (bit_at x (suc i) * y))) sum in
        subst P (sym later) (
        let products = and_row k (slice_index a (suc i)) b row.plan in
        let anded = and_row_bits bits k (slice_index a (suc i)) (bit_at x (suc i)) y b row.plan (bit_at-lt x (suc i)) (value_in_row bits a (bit_at x) (suc i) have_a (omega (arith, less, long_a))) long_b have_b (xor_row_before bits k row.nets products.nets products.plan agrees) in
        let before = kept anded.before in
        let added = xor_row_bits bits k (running_sum g x y (suc i)) (bit_at x (suc i) * y) row.nets products.nets products.plan (before.long (omega arith)) anded.long before.have anded.have agrees in
        record { before = anded.before; long = added.long; have = added.have })

    round_bits : (i : ℕ) (row : Row) → i < k → (Agrees bits row.plan → IsSum i row) → Agrees bits (round k g a b i row).plan → IsSum (suc i) (round k g a b i row)
    unfolding running_sum
    round_bits i row less kept agrees =
        let summed = summed_bits i row less kept (divided_before (summed_row k a b i row) agrees) in
        let sum : ℕ = bit_xor (running_sum g x y i) (bit_at x i * y) in
        let below : sum < 2 ^ k = xor_lt k (running_sum g x y i) (bit_at x i * y) (running_below k g ok odd x y i y_below) (times_below k (bit_at x i) y (bit_at-lt x i) y_below) in
        let divided = divided_bits sum (summed_row k a b i row) ok below summed.long summed.have agrees in
        record { long = λ some. divided.long; have = divided.have }

    rounds_bits : (outer : ℕ) → Agrees bits (rounds outer k g a b).plan → IsSum k (rounds outer k g a b)
    rounds_bits outer =
        each_keeps (λ i row. Agrees bits row.plan → IsSum i row) (round k g a b) (begun_row (begun outer)) k
        (λ agrees. record { long = λ some. absurd (omega (arith, some)); have = have_none bits (bit_at (running_sum g x y 0)) })
        (λ i row less kept. round_bits i row less kept)

  buffered_bits : (z : List ℕ) (row : Row) → Agrees bits (buffered k z row) → Agrees bits row.plan × ((l : ℕ) → l < k → bit_at_net bits (slice_index z l) ≡ bit_at_net bits (slice_index row.nets l))
  buffered_bits z row agrees =
      let all = each_keeps (λ j plan. Agrees bits plan → Agrees bits row.plan × ((l : ℕ) → l < j → bit_at_net bits (slice_index z l) ≡ bit_at_net bits (slice_index row.nets l))) (λ j. with_buffer (Some (slice_index z j)) (slice_index row.nets j)) row.plan k
      (λ agrees. (agrees, λ l less. absurd (omega (arith, less))))
      (λ j plan less kept agrees. more j plan (kept (agrees_before bits (Some (slice_index z j)) (slice_index row.nets j ∷ []) 2 plan agrees)) (buffer_value bits (Some (slice_index z j)) (slice_index row.nets j) plan agrees)) in
      all agrees
    where
      more : (j : ℕ) (plan : Plan) → Agrees bits row.plan × ((l : ℕ) → l < j → bit_at_net bits (slice_index z l) ≡ bit_at_net bits (slice_index row.nets l)) → bit_at_net bits (slice_index z j) ≡ bit_at_net bits (slice_index row.nets j) → Agrees bits row.plan × ((l : ℕ) → l < suc j → bit_at_net bits (slice_index z l) ≡ bit_at_net bits (slice_index row.nets l))
      more j plan before here = (
        before.0,
        λ l less. elim (cases_lt l j) [
          | inl earlier ↦ before.1 l earlier
          | inr last ↦ let same : l ≡ j = omega (arith, less, last) in rw same here
        ],
      )

-- Bit l of the nets of the product is that of the factors' product and the inverse.
pub montgomery_bits : (bits : List Bool) (outer k g : ℕ) → IsModulus k g → g % 2 ≡ 1 → (x y r : ℕ) → x < 2 ^ k → y < 2 ^ k → product 1 k bit_mul g r (x_to k g k) ≡ 1 → (a b z : List ℕ) → length a ≡ k → length b ≡ k → HaveBits bits a x → HaveBits bits b y → Agrees bits (montgomery_plan outer k g a b z) → (l : ℕ) → l < k → bit_at_net bits (slice_index z l) ≡ bit_at (product 1 k bit_mul g (product 1 k bit_mul g x y) r) l
montgomery_bits bits outer k g ok odd x y r x_below y_below inverse a b z long_a long_b have_a have_b agrees l less =
    let through = buffered_bits bits k g z (rounds outer k g a b) agrees in
    let sum = rounds_bits bits k g ok odd x y x_below y_below a b long_a long_b have_a have_b outer through.0 in
    let long : length (rounds outer k g a b).nets ≡ k = sum.long (omega (arith, ok.some)) in
    through.1 l less ∙ value_in_row bits (rounds outer k g a b).nets (bit_at (running_sum g x y k)) l sum.have (omega (arith, less, long)) ∙ ap (λ v. bit_at v l) (montgomery k g ok odd x y r x_below y_below inverse)
