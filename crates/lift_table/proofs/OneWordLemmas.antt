-- The coefficients in one word, one after another, from the highest one down.
use Rattle.std.proofs.Common.{◌≡◌, ◌≢◌, ◌∙◌, ap, sym, refl, subst, inl, inr, ℕ, zero, suc, ◌+◌, ◌*◌, ◌-◌, ◌<◌, ◌≤◌, ◌^◌, List, [], ◌++◌, length, get_or, set, mul_comm, length-set, length-append, get_or-set_same, get_or-set_other, arith}
use Rattle.std.specs.Prelude.{bit_xor}
use Rattle.std.proofs.Math.ListN.{get_or-append}
use Rattle.std.proofs.Math.Nat.{add-mul}
use Rattle.std.proofs.lemmas.List.{get_or-append-add}
use Rattle.std.proofs.lemmas.Bool.{cases_eq, cases_lt}
use Rattle.std.proofs.lemmas.Nat.{pow_pos}
use Rattle.lists.specs.laws.NumberLaws.{suc_is_plus_one}
use Rattle.gf_field.proofs.SharedLemmas.{same_sum}
use Rattle.gf_field.specs.Element.{AreElements}
use Rattle.gf_field.specs.Polynomial.{sum_of_first}
use Rattle.gf_field.specs.Power.{power}
use Rattle.gf_field.specs.Ring.{IsRing}
use Rattle.gf_field.specs.laws.RingLaws.{mul_one}
use Rattle.lift_table.specs.OneWord.{coefficient_of}
use Rattle.lift_table.specs.private.Columns.{AddsCoefficients, AreCoefficients, AreColumns}
use Rattle.lift_table.proofs.GatherLemmas.{inside}

pub sum_more : (xs : List ℕ) (i s : ℕ) → s ≡ sum_of_first i (λ y. get_or xs y 0) → bit_xor s (get_or xs i 0) ≡ sum_of_first (i + 1) (λ y. get_or xs y 0)
sum_more xs i s is =
    let next : suc i ≡ i + 1 = omega arith in
    ap (λ n. bit_xor n (get_or xs i 0)) is ∙ ap (λ n. sum_of_first n (λ y. get_or xs y 0)) next

pub set_later : (xs ys : List ℕ) (i v : ℕ) → ((j : ℕ) → i ≤ j → get_or xs j 0 ≡ get_or ys j 0) → (j : ℕ) → i + 1 ≤ j → get_or (set xs i v) j 0 ≡ get_or ys j 0
set_later xs ys i v same j later = let other : j ≢ i = omega arith in rw get_or-set_other (same j (omega arith))

pub set_elements : (bound : ℕ) (xs : List ℕ) (i v : ℕ) → ((j : ℕ) → j < length xs → get_or xs j 0 < bound) → v < bound → (j : ℕ) → j < length (set xs i v) → get_or (set xs i v) j 0 < bound
set_elements bound xs i v elements less j within =
    let long : length (set xs i v) ≡ length xs = length-set xs i v in
    let small : j < length xs = omega arith in
    elim (cases_eq j i) [
      | inl e ↦ let room : i < length xs = omega arith in subst (λ (n : ℕ). get_or (set xs i v) n 0 < bound) (sym e) (subst (λ (n : ℕ). n < bound) (sym (get_or-set_same xs i v 0 room)) less)
      | inr other ↦ rw get_or-set_other (elements j small)
    ]

-- After so many steps each value is multiplied with the power of its element by their number, and the coefficients from
-- 2^k - steps on are found; the others are the values still.
pub record AreSoFar (k : ℕ) (mul : ℕ → ℕ → ℕ) (values list left : List ℕ) (steps : ℕ) : Type 0 where
  pub long_list : length list ≡ 2 ^ k
  pub long_left : length left ≡ 2 ^ k
  pub first : get_or list 0 0 ≡ get_or values 0 0
  pub found : (e : ℕ) → 2 ^ k ≤ e + steps → 1 ≤ e → e < 2 ^ k → get_or list e 0 ≡ coefficient_of k mul (λ x. get_or values x 0) e
  pub raised : (x : ℕ) → x < 2 ^ k → get_or left x 0 ≡ mul (get_or values x 0) (power mul x steps)
  pub elements_list : AreElements k list
  pub elements_left : AreElements k left

-- the columns of the first rows
pub record AreColumnsTo (k : ℕ) (mul : ℕ → ℕ → ℕ) (n rows : ℕ) (table list : List ℕ) : Type 0 where
  pub long : length list ≡ rows * 2 ^ k
  pub at : (row e : ℕ) → row < rows → e < 2 ^ k → get_or list (row * 2 ^ k + e) 0 ≡ coefficient_of k mul (λ x. get_or table (x * n + row) 0) e
  pub elements : AreElements k list

-- a table of n rows of other words has room for n values of each element
pub column_room : (k n count : ℕ) (table : List ℕ) → count ≡ 2 ^ k → length table ≡ n * 2 ^ k → count * n ≤ length table
column_room k n count table is long =
    let here : count * n ≡ 2 ^ k * n = ap (λ m. m * n) is in
    omega (arith, here, mul_comm n (2 ^ k), long)

pub column_elements : (k n row : ℕ) (table list values : List ℕ) → row < n → length table ≡ n * 2 ^ k → AreElements k table → list ≡ values → length values ≡ 2 ^ k
    → ((x : ℕ) → x < 2 ^ k → get_or values x 0 ≡ get_or table (x * n + row) 0) → AreElements k list
column_elements k n row table list values low long elements same size at =
    let P : List ℕ → Type 0 = AreElements k in
    subst P (sym same) (λ i within.
    let small : i < 2 ^ k = omega (arith, size) in
    let place : i * n + row < length table = inside i n row (2 ^ k) (length table) small low (column_room k n (2 ^ k) table refl long) in
    subst (λ (m : ℕ). m < 2 ^ k) (sym (at i small)) (elements (i * n + row) place))

module _ (k : ℕ) (mul : ℕ → ℕ → ℕ) (ring : IsRing k mul) where
  pub no_steps : (values list left : List ℕ) → list ≡ values → left ≡ values → length values ≡ 2 ^ k → AreElements k values → AreSoFar k mul values list left 0
  unfolding power
  no_steps values list left same same' long elements =
      let P : List ℕ → Type 0 = λ xs. AreSoFar k mul values xs left 0 in
      let Q : List ℕ → Type 0 = λ xs. AreSoFar k mul values values xs 0 in
      subst P (sym same) (subst Q (sym same') (record {
        long_list = long;
        long_left = long;
        first = refl;
        found = λ e past some less. absurd (omega arith);
        raised = λ x less. sym (mul_one k mul ring (get_or values x 0) (elements x (omega (arith, long))));
        elements_list = elements;
        elements_left = elements;
      }))

  -- one more multiplication
  raised_more : (v x n : ℕ) → mul (mul v (power mul x n)) x ≡ mul v (power mul x (suc n))
  unfolding power
  raised_more v x n = ring.assoc v (power mul x n) x ∙ ap (mul v) (ring.comm (power mul x n) x)

  pub one_step : (values list left after : List ℕ) (steps place sum : ℕ) → place ≡ 2 ^ k - 1 - steps → steps < 2 ^ k - 1 → AreSoFar k mul values list left steps
      → sum ≡ sum_of_first (length left) (λ y. get_or left y 0) → sum < 2 ^ k
      → length after ≡ length left → ((x : ℕ) → x < length left → get_or after x 0 ≡ mul (get_or left x 0) x) → AreElements k after
      → AreSoFar k mul values (set list place sum) after (steps + 1)
  one_step values list left after steps place sum here within so sum_is sum_small long raised elements =
      let some : 0 < 2 ^ k = pow_pos k in
      record {
        long_list = length-set list place sum ∙ so.long_list;
        long_left = long ∙ so.long_left;
        first = let other : 0 ≢ place = omega arith in rw get_or-set_other so.first;
        found = found;
        raised = λ x less. raised x (omega (arith, so.long_left)) ∙ (ap (λ n. mul n x) (so.raised x less) ∙ (raised_more (get_or values x 0) x steps ∙ ap (λ n. mul (get_or values x 0) (power mul x n)) (suc_is_plus_one steps)));
        elements_list = set_elements (2 ^ k) list place sum so.elements_list sum_small;
        elements_left = elements;
      }
    where
      shown : (e : ℕ) → 1 ≤ e → steps ≡ 2 ^ k - 1 - e → sum ≡ coefficient_of k mul (λ x. get_or values x 0) e
      shown zero some same = absurd (omega arith)
      shown (suc e) some same =
          sum_is ∙ (ap (λ n. sum_of_first n (λ y. get_or left y 0)) so.long_left
          ∙ (same_sum (2 ^ k) (λ y. get_or left y 0) (λ x. mul (get_or values x 0) (power mul x steps)) so.raised
          ∙ ap (λ n. sum_of_first (2 ^ k) (λ x. mul (get_or values x 0) (power mul x n))) same))

      found : (e : ℕ) → 2 ^ k ≤ e + (steps + 1) → 1 ≤ e → e < 2 ^ k → get_or (set list place sum) e 0 ≡ coefficient_of k mul (λ x. get_or values x 0) e
      found e past some less = elim (cases_eq e place) [
        | inl same ↦
            let room : place < length list = omega (arith, so.long_list, same) in
            ap (λ n. get_or (set list place sum) n 0) same ∙ (get_or-set_same list place sum 0 room ∙ shown e some (omega arith))
        | inr other ↦ rw get_or-set_other (so.found e (omega arith) some less)
      ]

  pub all_steps : (values list left : List ℕ) (steps : ℕ) → 2 ^ k ≤ steps + 1 → AreSoFar k mul values list left steps → AreCoefficients k mul values list
  all_steps values list left steps end so = record { long = so.long_list; at = each; elements = so.elements_list }
    where
      each : (e : ℕ) → e < 2 ^ k → get_or list e 0 ≡ coefficient_of k mul (λ x. get_or values x 0) e
      each zero less = so.first
      each (suc e) less = so.found (suc e) (omega arith) (omega arith) less

  -- the coefficients look at the values of elements alone
  pub same_coefficient : (v w : ℕ → ℕ) (e : ℕ) → ((x : ℕ) → x < 2 ^ k → v x ≡ w x) → coefficient_of k mul v e ≡ coefficient_of k mul w e
  same_coefficient v w zero same = same 0 (pow_pos k)
  same_coefficient v w (suc e) same =
      same_sum (2 ^ k) (λ x. mul (v x) (power mul x (2 ^ k - 1 - suc e))) (λ x. mul (w x) (power mul x (2 ^ k - 1 - suc e))) (λ x less. ap (λ n. mul n (power mul x (2 ^ k - 1 - suc e))) (same x less))

  pub no_rows : (n : ℕ) (table list : List ℕ) → list ≡ [] → AreColumnsTo k mul n 0 table list
  no_rows n table list none =
      let P : List ℕ → Type 0 = AreColumnsTo k mul n 0 table in
      subst P (sym none) (record { long = omega arith; at = λ row e less small. absurd (omega arith); elements = λ i within. absurd (omega arith) })

  pub all_rows : (n rows : ℕ) (table list : List ℕ) → rows ≡ n → AreColumnsTo k mul n rows table list → AreColumns k mul n table list
  all_rows n rows table list same so = record {
    long = so.long ∙ ap (λ m. m * 2 ^ k) same;
    at = λ row e less small. so.at row e (omega arith) small;
    elements = so.elements;
  }

  more_column : (n row : ℕ) (table list values column : List ℕ) → AreColumnsTo k mul n row table list
      → AreCoefficients k mul values column → ((x : ℕ) → x < 2 ^ k → get_or values x 0 ≡ get_or table (x * n + row) 0) → AreColumnsTo k mul n (row + 1) table (list ++ column)
  more_column n row table list values column so coefficients gathered = record { long = long; at = each; elements = elements }
    where
      long : length (list ++ column) ≡ (row + 1) * 2 ^ k
      long =
          let both : (row + 1) * 2 ^ k ≡ row * 2 ^ k + 1 * 2 ^ k = add-mul row 1 (2 ^ k) in
          length-append list column ∙ omega (arith, both, so.long, coefficients.long)

      each : (r e : ℕ) → r < row + 1 → e < 2 ^ k → get_or (list ++ column) (r * 2 ^ k + e) 0 ≡ coefficient_of k mul (λ x. get_or table (x * n + r) 0) e
      each r e low less = elim (cases_eq r row) [
        | inl same ↦
            ap (λ m. get_or (list ++ column) m 0) (let P : r * 2 ^ k ≡ row * 2 ^ k = ap (λ m. m * 2 ^ k) same in omega (arith, P, so.long))
            ∙ (get_or-append-add list column e 0 ∙ (coefficients.at e less ∙ (same_coefficient (λ x. get_or values x 0) (λ x. get_or table (x * n + row) 0) e gathered ∙ ap (λ m. coefficient_of k mul (λ x. get_or table (x * n + m) 0) e) (sym same))))
        | inr other ↦
            let small : r < row = omega arith in
            let within : r * 2 ^ k + e < length list = inside r (2 ^ k) e row (length list) small less (omega (arith, so.long)) in
            get_or-append list column 0 (r * 2 ^ k + e) within ∙ so.at r e small less
      ]

      elements : AreElements k (list ++ column)
      elements i within = elim (cases_lt i (length list)) [
        | inl low ↦ subst (λ (m : ℕ). m < 2 ^ k) (sym (get_or-append list column 0 i low)) (so.elements i low)
        | inr high ↦
            let both = length-append list column in
            let place : length list + (i - length list) ≡ i = omega arith in
            subst (λ (m : ℕ). get_or (list ++ column) m 0 < 2 ^ k) place
            (subst (λ (m : ℕ). m < 2 ^ k) (sym (get_or-append-add list column (i - length list) 0)) (coefficients.elements (i - length list) (omega arith)))
      ]

  pub one_column : (n row : ℕ) (table list after values slice : List ℕ) → slice ≡ values → AddsCoefficients k mul slice list after → AreColumnsTo k mul n row table list
      → ((x : ℕ) → x < 2 ^ k → get_or values x 0 ≡ get_or table (x * n + row) 0) → AreColumnsTo k mul n (row + 1) table after
  one_column n row table list after values slice same adds so gathered =
      let P : List ℕ → Type 0 = AreColumnsTo k mul n (row + 1) table in
      let Q : List ℕ → Type 0 = λ xs. AreCoefficients k mul xs adds.column in
      subst P (sym adds.is) (more_column n row table list values adds.column so (subst Q same adds.are) gathered)
