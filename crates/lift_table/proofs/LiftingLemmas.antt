-- Terms of tables.
use Rattle.std.proofs.Common.{◌≡◌, ◌≢◌, ◌∙◌, ap, sym, refl, subst, ℕ, zero, suc, ◌+◌, ◌*◌, ◌-◌, ◌<◌, ◌≤◌, ◌^◌, List, [], ◌∷◌, length, get_or, set, take, drop, replicate, mul_comm, arith, Some, get_or-set_other, Result, Ok, Err, OnOk}
use Rattle.std.specs.Prelude.{bit_xor}
use Rattle.std.proofs.Math.Nat.{mul-le-mul_left}
use Rattle.std.proofs.lemmas.Nat.{pow_pos}
use Rattle.std.specs.List.{AllByRecursion}
use Rattle.std.proofs.lemmas.List.{drop-set-lt, length-take-le}
use Rattle.std.proofs.lemmas.Option.{get_or_from_slice_get, slice_get-get_or}
use Rattle.std.specs.Int.Bits.{xor_assoc, xor_zero_l, xor_zero_r}
use Rattle.gf_field.proofs.SharedLemmas.{same_sum}
use Rattle.gf_field.specs.Element.{AreElements}
use Rattle.gf_field.specs.Polynomial.{sum_of_first}
use Rattle.gf_field.specs.Power.{power}
use Rattle.gf_field.specs.laws.PowerLaws.{one_below}
use Rattle.gf_field.specs.Ring.{IsRing}
use Rattle.gf_field.specs.Field.{HasNoZeroDivisors}
use Rattle.gf_field.specs.laws.RingLaws.{distrib_left, mul_left_comm, mul_one, zero_mul}
use Rattle.poly_mixed.specs.Monomial.{Monomial, text_cmp}
use Rattle.poly_mixed.specs.Polynomial.{Terms, Point, IsPoint, IsTerm, IsElement, IsReduced, powers, value}
use Rattle.poly_mixed.specs.Sum.{plus_term}
use Rattle.poly_mixed.specs.laws.Uniqueness.{IsZeros, InFirstWords}
use Rattle.poly_mixed.proofs.FieldLaws.{IsField, field_of}
use Rattle.poly_mixed.proofs.TermLemmas.{all_plus_term}
use Rattle.poly_mixed.proofs.ValueLemmas.{value-plus, reduced_plus}
use Rattle.poly_mixed.proofs.ProductLemmas.{one_term}
use Rattle.poly_mixed.proofs.SimpleLemmas.{no_ranks_rise}
use Rattle.poly_mixed.proofs.UniquenessLemmas.{zero_powers}
use Rattle.lift_table.specs.OneWord.{coefficient_of}
use Rattle.lift_table.specs.private.Columns.{AreColumns}
use Rattle.lift_table.specs.Small.{IsSmall}
use Rattle.lift_table.specs.Table.{row_of, IsTableValue}
use Rattle.lift_table.specs.TablePolynomial.{IsPolynomialOfTable}
use Rattle.lift_table.specs.private.Lifting.{AddsPart, AddsPowers, AddsTable, IsOfWords, IsPart}
use Rattle.lift_table.proofs.GatherLemmas.{inside}
use Rattle.lift_table.proofs.InterpolationLemmas.{interpolated}
use Rattle.lift_table.proofs.RowLemmas.{row_next, row_below}

-- the monomial of these exponents
abbrev pub of_words : List ℕ → Monomial
of_words exponents = record { exponents = exponents; bits = [] }

pub no_word_added : (words : ℕ) (exponents : List ℕ) (c : ℕ) (ts : Terms) → IsZeros (drop words exponents) → AllByRecursion (IsOfWords words) ts → AllByRecursion (IsOfWords words) (plus_term text_cmp ts (of_words exponents, c))
no_word_added words exponents c ts zeros each = all_plus_term text_cmp (IsOfWords words) (of_words exponents, c) (λ t is other. is) ts each (zeros, refl)

pub words_alone : (words : ℕ) (ts : Terms) → AllByRecursion (IsOfWords words) ts → InFirstWords words ts
words_alone words [] each = tt
words_alone words (t ∷ ts) each = (each.0.0, words_alone words ts each.1)

pub no_bits : (words : ℕ) (ts : Terms) → AllByRecursion (IsOfWords words) ts → AllByRecursion (λ t. t.0.bits ≡ []) ts
no_bits words [] each = tt
no_bits words (t ∷ ts) each = (each.0.1, no_bits words ts each.1)

-- the sum of the first columns at a row and an element of the last word
abbrev pub sum_at : ℕ → (ℕ → ℕ → ℕ) → List ℕ → ℕ → ℕ → ℕ → ℕ
sum_at k mul columns row x count = sum_of_first count (λ e. mul (get_or columns (row * 2 ^ k + e) 0) (power mul x e))

-- after so many columns the sum has grown by what they give
pub record HasColumns (k : ℕ) (mul : ℕ → ℕ → ℕ) (w : ℕ) (exponents columns : List ℕ) (count : ℕ) (old new : Terms) : Type 0 where
  pub reduced : IsReduced k new
  pub values : (p : Point) → IsPoint k p → value mul p new ≡ bit_xor (value mul p old) (mul (sum_at k mul columns (row_of k (take w p.words)) (get_or p.words w 0) count) (powers mul exponents p.words))
  pub words : (every : ℕ) → suc w ≤ every → IsZeros (drop every exponents) → AllByRecursion (IsOfWords every) old → AllByRecursion (IsOfWords every) new

pub zeros_all : (n : ℕ) → IsZeros (replicate n 0)
zeros_all zero = tt
zeros_all (suc n) = (refl, zeros_all n)

pub zeros_later : (m n : ℕ) → IsZeros (drop m (replicate n 0))
zeros_later zero n = zeros_all n
zeros_later (suc m) zero = tt
zeros_later (suc m) (suc n) = zeros_later m n

pub added_terms : (exponents : List ℕ) (m : Monomial) (c : ℕ) (old new : Terms) → m ≡ of_words exponents → new ≡ plus_term text_cmp old (m, c) → new ≡ plus_term text_cmp old (of_words exponents, c)
added_terms exponents m c old new is added = added ∙ ap (λ (n : Monomial). plus_term text_cmp old (n, c)) is

-- three facts where there is no fault
pub on_three : {X Y : Type 0} (r : Result X Y) (A B C D : Type 0) → (A → B → C → D) → OnOk r A → OnOk r B → OnOk r C → OnOk r D
on_three (Ok x) A B C D f a b c = f a b c
on_three (Err e) A B C D f a b c = tt

pub smaller : (k words : ℕ) → IsSmall k words → IsSmall k (words - 1)
smaller k words small =
    let less : words - 1 ≤ words = omega arith in
    let fewer : k * (words - 1) ≤ k * words = mul-le-mul_left k less in
    record { bits = small.bits; rows = omega (arith, fewer, small.rows) }

zero_at : (n v : ℕ) → ◌≡◌ {A = ℕ} (get_or (replicate n 0) v 0) 0
zero_at zero zero = refl
zero_at zero (suc v) = refl
zero_at (suc n) zero = refl
zero_at (suc n) (suc v) = zero_at n v

pub whole_part : (k words : ℕ) (table : List ℕ) → IsSmall k words → words ≤ 8 → length table ≡ 2 ^ (k * words) → AreElements k table → IsPart k words (replicate 8 0) table
whole_part k words table small few long elements =
    let element : 0 < 2 ^ k = pow_pos k in
    record { small = small; few = few; long = long; elements = elements; raised = (element, (element, (element, (element, (element, (element, (element, (element, tt)))))))); zeros = λ v less. zero_at 8 v }

raised_set : (k : ℕ) (es : List ℕ) (w e : ℕ) → AllByRecursion (IsElement k) es → IsElement k e → AllByRecursion (IsElement k) (set es w e)
raised_set k [] zero e each small = tt
raised_set k [] (suc w) e each small = tt
raised_set k (x ∷ es) zero e each small = (small, each.1)
raised_set k (x ∷ es) (suc w) e each small = (each.0, raised_set k es w e each.1 small)

-- the values in one column are elements
part_elements : (k e count : ℕ) (columns part : List ℕ) → e < 2 ^ k → length columns ≡ count * 2 ^ k → AreElements k columns → length part ≡ count → ((i : ℕ) → i < count → get_or part i 0 ≡ get_or columns (i * 2 ^ k + e) 0) → AreElements k part
part_elements k e count columns part less long elements size at i within =
    let low : i < count = omega (arith, size) in
    let place : i * 2 ^ k + e < length columns = inside i (2 ^ k) e count (length columns) low less (omega (arith, long)) in
    subst (λ (m : ℕ). m < 2 ^ k) (sym (at i low)) (elements (i * 2 ^ k + e) place)

pub next_part : (k words e : ℕ) (exponents table columns part list others : List ℕ) → 1 ≤ words → IsPart k words exponents table → others ≡ set exponents (words - 1) e → e < 2 ^ k → length columns ≡ 2 ^ (k * (words - 1)) * 2 ^ k → AreElements k columns
    → list ≡ part → length part ≡ 2 ^ (k * (words - 1)) → ((i : ℕ) → i < 2 ^ (k * (words - 1)) → get_or part i 0 ≡ get_or columns (i * 2 ^ k + e) 0) → IsPart k (words - 1) others list
next_part k words e exponents table columns part list others some is others_are less columns_long columns_elements same long at =
    let w = words - 1 in
    let P : List ℕ → Type 0 = λ es. IsPart k w es list in
    let Q : List ℕ → Type 0 = λ xs. IsPart k w (set exponents w e) xs in
    subst P (sym others_are) (subst Q (sym same) (record {
      small = smaller k words is.small;
      few = omega (arith, is.few);
      long = long;
      elements = part_elements k e (2 ^ (k * w)) columns part less columns_long columns_elements long at;
      raised = raised_set k exponents w e is.raised less;
      zeros = λ v low. let other : v ≢ w = omega arith in rw get_or-set_other (is.zeros v (omega arith));
    }))

pub no_words : (k : ℕ) (mul : ℕ → ℕ → ℕ) (words : ℕ) (exponents table : List ℕ) (old new : Terms) → words ≡ 0 → IsReduced k new → AddsPowers k mul (get_or table 0 0) exponents old new
    → ((every : ℕ) → IsZeros (drop every exponents) → AllByRecursion (IsOfWords every) old → AllByRecursion (IsOfWords every) new) → AddsPart k mul words exponents table old new
no_words k mul words exponents table old new none reduced adds kept = record {
  reduced = reduced;
  values = λ p e at got.
      let first : row_of k (take words p.words) ≡ 0 = ap (λ n. row_of k (take n p.words)) none in
      let here : get_or table 0 0 ≡ e = ap (λ m. get_or table m 0) (sym first) ∙ get_or_from_slice_get table (row_of k (take words p.words)) e 0 got in
      adds p at ∙ ap (λ m. bit_xor (value mul p old) (mul m (powers mul exponents p.words))) here;
  kept = λ every within zeros each. kept every zeros each;
}

module _ (k : ℕ) (mul : ℕ → ℕ → ℕ) (ring : IsRing k mul) (field : HasNoZeroDivisors k mul) where
  f : IsField k mul
  f = field_of k mul ring field

  is_term : (exponents : List ℕ) (c : ℕ) → length exponents ≡ 8 → AllByRecursion (IsElement k) exponents → IsElement k c → IsTerm k (of_words exponents, c)
  is_term exponents c long elements element = record { monomial = record { words = long; exponents = elements; rising = no_ranks_rise }; element = element }

  pub reduced_with : (exponents : List ℕ) (c : ℕ) (ts : Terms) → length exponents ≡ 8 → AllByRecursion (IsElement k) exponents → IsElement k c → c ≢ 0 → IsReduced k ts → IsReduced k (plus_term text_cmp ts (of_words exponents, c))
  reduced_with exponents c ts long elements element some reduced =
      reduced_plus f ts ((of_words exponents, c) ∷ []) reduced (one_term f (of_words exponents) c (is_term exponents c long elements element) some)

  pub value_with : (exponents : List ℕ) (c : ℕ) (ts : Terms) → length exponents ≡ 8 → AllByRecursion (IsElement k) exponents → IsElement k c → IsReduced k ts
      → (p : Point) → IsPoint k p → value mul p (plus_term text_cmp ts (of_words exponents, c)) ≡ bit_xor (value mul p ts) (mul c (powers mul exponents p.words))
  value_with exponents c ts long elements element reduced p at =
      value-plus f p at ts ((of_words exponents, c) ∷ []) reduced.terms (is_term exponents c long elements element, tt)
      ∙ ap (bit_xor (value mul p ts)) (xor_zero_r (mul c (powers mul exponents p.words)))

  pub value_without : (exponents : List ℕ) (c : ℕ) (ts : Terms) → c ≡ 0 → (p : Point) → value mul p ts ≡ bit_xor (value mul p ts) (mul c (powers mul exponents p.words))
  value_without exponents c ts none p =
      sym (ap (λ n. bit_xor (value mul p ts) (mul n (powers mul exponents p.words))) none ∙ (ap (bit_xor (value mul p ts)) (zero_mul k mul ring (powers mul exponents p.words)) ∙ xor_zero_r (value mul p ts)))

  powers_below : (es ws : List ℕ) → powers mul es ws < 2 ^ k
  powers_below [] ws = one_below k mul ring
  powers_below (e ∷ es) [] = one_below k mul ring
  powers_below (e ∷ es) (w ∷ ws) = ring.closed (power mul w e) (powers mul es ws)

  -- one exponent in place of 0
  powers_set : (es ws : List ℕ) (w e : ℕ) → w < length es → w < length ws → get_or es w 0 ≡ 0 → powers mul (set es w e) ws ≡ mul (power mul (get_or ws w 0) e) (powers mul es ws)
  unfolding power
  powers_set [] ws w e low within none = absurd (omega arith)
  powers_set (x ∷ es) [] w e low within none = absurd (omega arith)
  powers_set (x ∷ es) (v ∷ ws) zero e low within none =
      ap (mul (power mul v e)) (sym (ap (λ n. mul (power mul v n) (powers mul es ws)) none ∙ ring.one (powers mul es ws) (powers_below es ws)))
  powers_set (x ∷ es) (v ∷ ws) (suc w) e low within none =
      ap (mul (power mul v x)) (powers_set es ws w e (omega arith) (omega arith) none)
      ∙ mul_left_comm k mul ring (power mul v x) (power mul (get_or ws w 0) e) (powers mul es ws)

  pub no_columns : (w : ℕ) (exponents columns : List ℕ) (old : Terms) → IsReduced k old → HasColumns k mul w exponents columns 0 old old
  no_columns w exponents columns old reduced = record {
    reduced = reduced;
    values = λ p at. value_without exponents 0 old refl p;
    words = λ every within zeros each. each;
  }

  -- the rows of the first words
  row_within : (w : ℕ) (p : Point) → IsPoint k p → w ≤ 8 → row_of k (take w p.words) < 2 ^ (k * w)
  row_within w p at few =
      let long = length-take-le w p.words (omega (arith, at.words, few)) in
      subst (λ (n : ℕ). row_of k (take w p.words) < 2 ^ (k * n)) long (row_below k (take w p.words) (taken_elements w p.words at.elements))
    where
      taken_elements : (w : ℕ) (xs : List ℕ) → AllByRecursion (IsElement k) xs → AllByRecursion (λ x. x < 2 ^ k) (take w xs)
      taken_elements zero xs elements = tt
      taken_elements (suc w) [] elements = tt
      taken_elements (suc w) (x ∷ xs) elements = (elements.0, taken_elements w xs elements.1)

  word_below : (w : ℕ) (xs : List ℕ) → AllByRecursion (IsElement k) xs → w < length xs → get_or xs w 0 < 2 ^ k
  word_below w [] elements within = absurd (omega arith)
  word_below zero (x ∷ xs) elements within = elements.0
  word_below (suc w) (x ∷ xs) elements within = word_below w xs elements.1 (omega arith)

  pub one_column : (w : ℕ) (exponents columns part : List ℕ) (e : ℕ) (old before new : Terms) → w < 8 → length exponents ≡ 8 → get_or exponents w 0 ≡ 0
      → HasColumns k mul w exponents columns e old before
      → length part ≡ 2 ^ (k * w) → ((i : ℕ) → i < 2 ^ (k * w) → get_or part i 0 ≡ get_or columns (i * 2 ^ k + e) 0)
      → IsReduced k new → AddsTable k mul w (set exponents w e) part before new
      → ((every : ℕ) → w ≤ every → IsZeros (drop every (set exponents w e)) → AllByRecursion (IsOfWords every) before → AllByRecursion (IsOfWords every) new)
      → HasColumns k mul w exponents columns (e + 1) old new
  one_column w exponents columns part e old before new few long none has part_long gathered reduced adds kept = record {
    reduced = reduced;
    values = values;
    words = λ every within zeros each.
        let small : w < every = omega arith in
        let P : List ℕ → Type 0 = IsZeros in
        kept every (omega arith) (subst P (sym (drop-set-lt every exponents w e small)) zeros) (has.words every within zeros each);
  }
    where
      next : suc e ≡ e + 1
      next = omega arith

      values : (p : Point) → IsPoint k p → value mul p new ≡ bit_xor (value mul p old) (mul (sum_at k mul columns (row_of k (take w p.words)) (get_or p.words w 0) (e + 1)) (powers mul exponents p.words))
      values p at =
          let row = row_of k (take w p.words) in
          let x = get_or p.words w 0 in
          let q = powers mul exponents p.words in
          let c = get_or columns (row * 2 ^ k + e) 0 in
          let s = sum_at k mul columns row x e in
          let below : row < 2 ^ (k * w) = row_within w p at (omega arith) in
          let got : IsTableValue k part (take w p.words) c = slice_get-get_or part row 0 (omega (arith, part_long, below)) ∙ ap Some (gathered row below) in
          let added : value mul p new ≡ bit_xor (value mul p before) (mul c (powers mul (set exponents w e) p.words)) = adds p c at got in
          let raised : mul c (powers mul (set exponents w e) p.words) ≡ mul (mul c (power mul x e)) q =
          ap (mul c) (powers_set exponents p.words w e (omega (arith, long)) (omega (arith, at.words)) none) ∙ sym (ring.assoc c (power mul x e) q) in
          added ∙ ((λ i. bit_xor (has.values p at i) (raised i))
          ∙ (xor_assoc (value mul p old) (mul s q) (mul (mul c (power mul x e)) q)
          ∙ (ap (bit_xor (value mul p old)) (sym (distrib_left k mul ring s (mul c (power mul x e)) q))
          ∙ ap (λ n. bit_xor (value mul p old) (mul (sum_at k mul columns row x n) q)) next)))

  -- all columns give the table
  pub all_columns : (w : ℕ) (exponents table columns : List ℕ) (old new : Terms) → w < 8 → length table ≡ 2 ^ (k * w) * 2 ^ k → AreElements k table → AreColumns k mul (2 ^ (k * w)) table columns
      → HasColumns k mul w exponents columns (2 ^ k) old new → AddsTable k mul (suc w) exponents table old new
  all_columns w exponents table columns old new few long elements are has p e at got =
      let n = 2 ^ (k * w) in
      let row = row_of k (take w p.words) in
      let x = get_or p.words w 0 in
      let within : w < length p.words = omega (arith, at.words) in
      let below : row < n = row_within w p at (omega arith) in
      let small : x < 2 ^ k = word_below w p.words at.elements within in
      let place : row_of k (take (suc w) p.words) ≡ x * n + row = row_next k w p.words within ∙ turned row n x in
      let here : get_or table (x * n + row) 0 ≡ e = ap (λ m. get_or table m 0) (sym place) ∙ get_or_from_slice_get table (row_of k (take (suc w) p.words)) e 0 got in
      has.values p at ∙ ap (λ m. bit_xor (value mul p old) (mul m (powers mul exponents p.words))) (column_sum n row x table columns long elements are below small ∙ here)
    where
      turned : (row n x : ℕ) → row + n * x ≡ x * n + row
      turned row n x = omega (arith, mul_comm n x)

      column_sum : (n row x : ℕ) (table columns : List ℕ) → length table ≡ n * 2 ^ k → AreElements k table → AreColumns k mul n table columns → row < n → x < 2 ^ k → sum_at k mul columns row x (2 ^ k) ≡ get_or table (x * n + row) 0
      column_sum n row x table columns long elements are below small =
          let v : ℕ → ℕ = λ y. get_or table (y * n + row) 0 in
          let room : 2 ^ k * n ≤ length table = omega (arith, long, mul_comm n (2 ^ k)) in
          same_sum (2 ^ k) (λ e. mul (get_or columns (row * 2 ^ k + e) 0) (power mul x e)) (λ e. mul (coefficient_of k mul v e) (power mul x e)) (λ e less. ap (λ c. mul c (power mul x e)) (are.at row e below less))
          ∙ interpolated k mul ring field v (λ y less. elements (y * n + row) (inside y n row (2 ^ k) (length table) less below room)) x small

  -- what is added to nothing, with no powers, is the polynomial of the table
  pub polynomial : (words : ℕ) (exponents table : List ℕ) (new : Terms) → words ≤ 8 → IsZeros exponents → IsZeros (drop words exponents) → length table ≡ 2 ^ (k * words) → AreElements k table → IsReduced k new → AddsTable k mul words exponents table [] new
      → ((every : ℕ) → words ≤ every → IsZeros (drop every exponents) → AllByRecursion (IsOfWords every) [] → AllByRecursion (IsOfWords every) new)
      → IsPolynomialOfTable k mul words table new
  polynomial words exponents table new few zeros later long elements reduced adds kept = record {
    reduced = reduced;
    words_alone = words_alone words new (kept words (omega arith) later tt);
    no_bits = no_bits words new (kept words (omega arith) later tt);
    values = λ p at.
        let row = row_of k (take words p.words) in
        let below : row < length table = omega (arith, long, row_within words p at few) in
        let e = get_or table row 0 in
        let got : IsTableValue k table (take words p.words) e = slice_get-get_or table row 0 below in
        let whole : value mul p new ≡ e = adds p e at got ∙ (xor_zero_l (mul e (powers mul exponents p.words)) ∙ (ap (mul e) (zero_powers f exponents p.words zeros) ∙ mul_one k mul ring e (elements row below))) in
        got ∙ ap Some (sym whole);
  }
