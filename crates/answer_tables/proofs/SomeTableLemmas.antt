-- A circuit has a table of its output, and a table of elements has a polynomial.
use Rattle.std.proofs.Common.{◌≡◌, ◌∙◌, ap, sym, refl, subst, ℕ, zero, suc, ◌+◌, ◌*◌, ◌<◌, ◌≤◌, ◌^◌, List, [], ◌∷◌, length, take, get_or, Some, arith}
use Rattle.std.specs.Prelude.{slice_get}
use Rattle.std.specs.List.{AllByRecursion}
use Rattle.std.proofs.lemmas.Option.{get_or_from_slice_get}
use Rattle.lists.specs.laws.HasLaws.{all_in}
use Rattle.lists.specs.laws.ReadLaws.{get_below}
use Rattle.gf_field.specs.Field.{HasNoZeroDivisors}
use Rattle.gf_field.specs.Ring.{IsRing}
use Rattle.poly_mixed.specs.Polynomial.{IsElement, IsPoint, Point, Terms}
use Rattle.circuit_model.specs.Circuit.{Circuit, IsInput}
use Rattle.circuit_model.specs.Out.{IsOut}
use Rattle.circuit_model.specs.WellFormed.{IsWellFormed}
use Rattle.circuit_model.proofs.OutLemmas.{some_out}
use Rattle.stage_model.specs.First.{IsFunctionOfFirst}
use Rattle.stage_model.proofs.FunctionLemmas.{function_polynomial}
use Rattle.lift_table.specs.CircuitTable.{IsTableOf}
use Rattle.lift_table.specs.Table.{row_of}
use Rattle.lift_table.specs.TablePolynomial.{IsPolynomialOfTable}
use Rattle.lift_table.specs.private.Digits.{digits_of}
use Rattle.lift_table.proofs.RowLemmas.{digits_below, digits_long, row_below}
use Rattle.lift_table.proofs.TableLemmas.{table_of}
use Rattle.answer_core.proofs.PrintedLemmas.{no_bits}

-- ---- a list with something in each place

later : (P : ℕ → ℕ → Type 0) (first n x : ℕ) (xs : List ℕ) → P first x → ((i : ℕ) → i < n → P (first + 1 + i) (get_or xs i 0)) → (i : ℕ) → i < suc n → P (first + i) (get_or (x ∷ xs) i 0)
later P first n x xs here more zero less =
    let same : first ≡ first + 0 = omega arith in
    let Q : ℕ → Type 0 = λ r. P r x in
    subst Q same here
later P first n x xs here more (suc i) less =
    let same : first + 1 + i ≡ first + suc i = omega arith in
    let Q : ℕ → Type 0 = λ r. P r (get_or xs i 0) in
    subst Q same (more i (omega arith))

tabulated : (P : ℕ → ℕ → Type 0) (first n : ℕ) → ((row : ℕ) → first ≤ row → row < first + n → (e : ℕ) × P row e) → (table : List ℕ) × (length table ≡ n) × ((i : ℕ) → i < n → P (first + i) (get_or table i 0))
tabulated P first zero each = ([], refl, λ i less. absurd (omega arith))
tabulated P first (suc n) each =
    let head = each first (omega arith) (omega arith) in
    let rest = tabulated P (first + 1) n (λ row low high. each row (omega arith) (omega arith)) in
    (head.0 ∷ rest.0, (let long = rest.1 in omega (arith, long)), later P first n head.0 rest.0 head.1 rest.2)

-- ---- the table of a circuit

module _ (c : Circuit) (well : IsWellFormed c) where
  row_input : (row : ℕ) → IsInput c (digits_of c.k (length c.words) row)
  row_input row = record {
    long = digits_long c.k (length c.words) row;
    elements = λ x has. all_in (λ y. y < 2 ^ c.k) (digits_of c.k (length c.words) row) x (digits_below c.k (length c.words) row) has;
  }

  pub some_table : (table : List ℕ) × IsTableOf c table
  some_table =
      let count : ℕ = length c.words in
      let P : ℕ → ℕ → Type 0 = λ row e. IsOut c (digits_of c.k count row) e in
      let found = tabulated P 0 (2 ^ (c.k * count)) (λ row low high. let out = some_out c (digits_of c.k count row) well (row_input row) in (out.0, out.1)) in (
        found.0,
        table_of c found.0 count refl found.1 (λ row less.
            let same : 0 + row ≡ row = omega arith in
            let Q : ℕ → Type 0 = λ r. P r (get_or found.0 row 0) in
            subst Q same (found.2 row less)),
      )

-- ---- the polynomial of a table

-- lists that agree at their first places have one row
same_row : (k n : ℕ) (xs ys : List ℕ) → length xs ≡ length ys → ((i : ℕ) → i < n → slice_get xs i ≡ slice_get ys i) → row_of k (take n xs) ≡ row_of k (take n ys)
same_row k zero xs ys long same = refl
same_row k (suc n) [] [] long same = refl
same_row k (suc n) [] (y ∷ ys) long same = absurd (omega arith)
same_row k (suc n) (x ∷ xs) [] long same = absurd (omega arith)
same_row k (suc n) (x ∷ xs) (y ∷ ys) long same =
    let first : x ≡ y = (let both = same 0 (omega arith) in cc) in
    let rest = same_row k n xs ys (omega arith) (λ j less. same (suc j) (omega arith)) in
    λ i. first i + 2 ^ k * rest i

taken_long : (n : ℕ) (xs : List ℕ) → n ≤ length xs → length (take n xs) ≡ n
taken_long zero xs low = refl
taken_long (suc n) [] low = absurd (omega arith)
taken_long (suc n) (x ∷ xs) low = let rest = taken_long n xs (omega arith) in omega (arith, rest)

taken_below : (k n : ℕ) (xs : List ℕ) → AllByRecursion (IsElement k) xs → AllByRecursion (λ x. x < 2 ^ k) (take n xs)
taken_below k zero xs all = tt
taken_below k (suc n) [] all = tt
taken_below k (suc n) (x ∷ xs) all = (all.0, taken_below k n xs all.1)

module _ (k : ℕ) (mul : ℕ → ℕ → ℕ) (ring : IsRing k mul) (field : HasNoZeroDivisors k mul) (words : ℕ) (table : List ℕ) (few : words ≤ 8) (long : length table ≡ 2 ^ (k * words)) (elements : (row e : ℕ) → slice_get table row ≡ Some e → e < 2 ^ k) where
  row_at : Point → ℕ
  row_at p = row_of k (take words p.words)

  row_low : (p : Point) → IsPoint k p → row_of k (take words p.words) < length table
  row_low p at =
      let count : length (take words p.words) ≡ words = taken_long words p.words (let eight = at.words in omega (arith, eight, few)) in
      let below = row_below k (take words p.words) (taken_below k words p.words at.elements) in
      let P : ℕ → Type 0 = λ n. row_of k (take words p.words) < 2 ^ (k * n) in
      let less : row_of k (take words p.words) < 2 ^ (k * words) = subst P count below in
      omega (arith, less, long)

  abbrev at_point : Point → ℕ
  at_point p = get_or table (row_of k (take words p.words)) 0

  looks : IsFunctionOfFirst k words 0 at_point
  looks = record {
    element = λ p at.
        let got = get_below table (row_of k (take words p.words)) (row_low p at) in
        let same : at_point p ≡ got.0 = get_or_from_slice_get table (row_of k (take words p.words)) got.0 0 got.1 in
        let low = elements (row_of k (take words p.words)) got.0 got.1 in
        omega (arith, same, low);
    alone = λ p q at at' agree.
        let both : length p.words ≡ length q.words = omega (arith, at.words, at'.words) in
        ap (λ row. get_or table row 0) (same_row k words p.words q.words both agree.elements);
  }

  pub some_polynomial : (ts : Terms) × IsPolynomialOfTable k mul words table ts
  some_polynomial =
      let found = function_polynomial k mul ring field words 0 at_point few looks in (
        found.0,
        record {
          reduced = found.1.reduced;
          words_alone = found.2;
          no_bits = no_bits found.0 (λ rank. found.3 rank (omega arith));
          values = λ p at.
              let got = get_below table (row_of k (take words p.words)) (row_low p at) in
              let same : at_point p ≡ got.0 = get_or_from_slice_get table (row_of k (take words p.words)) got.0 0 got.1 in
              got.1 ∙ ap (λ e. Some e) (sym (found.1.values p at ∙ same));
        },
      )
