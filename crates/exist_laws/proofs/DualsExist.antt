-- Each basis has its dual, and a value that keeps both.
use Rattle.std.proofs.Common.{◌≡◌, ◌∙◌, ap, sym, subst, ℕ, ◌<◌, ◌^◌, ◌%◌, pow_pos, arith, List, get_or, length, take, take_all}
use Rattle.std.proofs.Math.Nat.{mod-lt}
use Rattle.std.proofs.lemmas.Nat.{pow_below}
use native.Mathlib.Nat.{mod-eq_of_lt}
use Rattle.gf_field.specs.Element.{AreElements}
use Rattle.gf_field.specs.Field.{HasNoZeroDivisors}
use Rattle.gf_field.specs.Ring.{IsRing}
use Rattle.gf_field.specs.laws.PigeonholeLaws.{FoundAt}
use Rattle.irreducible.specs.Matrix.{IsSquare}
use Rattle.irreducible.specs.Span.{combination, IsIndependent}
use Rattle.irreducible.specs.laws.SpanLaws.{combination_below}
use Rattle.irreducible.proofs.InverseMatrixLaws.{sums_reach}
use Rattle.gf_basis.specs.Basis.{first_values, AreBits, IsBasis}
use Rattle.gf_basis.specs.BasisParts.{duals_of, elements_of, IsBasisOver}
use Rattle.gf_basis.specs.Dual.{AreDual}
use Rattle.gf_basis.specs.declared.bases.Basis.{Basis}
use Rattle.gf_basis.specs.private.Coordinates.{AreCoordinates}
use Rattle.gf_basis.specs.private.TraceWord.{trace_word, IsTraceMatrix}
use Rattle.gf_basis.proofs.BasisLaws.{AreDual-from_words, IsIndependent-from_basis}
use Rattle.gf_basis.proofs.CodeLaws.{get_or-first_values, length-first_values}
use Rattle.gf_basis.proofs.TraceWordLaws.{trace_word-combination, trace_word_below, IsIndependent-matrix}

module _ (k : ℕ) (mul : ℕ → ℕ → ℕ) (ring : IsRing k mul) (field : HasNoZeroDivisors k mul) (elements : List ℕ) (basis : IsBasis k elements) where
  free : IsIndependent elements
  free = IsIndependent-from_basis k elements basis

  -- ---- the matrix of traces

  trace_of : ℕ → ℕ
  trace_of i = trace_word mul k elements (get_or elements i 0)

  rows : List ℕ
  rows = first_values k trace_of

  rows_long : length rows ≡ k
  unfolding rows
  rows_long = length-first_values k trace_of

  row_is : (i : ℕ) → i < k → get_or rows i 0 ≡ trace_word mul k elements (get_or elements i 0)
  unfolding rows trace_of
  row_is i less = get_or-first_values k (λ j. trace_word mul k elements (get_or elements j 0)) i less

  matrix : IsTraceMatrix mul k elements rows
  matrix = record { size = rows_long ∙ sym basis.size; at = λ i less. row_is i (let long = basis.size in omega (arith, long, less)) }

  square : IsSquare rows
  square i less =
      let P : ℕ → Type 0 = λ n. trace_word mul k elements (get_or elements i 0) < 2 ^ n in
      let Q : ℕ → Type 0 = λ x. x < 2 ^ length rows in
      subst Q (sym (row_is i (omega (arith, rows_long, less)))) (subst P (basis.size ∙ sym rows_long) (trace_word_below k mul ring field elements (get_or elements i 0)))

  found : (i : ℕ) → FoundAt (combination rows) (2 ^ length rows) (2 ^ i % 2 ^ length rows)
  found i = sums_reach rows square (IsIndependent-matrix k mul ring field elements basis.size basis.inside rows matrix free) (2 ^ i % 2 ^ length rows) (mod-lt (2 ^ i) (pow_pos (length rows)))

  -- ---- the dual

  dual_of : ℕ → ℕ
  dual_of i = combination elements (found i).at

  dual_word : (i : ℕ) → i < k → trace_word mul k elements (dual_of i) ≡ 2 ^ i
  unfolding dual_of
  dual_word i less =
      let c = (found i).at in
      let P : ℕ → Type 0 = λ n. c < 2 ^ n in
      let short : c < 2 ^ length elements = subst P (rows_long ∙ sym basis.size) (found i).below in
      let small : 2 ^ i < 2 ^ length rows = pow_below i (length rows) (omega (arith, rows_long, less)) in
      trace_word-combination k mul ring field elements basis.size basis.inside rows matrix c ∙ (ap (combination rows) (mod-eq_of_lt short) ∙ ((found i).is ∙ mod-eq_of_lt small))

  duals : List ℕ
  duals = first_values k dual_of

  duals_long : length duals ≡ k
  unfolding duals
  duals_long = length-first_values k dual_of

  dual_is : (i : ℕ) → i < k → get_or duals i 0 ≡ dual_of i
  unfolding duals
  dual_is i less = get_or-first_values k dual_of i less

  duals_inside : AreElements k duals
  unfolding dual_of
  duals_inside i less =
      let P : ℕ → Type 0 = λ x. x < 2 ^ k in
      subst P (sym (dual_is i (omega (arith, duals_long, less)))) (combination_below elements k (found i).at basis.inside)

  some_dual : AreDual k mul elements duals
  some_dual = AreDual-from_words k mul ring field elements duals basis.size duals_long duals_inside (λ i less. ap (trace_word mul k elements) (dual_is i less) ∙ dual_word i less)

  -- ---- a value that keeps both

  coordinate : ℕ → ℕ
  coordinate j = (basis.sums (2 ^ j % 2 ^ k) (mod-lt (2 ^ j) (pow_pos k))).choice

  coordinate_is : (j : ℕ) → j < k → AreBits elements (2 ^ j) (coordinate j)
  unfolding coordinate
  coordinate_is j less =
      let P : ℕ → Type 0 = λ x. AreBits elements x (basis.sums (2 ^ j % 2 ^ k) (mod-lt (2 ^ j) (pow_pos k))).choice in
      subst P (mod-eq_of_lt (pow_below j k less)) (basis.sums (2 ^ j % 2 ^ k) (mod-lt (2 ^ j) (pow_pos k))).chosen

  coordinates : List ℕ
  coordinates = first_values k coordinate

  are_coordinates : AreCoordinates elements coordinates
  unfolding coordinates
  are_coordinates j less =
      let low : j < k = let long = basis.size in omega (arith, long, less) in
      let P : ℕ → Type 0 = λ x. AreBits elements (2 ^ j) x in
      subst P (sym (get_or-first_values k coordinate j low)) (coordinate_is j low)

  whole : take k elements ≡ elements
  whole = take_all k elements (let long = basis.size in omega (arith, long))

  whole_duals : take k duals ≡ duals
  whole_duals = take_all k duals (omega (arith, duals_long))

  kept : Basis
  kept =
      let P : List ℕ → Type 0 = λ es. AreElements k es in
      let Q : List ℕ → Type 0 = λ es. AreCoordinates es coordinates in
      record { elements = elements; duals = duals; coordinates = coordinates; count = k; few = ring.small; inside = subst P (sym whole) basis.inside; cached = subst Q (sym whole) are_coordinates }

  kept_elements : elements_of kept ≡ elements
  unfolding kept
  kept_elements = whole

  kept_duals : duals_of kept ≡ duals
  unfolding kept
  kept_duals = whole_duals

  pub some_basis : (value : Basis) × (elements_of value ≡ elements) × IsBasisOver k mul value
  some_basis =
      let P : List ℕ → Type 0 = λ es. IsBasis k es in
      let Q : List ℕ → List ℕ → Type 0 = λ es ds. AreDual k mul es ds in
      let R : List ℕ → Type 0 = λ es. Q es (duals_of kept) in
      let S : List ℕ → Type 0 = λ ds. Q elements ds in
      (kept, kept_elements, record { elements = subst P (sym kept_elements) basis; dual = subst R (sym kept_elements) (subst S (sym kept_duals) some_dual) })
