-- A sum of multiples of the forms of a word's bits: as a sum of repeated squares of the word, and as a multiple of the word.
use Rattle.std.proofs.Common.{◌≡◌, ◌∙◌, ap, sym, refl, subst, ℕ, zero, suc, add-one, ◌+◌, ◌*◌, ◌/◌, ◌%◌, ◌<◌, ◌^◌, List, [], ◌∷◌, length, replicate, map, get_or, bit_xor, Some, Result, Ok, Err, OnOk, arith}
use Rattle.std.specs.Prelude.{slice_get, slice_index}
use Rattle.std.specs.Int.{bit_at}
use Rattle.std.specs.List.{range_with_len}
use Rattle.std.proofs.lemmas.List.FromFn.{get_or-map-range_with_len}
use lib.Bits.{xor_zero_r}
use Rattle.std.proofs.lemmas.List.{length-replicate}
use Rattle.std.proofs.lemmas.Nat.Bits.{bit_at_lowest, bit_at-suc}
use Rattle.lists.specs.laws.ReadLaws.{get_below}
use Rattle.gf_basis.specs.Basis.{AreBits}
use Rattle.gf_basis.specs.BasisParts.{elements_of, duals_of, IsBasisOver}
use Rattle.gf_basis.specs.Dual.{linear_value}
use Rattle.gf_basis.specs.declared.bases.Basis.{Basis}
use Rattle.gf_basis.proofs.BasisLaws.{linear_bit}
use Rattle.gf_field.specs.Field.{HasNoZeroDivisors}
use Rattle.gf_field.specs.Polynomial.{sum_of_first}
use Rattle.gf_field.specs.Ring.{IsRing}
use Rattle.gf_field.specs.Trace.{frobenius}
use Rattle.gf_field.specs.laws.RingLaws.{mul_zero, zero_mul}
use Rattle.gf_field.specs.laws.RootsLaws.{HasFewRoots-from_field}
use Rattle.gf_field.proofs.SharedLemmas.{same_sum, sum_open}
use Rattle.irreducible.specs.Span.{combination}
use Rattle.net_words.specs.Binding.{BoundNet}
use Rattle.circuit_model.specs.Word.{Word}
use Rattle.poly_mixed.specs.Polynomial.{Terms, IsElement, IsReduced, term_value, value}
use Rattle.poly_mixed.proofs.FieldLaws.{field_of}
use Rattle.poly_mixed.proofs.RootLemmas.{independent}
use Rattle.poly_mixed.proofs.UniquenessLemmas.{unique}
use Rattle.cert_check.specs.Running.{dual_at, dual_form, dual_words}
use Rattle.cert_check.specs.declared.row.Row.{Row}
use Rattle.cert_check.specs.private.Held.{dual_of, square_of, square_term, with_first, with_term, IsRow}
use Rattle.cert_check.specs.private.Squares.{conjugates, AreMultiples, AreSquares, GrowByMultiples}
use Rattle.poly_mixed.proofs.SharedLemmas.{element_in, frobenius_in}
use Rattle.cert_check.proofs.HeldLemmas.{square_term_is, square_term_value, with_row_is, with_term_is}
use Rattle.cert_check.proofs.PartLemmas.{none_at}
use Rattle.cert_check.proofs.RowLemmas.{squares, squares_added, no_squares}

-- the dual basis of a word
pub dual_own : (bound : BoundNet) (bases : List Basis) (w : ℕ) (basis : Basis) → w < length (dual_words bound bases) → ((x : Word) → slice_get (dual_words bound bases) w ≡ Some x → x.basis ≡ duals_of basis) → (i : ℕ) → dual_of bound bases w i ≡ slice_index (duals_of basis) i
dual_own bound bases w basis less own i = let found = get_below (dual_words bound bases) w less in ap (λ o. dual_at o i) found.1 ∙ ap (λ ds. slice_index ds i) (own found.0 found.1)

not_squared : (mul : ℕ → ℕ → ℕ) (x : ℕ) → frobenius mul 0 x ≡ x
unfolding frobenius
not_squared mul x = refl

module _ {k : ℕ} {mul : ℕ → ℕ → ℕ} (ring : IsRing k mul) (field : HasNoZeroDivisors k mul) where
  -- the squares, form by form
  squares_swap : (cs : List ℕ) (d : ℕ → ℕ) (x n : ℕ) → squares mul (λ j. sum_of_first n (λ i. mul (slice_index cs i) (frobenius mul j (d i)))) x k ≡ sum_of_first n (λ i. mul (slice_index cs i) (dual_form k mul (d i) x))
  squares_swap cs d x zero = no_squares ring field (λ j. 0) x k (λ j less. refl)
  squares_swap cs d x (suc n) =
      squares_added ring field (λ j. sum_of_first n (λ i. mul (slice_index cs i) (frobenius mul j (d i)))) (λ j. sum_of_first (suc n) (λ i. mul (slice_index cs i) (frobenius mul j (d i)))) (λ j. frobenius mul j (d n)) (slice_index cs n) x k (λ j less. refl)
      ∙ ap (λ v. bit_xor v (mul (slice_index cs n) (dual_form k mul (d n) x))) (squares_swap cs d x n)

  scaled : (c n : ℕ) (f g : ℕ → ℕ) → ((i : ℕ) → i < n → g i ≡ mul c (f i)) → sum_of_first n g ≡ mul c (sum_of_first n f)
  scaled c zero f g are = sym (mul_zero k mul ring c)
  scaled c (suc n) f g are = (λ j. bit_xor (scaled c n f g (λ i less. are i (omega arith)) j) (are n (omega arith) j)) ∙ sym (ring.distrib c (sum_of_first n f) (f n))

  times_bit : (n b : ℕ) → n < 2 → IsElement k b → mul b n ≡ n * b
  times_bit zero b less inside = mul_zero k mul ring b ∙ (let e : 0 ≡ 0 * b = omega arith in e)
  times_bit (suc zero) b less inside = ring.comm b 1 ∙ (ring.one b inside ∙ (let e : b ≡ 1 * b = omega arith in e))
  times_bit (suc (suc n)) b less inside = absurd (omega arith)

  chosen_sum : (bs : List ℕ) (e : ℕ) → ((i : ℕ) → i < length bs → IsElement k (slice_index bs i)) → sum_of_first (length bs) (λ i. mul (slice_index bs i) (bit_at e i)) ≡ combination bs e
  chosen_sum [] e inside = refl
  chosen_sum (b ∷ bs) e inside =
      let first : mul b (bit_at e 0) ≡ e % 2 * b = ap (mul b) (bit_at_lowest e) ∙ times_bit (e % 2) b (omega arith) (inside 0 (omega arith)) in
      sum_open (length bs) (λ i. mul (slice_index (b ∷ bs) i) (bit_at e i))
      ∙ (λ j. bit_xor (first j) ((same_sum (length bs) (λ i. mul (slice_index bs i) (bit_at e (suc i))) (λ i. mul (slice_index bs i) (bit_at (e / 2) i)) (λ i less. ap (mul (slice_index bs i)) (bit_at-suc e i)) ∙ chosen_sum bs (e / 2) (λ i less. inside (suc i) (omega (arith, less)))) j))

  module _ (basis : Basis) (over : IsBasisOver k mul basis) where
    -- the form of a bit reads it
    dual_bit : (i x bits : ℕ) → i < k → AreBits (elements_of basis) x bits → dual_form k mul (slice_index (duals_of basis) i) x ≡ bit_at bits i
    dual_bit i x bits less are =
        let d : ℕ = slice_index (duals_of basis) i in
        let cs : List ℕ = map (λ j. frobenius mul j d) (range_with_len 0 k) in
        let at_cs : (j : ℕ) → j < k → get_or cs j 0 ≡ frobenius mul j d = λ j h. get_or-map-range_with_len (λ j. frobenius mul j d) 0 k j j 0 h (omega arith) in
        let linear : linear_value k mul cs x ≡ bit_at bits i = linear_bit k mul ring field (elements_of basis) (duals_of basis) over.elements.size over.dual i x bits cs less at_cs are in
        same_sum k (λ j. mul (frobenius mul j d) (frobenius mul j x)) (λ j. mul (get_or cs j 0) (frobenius mul j x)) (λ j h. ap (λ c. mul c (frobenius mul j x)) (sym (at_cs j h))) ∙ linear

    -- the elements, each times its bit, are the word
    pub word_is : (x : ℕ) → IsElement k x → sum_of_first k (λ i. mul (slice_index (elements_of basis) i) (dual_form k mul (slice_index (duals_of basis) i) x)) ≡ x
    word_is x inside =
        let only = over.elements.sums x inside in
        let es : List ℕ = elements_of basis in
        let size : length es ≡ k = over.elements.size in
        same_sum k (λ i. mul (slice_index es i) (dual_form k mul (slice_index (duals_of basis) i) x)) (λ i. mul (slice_index es i) (bit_at only.choice i)) (λ i less. ap (mul (slice_index es i)) (dual_bit i x only.choice less only.chosen))
        ∙ (ap (λ n. sum_of_first n (λ i. mul (slice_index es i) (bit_at only.choice i))) (sym size)
        ∙ (chosen_sum es only.choice (λ i less. over.elements.inside i (omega (arith, less, size))) ∙ only.chosen.is))

    -- multiples of the basis are a multiple of the word
    pub multiples_are : (cs : List ℕ) (c x w : ℕ) (dual : ℕ → ℕ → ℕ) → IsElement k x → AreMultiples k mul (elements_of basis) c cs → ((i : ℕ) → dual w i ≡ slice_index (duals_of basis) i) → squares mul (square_of k mul dual cs w) x k ≡ mul c x
    multiples_are cs c x w dual inside are own =
        let es : List ℕ = elements_of basis in
        let form : ℕ → ℕ = λ i. dual_form k mul (slice_index (duals_of basis) i) x in
        squares_swap cs (dual w) x k
        ∙ (scaled c k (λ i. mul (slice_index es i) (form i)) (λ i. mul (slice_index cs i) (dual_form k mul (dual w i) x)) (λ i less. (λ j. mul (are.each i less j) (dual_form k mul (own i j) x)) ∙ ring.assoc c (slice_index es i) (form i))
        ∙ ap (mul c) (word_is x inside))

    -- the row is one term
    pub row_is_word : (bound : BoundNet) (bases : List Basis) (row : Row) (c : ℕ) (ts : Terms) → IsRow bound bases k row → AreMultiples k mul (elements_of basis) c row.coefficients.items → ((i : ℕ) → dual_of bound bases row.word i ≡ slice_index (duals_of basis) i) → IsReduced k ts
        → with_term ts (square_term k row 0 c) ≡ with_first k mul (dual_of bound bases) row k ts
    row_is_word bound bases row c ts is are own reduced =
        let f = field_of k mul ring field in
        let dual : ℕ → ℕ → ℕ = dual_of bound bases in
        let less : 0 < k = omega (arith, ring.some) in
        let one = with_term_is ring field ts (square_term k row 0 c) reduced (square_term_is ring field bound bases row is 0 c less are.element) in
        let all = with_row_is ring field bound bases dual row is ts reduced in
        unique f (independent f (HasFewRoots-from_field k mul ring field)) (with_term ts (square_term k row 0 c)) (with_first k mul dual row k ts) one.0 all.0
        (λ p at.
        let x : ℕ = slice_index p.words row.word in
        let inside : IsElement k x = element_in k p row.word at is.word in
        let t : ℕ = term_value mul p (row.mono, 1) in
        one.1 p at
        ∙ (ap (bit_xor (value mul p ts)) (square_term_value ring field bound bases row is p at 0 c less are.element ∙ ap (mul t) (ap (mul c) (not_squared mul x) ∙ sym (multiples_are row.coefficients.items c x row.word dual inside are own)))
        ∙ sym (all.1 p at)))

-- ---- sums of forms, one form after another

module _ {k : ℕ} {mul : ℕ → ℕ → ℕ} (ring : IsRing k mul) (field : HasNoZeroDivisors k mul) where
  -- no form
  pub no_forms : (duals cs list : List ℕ) (n : ℕ) → list ≡ replicate n 0 → n ≡ k → AreSquares k mul duals cs 0 list
  no_forms duals cs list n is same =
      let P : List ℕ → Type 0 = AreSquares k mul duals cs 0 in
      subst P (sym is) (record { long = length-replicate n 0 ∙ same; each = λ j less. none_at n j })

  -- one form more
  pub form_more : (duals cs old new : List ℕ) (n c : ℕ) → c ≡ slice_index cs n → AreSquares k mul duals cs n old → length new ≡ length old → GrowByMultiples k mul c (conjugates mul (slice_index duals n)) old new → AreSquares k mul duals cs (n + 1) new
  form_more duals cs old new n c same so long by = rw add-one (record {
    long = long ∙ so.long;
    each = λ j less. by j less ∙ (λ i. bit_xor (so.each j less i) (mul (same i) (frobenius mul j (slice_index duals n))));
  })

  -- the multiple by 0 changes nothing
  pub no_form : (d c : ℕ) (old : List ℕ) → c ≡ 0 → GrowByMultiples k mul c (conjugates mul d) old old
  no_form d c old none j less =
      let e : ℕ = frobenius mul j d in
      sym (ap (bit_xor (slice_index old j)) (ap (λ x. mul x e) none ∙ zero_mul k mul ring e) ∙ xor_zero_r (slice_index old j))

  -- the entries of a form are the conjugates of an element
  pub form_grows : (linear old new : List ℕ) (d c : ℕ) → ((j : ℕ) → j < k → slice_index linear j ≡ frobenius mul j d) → GrowByMultiples k mul c (slice_index linear) old new → GrowByMultiples k mul c (conjugates mul d) old new
  form_grows linear old new d c are by j less = by j less ∙ ap (λ e. bit_xor (slice_index old j) (mul c e)) (are j less)

  pub form_elements : (linear : List ℕ) (d : ℕ) → d < 2 ^ k → ((j : ℕ) → j < k → slice_index linear j ≡ frobenius mul j d) → (j : ℕ) → j < k → IsElement k (slice_index linear j)
  form_elements linear d inside are j less = let P : ℕ → Type 0 = IsElement k in subst P (sym (are j less)) (frobenius_in k mul j d ring field inside)

  -- the squares of a row, by the dual basis of its word
  pub own_squares : (duals cs list : List ℕ) (dual : ℕ → ℕ → ℕ) (w : ℕ) → AreSquares k mul duals cs k list → ((i : ℕ) → dual w i ≡ slice_index duals i) → (j : ℕ) → j < k → slice_index list j ≡ square_of k mul dual cs w j
  own_squares duals cs list dual w are own j less =
      are.each j less
      ∙ same_sum k (λ i. mul (slice_index cs i) (frobenius mul j (slice_index duals i))) (λ i. mul (slice_index cs i) (frobenius mul j (dual w i))) (λ i low. ap (λ d. mul (slice_index cs i) (frobenius mul j d)) (sym (own i)))

  -- one square more
  pub square_more : (dual : ℕ → ℕ → ℕ) (row : Row) (j c : ℕ) (start old new : Terms) → c ≡ square_of k mul dual row.coefficients.items row.word j → old ≡ with_first k mul dual row j start → new ≡ with_term old (square_term k row j c) → new ≡ with_first k mul dual row (j + 1) start
  square_more dual row j c start old new same so by = rw add-one (by ∙ (λ i. with_term (so i) (square_term k row j (same i))))

  -- the row that is one term was added
  pub word_added : {X E : Type 0} (r : Result X E) (basis : Basis) → IsBasisOver k mul basis → (bound : BoundNet) (bases : List Basis) (row : Row) (c : ℕ) (old new : Terms) → IsRow bound bases k row → AreMultiples k mul (elements_of basis) c row.coefficients.items → ((i : ℕ) → dual_of bound bases row.word i ≡ slice_index (duals_of basis) i) → IsReduced k old
      → OnOk r (new ≡ with_term old (square_term k row 0 c)) → OnOk r (new ≡ with_first k mul (dual_of bound bases) row k old)
  word_added (Ok x) basis over bound bases row c old new is are own reduced by = by ∙ row_is_word ring field basis over bound bases row c old is are own reduced
  word_added (Err e) basis over bound bases row c old new is are own reduced by = tt
