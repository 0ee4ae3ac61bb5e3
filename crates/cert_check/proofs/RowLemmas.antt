-- Rows to which multiples of forms are added.
use Rattle.std.proofs.Common.{◌≡◌, ◌∙◌, ap, sym, refl, subst, inl, inr, length, ℕ, zero, suc, ◌<◌, ◌≤◌, List, [], ◌∷◌, ◌++◌, get_or, bit_xor, Some, Result, Ok, Err, OnOk, arith}
use Rattle.std.specs.Prelude.{slice_index, slice_get, slice_set, replicate}
use Rattle.lists.specs.laws.XorLaws.{xor_cross, xor_turn}
use lib.Bits.{xor_assoc, xor_zero_l, xor_zero_r, xor_lt}
use Rattle.std.proofs.lemmas.Bool.{cases_eq}
use Rattle.std.proofs.lemmas.List.{get_or-set_same, get_or-set_other}
use Rattle.gf_field.specs.Field.{HasNoZeroDivisors}
use Rattle.gf_field.specs.Polynomial.{sum_of_first}
use Rattle.gf_field.specs.Ring.{IsRing}
use Rattle.gf_field.specs.Trace.{frobenius}
use Rattle.gf_field.specs.laws.RingLaws.{distrib_left, mul_zero, zero_mul}
use Rattle.poly_mixed.specs.Monomial.{Monomial}
use Rattle.poly_mixed.specs.Polynomial.{Terms, Point, IsElement, IsPoint, term_value, value}
use Rattle.cert_check.specs.declared.form.Form.{Form}
use Rattle.cert_check.specs.declared.row.Row.{Row}
use Rattle.cert_check.specs.declared.running_sum.RunningSum.{RunningSum}
use Rattle.cert_check.specs.Running.{dual_form}
use Rattle.cert_check.specs.private.Held.{IsRowAt, square_of, row_value, rows_value, form_value, held_value}
use Rattle.cert_check.proofs.HeldLemmas.{coefficient_out}
use Rattle.cert_check.proofs.PartLemmas.{none_at}

read_same : (rows : List Row) (i : ℕ) (x d : Row) → slice_get rows i ≡ Some x → get_or rows i d ≡ x
read_same [] i x d got = absurd (cc)
read_same (r ∷ rows) zero x d got = cc
read_same (r ∷ rows) (suc i) x d got = read_same rows i x d got

-- the first so many squares of an element, with these coefficients
abbrev pub squares : (ℕ → ℕ → ℕ) → (ℕ → ℕ) → ℕ → ℕ → ℕ
squares mul f x n = sum_of_first n (λ j. mul (f j) (frobenius mul j x))

module _ {k : ℕ} {mul : ℕ → ℕ → ℕ} (ring : IsRing k mul) (field : HasNoZeroDivisors k mul) where
  pub squares_added : (old new from : ℕ → ℕ) (c x n : ℕ) → ((j : ℕ) → j < n → new j ≡ bit_xor (old j) (mul c (from j))) → squares mul new x n ≡ bit_xor (squares mul old x n) (mul c (squares mul from x n))
  squares_added old new from c x zero sums = sym (ap (bit_xor 0) (mul_zero k mul ring c))
  squares_added old new from c x (suc n) sums =
      let f : ℕ = frobenius mul n x in
      let o : ℕ = old n in
      let l : ℕ = from n in
      let one : mul (new n) f ≡ bit_xor (mul o f) (mul c (mul l f)) =
      ap (λ y. mul y f) (sums n (omega arith)) ∙ (distrib_left k mul ring o (mul c l) f ∙ ap (bit_xor (mul o f)) (ring.assoc c l f)) in
      (λ i. bit_xor (squares_added old new from c x n (λ j less. sums j (omega arith)) i) (one i))
      ∙ (xor_cross (squares mul old x n) (mul c (squares mul from x n)) (mul o f) (mul c (mul l f))
      ∙ ap (bit_xor (bit_xor (squares mul old x n) (mul o f))) (sym (ring.distrib c (squares mul from x n) (mul l f))))

  pub no_squares : (f : ℕ → ℕ) (x n : ℕ) → ((j : ℕ) → j < n → f j ≡ 0) → squares mul f x n ≡ 0
  no_squares f x zero none = refl
  no_squares f x (suc n) none =
      (λ i. bit_xor (no_squares f x n (λ j less. none j (omega arith)) i) (mul (none n (omega arith) i) (frobenius mul n x)))
      ∙ (xor_zero_l (mul 0 (frobenius mul n x)) ∙ zero_mul k mul ring (frobenius mul n x))

  -- a sum of products in which one factor is another
  same_below : (cs : List ℕ) (i v n : ℕ) (g : ℕ → ℕ) → n ≤ i → sum_of_first n (λ e. mul (slice_index (slice_set cs i v) e) (g e)) ≡ sum_of_first n (λ e. mul (slice_index cs e) (g e))
  same_below cs i v zero g low = refl
  same_below cs i v (suc n) g low = λ j. bit_xor (same_below cs i v n g (omega arith) j) (mul (get_or-set_other cs i n v 0 (λ e. omega arith) j) (g n))

  pub sum_changed : (cs : List ℕ) (i c n : ℕ) (g : ℕ → ℕ) → i < length cs → i < n → sum_of_first n (λ e. mul (slice_index (slice_set cs i (bit_xor (slice_index cs i) c)) e) (g e)) ≡ bit_xor (sum_of_first n (λ e. mul (slice_index cs e) (g e))) (mul c (g i))
  sum_changed cs i c zero g long less = absurd (omega arith)
  sum_changed cs i c (suc n) g long less =
      let v : ℕ = bit_xor (slice_index cs i) c in
      let old : ℕ = sum_of_first n (λ e. mul (slice_index cs e) (g e)) in
      elim (cases_eq i n) [
        | inl here ↦
            let at : slice_index (slice_set cs i v) n ≡ bit_xor (slice_index cs n) c = ap (slice_index (slice_set cs i v)) (sym here) ∙ (get_or-set_same cs i v 0 long ∙ ap (λ e. bit_xor (slice_index cs e) c) here) in
            (λ j. bit_xor (same_below cs i v n g (omega (arith, here)) j) ((ap (λ y. mul y (g n)) at ∙ distrib_left k mul ring (slice_index cs n) c (g n)) j))
            ∙ (sym (xor_assoc old (mul (slice_index cs n) (g n)) (mul c (g n)))
            ∙ ap (λ e. bit_xor (bit_xor old (mul (slice_index cs n) (g n))) (mul c (g e))) (sym here))
        | inr other ↦
            (λ j. bit_xor (sum_changed cs i c n g long (omega (arith, other)) j) (mul (get_or-set_other cs i n v 0 (λ e. other (sym e)) j) (g n)))
            ∙ xor_turn old (mul c (g i)) (mul (slice_index cs n) (g n))
      ]

  no_sum : (cs : List ℕ) (n : ℕ) (g : ℕ → ℕ) → ((i : ℕ) → slice_index cs i ≡ 0) → sum_of_first n (λ e. mul (slice_index cs e) (g e)) ≡ 0
  no_sum cs zero g none = refl
  no_sum cs (suc n) g none = (λ j. bit_xor (no_sum cs n g none j) (mul (none n j) (g n))) ∙ (xor_zero_l (mul 0 (g n)) ∙ zero_mul k mul ring (g n))

  module _ (dual : ℕ → ℕ → ℕ) where
    -- a row in which the coefficient of one form gets an element
    pub row_added : (old : Row) (new : List ℕ) (i c : ℕ) (p : Point) → IsPoint k p → i < k → length old.coefficients.items ≡ k → new ≡ slice_set old.coefficients.items i (bit_xor (slice_index old.coefficients.items i) c)
        → mul (term_value mul p (old.mono, 1)) (squares mul (square_of k mul dual new old.word) (slice_index p.words old.word) k) ≡ bit_xor (row_value k mul dual p old) (mul (term_value mul p (old.mono, c)) (dual_form k mul (dual old.word i) (slice_index p.words old.word)))
    row_added old new i c p at less long is =
        let cs : List ℕ = old.coefficients.items in
        let ds : List ℕ = slice_set cs i (bit_xor (slice_index cs i) c) in
        let x : ℕ = slice_index p.words old.word in
        let d : ℕ = dual old.word i in
        let t : ℕ = term_value mul p (old.mono, 1) in
        let o : ℕ = squares mul (square_of k mul dual cs old.word) x k in
        let f : ℕ = dual_form k mul d x in
        let each : (j : ℕ) → j < k → square_of k mul dual ds old.word j ≡ bit_xor (square_of k mul dual cs old.word j) (mul c (frobenius mul j d)) = λ j low. sum_changed cs i c k (λ e. frobenius mul j (dual old.word e)) (omega (arith, less, long)) less in
        (λ j. mul t (squares mul (square_of k mul dual (is j) old.word) x k))
        ∙ (ap (mul t) (squares_added (square_of k mul dual cs old.word) (square_of k mul dual ds old.word) (λ j. frobenius mul j d) c x k each)
        ∙ (ring.distrib t o (mul c f)
        ∙ ap (bit_xor (mul t o)) (sym (ring.assoc t c f) ∙ ap (λ y. mul y f) (sym (coefficient_out ring field p at old.mono c)))))

    -- a row without forms
    pub row_begun : (row : Row) (p : Point) → row.coefficients.items ≡ replicate k 0 → row_value k mul dual p row ≡ 0
    row_begun row p none =
        ap (mul (term_value mul p (row.mono, 1))) (no_squares (square_of k mul dual row.coefficients.items row.word) (slice_index p.words row.word) k (λ j less. no_sum row.coefficients.items k (λ e. frobenius mul j (dual row.word e)) (λ i. ap (λ (l : List ℕ). slice_index l i) none ∙ none_at k i)))
        ∙ mul_zero k mul ring (term_value mul p (row.mono, 1))

  pub coefficients_are : (old new : List ℕ) (i c : ℕ) → length old ≡ k → i < k → IsElement k c → ((j : ℕ) → j < k → IsElement k (slice_index old j)) → new ≡ slice_set old i (bit_xor (slice_index old i) c) → (j : ℕ) → j < k → IsElement k (slice_index new j)
  coefficients_are old new i c long less element inside is j low =
      let v : ℕ = bit_xor (slice_index old i) c in
      let P : ℕ → Type 0 = IsElement k in
      let Q : List ℕ → Type 0 = λ xs. IsElement k (slice_index xs j) in
      subst Q (sym is)
      (elim (cases_eq j i) [
        | inl here ↦ subst P (sym (ap (slice_index (slice_set old i v)) here ∙ get_or-set_same old i v 0 (omega (arith, less, long)))) (xor_lt k (slice_index old i) c (inside i less) element)
        | inr other ↦ subst P (sym (get_or-set_other old i j v 0 other)) (inside j low)
      ])

  module _ (dual : ℕ → ℕ → ℕ) where
    -- rows of which one is another
    pub rows_changed : (p : Point) (rows : List Row) (i : ℕ) (row new : Row) (d : ℕ) → slice_get rows i ≡ Some row → row_value k mul dual p new ≡ bit_xor (row_value k mul dual p row) d → rows_value k mul dual p (slice_set rows i new) ≡ bit_xor (rows_value k mul dual p rows) d
    rows_changed p [] i row new d has is = absurd (cc)
    rows_changed p (r ∷ rows) zero row new d has is =
        let same : r ≡ row = cc in
        ap (λ v. bit_xor v (rows_value k mul dual p rows)) (is ∙ ap (λ (q : Row). bit_xor (row_value k mul dual p q) d) (sym same)) ∙ xor_turn (row_value k mul dual p r) d (rows_value k mul dual p rows)
    rows_changed p (r ∷ rows) (suc i) row new d has is =
        ap (bit_xor (row_value k mul dual p r)) (rows_changed p rows i row new d has is) ∙ sym (xor_assoc (row_value k mul dual p r) (rows_value k mul dual p rows) d)

    -- and of which one comes last
    pub rows_longer : (p : Point) (rows : List Row) (row : Row) → rows_value k mul dual p (rows ++ row ∷ []) ≡ bit_xor (rows_value k mul dual p rows) (row_value k mul dual p row)
    rows_longer p [] row = xor_zero_r (row_value k mul dual p row) ∙ sym (xor_zero_l (row_value k mul dual p row))
    rows_longer p (r ∷ rows) row = ap (bit_xor (row_value k mul dual p r)) (rows_longer p rows row) ∙ sym (xor_assoc (row_value k mul dual p r) (rows_value k mul dual p rows) (row_value k mul dual p row))

    -- a row that was changed in its place
    pub row_at_changed : (p : Point) (rows : List Row) (i : ℕ) (old d new : Row) (t : Monomial × ℕ) (form : Form) (c : ℕ) → IsRowAt rows i t.0 form.word → old ≡ get_or rows i d → c ≡ t.1
        → row_value k mul dual p new ≡ bit_xor (row_value k mul dual p old) (mul (term_value mul p (old.mono, c)) (dual_form k mul (dual old.word form.place) (slice_index p.words old.word))) → rows_value k mul dual p (slice_set rows i new) ≡ bit_xor (rows_value k mul dual p rows) (mul (term_value mul p t) (form_value k mul dual p (Some form)))
    row_at_changed p rows i old d new t form c place is same by =
        let at : old ≡ place.0 = is ∙ read_same rows i place.0 d place.1 in
        let got : slice_get rows i ≡ Some old = place.1 ∙ ap (λ (r : Row). Some r) (sym at) in
        let mono : old.mono ≡ t.0 = ap (λ (r : Row). r.mono) at ∙ place.2 in
        let word : old.word ≡ form.word = ap (λ (r : Row). r.word) at ∙ place.3 in
        rows_changed p rows i old new (mul (term_value mul p t) (form_value k mul dual p (Some form))) got
        (by ∙ (λ j. bit_xor (row_value k mul dual p old) (mul (term_value mul p (mono j, same j)) (dual_form k mul (dual (word j) form.place) (slice_index p.words (word j))))))

    -- a row that was made of a term and a form
    pub row_made : (p : Point) (row new : Row) (t : Monomial × ℕ) (form : Form) (c n : ℕ) → n ≡ k → row.mono ≡ t.0 → row.word ≡ form.word → row.coefficients.items ≡ replicate n 0 → c ≡ t.1
        → row_value k mul dual p new ≡ bit_xor (row_value k mul dual p row) (mul (term_value mul p (row.mono, c)) (dual_form k mul (dual row.word form.place) (slice_index p.words row.word))) → row_value k mul dual p new ≡ mul (term_value mul p t) (form_value k mul dual p (Some form))
    row_made p row new t form c n size mono word none same by =
        let d : ℕ = mul (term_value mul p (row.mono, c)) (dual_form k mul (dual row.word form.place) (slice_index p.words row.word)) in
        by
        ∙ (ap (λ v. bit_xor v d) (row_begun dual row p (none ∙ ap (λ m. replicate m 0) size))
        ∙ (xor_zero_l d ∙ (λ j. mul (term_value mul p (mono j, same j)) (dual_form k mul (dual (word j) form.place) (slice_index p.words (word j))))))

    -- and with a form too
    pub product_far : {X E : Type 0} (r : Result X E) (old new : RunningSum) (mid factor near : Terms) (form : Form) → ((p : Point) → IsPoint k p → value mul p mid ≡ bit_xor (value mul p old.poly.terms) (mul (value mul p factor) (value mul p near))) → OnOk r (new.poly.terms ≡ mid)
        → OnOk r ((p : Point) → IsPoint k p → rows_value k mul dual p new.rows.items ≡ bit_xor (rows_value k mul dual p old.rows.items) (mul (value mul p factor) (form_value k mul dual p (Some form))))
        → OnOk r ((p : Point) → IsPoint k p → held_value k mul dual p new ≡ bit_xor (held_value k mul dual p old) (mul (value mul p factor) (bit_xor (value mul p near) (form_value k mul dual p (Some form)))))
    product_far (Ok x) old new mid factor near form first poly second = λ p at.
        let o : ℕ = value mul p old.poly.terms in
        let rows : ℕ = rows_value k mul dual p old.rows.items in
        let f : ℕ = value mul p factor in
        let n : ℕ = value mul p near in
        let l : ℕ = form_value k mul dual p (Some form) in
        (λ j. bit_xor ((ap (λ (ts : Terms). value mul p ts) poly ∙ first p at) j) (second p at j))
        ∙ (xor_cross o (mul f n) rows (mul f l)
        ∙ ap (bit_xor (bit_xor o rows)) (sym (ring.distrib f n l)))
    product_far (Err e) old new mid factor near form first poly second = tt

  -- after the last term
  pub nothing_kept : (p : Point) (rows e : ℕ) (rest : Terms) → rest ≡ [] → rows ≡ bit_xor rows (mul (value mul p rest) e)
  nothing_kept p rows e rest none = sym (ap (λ (ts : Terms). bit_xor rows (mul (value mul p ts) e)) none ∙ (ap (bit_xor rows) (zero_mul k mul ring e) ∙ xor_zero_r rows))

  -- a product with a polynomial alone
  pub product_near : (old new rows f n : ℕ) → new ≡ bit_xor old (mul f n) → bit_xor new rows ≡ bit_xor (bit_xor old rows) (mul f (bit_xor n 0))
  product_near old new rows f n is = ap (λ v. bit_xor v rows) is ∙ (xor_turn old (mul f n) rows ∙ ap (λ v. bit_xor (bit_xor old rows) (mul f v)) (sym (xor_zero_r n)))
