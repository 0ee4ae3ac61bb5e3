-- The values of products.
use Rattle.std.proofs.Common.{◌≡◌, ℕ, zero, suc, ◌+◌, ◌-◌, ◌<◌, ◌≤◌, ◌^◌, Bool, true, false, cond, ◌&&◌, ◌==◌, List, [], ◌∷◌, length, nat_lt, ◌≢◌, bit_xor, refl, sym, ◌∙◌, ap, subst, arith, inl, inr}
use Rattle.std.proofs.lemmas.Bool.{ltb-true, ltb-false, eqb-true, eqb-false, cases_order}
use Rattle.std.specs.declared.cmp.Ordering.TheVariants.{Less}
use Rattle.std.specs.Ordering.{nat_cmp}
use Rattle.std.specs.List.Sorted.{IsStrictlySortedBy}
use Rattle.std.proofs.lemmas.Nat.{pow_pos}
use Rattle.std.specs.List.{AllByRecursion, list_all}
use Rattle.std.proofs.Math.Bool.{and_comm}
use Rattle.lists.specs.laws.BoolLaws.{and_twice}
use Rattle.lists.specs.laws.OrderingLaws.{cmp_less}
use Rattle.poly_mixed.specs.Polynomial.{IsElement}
use Rattle.poly_mixed.proofs.FieldLaws.{IsField}
use Rattle.poly_mixed.specs.Monomial.{Monomial}
use lib.Bits.{xor_lt, xor_zero_r, xor_assoc}
use Rattle.poly_mixed.specs.Monomial.{text_cmp}
use Rattle.poly_mixed.specs.Polynomial.{Polynomial, Terms, Point, IsPoint, IsTerm, IsReduced, powers, term_value, value}
use Rattle.gf_field.specs.Power.{power}
use Rattle.poly_mixed.specs.Sum.{plus_term}
use Rattle.poly_mixed.specs.Product.{add_exponent, add_exponents, with_rank, union, times, AddsProduct}
use Rattle.poly_mixed.proofs.ValueLemmas.{power_element, powers_element, one_element, product_zero, zero_element, value-plus, reduced_plus}
use Rattle.poly_mixed.proofs.RankLemmas.{Above, above_trans}

-- ---- ranks

pub and_assoc : (a b c : Bool) → ((a && b) && c) ≡ (a && (b && c))
and_assoc true b c = refl
and_assoc false b c = refl

pub all-with_rank : (p : ℕ → Bool) (xs : List ℕ) (r : ℕ) → list_all p (with_rank xs r) ≡ (list_all p xs && p r)
all-with_rank p [] r = and_comm (p r) true
all-with_rank p (x ∷ xs) r =
    elim (nat_lt r x) as (λ b. list_all p (cond b (r ∷ x ∷ xs) (cond (r == x) (x ∷ xs) (x ∷ with_rank xs r))) ≡ ((p x && list_all p xs) && p r)) [
      | true ↦ and_comm (p r) (p x && list_all p xs)
      | false ↦ elim (r == x) as (λ b. (r == x) ≡ b → list_all p (cond b (x ∷ xs) (x ∷ with_rank xs r)) ≡ ((p x && list_all p xs) && p r)) [
        | true ↦ λ e. sym (and_twice (p x) (list_all p xs)) ∙ ap (λ (n : ℕ). (p x && list_all p xs) && p n) (sym (eqb-true r x e))
        | false ↦ λ e. ap (λ b. p x && b) (all-with_rank p xs r) ∙ sym (and_assoc (p x) (list_all p xs) (p r))
      ] refl
    ]

pub all-union : (p : ℕ → Bool) (xs rs : List ℕ) → list_all p (union xs rs) ≡ (list_all p xs && list_all p rs)
all-union p xs [] = and_comm true (list_all p xs)
all-union p xs (r ∷ rs) = all-union p (with_rank xs r) rs ∙ ap (λ b. b && list_all p rs) (all-with_rank p xs r) ∙ and_assoc (list_all p xs) (p r) (list_all p rs)

-- ---- powers

module _ {degree : ℕ} {mul : ℕ → ℕ → ℕ} (f : IsField degree mul) where
  power-add : (x i j : ℕ) → IsElement degree x → power mul x (i + j) ≡ mul (power mul x i) (power mul x j)
  unfolding power
  power-add x zero j h = ap (power mul x) (omega arith) ∙ sym (f.neutral (power mul x j) (power_element f x j h))
  power-add x (suc i) j h =
      let shift : suc i + j ≡ suc (i + j) = omega arith in
      ap (power mul x) shift ∙ ap (mul x) (power-add x i j h) ∙ sym (f.assoc x (power mul x i) (power mul x j) h (power_element f x i h) (power_element f x j h))

  module _ where
    power-wrap : (x n r : ℕ) → IsElement degree x → n ≡ 2 ^ degree + r → power mul x n ≡ power mul x (suc r)
    unfolding power
    power-wrap x n r h e = ap (power mul x) e ∙ power-add x (2 ^ degree) r h ∙ ap (λ y. mul y (power mul x r)) (f.fermat x h)

    pub power-add_exponent : (x i j : ℕ) → IsElement degree x → power mul x (add_exponent degree i j) ≡ mul (power mul x i) (power mul x j)
    power-add_exponent x i j h =
        elim (nat_lt (i + j) (2 ^ degree)) as (λ b. nat_lt (i + j) (2 ^ degree) ≡ b → power mul x (cond b (i + j) (i + j - (2 ^ degree - 1))) ≡ mul (power mul x i) (power mul x j)) [
          | true ↦ λ e. power-add x i j h
          | false ↦ λ e.
              let r = i + j - 2 ^ degree in
              let big : 2 ^ degree ≤ i + j = ltb-false (i + j) (2 ^ degree) e in
              let pos : 0 < 2 ^ degree = pow_pos degree in
              let whole : i + j ≡ 2 ^ degree + r = omega arith in
              let short : i + j - (2 ^ degree - 1) ≡ suc r = omega arith in
              ap (power mul x) short ∙ sym (power-wrap x (i + j) r h whole) ∙ power-add x i j h
        ] refl

    pub cross : (x y z w : ℕ) → IsElement degree x → IsElement degree y → IsElement degree z → IsElement degree w → mul (mul x y) (mul z w) ≡ mul (mul x z) (mul y w)
    cross x y z w hx hy hz hw =
        f.assoc x y (mul z w) hx hy (f.closed z w hz hw)
        ∙ ap (mul x) (sym (f.assoc y z w hy hz hw) ∙ ap (λ n. mul n w) (f.comm y z hy hz) ∙ f.assoc z y w hz hy hw)
        ∙ sym (f.assoc x z (mul y w) hx hz (f.closed y w hy hw))

    powers-add_exponents : (es fs ws : List ℕ) → length es ≡ length fs → AllByRecursion (IsElement degree) ws → powers mul (add_exponents degree es fs) ws ≡ mul (powers mul es ws) (powers mul fs ws)
    powers-add_exponents [] [] ws l up = sym (f.neutral 1 (one_element f))
    powers-add_exponents [] (g ∷ fs) ws l up = absurd (omega arith)
    powers-add_exponents (e ∷ es) [] ws l up = absurd (omega arith)
    powers-add_exponents (e ∷ es) (g ∷ fs) [] l up = sym (f.neutral 1 (one_element f))
    powers-add_exponents (e ∷ es) (g ∷ fs) (w ∷ ws) l up =
        (λ i. mul (power-add_exponent w e g up.0 i) (powers-add_exponents es fs ws (omega arith) up.1 i))
        ∙ cross (power mul w e) (power mul w g) (powers mul es ws) (powers mul fs ws) (power_element f w e up.0) (power_element f w g up.0) (powers_element f es ws up.1) (powers_element f fs ws up.1)

    -- the value of a product is the product of the values
    pub term_value-times : (p : Point) → IsPoint degree p → (m n : Monomial) (c d : ℕ) → IsElement degree c → IsElement degree d → length m.exponents ≡ length n.exponents → term_value mul p (times degree m n, mul c d) ≡ mul (term_value mul p (m, c)) (term_value mul p (n, d))
    term_value-times p at m n c d hc hd l =
        let x = powers mul m.exponents p.words in
        let y = powers mul n.exponents p.words in
        let hx = powers_element f m.exponents p.words at.elements in
        let hy = powers_element f n.exponents p.words at.elements in
        let both : mul (mul c d) (powers mul (add_exponents degree m.exponents n.exponents) p.words) ≡ mul (mul c x) (mul d y) =
        ap (mul (mul c d)) (powers-add_exponents m.exponents n.exponents p.words l at.elements) ∙ cross c d x y hc hd hx hy in
        let zero_right : (z : ℕ) → IsElement degree z → mul z 0 ≡ 0 = λ z h. f.comm z 0 h (zero_element f) ∙ product_zero f z h in
        ap (λ b. cond b (mul (mul c d) (powers mul (add_exponents degree m.exponents n.exponents) p.words)) 0) (all-union p.is_one m.bits n.bits)
        ∙ elim (list_all p.is_one m.bits) as (λ b. cond (b && list_all p.is_one n.bits) (mul (mul c d) (powers mul (add_exponents degree m.exponents n.exponents) p.words)) 0 ≡ mul (cond b (mul c x) 0) (cond (list_all p.is_one n.bits) (mul d y) 0)) [
          | true ↦ elim (list_all p.is_one n.bits) as (λ b. cond b (mul (mul c d) (powers mul (add_exponents degree m.exponents n.exponents) p.words)) 0 ≡ mul (mul c x) (cond b (mul d y) 0)) [
            | true ↦ both
            | false ↦ sym (zero_right (mul c x) (f.closed c x hc hx))
          ]
          | false ↦ elim (list_all p.is_one n.bits) as (λ b. 0 ≡ mul 0 (cond b (mul d y) 0)) [
            | true ↦ sym (product_zero f (mul d y) (f.closed d y hd hy))
            | false ↦ sym (product_zero f 0 (zero_element f))
          ]
        ]

-- ---- ranks rise

above_by : (x : ℕ) (rs : List ℕ) (r : ℕ) → nat_cmp x r ≡ Less → Above x rs → Above x (with_rank rs r)
above_by x [] r l up = (l, tt)
above_by x (y ∷ ys) r l up =
    elim (nat_lt r y) as (λ b. Above x (cond b (r ∷ y ∷ ys) (cond (r == y) (y ∷ ys) (y ∷ with_rank ys r)))) [
      | true ↦ (l, up)
      | false ↦ elim (r == y) as (λ b. Above x (cond b (y ∷ ys) (y ∷ with_rank ys r))) [ true ↦ up | false ↦ (up.0, above_by x ys r l up.1) ]
    ]

pub rising-with_rank : (xs : List ℕ) (r : ℕ) → IsStrictlySortedBy nat_cmp xs → IsStrictlySortedBy nat_cmp (with_rank xs r)
unfolding IsStrictlySortedBy
rising-with_rank [] r s = (tt, tt)
rising-with_rank (x ∷ xs) r s =
    elim (nat_lt r x) as (λ b. nat_lt r x ≡ b → IsStrictlySortedBy nat_cmp (cond b (r ∷ x ∷ xs) (cond (r == x) (x ∷ xs) (x ∷ with_rank xs r)))) [
      | true ↦ λ e. let l = cmp_less r x (ltb-true r x e) in ((l, above_trans r x xs l s.0), s)
      | false ↦ λ e. elim (r == x) as (λ b. (r == x) ≡ b → IsStrictlySortedBy nat_cmp (cond b (x ∷ xs) (x ∷ with_rank xs r))) [
        | true ↦ λ q. s
        | false ↦ λ q.
            let ne = eqb-false r x q in
            let ge = ltb-false r x e in
            let l : x < r = (elim (cases_order x r) [ inl h ↦ absurd (ne (sym h)) | inr h ↦ elim h [ inl w ↦ w | inr w ↦ absurd (omega arith) ] ]) in
            (above_by x xs r (cmp_less x r l) s.0, rising-with_rank xs r s.1)
      ] refl
    ] refl

pub rising-union : (xs rs : List ℕ) → IsStrictlySortedBy nat_cmp xs → IsStrictlySortedBy nat_cmp (union xs rs)
rising-union xs [] s = s
rising-union xs (r ∷ rs) s = rising-union (with_rank xs r) rs (rising-with_rank xs r s)

-- ---- products of terms are terms

pub length-add_exponents : (k : ℕ) (es fs : List ℕ) → length es ≡ length fs → length (add_exponents k es fs) ≡ length es
length-add_exponents k [] fs h = refl
length-add_exponents k (e ∷ es) [] h = absurd (omega arith)
length-add_exponents k (e ∷ es) (f ∷ fs) h = ap suc (length-add_exponents k es fs (omega arith))

add_exponent-below : (k i j : ℕ) → i < 2 ^ k → j < 2 ^ k → add_exponent k i j < 2 ^ k
add_exponent-below k i j p q =
    elim (nat_lt (i + j) (2 ^ k)) as (λ b. nat_lt (i + j) (2 ^ k) ≡ b → cond b (i + j) (i + j - (2 ^ k - 1)) < 2 ^ k) [
      | true ↦ λ e. ltb-true (i + j) (2 ^ k) e
      | false ↦ λ e. let ge = ltb-false (i + j) (2 ^ k) e in omega arith
    ] refl

add_exponents-below : (k : ℕ) (es fs : List ℕ) → AllByRecursion (λ e. e < 2 ^ k) es → AllByRecursion (λ e. e < 2 ^ k) fs → AllByRecursion (λ e. e < 2 ^ k) (add_exponents k es fs)
add_exponents-below k [] fs p q = tt
add_exponents-below k (e ∷ es) [] p q = tt
add_exponents-below k (e ∷ es) (f ∷ fs) p q = (add_exponent-below k e f p.0 q.0, add_exponents-below k es fs p.1 q.1)

module _ {degree : ℕ} {mul : ℕ → ℕ → ℕ} (f : IsField degree mul) where
  pub term-times : (m n : Monomial) (c d : ℕ) → IsTerm degree (m, c) → IsTerm degree (n, d) → IsTerm degree (times degree m n, mul c d)
  term-times m n c d p q =
      let hm = p.monomial in
      let hn = q.monomial in
      record {
        monomial = record {
          words = length-add_exponents degree m.exponents n.exponents (hm.words ∙ sym hn.words) ∙ hm.words;
          exponents = add_exponents-below degree m.exponents n.exponents hm.exponents hn.exponents;
          rising = rising-union m.bits n.bits hm.rising;
        };
        element = f.closed c d p.element q.element;
      }

  pub product_nonzero : (c d : ℕ) → IsElement degree c → IsElement degree d → c ≢ 0 → d ≢ 0 → mul c d ≢ 0
  product_nonzero c d hc hd nc nd e = nd (f.cancels c d hc hd e nc)

  pub term_value_element : (p : Point) → IsPoint degree p → (t : Monomial × ℕ) → IsElement degree t.1 → IsElement degree (term_value mul p t)
  term_value_element p at t h =
      elim (list_all p.is_one t.0.bits) as (λ b. IsElement degree (cond b (mul t.1 (powers mul t.0.exponents p.words)) 0)) [
        | true ↦ f.closed t.1 (powers mul t.0.exponents p.words) h (powers_element f t.0.exponents p.words at.elements)
        | false ↦ zero_element f
      ]

  pub value_element : (p : Point) → IsPoint degree p → (ts : Terms) → AllByRecursion (IsTerm degree) ts → IsElement degree (value mul p ts)
  value_element p at [] all = zero_element f
  value_element p at (t ∷ ts) all = xor_lt degree (term_value mul p t) (value mul p ts) (term_value_element p at t all.0.element) (value_element p at ts all.1)

  pub distrib_right : (x y z : ℕ) → IsElement degree x → IsElement degree y → IsElement degree z → mul x (bit_xor y z) ≡ bit_xor (mul x y) (mul x z)
  distrib_right x y z hx hy hz =
      f.comm x (bit_xor y z) hx (xor_lt degree y z hy hz) ∙ f.distrib y z x hy hz hx ∙ (λ i. bit_xor (f.comm y x hy hx i) (f.comm z x hz hx i))

  pub one_term : (m : Monomial) (c : ℕ) → IsTerm degree (m, c) → c ≢ 0 → IsReduced degree ((m, c) ∷ [])
  unfolding IsStrictlySortedBy
  one_term m c h n = record { is_map = record { sorted = (tt, tt); rising = (h.monomial.rising, tt); nonzero = (n, tt) }; terms = (h, tt) }

  -- one turn of the loop over the first factor
  pub outer_step : (p : Point) → IsPoint degree p → (us vs : Terms) (t : Monomial × ℕ) (s w : ℕ) → AllByRecursion (IsTerm degree) us → AllByRecursion (IsTerm degree) vs → IsTerm degree t
      → w ≡ bit_xor s (mul (term_value mul p t) (value mul p vs)) → bit_xor w (mul (value mul p us) (value mul p vs)) ≡ bit_xor s (mul (value mul p (t ∷ us)) (value mul p vs))
  outer_step p at us vs t s w hu hv ht e =
      let x = term_value mul p t in
      let y = value mul p us in
      let z = value mul p vs in
      ap (λ n. bit_xor n (mul y z)) e ∙ xor_assoc s (mul x z) (mul y z)
      ∙ ap (bit_xor s) (sym (f.distrib x y z (term_value_element p at t ht.element) (value_element p at us hu) (value_element p at vs hv)))

  module _ where
    -- one turn of the loop over the second factor
    pub product_step : (p : Point) → IsPoint degree p → (ts us : Terms) (m n : Monomial) (c d : ℕ) → AllByRecursion (IsTerm degree) ts → AllByRecursion (IsTerm degree) us → IsTerm degree (m, c) → IsTerm degree (n, d)
        → bit_xor (value mul p (plus_term text_cmp ts (times degree m n, mul c d))) (mul (term_value mul p (m, c)) (value mul p us)) ≡ bit_xor (value mul p ts) (mul (term_value mul p (m, c)) (value mul p ((n, d) ∷ us)))
    product_step p at ts us m n c d ht hu hm hn =
        let u : Monomial × ℕ = (times degree m n, mul c d) in
        let hx = term_value_element p at (m, c) hm.element in
        let hy = term_value_element p at (n, d) hn.element in
        let hv = value_element p at us hu in
        let x = term_value mul p (m, c) in
        let y = term_value mul p (n, d) in
        let v = value mul p us in
        let one : value mul p (plus_term text_cmp ts u) ≡ bit_xor (value mul p ts) (mul x y) =
        value-plus f p at ts (u ∷ []) ht (term-times m n c d hm hn, tt)
        ∙ ap (bit_xor (value mul p ts)) (xor_zero_r (term_value mul p u) ∙ term_value-times f p at m n c d hm.element hn.element (hm.monomial.words ∙ sym hn.monomial.words)) in
        ap (λ z. bit_xor z (mul x v)) one ∙ xor_assoc (value mul p ts) (mul x y) (mul x v)
        ∙ ap (bit_xor (value mul p ts)) (sym (distrib_right x y v hx hy hv))

    pub turn : (ts rest next : Terms) (m n : Monomial) (c d : ℕ) → IsReduced degree ts → IsTerm degree (m, c) → c ≢ 0 → rest ≡ (n, d) ∷ next → AllByRecursion (IsTerm degree) rest → AllByRecursion (λ t. t.1 ≢ 0) rest
        → (k e : ℕ) (w : Monomial) (new : Polynomial) → k ≡ degree → w ≡ times k m n → e ≡ mul c d → new.terms ≡ plus_term text_cmp ts (w, e)
        → IsReduced degree new.terms × AllByRecursion (IsTerm degree) next × AllByRecursion (λ t. t.1 ≢ 0) next
        × ((p : Point) → IsPoint degree p → bit_xor (value mul p new.terms) (mul (term_value mul p (m, c)) (value mul p next)) ≡ bit_xor (value mul p ts) (mul (term_value mul p (m, c)) (value mul p rest)))
    turn ts rest next m n c d r hm nc is all nonzero k e w new hk hw he hnew =
        let P : Terms → Type 0 = AllByRecursion (IsTerm degree) in
        let N : Terms → Type 0 = AllByRecursion (λ t. t.1 ≢ 0) in
        let all' : AllByRecursion (IsTerm degree) ((n, d) ∷ next) = subst P is all in
        let nz : AllByRecursion (λ t. t.1 ≢ 0) ((n, d) ∷ next) = subst N is nonzero in
        let same : new.terms ≡ plus_term text_cmp ts (times degree m n, mul c d) =
        hnew ∙ (λ i. plus_term text_cmp ts ((hw ∙ ap (λ (j : ℕ). times j m n) hk) i, he i)) in
        let Q : Terms → Type 0 = IsReduced degree in
        let one = one_term (times degree m n) (mul c d) (term-times m n c d hm all'.0) (product_nonzero c d hm.element all'.0.element nc nz.0) in (
          subst Q (sym same) (reduced_plus f ts ((times degree m n, mul c d) ∷ []) r one),
          all'.1,
          nz.1,
          λ p at. ap (λ (us : Terms). bit_xor (value mul p us) (mul (term_value mul p (m, c)) (value mul p next))) same
              ∙ product_step p at ts next m n c d r.terms all'.1 hm all'.0
              ∙ ap (λ (us : Terms). bit_xor (value mul p ts) (mul (term_value mul p (m, c)) (value mul p us))) (sym is),
        )

module _ {degree : ℕ} {mul : ℕ → ℕ → ℕ} (f : IsField degree mul) where
  pub product_nothing : (p : Point) → IsPoint degree p → (ts : Terms) (t : Monomial × ℕ) (rest : Terms) → IsTerm degree t → rest ≡ [] → value mul p ts ≡ bit_xor (value mul p ts) (mul (term_value mul p t) (value mul p rest))
  product_nothing p at ts t rest h none =
      sym (ap (λ (us : Terms). bit_xor (value mul p ts) (mul (term_value mul p t) (value mul p us))) none
      ∙ ap (bit_xor (value mul p ts)) (f.comm (term_value mul p t) 0 (term_value_element f p at t h.element) (zero_element f) ∙ product_zero f (term_value mul p t) (term_value_element f p at t h.element))
      ∙ xor_zero_r (value mul p ts))

  pub no_terms_product : (p : Point) → IsPoint degree p → (ts vs rest : Terms) → AllByRecursion (IsTerm degree) vs → rest ≡ [] → value mul p ts ≡ bit_xor (value mul p ts) (mul (value mul p rest) (value mul p vs))
  no_terms_product p at ts vs rest h none =
      sym (ap (λ (us : Terms). bit_xor (value mul p ts) (mul (value mul p us) (value mul p vs))) none
      ∙ ap (bit_xor (value mul p ts)) (product_zero f (value mul p vs) (value_element f p at vs h)) ∙ xor_zero_r (value mul p ts))

  pub outer_turn : (rest next vs old new : Terms) (t : Monomial × ℕ) → rest ≡ t ∷ next → AllByRecursion (IsTerm degree) rest → AllByRecursion (λ t. t.1 ≢ 0) rest → AllByRecursion (IsTerm degree) vs → AddsProduct degree mul t vs old new
      → AllByRecursion (IsTerm degree) next × AllByRecursion (λ t. t.1 ≢ 0) next × ((p : Point) → IsPoint degree p → bit_xor (value mul p new) (mul (value mul p next) (value mul p vs)) ≡ bit_xor (value mul p old) (mul (value mul p rest) (value mul p vs)))
  outer_turn rest next vs old new t is all nonzero hv adds =
      let P : Terms → Type 0 = AllByRecursion (IsTerm degree) in
      let N : Terms → Type 0 = AllByRecursion (λ t. t.1 ≢ 0) in
      let all' : AllByRecursion (IsTerm degree) (t ∷ next) = subst P is all in
      let nz : AllByRecursion (λ t. t.1 ≢ 0) (t ∷ next) = subst N is nonzero in (
        all'.1,
        nz.1,
        λ p at. outer_step f p at next vs t (value mul p old) (value mul p new) all'.1 hv all'.0 (adds p at)
            ∙ ap (λ (us : Terms). bit_xor (value mul p old) (mul (value mul p us) (value mul p vs))) (sym is),
      )
