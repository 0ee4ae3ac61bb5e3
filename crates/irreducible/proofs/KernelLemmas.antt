-- The words that a matrix takes to 0, from an elimination of its rows, and the least word that it takes to another.
use Rattle.std.proofs.Common.{◌≡◌, ◌≢◌, ℕ, zero, suc, refl, sym, ◌∙◌, ap, ap₂, ◌<◌, ◌≤◌, ◌^◌, ◌+◌, ◌*◌, ◌/◌, ◌%◌, ◌⊎◌, inl, inr, arith, pow_pos, pow-suc, pow_mono, List, [], ◌∷◌, length, get_or, set, lt_of_lt_of_le, get_or-set_same, get_or-set_other, replicate, one-mul, zero-mul, add-zero, add-one, one-add, mod-lt, not-suc-le-zero, shr-shr, subst, suc-mul}
use Rattle.std.specs.Prelude.{bit_xor}
use Rattle.std.specs.Int.{bit_at}
use Rattle.std.specs.Int.Bits.{xor_self, xor_lt, xor_shr, xor_zero_l, xor_zero_r, xor_assoc, xor_comm, xor_shifted}
use Rattle.std.proofs.lemmas.Bool.{cases_eq, cases_lt}
use Rattle.std.proofs.lemmas.Nat.{pow_below, shr_split}
use native.Mathlib.Nat.{div-eq_of_lt-le, div-one}
use Rattle.lists.specs.laws.NumberLaws.{bit_cases, self_zero_plus}
use Rattle.lists.specs.laws.XorLaws.{xor_cancel, xor_same}
use Rattle.gf_field.proofs.CopyLemmas.{zeros}
use Rattle.irreducible.specs.Span.{combination, InSpan}
use Rattle.irreducible.specs.laws.SpanLaws.{combination_zero, combination-xor, combination_unit, combination_below, span_zero, span_xor, span_item, span_trans}
use Rattle.irreducible.specs.private.Pivots.{IsTop, IsCleared, IsRankSoFar, IsKernelSoFar, AreChoices}
use Rattle.irreducible.specs.Matrix.{IsKernel, IsLeastSolution}
use Rattle.irreducible.proofs.PivotLaws.{top_bit, top_xor}
use Rattle.irreducible.proofs.MatrixLaws.{choices_make, choices_short}

power_top : (i : ℕ) → IsTop i (2 ^ i)
power_top i = record { low = omega arith; high = omega (arith, pow-suc 2 i, pow_pos i) }

-- a number that is not 0 has a highest bit
pub record HasTop (w : ℕ) : Type 0 where
  pub place : ℕ
  pub top : IsTop place w

pub has_top : (m w : ℕ) → w < 2 ^ m → w ≢ 0 → HasTop w
has_top zero w h ne = absurd (ne (omega arith))
has_top (suc m) w h ne = elim (cases_lt w (2 ^ m)) [
  | inl less ↦ has_top m w less ne
  | inr more ↦ record { place = m; top = record { low = more; high = h } }
]

-- two numbers with the same highest bit lose it in their sum
tops_cancel : (m w x : ℕ) → IsTop m w → IsTop m x → bit_xor w x < 2 ^ m
tops_cancel m w x h k = smaller (bit_xor w x / 2 ^ m) (bit_xor w x % 2 ^ m) (bit_xor w x) (2 ^ m) (shr_split (bit_xor w x) m) none (mod-lt (bit_xor w x) (pow_pos m))
  where
    one : (x : ℕ) → IsTop m x → x / 2 ^ m ≡ 1
    one x k = div-eq_of_lt-le {k = 1} (2 ^ m) (omega (arith, k.low)) (omega (arith, k.high, pow-suc 2 m))

    none : bit_xor w x / 2 ^ m ≡ 0
    none = xor_shr w x m ∙ ap₂ bit_xor (one w h) (one x k) ∙ xor_self 1

    smaller : (q r x p : ℕ) → q * p + r ≡ x → q ≡ 0 → r < p → x < p
    smaller q r x p e z less = let f : 0 * p + r ≡ x = rw (z) at e in omega (arith, zero-mul p)

-- ---- a word whose row is no sum of earlier ones
-- what an elimination leaves of a sum of the rows so far is 0
pub nothing_left : (rows pivots : List ℕ) (i r w left used t : ℕ) (k : IsRankSoFar rows pivots i r) → IsCleared pivots w left used 0 → IsTop t left → InSpan k.basis w → ⊥
nothing_left rows pivots i r w left used t k d top inside =
    clash (sym (top_bit t left top) ∙ d.cleared t (omega arith) (k.complete left t left_in top))
  where
    clash : ◌≡◌ {A = ℕ} 1 0 → ⊥
    clash e = omega arith

    taken_in : InSpan k.basis (bit_xor w left)
    taken_in = span_trans pivots k.basis (bit_xor w left) (λ t l. k.pivots_in t) (record { choice = used; is = d.within })

    left_in : InSpan k.basis left
    left_in = let p : InSpan k.basis (bit_xor w (bit_xor w left)) = span_xor k.basis w (bit_xor w left) inside taken_in in record { choice = p.choice; is = p.is ∙ xor_cancel w left }

-- a sum of the first i rows
first_rows : (rows basis : List ℕ) (i x : ℕ) → x < 2 ^ i → ((j : ℕ) → j < i → InSpan basis (get_or rows j 0)) → InSpan basis (combination rows x)
first_rows [] basis i x h in_span = span_zero basis
first_rows (r ∷ rs) basis zero x h in_span = let none : x ≡ 0 = omega arith in subst (λ (y : ℕ). InSpan basis (combination (r ∷ rs) y)) (sym none) (subst (InSpan basis) (sym (combination_zero (r ∷ rs))) (span_zero basis))
first_rows (r ∷ rs) basis (suc i) x h in_span =
    span_xor basis (x % 2 * r) (combination rs (x / 2)) (bit_row (x % 2) (omega arith)) (first_rows rs basis i (x / 2) (omega (arith, pow-suc 2 i)) (λ j l. in_span (suc j) (omega arith)))
  where
    bit_row : (b : ℕ) → b < 2 → InSpan basis (b * r)
    bit_row zero l = rw (zero-mul) (span_zero basis)
    bit_row (suc zero) l = rw (one-mul) (in_span 0 (omega arith))
    bit_row (suc (suc b)) l = absurd (omega arith)

-- ---- the choices that an elimination has written so far
pub low_kept : (choices : List ℕ) (i : ℕ) → ((t : ℕ) → get_or choices t 0 < 2 ^ i) → (t : ℕ) → get_or choices t 0 < 2 ^ (i + 1)
low_kept choices i low t = lt_of_lt_of_le (low t) (pow_mono (omega arith))

pub low_more : (choices : List ℕ) (i place used : ℕ) → place < length choices → ((t : ℕ) → get_or choices t 0 < 2 ^ i) → (t : ℕ) → get_or (set choices place (bit_xor (2 ^ i) (combination choices used))) t 0 < 2 ^ (i + 1)
low_more choices i place used room low t = elim (cases_eq t place) [
  | inl e ↦ rw (e, get_or-set_same choices place (bit_xor (2 ^ i) (combination choices used)) 0 room)
      (xor_lt (i + 1) (2 ^ i) (combination choices used) (pow_below i (i + 1) (omega arith)) (lt_of_lt_of_le (combination_below choices i used (λ s l. low s)) (pow_mono (omega arith))))
  | inr ne ↦ rw get_or-set_other (low_kept choices i low t)
]

-- ---- the kernel so far
pub kernel_start : (rows : List ℕ) → IsKernelSoFar rows (replicate 64 0) 0
kernel_start rows = record {
  zero_sum = λ t. rw (zeros 64 t) (combination_zero rows);
  tops = λ t. inl (zeros 64 t);
  later = λ t h. zeros 64 t;
  complete = λ v t h z top. absurd (not-suc-le-zero h);
}

pub kernel_kept : (rows pivots vectors : List ℕ) (i r left used t : ℕ) (k : IsRankSoFar rows pivots i r) → IsCleared pivots (get_or rows i 0) left used 0 → IsTop t left → IsKernelSoFar rows vectors i → IsKernelSoFar rows vectors (i + 1)
kernel_kept rows pivots vectors i r left used t k d top so_far = record {
  zero_sum = so_far.zero_sum;
  tops = so_far.tops;
  later = λ s h. so_far.later s (omega arith);
  complete = λ v s h z high. elim (cases_eq s i) [
    | inl e ↦ absurd (nothing_left rows pivots i r (get_or rows i 0) left used t k d top (row_in v z (subst (λ (n : ℕ). IsTop n v) e high)))
    | inr ne ↦ so_far.complete v s (omega arith) z high
  ];
}
  where
    row_in : (v : ℕ) → combination rows v ≡ 0 → IsTop i v → InSpan k.basis (get_or rows i 0)
    row_in v z high =
        let p : InSpan k.basis (combination rows (bit_xor v (2 ^ i))) = first_rows rows k.basis i (bit_xor v (2 ^ i)) (tops_cancel i v (2 ^ i) high (power_top i)) k.spans in
        record { choice = p.choice; is = p.is ∙ combination-xor rows v (2 ^ i) ∙ ap₂ bit_xor z (combination_unit rows i) ∙ xor_zero_l (get_or rows i 0) }

pub kernel_more : (rows pivots choices vectors : List ℕ) (i left used : ℕ) → AreChoices rows pivots choices → length choices ≡ length pivots → IsCleared pivots (get_or rows i 0) left used 0 → left ≡ 0 → i < length vectors
    → ((t : ℕ) → get_or choices t 0 < 2 ^ i) → IsKernelSoFar rows vectors i → IsKernelSoFar rows (set vectors i (bit_xor (2 ^ i) (combination choices used))) (i + 1)
kernel_more rows pivots choices vectors i left used a same d none room low so_far = record {
  zero_sum = λ t. elim (cases_eq t i) [
    | inl e ↦ rw (e, at_same) makes
    | inr ne ↦ rw get_or-set_other (so_far.zero_sum t)
  ];
  tops = λ t. elim (cases_eq t i) [
    | inl e ↦ inr (rw (e, at_same) top)
    | inr ne ↦ rw get_or-set_other (so_far.tops t)
  ];
  later = λ t h. let ne : t ≢ i = omega arith in rw get_or-set_other (so_far.later t (omega arith));
  complete = λ v t h z high. elim (cases_eq t i) [
    | inl e ↦ rw (e, at_same) top
    | inr ne ↦ rw get_or-set_other (so_far.complete v t (omega arith) z high)
  ];
}
  where
    at_same : get_or (set vectors i (bit_xor (2 ^ i) (combination choices used))) i 0 ≡ bit_xor (2 ^ i) (combination choices used)
    at_same = get_or-set_same vectors i (bit_xor (2 ^ i) (combination choices used)) 0 room

    top : IsTop i (bit_xor (2 ^ i) (combination choices used))
    top = rw (xor_comm (2 ^ i) (combination choices used)) (top_xor i (combination choices used) (2 ^ i) (combination_below choices i used (λ s l. low s)) (power_top i))

    makes : combination rows (bit_xor (2 ^ i) (combination choices used)) ≡ 0
    makes =
        combination-xor rows (2 ^ i) (combination choices used)
        ∙ ap₂ bit_xor (combination_unit rows i) (choices_make rows pivots choices a same used ∙ d.within)
        ∙ xor_cancel (get_or rows i 0) left ∙ none

-- ---- numbers with different highest bits are independent
abbrev TopsFrom : ℕ → List ℕ → Type 0
TopsFrom s xs = (j : ℕ) → (get_or xs j 0 ≡ 0) ⊎ IsTop (s + j) (get_or xs j 0)

record NoneChosen (xs : List ℕ) (c : ℕ) : Type 0 where
  empty : combination xs c ≡ 0
  none : (i : ℕ) → get_or xs i 0 ≢ 0 → bit_at c i ≡ 0

record HasTopFrom (s w : ℕ) : Type 0 where
  place : ℕ
  within : s ≤ place
  top : IsTop place w

next_bit : (c i : ℕ) → bit_at c (suc i) ≡ bit_at (c / 2) i
next_bit c i = ap (λ x. x % 2) (ap (λ x. c / 2 ^ x) (sym (one-add i)) ∙ sym (shr-shr c 1 i))

sum_top : (xs : List ℕ) (s c : ℕ) → TopsFrom s xs → NoneChosen xs c ⊎ HasTopFrom s (combination xs c)
sum_top [] s c h = inl (record { empty = refl; none = λ i ne. absurd (ne refl) })
sum_top (r ∷ rs) s c h = elim (sum_top rs (suc s) (c / 2) (λ j. subst (λ (n : ℕ). (get_or rs j 0 ≡ 0) ⊎ IsTop n (get_or rs j 0)) (moved j) (h (suc j)))) [
  | inr high ↦ inr (record { place = high.place; within = omega (arith, high.within); top = top_xor high.place (c % 2 * r) (combination rs (c / 2)) (lt_of_lt_of_le (bit_row (c % 2) (omega arith)) (pow_mono high.within)) high.top })
  | inl low ↦ by_bit low (bit_cases (c % 2) (omega arith)) (h 0)
]
  where
    moved : (j : ℕ) → s + suc j ≡ suc s + j
    moved j = omega arith

    row_small : (r ≡ 0) ⊎ IsTop (s + 0) r → r < 2 ^ suc s
    row_small (inl z) = rw (z) (pow_pos (suc s))
    row_small (inr top) = subst (λ (n : ℕ). r < 2 ^ suc n) (add-zero s) top.high

    bit_row : (b : ℕ) → b < 2 → b * r < 2 ^ suc s
    bit_row zero l = rw (zero-mul) (pow_pos (suc s))
    bit_row (suc zero) l = rw (one-mul) (row_small (h 0))
    bit_row (suc (suc b)) l = absurd (omega arith)

    by_bit : NoneChosen rs (c / 2) → (c % 2 ≡ 0) ⊎ (c % 2 ≡ 1) → (r ≡ 0) ⊎ IsTop (s + 0) r → NoneChosen (r ∷ rs) c ⊎ HasTopFrom s (combination (r ∷ rs) c)
    by_bit low (inl z) row = inl (record {
      empty = ap₂ bit_xor (ap (λ x. x * r) z ∙ zero-mul r) low.empty ∙ xor_self 0;
      none = at;
    })
      where
        at : (i : ℕ) → get_or (r ∷ rs) i 0 ≢ 0 → bit_at c i ≡ 0
        at zero ne = ap (λ x. x % 2) (div-one c) ∙ z
        at (suc i) ne = next_bit c i ∙ low.none i ne
    by_bit low (inr o) (inl z) = inl (record {
      empty = ap₂ bit_xor (ap₂ (λ x y. x * y) o z) low.empty ∙ xor_self 0;
      none = at;
    })
      where
        at : (i : ℕ) → get_or (r ∷ rs) i 0 ≢ 0 → bit_at c i ≡ 0
        at zero ne = absurd (ne z)
        at (suc i) ne = next_bit c i ∙ low.none i ne
    by_bit low (inr o) (inr top) = inr (record {
      place = s;
      within = omega arith;
      top = subst (IsTop s) (sym (ap₂ bit_xor (ap (λ x. x * r) o ∙ one-mul r) low.empty ∙ xor_zero_r r)) (subst (λ (n : ℕ). IsTop n r) (add-zero s) top);
    })

-- ---- the whole kernel
span_of_kernel : (rows vectors : List ℕ) → IsKernelSoFar rows vectors (length rows) → (m v : ℕ) → m ≤ length rows → v < 2 ^ m → combination rows v ≡ 0 → InSpan vectors v
span_of_kernel rows vectors k zero v le h z = let none : v ≡ 0 = omega arith in rw (none) (span_zero vectors)
span_of_kernel rows vectors k (suc m) v le h z = elim (cases_lt v (2 ^ m)) [
  | inl less ↦ span_of_kernel rows vectors k m v (omega arith) less z
  | inr more ↦ with_top (record { low = more; high = h }) (span_of_kernel rows vectors k m (bit_xor v (get_or vectors m 0)) (omega arith))
]
  where
    with_top : IsTop m v → (bit_xor v (get_or vectors m 0) < 2 ^ m → combination rows (bit_xor v (get_or vectors m 0)) ≡ 0 → InSpan vectors (bit_xor v (get_or vectors m 0))) → InSpan vectors v
    with_top top below =
        let there : IsTop m (get_or vectors m 0) = k.complete v m le z top in
        let p : InSpan vectors (bit_xor v (get_or vectors m 0)) = below (tops_cancel m v (get_or vectors m 0) top there)
        (combination-xor rows v (get_or vectors m 0) ∙ ap₂ bit_xor z (k.zero_sum m) ∙ xor_self 0) in
        let q : InSpan vectors (bit_xor (bit_xor v (get_or vectors m 0)) (get_or vectors m 0)) = span_xor vectors (bit_xor v (get_or vectors m 0)) (get_or vectors m 0) p (span_item vectors m) in
        record { choice = q.choice; is = q.is ∙ xor_assoc v (get_or vectors m 0) (get_or vectors m 0) ∙ ap (bit_xor v) (xor_self (get_or vectors m 0)) ∙ xor_zero_r v }

pub kernel_end : (rows vectors : List ℕ) → IsKernelSoFar rows vectors (length rows) → IsKernel rows vectors
kernel_end rows vectors k = record {
  words = words;
  inside = k.zero_sum;
  independent = λ c i z ne. elim (sum_top vectors 0 c (λ j. subst (λ (n : ℕ). (get_or vectors j 0 ≡ 0) ⊎ IsTop n (get_or vectors j 0)) (self_zero_plus j) (k.tops j))) [
    | inl low ↦ low.none i ne
    | inr high ↦ absurd (not_zero high.place (combination vectors c) high.top z)
  ];
  spans = λ v h z. span_of_kernel rows vectors k (length rows) v (omega arith) h z;
}
  where
    not_zero : (t w : ℕ) → IsTop t w → w ≡ 0 → ⊥
    not_zero t w top z = let low = top.low in omega (arith, pow_pos t)

    words : (i : ℕ) → get_or vectors i 0 < 2 ^ length rows
    words i = elim (cases_lt i (length rows)) [
      | inl less ↦ elim (k.tops i) [
        | inl z ↦ rw (z) (pow_pos (length rows))
        | inr top ↦ lt_of_lt_of_le top.high (pow_mono less)
      ]
      | inr more ↦ rw (k.later i more) (pow_pos (length rows))
    ]

-- ---- the least solution
sum_in_kernel : (rows vectors : List ℕ) → ((t : ℕ) → combination rows (get_or vectors t 0) ≡ 0) → (c : ℕ) → combination rows (combination vectors c) ≡ 0
sum_in_kernel rows [] h c = combination_zero rows
sum_in_kernel rows (v ∷ vs) h c =
    combination-xor rows (c % 2 * v) (combination vs (c / 2))
    ∙ ap₂ bit_xor (bit_word (c % 2) (omega arith)) (sum_in_kernel rows vs (λ t. h (suc t)) (c / 2)) ∙ xor_self 0
  where
    bit_word : (b : ℕ) → b < 2 → combination rows (b * v) ≡ 0
    bit_word zero l = ap (combination rows) (zero-mul v) ∙ combination_zero rows
    bit_word (suc zero) l = ap (combination rows) (one-mul v) ∙ h 0
    bit_word (suc (suc b)) l = absurd (omega arith)

-- a number is the less of two where it has a 0 at the highest bit in which they differ
less_by_top : (t a x : ℕ) → IsTop t x → bit_at a t ≡ 0 → a ≤ bit_xor a x
less_by_top t a x top low =
    ordered (a / 2 ^ t) (a % 2 ^ t) a (bit_xor a x / 2 ^ t) (bit_xor a x % 2 ^ t) (bit_xor a x) (2 ^ t) (shr_split a t) (shr_split (bit_xor a x) t) (mod-lt a (pow_pos t)) next
  where
    one : x / 2 ^ t ≡ 1
    one = div-eq_of_lt-le {k = 1} (2 ^ t) (omega (arith, top.low)) (omega (arith, top.high, pow-suc 2 t))

    raised : (q : ℕ) → q % 2 ≡ 0 → bit_xor q 1 ≡ suc q
    raised q e = let half : q / 2 * 2 ≡ q = omega arith in ap (λ y. bit_xor y 1) (sym half) ∙ xor_shifted (q / 2) 1 1 (omega arith) ∙ ap (λ y. y + 1) half ∙ add-one q

    next : bit_xor a x / 2 ^ t ≡ suc (a / 2 ^ t)
    next = xor_shr a x t ∙ ap (bit_xor (a / 2 ^ t)) one ∙ raised (a / 2 ^ t) low

    ordered : (q r a p s b d : ℕ) → q * d + r ≡ a → p * d + s ≡ b → r < d → p ≡ suc q → a ≤ b
    ordered q r a p s b d e f l is = let g : suc q * d + s ≡ b = rw (is) at f in let h : suc q * d ≡ q * d + d = suc-mul q d in omega arith

module _ (rows pivots choices vectors : List ℕ) (r : ℕ) (k : IsRankSoFar rows pivots (length rows) r) (a : AreChoices rows pivots choices) (same : length choices ≡ length pivots) (kernel : IsKernelSoFar rows vectors (length rows)) (w left used : ℕ) (d : IsCleared pivots w left used 0) where
  -- what is left tells that there is no solution
  pub no_solution : left < 2 ^ 64 → left ≢ 0 → InSpan rows w → ⊥
  no_solution small ne p =
      let top = has_top 64 left small ne in
      nothing_left rows pivots (length rows) r w left used top.place k d top.top (span_trans rows k.basis w k.spans p)

  module _ (none : left ≡ 0) where
    pub solution : combination rows (combination choices used) ≡ w
    solution = choices_make rows pivots choices a same used ∙ d.within ∙ ap (bit_xor w) none ∙ xor_zero_r w

    pub least_solution : (v taken : ℕ) → IsCleared vectors (combination choices used) v taken 0 → IsLeastSolution rows w v
    least_solution v taken f = record {
      word = below;
      solves = v_solves;
      least = λ u h e. least u h e;
    }
      where
        v_is : bit_xor (combination choices used) (combination vectors taken) ≡ v
        v_is = ap (bit_xor (combination choices used)) f.within ∙ xor_cancel (combination choices used) v

        below : v < 2 ^ length rows
        below = rw (sym v_is) (xor_lt (length rows) (combination choices used) (combination vectors taken) (choices_short rows pivots choices a used) (combination_below vectors (length rows) taken (λ i l. (kernel_end rows vectors kernel).words i)))

        v_solves : combination rows v ≡ w
        v_solves = ap (combination rows) (sym v_is) ∙ combination-xor rows (combination choices used) (combination vectors taken) ∙ ap₂ bit_xor solution (sum_in_kernel rows vectors kernel.zero_sum taken) ∙ xor_zero_r w

        least : (u : ℕ) → u < 2 ^ length rows → combination rows u ≡ w → v ≤ u
        least u h e = elim (cases_eq (bit_xor v u) 0) [
          | inl zero_sum ↦ let equal : v ≡ u = xor_same v u zero_sum in omega arith
          | inr ne ↦ by_top (has_top (length rows) (bit_xor v u) (xor_lt (length rows) v u below h) ne)
        ]
          where
            by_top : HasTop (bit_xor v u) → v ≤ u
            by_top t = subst (λ (x : ℕ). v ≤ x) (xor_cancel v u) (less_by_top t.place v (bit_xor v u) t.top
                (f.cleared t.place (omega arith) (kernel.complete (bit_xor v u) t.place (within t.place t.top) (combination-xor rows v u ∙ ap₂ bit_xor v_solves e ∙ xor_self w) t.top)))
              where
                within : (t : ℕ) → IsTop t (bit_xor v u) → t < length rows
                within t top = elim (cases_lt t (length rows)) [
                  | inl less ↦ less
                  | inr more ↦ absurd (clash (pow_mono more) (xor_lt (length rows) v u below h))
                ]
                  where
                    clash : 2 ^ length rows ≤ 2 ^ t → bit_xor v u < 2 ^ length rows → ⊥
                    clash le less = let low = top.low in omega arith
