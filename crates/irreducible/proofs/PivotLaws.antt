-- The steps of an elimination.
use Rattle.std.proofs.Common.{◌≡◌, ◌≢◌, ℕ, zero, suc, refl, sym, ◌∙◌, ap, ap₂, ◌<◌, ◌≤◌, ◌^◌, ◌+◌, ◌*◌, ◌/◌, ◌%◌, ◌⊎◌, inl, inr, arith, pow_pos, pow-suc, pow_mono, List, [], ◌∷◌, length, get_or, set, lt_of_lt_of_le, get_or-set_same, get_or-set_other, not-suc-le-zero, replicate}
use Rattle.std.specs.Prelude.{bit_xor, slice_index}
use Rattle.std.specs.Int.{bit_at}
use Rattle.std.specs.Int.Bits.{xor_self, xor_lt, xor_shr, xor_zero_l, xor_zero_r, xor_assoc, xor_comm}
use Rattle.std.proofs.lemmas.Bool.{cases_eq, cases_lt}
use Rattle.std.proofs.lemmas.Nat.{shr_split}
use Rattle.std.proofs.lemmas.Nat.Bits.{bit_at_xor, bit_at_above}
use native.Mathlib.Nat.{div-eq_of_lt-le, div-eq_of_lt}
use Rattle.lists.specs.laws.XorLaws.{xor_cancel}
use Rattle.gf_field.proofs.CopyLemmas.{zeros}
use Rattle.irreducible.specs.Span.{combination, InSpan, IsRank}
use Rattle.irreducible.specs.laws.SpanLaws.{combination_zero, combination-xor, combination_unit, span_zero, span_xor, span_first, span_rest, span_split, IsSplit, independent_more, independent_nil, span_item, span_all, span_trans}
use Rattle.irreducible.specs.private.Pivots.{IsTop, ByTop, IsCleared, IsRankSoFar}

-- ---- highest bits
pub top_bit : (t w : ℕ) → IsTop t w → bit_at w t ≡ 1
top_bit t w h = ap (λ x. x % 2) (div-eq_of_lt-le {k = 1} (2 ^ t) (omega (arith, h.low)) (omega (arith, h.high, pow-suc 2 t)))

pub top_above : (t w i : ℕ) → IsTop t w → t < i → bit_at w i ≡ 0
top_above t w i h l = bit_at_above w (suc t) i h.high l

-- a number with a lower highest bit leaves that bit
pub top_xor : (t a b : ℕ) → a < 2 ^ t → IsTop t b → IsTop t (bit_xor a b)
top_xor t a b h k = record { low = whole (bit_xor a b / 2 ^ t) (bit_xor a b % 2 ^ t) (bit_xor a b) (2 ^ t) (shr_split (bit_xor a b) t) one; high = xor_lt (suc t) a b (omega (arith, pow-suc 2 t)) k.high }
  where
    one : bit_xor a b / 2 ^ t ≡ 1
    one = xor_shr a b t ∙ ap₂ bit_xor (div-eq_of_lt h) (div-eq_of_lt-le {k = 1} (2 ^ t) (omega (arith, k.low)) (omega (arith, k.high, pow-suc 2 t))) ∙ xor_zero_l 1

    whole : (q r x p : ℕ) → q * p + r ≡ x → q ≡ 1 → p ≤ x
    whole q r x p e o = let f : 1 * p + r ≡ x = rw (o) at e in omega arith

-- ---- one row reduced
pub reduced_start : (pivots : List ℕ) (row i : ℕ) → row < 2 ^ i → IsCleared pivots row row 0 i
reduced_start pivots row i h = record { within = combination_zero pivots ∙ sym (xor_self row); cleared = λ t le p. bit_at_above row i t h le }

pub reduced_more : (pivots : List ℕ) (row left used i : ℕ) → ByTop pivots → IsCleared pivots row left used (suc i) → bit_at left i ≡ 1 → IsCleared pivots row (bit_xor left (slice_index pivots i)) (bit_xor used (2 ^ i)) i
reduced_more pivots row left used i tops r o = record {
  within = combination-xor pivots used (2 ^ i) ∙ ap₂ bit_xor r.within (combination_unit pivots i) ∙ xor_assoc row left (slice_index pivots i);
  cleared = λ t le p. bit_at_xor left (slice_index pivots i) t ∙ elim (cases_eq t i) [
    | inl e ↦ ap₂ (λ x y. (x + y) % 2) (ap (bit_at left) e ∙ o) (ap (bit_at (slice_index pivots i)) e ∙ top_bit i (slice_index pivots i) (at_i t e p))
    | inr ne ↦ ap₂ (λ x y. (x + y) % 2) (r.cleared t (omega arith) p) (above t (omega arith) (tops i))
  ];
}
  where
    at_i : (t : ℕ) → t ≡ i → IsTop t (slice_index pivots t) → IsTop i (slice_index pivots i)
    at_i t e p = rw (e) at p

    above : (t : ℕ) → i < t → (slice_index pivots i ≡ 0) ⊎ IsTop i (slice_index pivots i) → bit_at (slice_index pivots i) t ≡ 0
    above t l (inl z) = ap (λ x. bit_at x t) z ∙ bit_at_above 0 t t (pow_pos t) (omega arith)
    above t l (inr k) = top_above i (slice_index pivots i) t k l

-- ---- the rank so far
pub rank_start : (rows pivots : List ℕ) → ((t : ℕ) → slice_index pivots t ≡ 0) → IsRankSoFar rows pivots 0 0
rank_start rows pivots none = record {
  basis = [];
  count = refl;
  independent = independent_nil;
  inside = λ c. span_zero rows;
  spans = λ j h. absurd (not-suc-le-zero h);
  pivots_in = λ t. rw (none t) (span_zero []);
  tops = λ t. inl (none t);
  complete = λ w t p h. absurd (clash w t (sym p.is) h);
}
  where
    clash : (w t : ℕ) → w ≡ 0 → IsTop t w → ⊥
    clash w t e h = omega (arith, h.low, pow_pos t)

row_in : (rows pivots : List ℕ) (i r left used : ℕ) (k : IsRankSoFar rows pivots i r) → IsCleared pivots (get_or rows i 0) left used 0 → InSpan k.basis (bit_xor (get_or rows i 0) left)
row_in rows pivots i r left used k d = span_trans pivots k.basis (bit_xor (get_or rows i 0) left) (λ t l. k.pivots_in t) (record { choice = used; is = d.within })

pub rank_kept : (rows pivots : List ℕ) (i r left used : ℕ) → IsRankSoFar rows pivots i r → IsCleared pivots (get_or rows i 0) left used 0 → left ≡ 0 → IsRankSoFar rows pivots (suc i) r
rank_kept rows pivots i r left used k d z = record {
  basis = k.basis;
  count = k.count;
  independent = k.independent;
  inside = k.inside;
  spans = λ j h. elim (cases_eq j i) [
    | inl e ↦ rw (e) (let p : InSpan k.basis (bit_xor (get_or rows i 0) left) = row_in rows pivots i r left used k d in record { choice = p.choice; is = p.is ∙ ap (bit_xor (get_or rows i 0)) z ∙ xor_zero_r (get_or rows i 0) })
    | inr ne ↦ k.spans j (omega arith)
  ];
  pivots_in = k.pivots_in;
  tops = k.tops;
  complete = k.complete;
}

module _ (rows pivots : List ℕ) (i r left used t : ℕ) (k : IsRankSoFar rows pivots i r) (d : IsCleared pivots (get_or rows i 0) left used 0) (top : IsTop t left) (room : t < length pivots) where
  after : List ℕ
  after = set pivots t left

  no_pivot : IsTop t (slice_index pivots t) → ⊥
  no_pivot h = absurd (clash (sym (top_bit t left top) ∙ d.cleared t (omega arith) h))
    where
      clash : ◌≡◌ {A = ℕ} 1 0 → ⊥
      clash e = omega arith

  new : InSpan k.basis left → ⊥
  new p = no_pivot (k.complete left t p top)

  left_in_rows : InSpan rows left
  left_in_rows =
      let p : InSpan k.basis (bit_xor (get_or rows i 0) left) = row_in rows pivots i r left used k d in
      let q : InSpan rows (combination k.basis p.choice) = k.inside p.choice in
      let both : InSpan rows (bit_xor (get_or rows i 0) (combination k.basis p.choice)) = span_xor rows (get_or rows i 0) (combination k.basis p.choice) (span_item rows i) q in
      record { choice = both.choice; is = both.is ∙ ap (bit_xor (get_or rows i 0)) p.is ∙ xor_cancel (get_or rows i 0) left }

  at_same : get_or after t 0 ≡ left
  unfolding after
  at_same = get_or-set_same pivots t left 0 room

  at_other : (s : ℕ) → s ≢ t → get_or after s 0 ≡ get_or pivots s 0
  unfolding after
  at_other s ne = rw get_or-set_other refl

  complete_next : (w s : ℕ) → InSpan (left ∷ k.basis) w → IsTop s w → IsTop s (get_or after s 0)
  complete_next w s p h = elim (cases_eq s t) [
    | inl e ↦ rw (e) (rw at_same top)
    | inr ne ↦ rw (at_other s ne) (old ne (span_split left k.basis w p))
  ]
    where
      old : s ≢ t → IsSplit left k.basis w → IsTop s (get_or pivots s 0)
      old ne q = elim (q.is) [
        | inl e ↦ k.complete q.part s q.within (rw (e) at h)
        | inr e ↦ elim (cases_lt s t) [
          | inl less ↦ absurd (no_pivot (k.complete q.part t q.within (higher q.part e less)))
          | inr more ↦ k.complete q.part s q.within (lower q.part e (omega arith))
        ]
      ]
        where
          part_is : (v : ℕ) → w ≡ bit_xor left v → v ≡ bit_xor w left
          part_is v e = sym (xor_cancel left v) ∙ ap (bit_xor left) (sym e) ∙ xor_comm left w

          below_pow : (u v x : ℕ) → IsTop u x → u < v → x < 2 ^ v
          below_pow u v x m l = lt_of_lt_of_le m.high (pow_mono l)

          higher : (v : ℕ) → w ≡ bit_xor left v → s < t → IsTop t v
          higher v e l = rw (part_is v e) (top_xor t w left (below_pow s t w h l) top)

          lower : (v : ℕ) → w ≡ bit_xor left v → t < s → IsTop s v
          lower v e l = rw (part_is v e, xor_comm w left) (top_xor s left w (below_pow t s left top l) h)

  pub rank_more : IsRankSoFar rows (set pivots t left) (suc i) (suc r)
  unfolding after
  rank_more = record {
    basis = left ∷ k.basis;
    count = ap suc k.count;
    independent = independent_more left k.basis k.independent new;
    inside = span_all (left ∷ k.basis) rows inside_item;
    spans = λ j h. elim (cases_eq j i) [
      | inl e ↦ rw (e) (row_spans)
      | inr ne ↦ span_rest left k.basis (get_or rows j 0) (k.spans j (omega arith))
    ];
    pivots_in = λ s. elim (cases_eq s t) [
      | inl e ↦ rw (e) (rw at_same (span_first left k.basis))
      | inr ne ↦ rw (at_other s ne) (span_rest left k.basis (get_or pivots s 0) (k.pivots_in s))
    ];
    tops = λ s. elim (cases_eq s t) [
      | inl e ↦ inr (rw (e) (rw at_same top))
      | inr ne ↦ rw (at_other s ne) (k.tops s)
    ];
    complete = complete_next;
  }
    where
      inside_item : (j : ℕ) → j < suc (length k.basis) → InSpan rows (get_or (left ∷ k.basis) j 0)
      inside_item zero h = left_in_rows
      inside_item (suc j) h = span_trans k.basis rows (get_or k.basis j 0) (λ l lt. let p : InSpan k.basis (get_or k.basis l 0) = span_item k.basis l in let q : InSpan rows (combination k.basis p.choice) = k.inside p.choice in record { choice = q.choice; is = q.is ∙ p.is }) (span_item k.basis j)

      row_spans : InSpan (left ∷ k.basis) (get_or rows i 0)
      row_spans =
          let p : InSpan (left ∷ k.basis) (bit_xor (get_or rows i 0) left) = span_rest left k.basis (bit_xor (get_or rows i 0) left) (row_in rows pivots i r left used k d) in
          let q : InSpan (left ∷ k.basis) (bit_xor (bit_xor (get_or rows i 0) left) left) = span_xor (left ∷ k.basis) (bit_xor (get_or rows i 0) left) left p (span_first left k.basis) in
          record { choice = q.choice; is = q.is ∙ xor_assoc (get_or rows i 0) left left ∙ ap (bit_xor (get_or rows i 0)) (xor_self left) ∙ xor_zero_r (get_or rows i 0) }

pub rank_end : (rows pivots : List ℕ) (i r : ℕ) → IsRankSoFar rows pivots i r → length rows ≤ i → IsRank rows r
rank_end rows pivots i r k le = record { basis = k.basis; count = k.count; independent = k.independent; inside = k.inside; spans = span_all rows k.basis (λ j h. k.spans j (lt_of_lt_of_le h le)) }

pub rank_none : (rows : List ℕ) → IsRankSoFar rows (replicate 64 0) 0 0
rank_none rows = rank_start rows (replicate {A = ℕ} 64 0) (zeros 64)
