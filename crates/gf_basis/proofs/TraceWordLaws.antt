-- Traces as words, and that the matrix of traces is independent exactly where the elements are.
use Rattle.std.proofs.Common.{◌≡◌, ◌≢◌, ℕ, zero, suc, refl, sym, ◌∙◌, ap, ap₂, ◌<◌, ◌≤◌, ◌^◌, ◌+◌, ◌*◌, ◌%◌, inl, inr, arith, pow-suc, subst, List, [], ◌∷◌, length, get_or}
use Rattle.std.specs.Prelude.{bit_xor}
use Rattle.std.specs.Int.{bit_at}
use Rattle.std.specs.Int.Bits.{xor_self, xor_block}
use Rattle.std.proofs.lemmas.Bool.{cases_eq}
use Rattle.std.proofs.lemmas.Nat.{pow_below}
use Rattle.std.proofs.lemmas.Nat.Bits.{bit_at-pow_same, bit_at-pow_other, bit_at-zero, bit_at-suc, bit_at_lowest, same_from_bits_below}
use native.Mathlib.Nat.{mod-eq_of_lt}
use Rattle.lists.specs.laws.NumberLaws.{lowest_of, rest_of_bits}
use Rattle.gf_field.specs.Ring.{IsRing}
use Rattle.gf_field.specs.Field.{HasNoZeroDivisors}
use Rattle.gf_field.specs.Element.{AreElements}
use Rattle.gf_field.specs.laws.RingLaws.{distrib_left, mul_one}
use Rattle.gf_field.specs.laws.FieldLaws.{HasInverse, inverse_of, IsFieldBySquares-from}
use Rattle.gf_field.specs.Trace.{trace, IsTrace}
use Rattle.gf_field.specs.laws.TraceLaws.{trace-xor, trace_at_most_one, IsTrace-from_field}
use Rattle.gf_field.specs.laws.PigeonholeLaws.{FoundAt}
use Rattle.irreducible.specs.Span.{combination, IsIndependent}
use Rattle.irreducible.specs.Matrix.{IsSquare, AreInverse}
use Rattle.irreducible.specs.laws.SpanLaws.{combination_unit, combination_below}
use Rattle.irreducible.specs.laws.AdditiveLaws.{IsAdditive, IsAdditive-combination, additive_zero, additive-combination}
use Rattle.irreducible.proofs.InverseMatrixLaws.{sums_reach}
use Rattle.gf_basis.specs.private.TraceWord.{trace_word, IsTraceMatrix}

IsAdditive-zero : IsAdditive (λ x. 0)
IsAdditive-zero = record { sum = λ a b. sym (xor_self 0) }

module _ (k : ℕ) (mul : ℕ → ℕ → ℕ) (ring : IsRing k mul) (field : HasNoZeroDivisors k mul) where
  trace_small : (b x : ℕ) → trace mul k (mul b x) < 2
  trace_small b x = let le : trace mul k (mul b x) ≤ 1 = trace_at_most_one k mul ring field (mul b x) (trace mul k (mul b x)) (ring.closed b x) refl in omega arith

  pub IsAdditive-trace_word : (bs : List ℕ) → IsAdditive (trace_word mul k bs)
  IsAdditive-trace_word bs = record { sum = at bs }
    where
      at : (bs : List ℕ) (x y : ℕ) → trace_word mul k bs (bit_xor x y) ≡ bit_xor (trace_word mul k bs x) (trace_word mul k bs y)
      at [] x y = sym (xor_self 0)
      at (b ∷ bs) x y =
          ap₂ (λ p q. p * 2 + q) (at bs x y) (ap (trace mul k) (ring.distrib b x y) ∙ trace-xor k mul ring k (mul b x) (mul b y))
          ∙ sym (xor_block 1 (trace_word mul k bs x) (trace_word mul k bs y) (trace mul k (mul b x)) (trace mul k (mul b y)) (trace_small b x) (trace_small b y))

  pub trace_word_below : (bs : List ℕ) (x : ℕ) → trace_word mul k bs x < 2 ^ length bs
  trace_word_below [] x = omega arith
  trace_word_below (b ∷ bs) x = let h : trace_word mul k bs x < 2 ^ length bs = trace_word_below bs x in let t : trace mul k (mul b x) < 2 = trace_small b x in omega (arith, pow-suc 2 (length bs))

  pub bit_at-trace_word : (bs : List ℕ) (x i : ℕ) → i < length bs → bit_at (trace_word mul k bs x) i ≡ trace mul k (mul (get_or bs i 0) x)
  bit_at-trace_word [] x i h = absurd (omega arith)
  bit_at-trace_word (b ∷ bs) x zero h = bit_at_lowest (trace_word mul k bs x * 2 + trace mul k (mul b x)) ∙ lowest_of (trace_word mul k bs x) (trace mul k (mul b x)) (trace_small b x)
  bit_at-trace_word (b ∷ bs) x (suc i) h =
      bit_at-suc (trace_word mul k bs x * 2 + trace mul k (mul b x)) i
      ∙ ap (λ n. bit_at n i) (rest_of_bits (trace_word mul k bs x) (trace mul k (mul b x)) (trace_small b x)) ∙ bit_at-trace_word bs x i (omega arith)

  -- where the traces are 1 at place j alone, the word is that bit
  pub trace_word_unit : (bs : List ℕ) (x j : ℕ) → j < length bs → trace mul k (mul (get_or bs j 0) x) ≡ 1 → ((i : ℕ) → i < length bs → i ≢ j → trace mul k (mul (get_or bs i 0) x) ≡ 0) → trace_word mul k bs x ≡ 2 ^ j
  trace_word_unit bs x j h same other = same_from_bits_below (length bs) (trace_word mul k bs x) (2 ^ j) (trace_word_below bs x) (pow_below j (length bs) h) (λ i l. bit_at-trace_word bs x i l ∙ elim (cases_eq i j) [
    | inl e ↦ ap (λ n. trace mul k (mul (get_or bs n 0) x)) e ∙ same ∙ sym (ap (bit_at (2 ^ j)) e ∙ bit_at-pow_same j)
    | inr ne ↦ other i l ne ∙ sym (bit_at-pow_other j i ne)
  ])

  IsAdditive-trace_times : (y : ℕ) → IsAdditive (λ x. trace mul k (mul x y))
  IsAdditive-trace_times y = record { sum = λ a b. ap (trace mul k) (distrib_left k mul ring a b y) ∙ trace-xor k mul ring k (mul a y) (mul b y) }

  module _ (bs : List ℕ) (size : length bs ≡ k) (inside : AreElements k bs) where
    pub IsSquare-elements : IsSquare bs
    IsSquare-elements i h = rw (size) (inside i h)

    combination_inside : (c : ℕ) → combination bs c < 2 ^ k
    combination_inside c = combination_below bs k c inside

    -- only 0 has the trace 0 with each of k independent elements
    pub nondegenerate : IsIndependent bs → (y : ℕ) → y < 2 ^ k → trace_word mul k bs y ≡ 0 → y ≡ 0
    nondegenerate free y hy e = elim (cases_eq y 0) [
      | inl z ↦ z
      | inr ne ↦ absurd (clash (inverse_of k mul ring (IsFieldBySquares-from k mul ring field) y hy ne))
    ]
      where
        one : IsTrace k mul
        one = IsTrace-from_field k mul ring field

        none : (b : ℕ) → trace mul k (mul (combination bs b) y) ≡ 0
        none b = additive-combination bs (λ x. trace mul k (mul x y)) (λ x. 0) (IsAdditive-trace_times y) IsAdditive-zero (λ i l. sym (bit_at-trace_word bs y i l) ∙ ap (λ v. bit_at v i) e ∙ bit_at-zero i) b

        back : (v : HasInverse k mul y) → mul (mul one.witness v.inverse) y ≡ one.witness
        back v = ring.assoc one.witness v.inverse y ∙ ap (mul one.witness) (ring.comm v.inverse y ∙ v.is) ∙ mul_one k mul ring one.witness one.element

        differ : ◌≡◌ {A = ℕ} 0 1 → ⊥
        differ h = omega arith

        at : (v : HasInverse k mul y) → FoundAt (combination bs) (2 ^ length bs) (mul one.witness v.inverse) → ⊥
        at v w = differ (sym (none w.at) ∙ ap (λ z. trace mul k (mul z y)) w.is ∙ ap (trace mul k) (back v) ∙ one.not_zero)

        clash : HasInverse k mul y → ⊥
        clash v = at v (sums_reach bs IsSquare-elements free (mul one.witness v.inverse) (rw (size) (ring.closed one.witness v.inverse)))

    module _ (rows : List ℕ) (matrix : IsTraceMatrix mul k bs rows) where
      pub trace_word-combination : (c : ℕ) → trace_word mul k bs (combination bs c) ≡ combination rows (c % 2 ^ length bs)
      trace_word-combination c = additive-combination bs (trace_word mul k bs) (combination rows) (IsAdditive-trace_word bs) (IsAdditive-combination rows) (λ i l. sym (matrix.at i l) ∙ sym (combination_unit rows i)) c

      at_short : (c : ℕ) → c < 2 ^ length bs → trace_word mul k bs (combination bs c) ≡ combination rows c
      at_short c h = trace_word-combination c ∙ ap (combination rows) (mod-eq_of_lt h)

      pub IsIndependent-matrix : IsIndependent bs → IsIndependent rows
      IsIndependent-matrix free = record {
        only_zero = λ c h e. free.only_zero c (wide c h) (nondegenerate free (combination bs c) (combination_inside c) (at_short c (wide c h) ∙ e));
      }
        where
          wide : (c : ℕ) → c < 2 ^ length rows → c < 2 ^ length bs
          wide c h = subst (λ (n : ℕ). c < 2 ^ n) matrix.size h

      pub IsIndependent-from_matrix : IsIndependent rows → IsIndependent bs
      IsIndependent-from_matrix free = record {
        only_zero = λ c h e. free.only_zero c (rw (matrix.size) h) (sym (at_short c h) ∙ ap (trace_word mul k bs) e ∙ additive_zero (trace_word mul k bs) (IsAdditive-trace_word bs));
      }

      -- the dual of element i, by row i of the inverse matrix
      pub trace_word-dual : (inverse : List ℕ) → AreInverse rows inverse → (i : ℕ) → i < length bs → trace_word mul k bs (combination bs (combination inverse (2 ^ i))) ≡ 2 ^ i
      trace_word-dual inverse v i h = at_short (combination inverse (2 ^ i)) short ∙ v.after (2 ^ i) (rw (matrix.size) (pow_below i (length bs) h))
        where
          same_size : length inverse ≡ length bs
          same_size = v.size ∙ matrix.size

          short : combination inverse (2 ^ i) < 2 ^ length bs
          short = subst (λ (n : ℕ). combination inverse (2 ^ i) < 2 ^ n) same_size (combination_below inverse (length inverse) (2 ^ i) v.square)
