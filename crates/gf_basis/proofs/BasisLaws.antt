-- k independent elements are a basis, and a basis is independent; the dual basis, its bits and its linear forms.
use Rattle.std.proofs.Common.{◌≡◌, ℕ, sym, ◌∙◌, ap, ap₂, ◌<◌, ◌≤◌, ◌^◌, ◌%◌, arith, pow_pos, subst, List, length, get_or, take}
use Rattle.std.specs.Prelude.{bit_xor, slice_index}
use Rattle.std.specs.Int.{bit_at}
use Rattle.std.specs.Int.Bits.{xor_self, xor_lt}
use Rattle.std.proofs.lemmas.List.{ext_get_or, get_or-take, length-take-le}
use Rattle.std.proofs.lemmas.Nat.{pow_below}
use Rattle.std.proofs.lemmas.Nat.Bits.{bit_at-pow_same, bit_at-pow_other}
use native.Mathlib.Nat.{mod-eq_of_lt}
use Rattle.lists.specs.laws.XorLaws.{xor_same}
use Rattle.gf_field.specs.Ring.{IsRing}
use Rattle.gf_field.specs.Field.{HasNoZeroDivisors}
use Rattle.gf_field.specs.Element.{AreElements}
use Rattle.gf_field.specs.Trace.{trace, frobenius}
use Rattle.gf_field.specs.laws.TraceLaws.{frobenius-mul, trace_is_sum}
use Rattle.gf_field.specs.laws.PigeonholeLaws.{FoundAt}
use Rattle.irreducible.specs.Span.{combination, IsIndependent}
use Rattle.irreducible.specs.Matrix.{AreInverse}
use Rattle.irreducible.specs.laws.SpanLaws.{combination_zero, combination_below}
use Rattle.irreducible.specs.laws.AdditiveLaws.{IsAdditive-self, IsAdditive-combination, additive-combination}
use Rattle.irreducible.proofs.InverseMatrixLaws.{sums_reach, sums_apart}
use Rattle.gf_basis.specs.Basis.{AreBits, HasOnlyBits, IsBasis, AreIndependentLists}
use Rattle.gf_basis.specs.Dual.{AreDual, linear_value}
use Rattle.gf_basis.specs.private.TraceWord.{trace_word}
use Rattle.gf_basis.specs.private.Coordinates.{AreCoordinates}
use Rattle.gf_basis.proofs.TraceWordLaws.{IsAdditive-trace_word, bit_at-trace_word, trace_word_unit, nondegenerate}
use Rattle.gf_field.proofs.SharedLemmas.{same_sum}

-- ---- independent lists of k elements are the bases
only_bits : (bs : List ℕ) (x : ℕ) → IsIndependent bs → FoundAt (combination bs) (2 ^ length bs) x → HasOnlyBits bs x
only_bits bs x free w = record {
  choice = w.at;
  chosen = record { short = w.below; is = w.is };
  only = λ bits a. sums_apart bs free bits w.at a.short w.below (a.is ∙ sym w.is);
}

pub IsBasis-from_independent : (k : ℕ) (bs : List ℕ) → length bs ≡ k → AreElements k bs → IsIndependent bs → IsBasis k bs
IsBasis-from_independent k bs size inside free = record {
  size = size;
  inside = inside;
  sums = λ x h. only_bits bs x free (sums_reach bs (λ i l. rw (size) (inside i l)) free x (rw (size) h));
}

pub IsIndependent-from_basis : (k : ℕ) (bs : List ℕ) → IsBasis k bs → IsIndependent bs
IsIndependent-from_basis k bs basis = record { only_zero = λ c h e. at (basis.sums 0 (pow_pos k)) c h e }
  where
    at : HasOnlyBits bs 0 → (c : ℕ) → c < 2 ^ length bs → combination bs c ≡ 0 → c ≡ 0
    at o c h e = o.only c (record { short = h; is = e }) ∙ sym (o.only 0 (record { short = pow_pos (length bs); is = combination_zero bs }))

pub AreIndependentLists-all : (k : ℕ) → AreIndependentLists k
AreIndependentLists-all k list = (
  λ basis. record { size = basis.size; inside = basis.inside; free = IsIndependent-from_basis k list basis },
  λ l. IsBasis-from_independent k list l.size l.inside l.free,
)

-- a row of the inverse matrix has the bits of a power of 2
pub AreBits-inverse : (bs rows : List ℕ) (i r : ℕ) → AreInverse bs rows → i < length bs → r ≡ combination rows (2 ^ i) → AreBits bs (2 ^ i) r
AreBits-inverse bs rows i r inverse h is = record {
  short = rw (is, sym inverse.size) (combination_below rows (length rows) (2 ^ i) inverse.square);
  is = ap (combination bs) is ∙ inverse.after (2 ^ i) (pow_below i (length bs) h);
}

-- the bits of an element are the sum of those of the powers of 2
pub AreBits-coordinates : (bs rows : List ℕ) (x : ℕ) → length rows ≡ length bs → AreCoordinates bs rows → x < 2 ^ length bs → AreBits bs x (combination rows x)
AreBits-coordinates bs rows x size are h = record {
  short = combination_below rows (length bs) x (λ i l. (are i (omega (arith, size))).short);
  is = additive-combination rows (combination bs) (λ v. v) (IsAdditive-combination bs) IsAdditive-self (λ i l. (are i (omega (arith, size))).is) x ∙ ap (λ n. x % 2 ^ n) size ∙ mod-eq_of_lt h;
}

-- ---- dual bases
module _ (k : ℕ) (mul : ℕ → ℕ → ℕ) (ring : IsRing k mul) (field : HasNoZeroDivisors k mul) where
  module _ (bs ds : List ℕ) (size : length bs ≡ k) where
    pub AreDual-from_words : length ds ≡ k → AreElements k ds → ((i : ℕ) → i < k → trace_word mul k bs (get_or ds i 0) ≡ 2 ^ i) → AreDual k mul bs ds
    AreDual-from_words dual_size inside at = record {
      size = dual_size;
      inside = inside;
      same = λ i h. bit i i h h ∙ bit_at-pow_same i;
      other = λ i j hi hj ne. bit i j hi hj ∙ bit_at-pow_other i j (λ e. ne (sym e));
    }
      where
        bit : (i j : ℕ) → i < k → j < k → trace mul k (mul (get_or ds i 0) (get_or bs j 0)) ≡ bit_at (2 ^ i) j
        bit i j hi hj = ap (trace mul k) (ring.comm (get_or ds i 0) (get_or bs j 0)) ∙ sym (bit_at-trace_word k mul ring field bs (get_or ds i 0) j (rw (size) hj)) ∙ ap (λ v. bit_at v j) (at i hi)

  -- the duals as the code keeps them
  pub AreDual-from_array : (bs all : List ℕ) → length bs ≡ k → length bs ≤ length all → ((j : ℕ) → j < length bs → trace_word mul k bs (get_or all j 0) ≡ 2 ^ j) → ((j : ℕ) → j < length bs → get_or all j 0 < 2 ^ k) → AreDual k mul bs (take (length bs) all)
  AreDual-from_array bs all size room words short =
      AreDual-from_words bs (take (length bs) all) size (count ∙ size)
      (λ i h. rw (taken i (omega (arith, count))) (short i (omega (arith, count))))
      (λ i h. ap (trace_word mul k bs) (taken i (omega arith)) ∙ words i (omega arith))
    where
      count : length (take (length bs) all) ≡ length bs
      count = length-take-le (length bs) all room

      taken : (i : ℕ) → i < length bs → get_or (take (length bs) all) i 0 ≡ get_or all i 0
      taken i h = get_or-take (length bs) all i 0 h

  module _ (bs ds : List ℕ) (size : length bs ≡ k) (dual : AreDual k mul bs ds) where
    -- the traces with the dual basis are the bits
    pub trace_word-bits : (b : ℕ) → b < 2 ^ length bs → trace_word mul k ds (combination bs b) ≡ b
    trace_word-bits b h =
        additive-combination bs (trace_word mul k ds) (λ v. v) (IsAdditive-trace_word k mul ring field ds) IsAdditive-self unit b ∙ mod-eq_of_lt h
      where
        unit : (j : ℕ) → j < length bs → trace_word mul k ds (get_or bs j 0) ≡ 2 ^ j
        unit j l =
            let below : j < k = omega arith in
            trace_word_unit k mul ring field ds (get_or bs j 0) j (rw (dual.size) below) (dual.same j below) (λ i m ne. dual.other i j (let s : length ds ≡ k = dual.size in omega arith) below ne)

    pub AreBits-traces : IsBasis k bs → (x : ℕ) → x < 2 ^ k → AreBits bs x (trace_word mul k ds x)
    AreBits-traces basis x h = at (basis.sums x h)
      where
        at : HasOnlyBits bs x → AreBits bs x (trace_word mul k ds x)
        at o = subst (AreBits bs x) (sym (trace_word-bits o.choice o.chosen.short) ∙ ap (trace_word mul k ds) o.chosen.is) o.chosen

    -- the linear form of bit i
    pub linear_bit : (i x bits : ℕ) (coefficients : List ℕ) → i < k → ((j : ℕ) → j < k → slice_index coefficients j ≡ frobenius mul j (slice_index ds i)) → AreBits bs x bits → linear_value k mul coefficients x ≡ bit_at bits i
    linear_bit i x bits cs h powers a =
        same_sum k (λ j. mul (slice_index cs j) (frobenius mul j x)) (λ j. frobenius mul j (mul (slice_index ds i) x))
        (λ j l. ap (λ c. mul c (frobenius mul j x)) (powers j l) ∙ sym (frobenius-mul k mul ring j (slice_index ds i) x))
        ∙ sym (trace_is_sum mul k (mul (slice_index ds i) x))
        ∙ sym (bit_at-trace_word k mul ring field ds x i (rw (dual.size) h))
        ∙ ap (λ v. bit_at v i) (ap (trace_word mul k ds) (sym a.is) ∙ trace_word-bits bits a.short)

  -- the words of a dual
  dual_word : (bs ds : List ℕ) → length bs ≡ k → AreDual k mul bs ds → (i : ℕ) → i < k → trace_word mul k bs (get_or ds i 0) ≡ 2 ^ i
  dual_word bs ds size dual i h =
      trace_word_unit k mul ring field bs (get_or ds i 0) i (rw (size) h) (ap (trace mul k) (ring.comm (get_or bs i 0) (get_or ds i 0)) ∙ dual.same i h)
      (λ j l ne. ap (trace mul k) (ring.comm (get_or bs j 0) (get_or ds i 0)) ∙ dual.other i j h (omega arith) (λ e. ne (sym e)))

  -- a basis has one dual
  pub dual_unique : (bs ds es : List ℕ) → IsBasis k bs → AreDual k mul bs ds → AreDual k mul bs es → ds ≡ es
  dual_unique bs ds es basis p q = ext_get_or 0 ds es (p.size ∙ sym q.size) (λ i h. at i (let s : length ds ≡ k = p.size in omega arith))
    where
      at : (i : ℕ) → i < k → get_or ds i 0 ≡ get_or es i 0
      at i h = xor_same (get_or ds i 0) (get_or es i 0) (nondegenerate k mul ring field bs basis.size basis.inside (IsIndependent-from_basis k bs basis) (bit_xor (get_or ds i 0) (get_or es i 0))
          (xor_lt k (get_or ds i 0) (get_or es i 0) (p.inside i (rw (p.size) h)) (q.inside i (rw (q.size) h)))
          ((IsAdditive-trace_word k mul ring field bs).sum (get_or ds i 0) (get_or es i 0) ∙ ap₂ bit_xor (dual_word bs ds basis.size p i h) (dual_word bs es basis.size q i h) ∙ xor_self (2 ^ i)))
