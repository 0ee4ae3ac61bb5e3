-- Two polynomials in the bits of a circuit's words are equal where they have the same values at the bits of all inputs.
use Rattle.std.proofs.Common.{◌≡◌, ◌⊎◌, ◌∙◌, ap, sym, refl, inl, inr, ℕ, zero, suc, ◌+◌, List, [], ◌∷◌, length, Some, arith}
use Rattle.std.specs.Prelude.{slice_get}
use Rattle.std.specs.declared.cmp.Ordering.TheVariants.{Less, Equal, Greater}
use Rattle.lists.specs.laws.ReadLaws.{get_below}
use Rattle.lists.specs.laws.XorLaws.{xor_same}
use Rattle.poly_mixed.specs.Monomial.{Monomial, text_cmp}
use Rattle.poly_mixed.specs.Polynomial.{Terms, coefficient, value}
use Rattle.poly_mixed.specs.Sum.{plus}
use Rattle.poly_mixed.proofs.FieldLaws.{IsField, field_of}
use Rattle.poly_mixed.proofs.ValueLemmas.{coefficient-plus, reduced_plus, same_map, value-plus}
use Rattle.circuit_model.specs.Circuit.{Circuit}
use Rattle.circuit_model.specs.Differing.{IsDifferingInput}
use Rattle.circuit_model.specs.Ones.{AreOnes, ones_cmp}
use Rattle.circuit_model.specs.WellFormed.{IsWellFormed}
use Rattle.spec_compare.specs.ValueAt.{at_ones, IsInInputBits, IsValueAt}
use Rattle.spec_compare.specs.private.First.{IsFirstTerm, IsFirstTo, IsSumOf}
use Rattle.spec_compare.specs.private.InputOf.{inputs_from}
use Rattle.spec_compare.proofs.ComparedLemmas.{differing}
use Rattle.spec_compare.proofs.InputLemmas.{one_list}
use Rattle.spec_compare.proofs.StepLemmas.{first_of_all, next_after, next_before}

-- ---- a first term

first_from : (ts : Terms) (n i best : ℕ) (t : Monomial × ℕ) → i + n ≡ length ts → slice_get ts best ≡ Some t → IsFirstTo ts i best → (u : Monomial × ℕ) × IsFirstTerm ts u
first_from ts zero i best t long at first = (t, first_of_all ts i best t (omega (arith, long)) at first)
first_from ts (suc n) i best t long at first =
    let next = get_below ts i (omega (arith, long)) in
    elim (ones_cmp t.0.bits next.0.0.bits) as (λ o. ones_cmp t.0.bits next.0.0.bits ≡ o → (u : Monomial × ℕ) × IsFirstTerm ts u) [
      | Less ↦ λ low. first_from ts n (i + 1) best t (omega (arith, long)) at (next_after ts i best t next.0 at next.1 (λ up. let bad : Less ≡ Greater = sym low ∙ up in cc) first)
      | Equal ↦ λ tie. first_from ts n (i + 1) best t (omega (arith, long)) at (next_after ts i best t next.0 at next.1 (λ up. let bad : Equal ≡ Greater = sym tie ∙ up in cc) first)
      | Greater ↦ λ up. first_from ts n (i + 1) i next.0 (omega (arith, long)) next.1 (next_before ts i best t next.0 at next.1 up first)
    ] refl

some_first : (ts : Terms) → (ts ≡ []) ⊎ ((t : Monomial × ℕ) × IsFirstTerm ts t)
some_first [] = inl refl
some_first (t ∷ ts) = inr (first_from (t ∷ ts) (length (t ∷ ts)) 0 0 t (omega arith) refl (λ j u v less at got. absurd (omega (arith, less))))

-- ---- the sum of both has no terms: its first term would be an input where they differ

module _ (c : Circuit) (well : IsWellFormed c) (ts us : Terms) (left : IsInInputBits c ts) (right : IsInInputBits c us) (same : (xs ones : List ℕ) → AreOnes c xs ones → value c.product (at_ones ones) ts ≡ value c.product (at_ones ones) us) where
  f : IsField c.k c.product
  f = field_of c.k c.product well.ring well.no_zero_divisors

  sum_is : IsSumOf c.k c.product ts us (plus text_cmp ts us)
  sum_is = record {
    reduced = reduced_plus f ts us left.reduced right.reduced;
    terms = refl;
    values = λ p at. value-plus f p at ts us left.reduced.terms right.reduced.terms;
  }

  nowhere_apart : (xs : List ℕ) (l r : ℕ) → IsDifferingInput c (IsValueAt c ts) (IsValueAt c us) xs l r → ⊥
  nowhere_apart xs l r d =
      let p = d.differ.first in
      let q = d.differ.second in
      d.differ.apart (sym p.value_is ∙ (same xs p.ones p.are ∙ (ap (λ ones. value c.product (at_ones ones) us) (one_list c xs p.ones q.ones p.are q.are) ∙ q.value_is)))

  equal : plus text_cmp ts us ≡ [] → ts ≡ us
  equal none =
      same_map ts us left.reduced.is_map right.reduced.is_map
      (λ m. xor_same (coefficient ts m) (coefficient us m) (sym (coefficient-plus ts us m left.reduced.is_map right.reduced.is_map) ∙ ap (λ (vs : Terms). coefficient vs m) none))

  pub same_in_bits : ts ≡ us
  same_in_bits = elim (some_first (plus text_cmp ts us)) [
    | inl none ↦ equal none
    | inr found ↦
        let bits = found.0.0.bits in
        absurd (nowhere_apart (inputs_from c.k bits 0 c.words) (value c.product (at_ones bits) ts) (value c.product (at_ones bits) us) (differing c well ts us (plus text_cmp ts us) left right sum_is found.0 found.1))
  ]
