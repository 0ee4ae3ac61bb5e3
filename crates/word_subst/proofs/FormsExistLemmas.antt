-- Each bit of a word has a linear form: its coefficients are the element of the dual basis, squared again and again.
use Rattle.std.proofs.Common.{◌≡◌, ◌∙◌, sym, refl, subst, ℕ, zero, suc, ◌<◌, ◌≤◌, ◌+◌, ◌^◌, List, [], ◌∷◌, ◌++◌, length, Some, arith}
use Rattle.std.specs.Prelude.{slice_get, slice_index}
use Rattle.gf_field.specs.Field.{HasNoZeroDivisors}
use Rattle.gf_field.specs.Ring.{IsRing}
use Rattle.gf_field.specs.Trace.{frobenius}
use Rattle.gf_basis.specs.Basis.{first_values}
use Rattle.gf_basis.specs.Dual.{AreDual}
use Rattle.gf_basis.proofs.BasisLaws.{linear_bit}
use Rattle.gf_basis.proofs.CodeLaws.{get_or-first_values}
use Rattle.poly_mixed.proofs.FieldLaws.{field_of}
use Rattle.poly_mixed.specs.Sum.{with_coefficient}
use Rattle.stage_model.proofs.WordBitLemmas.{whole_value}
use Rattle.poly_mixed.proofs.SharedLemmas.{frobenius_in}
use Rattle.word_subst.specs.Forms.{IsForm, AreForms}
use Rattle.word_subst.specs.Univariate.{Powers}
use Rattle.word_subst.proofs.FormListLemmas.{IsPartForm, AreFirst, no_power, next_power, one_more}

module _ (k : ℕ) (mul : ℕ → ℕ → ℕ) (ring : IsRing k mul) (field : HasNoZeroDivisors k mul) (elements duals : List ℕ) (size : length elements ≡ k) (dual : AreDual k mul elements duals) where
  -- the coefficients of the form of a bit
  abbrev coefficients : ℕ → List ℕ
  coefficients i = first_values k (λ j. frobenius mul j (slice_index duals i))

  coefficient_is : (i j : ℕ) → j < k → slice_index (coefficients i) j ≡ frobenius mul j (slice_index duals i)
  coefficient_is i j less = get_or-first_values k (λ j. frobenius mul j (slice_index duals i)) j less

  part_form : (i n : ℕ) → i < k → n ≤ k → (us : Powers) × IsPartForm k mul (coefficients i) n us
  part_form i zero inside most = ([], no_power k mul (coefficients i))
  part_form i (suc n) inside most =
      let before = part_form i n inside (omega arith) in
      let less : n < k = omega arith in
      let c : ℕ = slice_index (coefficients i) n in
      let B : ℕ → Type 0 = λ x. x < 2 ^ k in
      let in_field = subst B (sym (coefficient_is i n less)) (frobenius_in k mul n (slice_index duals i) ring field (dual.inside i (omega (arith, inside, dual.size)))) in
      let new : Powers = before.0 ++ with_coefficient (2 ^ n) c [] in
      let up : n + 1 ≡ suc n = omega arith in
      let P : ℕ → Type 0 = λ m. IsPartForm k mul (coefficients i) m new in
      (new, subst P up (next_power (field_of k mul ring field) (coefficients i) n (2 ^ n) c before.0 new less refl refl in_field refl before.1))

  form_of : (i : ℕ) → i < k → (us : Powers) × IsForm k mul elements i us
  form_of i inside =
      let whole = part_form i k inside (omega arith) in (
        whole.0,
        record {
          univariate = whole.1.univariate;
          linear = whole.1.is_linear;
          values = λ x d at bits. whole.1.values x at ∙ (whole_value k mul (coefficients i) x ring at ∙ linear_bit k mul ring field elements duals size dual i x d (coefficients i) inside (coefficient_is i) bits);
        },
      )

  first_forms : (n : ℕ) → n ≤ k → (forms : List Powers) × AreFirst k mul elements n forms
  first_forms zero most = ([], record { long = refl; each = λ place form got. absurd (none place form got) })
    where
      none : (place : ℕ) (form : Powers) → slice_get [] place ≡ Some form → ⊥
      none place form got = cc
  first_forms (suc n) most =
      let before = first_forms n (omega arith) in
      let next = form_of n (omega arith) in
      let new : List Powers = before.0 ++ next.0 ∷ [] in
      let up : n + 1 ≡ suc n = omega arith in
      let P : ℕ → Type 0 = λ m. AreFirst k mul elements m new in
      (new, subst P up (one_more k mul elements n before.0 new next.0 refl before.1 next.1))

  -- there are forms of all bits
  pub forms_exist : (forms : List Powers) × AreForms k mul elements forms
  forms_exist =
      let all = first_forms k (omega arith) in
      (all.0, record { long = all.1.long; each = all.1.each })
