-- The search for the least root among sums of words.
use Rattle.std.proofs.Common.{◌≡◌, ℕ, sym, ◌∙◌, ap, ap₂, ◌≤◌, ◌+◌, ◌*◌, ◌/◌, ◌%◌, ◌⊎◌, inl, inr, arith, subst, one-mul, zero-mul, List, ◌∷◌}
use Rattle.std.specs.Prelude.{bit_xor, Option, None, Some}
use Rattle.std.specs.Int.Bits.{xor_zero_l, xor_assoc}
use Rattle.lists.specs.laws.NumberLaws.{bit_cases}
use Rattle.irreducible.specs.Span.{combination}
use Rattle.gf_iso.specs.private.Search.{IsLeastIn, IsLeastOf, IsLesserOf}

module _ (k : ℕ) (f : ℕ → ℕ) where
  combination_cases : (first : ℕ) (rest : List ℕ) (c : ℕ) → (combination (first ∷ rest) c ≡ combination rest (c / 2)) ⊎ (combination (first ∷ rest) c ≡ bit_xor first (combination rest (c / 2)))
  combination_cases first rest c = elim (bit_cases (c % 2) (omega arith)) [
    | inl z ↦ inl (ap (λ b. bit_xor (b * first) (combination rest (c / 2))) z ∙ ap (λ x. bit_xor x (combination rest (c / 2))) (zero-mul first) ∙ xor_zero_l (combination rest (c / 2)))
    | inr o ↦ inr (ap (λ b. bit_xor (b * first) (combination rest (c / 2))) o ∙ ap (λ x. bit_xor x (combination rest (c / 2))) (one-mul first))
  ]

  -- what holds of the roots without the first word and with it holds of all
  reach : (P : ℕ → Type 0) (first : ℕ) (rest : List ℕ) (start : ℕ)
      → ((c : ℕ) → f (bit_xor start (combination rest c)) ≡ 0 → P (bit_xor start (combination rest c)))
      → ((c : ℕ) → f (bit_xor (bit_xor start first) (combination rest c)) ≡ 0 → P (bit_xor (bit_xor start first) (combination rest c)))
      → (c : ℕ) → f (bit_xor start (combination (first ∷ rest) c)) ≡ 0 → P (bit_xor start (combination (first ∷ rest) c))
  reach P first rest start left right c z = elim (combination_cases first rest c) [
    | inl e ↦ subst (λ w. P (bit_xor start w)) (sym e) (left (c / 2) (ap (λ w. f (bit_xor start w)) (sym e) ∙ z))
    | inr e ↦ subst P (sym (same e)) (right (c / 2) (ap f (sym (same e)) ∙ z))
  ]
    where
      same : combination (first ∷ rest) c ≡ bit_xor first (combination rest (c / 2)) → bit_xor start (combination (first ∷ rest) c) ≡ bit_xor (bit_xor start first) (combination rest (c / 2))
      same e = ap (bit_xor start) e ∙ sym (xor_assoc start first (combination rest (c / 2)))

  -- a sum of the rest is one of all the words, without the first or with it
  without_first : (first : ℕ) (rest : List ℕ) (start c : ℕ) → bit_xor start (combination (first ∷ rest) (c * 2)) ≡ bit_xor start (combination rest c)
  without_first first rest start c =
      ap (bit_xor start) (ap₂ (λ b d. bit_xor (b * first) (combination rest d)) even half ∙ ap (λ x. bit_xor x (combination rest c)) (zero-mul first) ∙ xor_zero_l (combination rest c))
    where
      even : c * 2 % 2 ≡ 0
      even = omega arith

      half : c * 2 / 2 ≡ c
      half = omega arith

  with_first : (first : ℕ) (rest : List ℕ) (start c : ℕ) → bit_xor start (combination (first ∷ rest) (c * 2 + 1)) ≡ bit_xor (bit_xor start first) (combination rest c)
  with_first first rest start c =
      ap (bit_xor start) (ap₂ (λ b d. bit_xor (b * first) (combination rest d)) odd half ∙ ap (λ x. bit_xor x (combination rest c)) (one-mul first))
      ∙ sym (xor_assoc start first (combination rest c))
    where
      odd : (c * 2 + 1) % 2 ≡ 1
      odd = omega arith

      half : (c * 2 + 1) / 2 ≡ c
      half = omega arith

  -- what is found among the sums without the first word, or with it, is found among all
  found_without : (first : ℕ) (rest : List ℕ) (start y : ℕ) → IsLeastIn k f rest start y → (c : ℕ) × (bit_xor start (combination (first ∷ rest) c) ≡ y)
  found_without first rest start y h = (h.choice * 2, without_first first rest start h.choice ∙ h.among)

  found_with : (first : ℕ) (rest : List ℕ) (start y : ℕ) → IsLeastIn k f rest (bit_xor start first) y → (c : ℕ) × (bit_xor start (combination (first ∷ rest) c) ≡ y)
  found_with first rest start y h = (h.choice * 2 + 1, with_first first rest start h.choice ∙ h.among)

  pub joined : (first : ℕ) (rest : List ℕ) (start : ℕ) (a b r : Option ℕ) → IsLeastOf k f rest start a → IsLeastOf k f rest (bit_xor start first) b → IsLesserOf a b r → IsLeastOf k f (first ∷ rest) start r
  joined first rest start None None r ha hb e = subst (IsLeastOf k f (first ∷ rest) start) (sym e) (reach (λ x. ⊥) first rest start ha hb)
  joined first rest start None (Some b) r ha hb e = subst (IsLeastOf k f (first ∷ rest) start) (sym e) (record {
    element = hb.element;
    choice = (found_with first rest start b hb).0;
    among = (found_with first rest start b hb).1;
    root = hb.root;
    least = reach (λ x. b ≤ x) first rest start (λ c z. absurd (ha c z)) hb.least;
  })
  joined first rest start (Some a) None r ha hb e = subst (IsLeastOf k f (first ∷ rest) start) (sym e) (record {
    element = ha.element;
    choice = (found_without first rest start a ha).0;
    among = (found_without first rest start a ha).1;
    root = ha.root;
    least = reach (λ x. a ≤ x) first rest start ha.least (λ c z. absurd (hb c z));
  })
  joined first rest start (Some a) (Some b) None ha hb e = absurd e
  joined first rest start (Some a) (Some b) (Some y) ha hb e = record {
    element = elim e.is [ inl is ↦ rw is ha.element | inr is ↦ rw is hb.element ];
    choice = here.0;
    among = here.1;
    root = elim e.is [ inl is ↦ ap f is ∙ ha.root | inr is ↦ ap f is ∙ hb.root ];
    least = reach (λ x. y ≤ x) first rest start (λ c z. let l : a ≤ bit_xor start (combination rest c) = ha.least c z in omega (arith, e.first)) (λ c z. let l : b ≤ bit_xor (bit_xor start first) (combination rest c) = hb.least c z in omega (arith, e.second));
  }
    where
      here : (c : ℕ) × (bit_xor start (combination (first ∷ rest) c) ≡ y)
      here = elim e.is [
        | inl is ↦ ((found_without first rest start a ha).0, (found_without first rest start a ha).1 ∙ sym is)
        | inr is ↦ ((found_with first rest start b hb).0, (found_with first rest start b hb).1 ∙ sym is)
      ]
