-- The sum of a block's terms is the value of its polynomial.
use Rattle.std.proofs.Common.{◌≡◌, ◌∙◌, ap, ap₂, sym, refl, ℕ, zero, suc, ◌<◌, ◌≤◌, ◌+◌, ◌-◌, ◌||◌, length-append, true, false, cond, nat_eq, List, [], ◌∷◌, ◌++◌, length, drop, get_or, replicate, bit_xor, arith, add-one}
use Rattle.std.proofs.Math.ListN.{length-replicate}
use Rattle.std.specs.List.{list_all, AllByRecursion}
use Rattle.std.proofs.lemmas.Bool.{eq-eqb}
use Rattle.gf_field.specs.Power.{power}
use Rattle.poly_mixed.specs.Monomial.{has_bit, Monomial}
use Rattle.poly_mixed.specs.Polynomial.{powers, term_value, value, IsTerm, Terms}
use Rattle.stage_model.specs.First.{InFirstRanks}
use Rattle.term_expand.specs.SumValue.{powers_at, sum_at}
use Rattle.compose_polys.specs.Instance.{block_terms, point_of, powers_from}

-- zeros at the end of a list are read past its end too
padded : (xs : List ℕ) (n i : ℕ) → get_or (xs ++ replicate n 0) i 0 ≡ get_or xs i 0
padded [] zero i = refl
padded [] (suc n) zero = refl
padded [] (suc n) (suc i) = padded [] n i ∙ past i
  where
    past : (i : ℕ) → get_or [] i 0 ≡ get_or {A = ℕ} [] (suc i) 0
    past zero = refl
    past (suc i) = refl
padded (x ∷ xs) n zero = refl
padded (x ∷ xs) n (suc i) = padded xs n i

drop_from : (ys : List ℕ) (n : ℕ) → n < length ys → drop n ys ≡ get_or ys n 0 ∷ drop (suc n) ys
drop_from [] n less = absurd (omega (arith, less))
drop_from (y ∷ ys) zero less = refl
drop_from (y ∷ ys) (suc n) less = drop_from ys n (omega (arith, less))

module _ (mul : ℕ → ℕ → ℕ) (xs ys : List ℕ) (same : (i : ℕ) → get_or ys i 0 ≡ get_or xs i 0) where
  same_powers : (es : List ℕ) (n : ℕ) → n + length es ≤ length ys → powers mul es (drop n ys) ≡ powers_at mul xs (powers_from n es)
  same_powers [] n low = refl
  same_powers (e ∷ es) n low =
      ap (powers mul (e ∷ es)) (drop_from ys n (omega (arith, low)))
      ∙ ap₂ mul (ap (λ x. power mul x e) (same n)) (ap (λ m. powers mul es (drop m ys)) (sym (add-one n)) ∙ same_powers es (n + 1) (omega (arith, low)))

no_bits : (m : Monomial) → ((rank : ℕ) → has_bit rank m ≡ false) → m.bits ≡ []
no_bits m lacks = none m.bits lacks
  where
    none : (rs : List ℕ) → ((rank : ℕ) → has_bit rank (record { exponents = m.exponents; bits = rs }) ≡ false) → rs ≡ []
    none [] h = refl
    none (r ∷ rs) h =
        let here : nat_eq r r ≡ true = eq-eqb r r refl in
        let found : has_bit r (record { exponents = m.exponents; bits = r ∷ rs }) ≡ true = ap (λ b. b || has_bit r (record { exponents = m.exponents; bits = rs })) here in
        let bad : true ≡ false = sym found ∙ h r in
        absurd (cc)

long_enough : (xs : List ℕ) → 8 ≤ length (xs ++ replicate (8 - length xs) 0)
long_enough xs = omega (arith, length-append xs (replicate (8 - length xs) 0), length-replicate {A = ℕ} (8 - length xs) 0)

module _ (k : ℕ) (mul : ℕ → ℕ → ℕ) (xs : List ℕ) where
  term_same : (t : Monomial × ℕ) → IsTerm k t → t.0.bits ≡ [] → mul t.1 (powers_at mul xs (powers_from 0 t.0.exponents)) ≡ term_value mul (point_of xs) t
  term_same t is none =
      let ys : List ℕ = xs ++ replicate (8 - length xs) 0 in
      ap (mul t.1) (sym (same_powers mul xs ys (padded xs (8 - length xs)) t.0.exponents 0 (omega (arith, is.monomial.words, long_enough xs))))
      ∙ ap (λ rs. cond (list_all (point_of xs).is_one rs) (mul t.1 (powers mul t.0.exponents ys)) 0) (sym none)

  -- the sum of the block's terms at the values of the feeds is the block's polynomial there
  pub terms_value : (ts : Terms) → AllByRecursion (IsTerm k) ts → InFirstRanks 0 ts → sum_at mul xs (block_terms ts) ≡ value mul (point_of xs) ts
  terms_value [] all lacks = refl
  terms_value (t ∷ ts) all lacks =
      ap₂ bit_xor (term_same t all.0 (no_bits t.0 (λ rank. (lacks rank (omega arith)).0))) (terms_value ts all.1 (λ rank low. (lacks rank low).1))
