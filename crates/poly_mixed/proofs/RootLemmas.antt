-- From lists of coefficients to lists of powers.
use Rattle.std.proofs.Common.{◌≡◌, ℕ, zero, suc, ◌<◌, ◌≤◌, ◌^◌, Bool, false, cond, ◌==◌, List, [], ◌∷◌, length, get_or, bit_xor, refl, sym, ◌∙◌, ap, arith, inl, inr}
use lib.Bits.{xor_zero_l, xor_zero_r, xor_assoc, xor_lt}
use Rattle.std.proofs.lemmas.Bool.{ne_eqb, eq-eqb, cases_eq}
use Rattle.std.specs.List.{AllByRecursion}
use Rattle.lists.specs.laws.TestLaws.{suc_not_zero}
use Rattle.lists.specs.laws.XorLaws.{xor_swap}
use Rattle.poly_mixed.specs.Polynomial.{IsElement}
use Rattle.poly_mixed.proofs.FieldLaws.{IsField}
use Rattle.poly_mixed.proofs.Independent.{IsPower, power_value, IsIndependent}
use Rattle.gf_field.specs.Power.{power}
use Rattle.gf_field.specs.Roots.{value, HasFewRoots}
use Rattle.poly_mixed.specs.Sum.{xor_sum}
use Rattle.poly_mixed.proofs.ValueLemmas.{zero_element, one_element, power_element, product_by_zero}

-- c more at the power e
abbrev add_at : ℕ → ℕ → List ℕ → List ℕ
add_at zero c [] = c ∷ []
add_at zero c (d ∷ cs) = bit_xor c d ∷ cs
add_at (suc e) c [] = 0 ∷ add_at e c []
add_at (suc e) c (d ∷ cs) = d ∷ add_at e c cs

abbrev dense : List (ℕ × ℕ) → List ℕ
dense [] = []
dense (t ∷ ts) = add_at t.0 t.1 (dense ts)

all_zero_at : (cs : List ℕ) (e : ℕ) → AllByRecursion (λ c. c ≡ 0) cs → get_or cs e 0 ≡ 0
all_zero_at [] e all = refl
all_zero_at (c ∷ cs) zero all = all.0
all_zero_at (c ∷ cs) (suc e) all = all_zero_at cs e all.1

zero_apart : (q : ℕ) → (0 == suc q) ≡ false
zero_apart q = ne_eqb 0 (suc q) (λ e. omega arith)

suc_same : (e q : ℕ) → (suc e == suc q) ≡ (e == q)
suc_same e q =
    elim (cases_eq e q) [
      | inl h ↦ eq-eqb (suc e) (suc q) (ap suc h) ∙ sym (eq-eqb e q h)
      | inr n ↦ ne_eqb (suc e) (suc q) (λ h. n (omega arith)) ∙ sym (ne_eqb e q n)
    ]

none_at : (b : Bool) (c n : ℕ) → b ≡ false → n ≡ bit_xor (cond b c 0) n
none_at b c n e = sym (ap (λ v. bit_xor (cond v c 0) n) e ∙ xor_zero_l n)

at_add_at : (e c q : ℕ) (cs : List ℕ) → get_or (add_at e c cs) q 0 ≡ bit_xor (cond (e == q) c 0) (get_or cs q 0)
at_add_at zero c zero [] = sym (xor_zero_r c)
at_add_at zero c (suc q) [] = none_at (0 == suc q) c 0 (zero_apart q)
at_add_at zero c zero (d ∷ cs) = refl
at_add_at zero c (suc q) (d ∷ cs) = none_at (0 == suc q) c (get_or cs q 0) (zero_apart q)
at_add_at (suc e) c zero [] = none_at (suc e == 0) c 0 (suc_not_zero e)
at_add_at (suc e) c (suc q) [] = at_add_at e c q [] ∙ ap (λ b. bit_xor (cond b c 0) 0) (sym (suc_same e q))
at_add_at (suc e) c zero (d ∷ cs) = none_at (suc e == 0) c d (suc_not_zero e)
at_add_at (suc e) c (suc q) (d ∷ cs) = at_add_at e c q cs ∙ ap (λ b. bit_xor (cond b c 0) (get_or cs q 0)) (sym (suc_same e q))

at_dense : (ts : List (ℕ × ℕ)) (q : ℕ) → get_or (dense ts) q 0 ≡ xor_sum (λ (t : ℕ × ℕ). cond (t.0 == q) t.1 0) ts
at_dense [] q = refl
at_dense (t ∷ ts) q = at_add_at t.0 t.1 q (dense ts) ∙ ap (bit_xor (cond (t.0 == q) t.1 0)) (at_dense ts q)

add_at_len : (n e c : ℕ) (cs : List ℕ) → e < n → length cs ≤ n → length (add_at e c cs) ≤ n
add_at_len zero e c cs h l = absurd (omega arith)
add_at_len (suc n) zero c [] h l = omega arith
add_at_len (suc n) zero c (d ∷ cs) h l = l
add_at_len (suc n) (suc e) c [] h l = let r = add_at_len n e c [] (omega arith) (omega arith) in omega arith
add_at_len (suc n) (suc e) c (d ∷ cs) h l = let r = add_at_len n e c cs (omega arith) (omega arith) in omega arith

module _ {degree : ℕ} {mul : ℕ → ℕ → ℕ} (f : IsField degree mul) where
  horner_element : (cs : List ℕ) (x : ℕ) → IsElement degree x → AllByRecursion (IsElement degree) cs → IsElement degree (value mul cs x)
  horner_element [] x h all = zero_element f
  horner_element (c ∷ cs) x h all = xor_lt degree c (mul x (value mul cs x)) all.0 (f.closed x (value mul cs x) h (horner_element cs x h all.1))

  add_at_elements : (e c : ℕ) (cs : List ℕ) → IsElement degree c → AllByRecursion (IsElement degree) cs → AllByRecursion (IsElement degree) (add_at e c cs)
  add_at_elements zero c [] h all = (h, tt)
  add_at_elements zero c (d ∷ cs) h all = (xor_lt degree c d h all.0, all.1)
  add_at_elements (suc e) c [] h all = (zero_element f, add_at_elements e c [] h tt)
  add_at_elements (suc e) c (d ∷ cs) h all = (all.0, add_at_elements e c cs h all.1)

  times_sum : (x y z : ℕ) → IsElement degree x → IsElement degree y → IsElement degree z → mul x (bit_xor y z) ≡ bit_xor (mul x y) (mul x z)
  times_sum x y z hx hy hz = f.comm x (bit_xor y z) hx (xor_lt degree y z hy hz) ∙ f.distrib y z x hy hz hx ∙ (λ i. bit_xor (f.comm y x hy hx i) (f.comm z x hz hx i))

  -- x * (c * x^e) is c * x^(e+1)
  shift : (x c e : ℕ) → IsElement degree x → IsElement degree c → mul x (mul c (power mul x e)) ≡ mul c (power mul x (suc e))
  unfolding power
  shift x c e hx hc =
      let hp = power_element f x e hx in
      sym (f.assoc x c (power mul x e) hx hc hp) ∙ ap (λ n. mul n (power mul x e)) (f.comm x c hx hc) ∙ f.assoc c x (power mul x e) hc hx hp

  horner-add_at : (e c x : ℕ) (cs : List ℕ) → IsElement degree x → IsElement degree c → AllByRecursion (IsElement degree) cs → value mul (add_at e c cs) x ≡ bit_xor (mul c (power mul x e)) (value mul cs x)
  unfolding power
  horner-add_at zero c x [] hx hc all = ap (bit_xor c) (product_by_zero f x hx) ∙ ap (λ n. bit_xor n 0) (sym (f.comm c 1 hc (one_element f) ∙ f.neutral c hc))
  horner-add_at zero c x (d ∷ cs) hx hc all = xor_assoc c d (mul x (value mul cs x)) ∙ ap (λ n. bit_xor n (bit_xor d (mul x (value mul cs x)))) (sym (f.comm c 1 hc (one_element f) ∙ f.neutral c hc))
  horner-add_at (suc e) c x [] hx hc all =
      xor_zero_l _ ∙ ap (mul x) (horner-add_at e c x [] hx hc tt ∙ xor_zero_r (mul c (power mul x e))) ∙ shift x c e hx hc ∙ sym (xor_zero_r (mul c (power mul x (suc e))))
  horner-add_at (suc e) c x (d ∷ cs) hx hc all =
      let hp = f.closed c (power mul x e) hc (power_element f x e hx) in
      let hh = horner_element cs x hx all.1 in
      ap (bit_xor d) (ap (mul x) (horner-add_at e c x cs hx hc all.1) ∙ times_sum x (mul c (power mul x e)) (value mul cs x) hx hp hh ∙ ap (λ n. bit_xor n (mul x (value mul cs x))) (shift x c e hx hc))
      ∙ xor_swap d (mul c (power mul x (suc e))) (mul x (value mul cs x))

  dense_elements : (ts : List (ℕ × ℕ)) → AllByRecursion (IsPower degree) ts → AllByRecursion (IsElement degree) (dense ts)
  dense_elements [] all = tt
  dense_elements (t ∷ ts) all = add_at_elements t.0 t.1 (dense ts) all.0.1 (dense_elements ts all.1)

  dense_len : (ts : List (ℕ × ℕ)) → AllByRecursion (IsPower degree) ts → length (dense ts) ≤ 2 ^ degree
  dense_len [] all = omega arith
  dense_len (t ∷ ts) all = add_at_len (2 ^ degree) t.0 t.1 (dense ts) all.0.0 (dense_len ts all.1)

  dense_value : (ts : List (ℕ × ℕ)) (x : ℕ) → IsElement degree x → AllByRecursion (IsPower degree) ts → value mul (dense ts) x ≡ xor_sum (power_value mul x) ts
  dense_value [] x h all = refl
  dense_value (t ∷ ts) x h all = horner-add_at t.0 t.1 x (dense ts) h all.0.1 (dense_elements ts all.1) ∙ ap (bit_xor (mul t.1 (power mul x t.0))) (dense_value ts x h all.1)

  pub independent : HasFewRoots degree mul → IsIndependent degree mul
  independent few = record {
    apart = λ ts all zeros e.
        sym (at_dense ts e) ∙ all_zero_at (dense ts) e (few.zeros (dense ts) (dense_len ts all) (dense_elements ts all) (λ x h. dense_value ts x h all ∙ zeros x h));
  }
