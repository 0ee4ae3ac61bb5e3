-- Forms and their complements have the same numbers.
use Rattle.std.proofs.Common.{◌≡◌, ◌≢◌, ◌⊎◌, ◌∙◌, ap, ap₂, sym, refl, inl, inr, subst, ℕ, zero, suc, ◌<◌, ◌≤◌, ◌+◌, ◌-◌, ◌*◌, ◌/◌, ◌%◌, ◌^◌, Bool, true, false, cond, List, [], ◌∷◌, length, arith, pow-suc, pow_pos, eq-eqb}
use Rattle.std.specs.Prelude.{◌==◌}
use Rattle.std.proofs.lemmas.Bool.{ne_eqb}
use Rattle.lists.specs.laws.NumberLaws.{nat_eq_or}
use Rattle.net_simplify.specs.Form.{Form, IsForm, complement}
use Rattle.net_simplify.specs.Simplified.{AreTwins}
use Rattle.net_simplify.specs.private.Catalog.{even, key_of, twin_key}
use Rattle.net_simplify.proofs.FormLemmas.{complement_form}

-- a table has an even number of bits, or one
pub full_even : (n : ℕ) → (2 ^ (2 ^ n)) % 2 ≡ 0
full_even n = by (2 ^ n) (pow_pos n)
  where
    by : (k : ℕ) → 0 < k → (2 ^ k) % 2 ≡ 0
    by zero some = absurd (omega arith)
    by (suc k) some = omega (arith, pow-suc 2 k)

parity : (t full : ℕ) → full % 2 ≡ 0 → t < full → (full - 1 - t) % 2 ≡ 1 - t % 2
parity t full even_full less = omega (arith, even_full, less)

pub complement_twice : (form : Form) → IsForm form → complement (complement form) ≡ form
complement_twice form is = ap (λ (t : ℕ). record { leaves = form.leaves; table = t }) (omega (arith, is.fits))

key_same : (f g : Form) → key_of f ≡ key_of g → f ≡ g
key_same f g same =
    let low : f.table % 2 ^ 32 ≡ g.table % 2 ^ 32 = ap (λ (ns : List ℕ). head ns) same in
    let high : f.table / 2 ^ 32 ≡ g.table / 2 ^ 32 = ap (λ (ns : List ℕ). head (tail ns)) same in
    let leaves : f.leaves ≡ g.leaves = ap (λ (ns : List ℕ). tail (tail ns)) same in
    ap₂ (λ (l : List ℕ) (t : ℕ). record { leaves = l; table = t }) leaves (omega (arith, low, high))
  where
    head : List ℕ → ℕ
    head [] = 0
    head (n ∷ ns) = n

    tail : List ℕ → List ℕ
    tail [] = []
    tail (n ∷ ns) = ns

even_odd : (form : Form) → form.table % 2 ≡ 1 → even form ≡ complement form
even_odd form odd = ap (λ b. cond b (complement form) form) (eq-eqb (form.table % 2) 1 odd)

even_even : (form : Form) → form.table % 2 ≢ 1 → even form ≡ form
even_even form apart = ap (λ b. cond b (complement form) form) (ne_eqb (form.table % 2) 1 apart)

pub twins_of_key : (f g : Form) → IsForm f → IsForm g → twin_key f ≡ twin_key g → AreTwins f g
twins_of_key f g is is' same =
    elim (nat_eq_or (f.table % 2) 1) [
      | inl odd ↦ elim (nat_eq_or (g.table % 2) 1) [
        | inl odd' ↦ inl (sym (complement_twice f is) ∙ ap complement (sym (even_odd f odd) ∙ evens ∙ even_odd g odd') ∙ complement_twice g is')
        | inr even' ↦ inr (sym (complement_twice f is) ∙ ap complement (sym (even_odd f odd) ∙ evens ∙ even_even g even'))
      ]
      | inr even_f ↦ elim (nat_eq_or (g.table % 2) 1) [
        | inl odd' ↦ inr (sym (even_even f even_f) ∙ evens ∙ even_odd g odd')
        | inr even' ↦ inl (sym (even_even f even_f) ∙ evens ∙ even_even g even')
      ]
    ]
  where
    evens : even f ≡ even g
    evens = key_same (even f) (even g) same

pub key_of_twins : (f g : Form) → IsForm f → IsForm g → AreTwins f g → twin_key f ≡ twin_key g
key_of_twins f g is is' (inl same) = ap twin_key same
key_of_twins f g is is' (inr same) = ap twin_key same ∙ ap key_of (turned (nat_eq_or (g.table % 2) 1))
  where
    flips : (complement g).table % 2 ≡ 1 - g.table % 2
    flips = parity g.table (2 ^ (2 ^ length g.leaves)) (full_even (length g.leaves)) is'.fits

    turned : (g.table % 2 ≡ 1) ⊎ (g.table % 2 ≢ 1) → even (complement g) ≡ even g
    turned (inl odd) = even_even (complement g) (λ e. omega (arith, e, flips, odd)) ∙ sym (even_odd g odd)
    turned (inr apart) = even_odd (complement g) (omega (arith, flips, apart)) ∙ complement_twice g is' ∙ sym (even_even g apart)
