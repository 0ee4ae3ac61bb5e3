-- A power of one word as a monomial.
use Rattle.std.proofs.Common.{◌≡◌, ℕ, zero, suc, ◌<◌, List, [], ◌∷◌, length, true, false, ◌==◌, cond, sym, ◌∙◌, ap, subst, arith, slice_index, refl}
use Rattle.std.proofs.Math.ListN.{set, length-set}
use lib.Bits.{xor_zero_r}
use Rattle.std.proofs.lemmas.Bool.{eqb-true, eqb-false}
use Rattle.std.specs.List.{AllByRecursion}
use Rattle.gf_field.specs.Power.{power}
use Rattle.poly_mixed.specs.Monomial.{Monomial}
use Rattle.poly_mixed.specs.Polynomial.{Polynomial, Terms, Point, IsPoint, IsElement, IsMonomial, IsPolynomialOf, powers, term_value}
use Rattle.poly_mixed.specs.Sum.{with_coefficient}
use Rattle.poly_mixed.specs.laws.Uniqueness.{IsZeros}
use Rattle.poly_mixed.proofs.FieldLaws.{IsField}
use Rattle.poly_mixed.proofs.ProductLemmas.{one_term}
use Rattle.poly_mixed.proofs.SimpleLemmas.{no_ranks_rise, reduced_nothing, zeros8}
use Rattle.poly_mixed.proofs.UniquenessLemmas.{zero_powers}
use Rattle.poly_mixed.proofs.ValueLemmas.{zero_element, one_element, power_element, product_zero}

module _ {degree : ℕ} {mul : ℕ → ℕ → ℕ} (f : IsField degree mul) where
  -- all exponents are 0 but one
  powers_one : (zs ws : List ℕ) (w e : ℕ) → IsZeros zs → length zs ≡ length ws → w < length zs → AllByRecursion (IsElement degree) ws → powers mul (set zs w e) ws ≡ power mul (slice_index ws w) e
  unfolding power
  powers_one [] ws w e z l h up = absurd (omega arith)
  powers_one (x ∷ zs) [] w e z l h up = absurd (omega arith)
  powers_one (x ∷ zs) (v ∷ ws) zero e z l h up =
      let hp = power_element f v e up.0 in
      ap (mul (power mul v e)) (zero_powers f zs ws z.1) ∙ f.comm (power mul v e) 1 hp (one_element f) ∙ f.neutral (power mul v e) hp
  powers_one (x ∷ zs) (v ∷ ws) (suc w) e z l h up =
      let later = powers_one zs ws w e z.1 (omega arith) (omega arith) up.1 in
      let hq = power_element f (slice_index ws w) e (at ws w up.1 (omega arith)) in
      (λ i. mul (power mul v (z.0 i)) (later i)) ∙ f.neutral (power mul (slice_index ws w) e) hq
    where
      at : (ws : List ℕ) (w : ℕ) → AllByRecursion (IsElement degree) ws → w < length ws → IsElement degree (slice_index ws w)
      at [] w up h = absurd (omega arith)
      at (v ∷ ws) zero up h = up.0
      at (v ∷ ws) (suc w) up h = at ws w up.1 (omega arith)

  set_elements : (zs : List ℕ) (w e : ℕ) → AllByRecursion (IsElement degree) zs → IsElement degree e → AllByRecursion (IsElement degree) (set zs w e)
  set_elements [] w e all h = tt
  set_elements (z ∷ zs) zero e all h = (h, all.1)
  set_elements (z ∷ zs) (suc w) e all h = (all.0, set_elements zs w e all.1 h)

  pub power_monomial : (w e : ℕ) (m : Monomial) → m ≡ record { exponents = set zeros8 w e; bits = [] } → IsElement degree e → IsMonomial degree m
  power_monomial w e m is h =
      let P : Monomial → Type 0 = IsMonomial degree in
      let z = zero_element f in
      let it : IsMonomial degree (record { exponents = set zeros8 w e; bits = [] }) = record {
        words = length-set zeros8 w e;
        exponents = set_elements zeros8 w e (z, (z, (z, (z, (z, (z, (z, (z, tt)))))))) h;
        rising = no_ranks_rise;
      } in
      subst P (sym is) it

  pub power_polynomial : (w e c : ℕ) (m : Monomial) (q : Polynomial) → w < 8 → m ≡ record { exponents = set zeros8 w e; bits = [] } → IsElement degree e → IsElement degree c → q.terms ≡ with_coefficient m c []
      → IsPolynomialOf degree mul (λ p. mul c (power mul (slice_index p.words w) e)) q.terms
  power_polynomial w e c m q l is he hc made =
      let P : Terms → Type 0 = IsPolynomialOf degree mul (λ p. mul c (power mul (slice_index p.words w) e)) in
      let M : Monomial → Type 0 = λ m. IsPolynomialOf degree mul (λ p. mul c (power mul (slice_index p.words w) e)) (with_coefficient m c []) in
      let m' : Monomial = record { exponents = set zeros8 w e; bits = [] } in
      subst P (sym made) (subst M (sym is) (elim (c == 0) as (λ b. (c == 0) ≡ b → IsPolynomialOf degree mul (λ p. mul c (power mul (slice_index p.words w) e)) (cond b [] ((m', c) ∷ []))) [
        | true ↦ λ h. record {
          reduced = reduced_nothing f;
          values = λ p at. sym (ap (λ x. mul x (power mul (slice_index p.words w) e)) (eqb-true c 0 h) ∙ product_zero f (power mul (slice_index p.words w) e) (power_element f (slice_index p.words w) e (word p at)));
        }
        | false ↦ λ h. record {
          reduced = one_term f m' c (record { monomial = power_monomial w e m' refl he; element = hc }) (eqb-false c 0 h);
          values = λ p at. xor_zero_r (term_value mul p (m', c)) ∙ ap (mul c) (powers_one zeros8 p.words w e (refl, (refl, (refl, (refl, (refl, (refl, (refl, (refl, tt)))))))) (sym at.words) l at.elements);
        }
      ] refl))
    where
      member : (ws : List ℕ) (i : ℕ) → AllByRecursion (IsElement degree) ws → i < length ws → IsElement degree (slice_index ws i)
      member [] i up h = absurd (omega arith)
      member (v ∷ ws) zero up h = up.0
      member (v ∷ ws) (suc i) up h = member ws i up.1 (omega arith)

      word : (p : Point) → IsPoint degree p → IsElement degree (slice_index p.words w)
      word p at = member p.words w at.elements (subst (λ (n : ℕ). w < n) (sym at.words) l)
