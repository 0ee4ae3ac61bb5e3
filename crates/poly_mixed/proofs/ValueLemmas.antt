-- The values of sums.
use Rattle.std.proofs.Common.{◌≡◌, ℕ, zero, suc, ◌<◌, ◌≢◌, true, false, cond, List, [], ◌∷◌, bit_xor, refl, ◌∙◌, arith}
use lib.Bits.{xor_self, xor_lt, xor_zero_l}
use Rattle.std.proofs.lemmas.Nat.{pow_below, pow_pos}
use Rattle.std.specs.List.{AllByRecursion, list_all}
use Rattle.std.specs.List.Sorted.{IsStrictlySortedBy}
use Rattle.std.specs.Ordering.{nat_cmp}
use Rattle.poly_mixed.specs.Polynomial.{IsElement}
use Rattle.poly_mixed.proofs.FieldLaws.{IsField}
use Rattle.poly_mixed.specs.Monomial.{Monomial, text_cmp, text_cmp_total}
use Rattle.poly_mixed.specs.Polynomial.{Terms, Point, IsPoint, IsTerm, IsReduced, IsMap, coefficient, powers, term_value, value}
use Rattle.gf_field.specs.Power.{power}
use Rattle.poly_mixed.specs.Sum.{plus}
use Rattle.poly_mixed.proofs.MonomialLemmas.{text_cmp-same}
use Rattle.poly_mixed.proofs.SumLemmas.{IsAdditive, xor_sum-plus, sorted-plus, all_plus, found-plus, same_terms}

pub map_plus : (ts us : Terms) → IsMap ts → IsMap us → IsMap (plus text_cmp ts us)
map_plus ts us r s = record {
  sorted = sorted-plus text_cmp text_cmp_total ts us r.sorted;
  rising = all_plus text_cmp (λ t. IsStrictlySortedBy nat_cmp t.0.bits) (λ t u h k n. h) ts us r.rising s.rising;
  nonzero = all_plus text_cmp (λ t. t.1 ≢ 0) (λ t u h k n. n) ts us r.nonzero s.nonzero;
}

module _ {degree : ℕ} {mul : ℕ → ℕ → ℕ} (f : IsField degree mul) where
  pub one_element : IsElement degree 1
  one_element = let least : 0 < degree = omega (arith, f.least) in pow_below 0 degree least

  pub zero_element : IsElement degree 0
  zero_element = pow_pos degree

  pub power_element : (x n : ℕ) → IsElement degree x → IsElement degree (power mul x n)
  unfolding power
  power_element x zero h = one_element
  power_element x (suc n) h = f.closed x (power mul x n) h (power_element x n h)

  pub powers_element : (es ws : List ℕ) → AllByRecursion (IsElement degree) ws → IsElement degree (powers mul es ws)
  powers_element [] ws all = one_element
  powers_element (e ∷ es) [] all = one_element
  powers_element (e ∷ es) (w ∷ ws) all = f.closed (power mul w e) (powers mul es ws) (power_element w e all.0) (powers_element es ws all.1)

  pub product_zero : (x : ℕ) → IsElement degree x → mul 0 x ≡ 0
  product_zero x h = f.distrib 0 0 x zero_element zero_element h ∙ xor_self (mul 0 x)

  pub product_by_zero : (x : ℕ) → IsElement degree x → mul x 0 ≡ 0
  product_by_zero x h = f.comm x 0 h zero_element ∙ product_zero x h

  pub term_value-additive : (p : Point) → IsPoint degree p → IsAdditive (IsElement degree) (term_value mul p)
  term_value-additive p at = record {
    sums = λ m c d hc hd.
        elim (list_all p.is_one m.bits) as (λ b. cond b (mul (bit_xor c d) (powers mul m.exponents p.words)) 0
        ≡ bit_xor (cond b (mul c (powers mul m.exponents p.words)) 0) (cond b (mul d (powers mul m.exponents p.words)) 0)) [
          | true ↦ f.distrib c d (powers mul m.exponents p.words) hc hd (powers_element m.exponents p.words at.elements)
          | false ↦ refl
        ];
    none = λ m. elim (list_all p.is_one m.bits) as (λ b. cond b (mul 0 (powers mul m.exponents p.words)) 0 ≡ 0) [
      | true ↦ product_zero (powers mul m.exponents p.words) (powers_element m.exponents p.words at.elements)
      | false ↦ refl
    ];
  }

  pub elements : (ts : Terms) → AllByRecursion (IsTerm degree) ts → AllByRecursion (λ t. IsElement degree t.1) ts
  elements [] all = tt
  elements (t ∷ ts) all = (all.0.element, elements ts all.1)

  pub value-plus : (p : Point) → IsPoint degree p → (ts us : Terms) → AllByRecursion (IsTerm degree) ts → AllByRecursion (IsTerm degree) us → value mul p (plus text_cmp ts us) ≡ bit_xor (value mul p ts) (value mul p us)
  value-plus p at ts us all more =
      xor_sum-plus text_cmp text_cmp-same (IsElement degree) (term_value mul p) (term_value-additive p at) (λ x y h k. xor_lt degree x y h k) ts us (elements ts all) (elements us more)

  pub reduced_plus : (ts us : Terms) → IsReduced degree ts → IsReduced degree us → IsReduced degree (plus text_cmp ts us)
  reduced_plus ts us r s = record {
    is_map = map_plus ts us r.is_map s.is_map;
    terms = all_plus text_cmp (IsTerm degree) (λ t u h k n. record { monomial = h.monomial; element = xor_lt degree t.1 u.1 h.element k.element }) ts us r.terms s.terms;
  }

pub coefficient-plus : (ts us : Terms) (m : Monomial) → IsMap ts → IsMap us → coefficient (plus text_cmp ts us) m ≡ bit_xor (coefficient ts m) (coefficient us m)
coefficient-plus ts us m s v = found-plus text_cmp text_cmp_total text_cmp-same ts us m s.sorted v.sorted

pub same_map : (ts us : Terms) → IsMap ts → IsMap us → ((m : Monomial) → coefficient ts m ≡ coefficient us m) → ts ≡ us
same_map ts us s v h = same_terms text_cmp text_cmp_total text_cmp-same ts us s.sorted v.sorted s.nonzero v.nonzero h

pub nothing_map : IsMap []
unfolding IsStrictlySortedBy
nothing_map = record { sorted = tt; rising = tt; nonzero = tt }

pub plus_nothing : (ts : Terms) → IsMap ts → plus text_cmp [] ts ≡ ts
plus_nothing ts m = same_map (plus text_cmp [] ts) ts (map_plus [] ts nothing_map m) m (λ q. coefficient-plus [] ts q nothing_map m ∙ xor_zero_l (coefficient ts q))

pub one_map : (m : Monomial) (c : ℕ) → IsStrictlySortedBy nat_cmp m.bits → c ≢ 0 → IsMap ((m, c) ∷ [])
unfolding IsStrictlySortedBy
one_map m c s n = record { sorted = (tt, tt); rising = (s, tt); nonzero = (n, tt) }
