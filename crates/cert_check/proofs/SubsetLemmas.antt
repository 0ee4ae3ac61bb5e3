-- The polynomial of a table, set by set of its exclusive-or form.
use Rattle.std.proofs.Common.{◌≡◌, ◌∙◌, refl, ap, sym, subst, ℕ, ◌+◌, ◌*◌, Bool, true, false, ◌&&◌, cond, List, [], ◌∷◌, ◌++◌, bit_xor}
use lib.Bits.{xor_assoc, xor_zero_l}
use Rattle.std.specs.List.{list_all}
use Rattle.std.specs.List.Sorted.{IsStrictlySortedBy}
use Rattle.std.specs.Ordering.{nat_cmp}
use Rattle.std.proofs.Math.Bool.{and-true}
use Rattle.poly_mixed.specs.Monomial.{Monomial}
use Rattle.poly_mixed.specs.Polynomial.{Polynomial, Terms, Point, IsPoint, IsTerm, IsPolynomialOf, term_value, value}
use Rattle.poly_mixed.specs.Product.{with_rank}
use Rattle.poly_mixed.specs.Table.{differ, subset_parity}
use Rattle.poly_mixed.proofs.FieldLaws.{IsField}
use Rattle.poly_mixed.proofs.ProductLemmas.{all-union}
use Rattle.poly_mixed.proofs.SimpleLemmas.{zeros8, bits_monomial, bits_polynomial, one_rank_rises, single}
use Rattle.poly_mixed.proofs.ValueLemmas.{one_element}
use Rattle.cert_check.specs.Running.{bit_value}
use Rattle.cert_check.specs.private.Units.{AreTerms, IsSumOf}

-- those that have a set have it without the rank or with it
halves : (all low bit high : Bool) → ◌≡◌ {A = ℕ} (bit_xor (cond (all && low) 1 0) (cond ((all && bit) && high) 1 0)) (cond (all && differ low (bit && high)) 1 0)
halves false low bit high = refl
halves true true true true = refl
halves true true true false = refl
halves true true false high = refl
halves true false true true = refl
halves true false true false = refl
halves true false false high = refl

-- the two sums, one after the other
pub both_halves : (bit : ℕ → Bool) (f : ℕ → Bool) (set more rest ranks : List ℕ) (r base step old mid new : ℕ) → more ≡ with_rank set r → ranks ≡ r ∷ rest
    → mid ≡ bit_xor old (cond (list_all bit set && subset_parity f bit rest base (2 * step)) 1 0)
    → new ≡ bit_xor mid (cond (list_all bit more && subset_parity f bit rest (base + step) (2 * step)) 1 0)
    → new ≡ bit_xor old (cond (list_all bit set && subset_parity f bit ranks base step) 1 0)
both_halves bit f set more rest ranks r base step old mid new with is low high =
    let all : Bool = list_all bit set in
    let a : Bool = subset_parity f bit rest base (2 * step) in
    let b : Bool = subset_parity f bit rest (base + step) (2 * step) in
    let chosen : list_all bit more ≡ (all && bit r) = ap (list_all bit) with ∙ (all-union bit set (r ∷ []) ∙ ap (λ b. all && b) (and-true (bit r))) in
    high
    ∙ ((λ i. bit_xor (low i) (cond (chosen i && b) 1 0))
    ∙ (xor_assoc old (cond (all && a) 1 0) (cond ((all && bit r) && b) 1 0)
    ∙ (ap (bit_xor old) (halves all a (bit r) b)
    ∙ ap (λ rs. bit_xor old (cond (all && subset_parity f bit rs base step) 1 0)) (sym is))))

taken : (all has : Bool) → has ≡ true → ◌≡◌ {A = ℕ} (cond all 1 0) (cond (all && has) 1 0)
taken true has e = ap (λ b. cond b 1 0) (sym e)
taken false has e = refl

-- one more term at the end
all_more : {degree : ℕ} (ts : Terms) (t : Monomial × ℕ) → AreTerms degree ts → IsTerm degree t → AreTerms degree (ts ++ t ∷ [])
all_more [] t all one = (one, tt)
all_more (u ∷ us) t all one = (all.0, all_more us t all.1 one)

value_more : (mul : ℕ → ℕ → ℕ) (p : Point) (ts : Terms) (t : Monomial × ℕ) → value mul p (ts ++ t ∷ []) ≡ bit_xor (value mul p ts) (value mul p (t ∷ []))
value_more mul p [] t = sym (xor_zero_l (value mul p (t ∷ [])))
value_more mul p (u ∷ us) t = ap (bit_xor (term_value mul p u)) (value_more mul p us t) ∙ sym (xor_assoc (term_value mul p u) (value mul p us) (value mul p (t ∷ [])))

module _ {degree : ℕ} {mul : ℕ → ℕ → ℕ} (f : IsField degree mul) where
  pub one_set : (set : List ℕ) → IsStrictlySortedBy nat_cmp set → IsPolynomialOf degree mul (λ p. cond (list_all p.is_one set) 1 0) ((record { exponents = zeros8; bits = set }, 1) ∷ [])
  one_set set up =
      let m : Monomial = record { exponents = zeros8; bits = set } in
      let q : Polynomial = record { terms = (m, 1) ∷ []; slots = [] } in
      bits_polynomial f set m 1 q refl up (one_element f) refl

  -- a set that is added
  pub set_terms : (set : List ℕ) (m : Monomial) (old new : Terms) → IsStrictlySortedBy nat_cmp set → m ≡ record { exponents = zeros8; bits = set } → AreTerms degree old → new ≡ old ++ (m, 1) ∷ [] → AreTerms degree new
  set_terms set m old new up is all added =
      let P : Terms → Type 0 = AreTerms degree in
      let one : IsTerm degree (m, 1) = record { monomial = bits_monomial f set m is up; element = one_element f } in
      subst P (sym added) (all_more old (m, 1) all one)

  pub set_value : (set : List ℕ) (m : Monomial) (old new : Terms) (has : Bool) → IsStrictlySortedBy nat_cmp set → m ≡ record { exponents = zeros8; bits = set } → new ≡ old ++ (m, 1) ∷ [] → has ≡ true
      → (p : Point) → IsPoint degree p → value mul p new ≡ bit_xor (value mul p old) (cond (list_all p.is_one set && has) 1 0)
  set_value set m old new has up is added holds p at =
      ap (λ (ts : Terms). value mul p ts) (added ∙ ap (λ (n : Monomial). old ++ (n, 1) ∷ []) is)
      ∙ (value_more mul p old (record { exponents = zeros8; bits = set }, 1)
      ∙ ap (bit_xor (value mul p old)) ((one_set set up).values p at ∙ taken (list_all p.is_one set) has holds))

  -- the bit of a rank alone
  pub bit_is : (r : ℕ) (m : Monomial) (none new : Terms) → m ≡ record { exponents = zeros8; bits = r ∷ [] } → none ≡ [] → new ≡ none ++ (m, 1) ∷ [] → IsSumOf degree mul (λ p. bit_value (p.is_one r)) new
  bit_is r m none new is empty added =
      let up = one_rank_rises r in
      let new_is : new ≡ [] ++ (m, 1) ∷ [] = added ∙ ap (λ (ts : Terms). ts ++ (m, 1) ∷ []) empty in
      record {
        terms = set_terms (r ∷ []) m [] new up is tt new_is;
        values = λ p at. ap (λ (ts : Terms). value mul p ts) (new_is ∙ ap (λ (n : Monomial). (n, 1) ∷ []) is) ∙ ((one_set (r ∷ []) up).values p at ∙ single f r 1 p);
      }
