-- How many terms sums have, and polynomials times bits.
use Rattle.std.proofs.Common.{◌≡◌, ◌≢◌, ◌∙◌, ap, refl, ℕ, ◌+◌, ◌≤◌, ◌==◌, Bool, true, false, cond, List, [], ◌∷◌, length, bit_xor, arith}
use lib.Bits.{xor_zero_r}
use Rattle.std.specs.List.{AllByRecursion, list_all}
use Rattle.std.specs.declared.cmp.Ordering.TheVariants.{Less, Equal, Greater}
use Rattle.std.specs.Ordering.{match_ordering}
use Rattle.lists.specs.laws.BoolLaws.{cond_and}
use Rattle.poly_mixed.specs.Monomial.{Monomial, text_cmp}
use Rattle.poly_mixed.specs.Polynomial.{Terms, Point, IsPoint, IsTerm, IsReduced, IsPolynomialOf, powers, term_value, value}
use Rattle.poly_mixed.specs.Product.{union}
use Rattle.poly_mixed.specs.Sum.{with_coefficient, plus_term, plus}
use Rattle.poly_mixed.proofs.FieldLaws.{IsField}
use Rattle.poly_mixed.proofs.ProductLemmas.{all-union, rising-union, one_term}
use Rattle.poly_mixed.proofs.SharedLemmas.{plus_few}
use Rattle.poly_mixed.proofs.SimpleLemmas.{reduced_nothing}
use Rattle.poly_mixed.proofs.ValueLemmas.{value-plus, reduced_plus}

plus_term_long : (ts : Terms) (u : Monomial × ℕ) → length (plus_term text_cmp ts u) ≤ length ts + 1
plus_term_long [] u = omega arith
plus_term_long (t ∷ ts) u =
    let rest = plus_term_long ts u in
    elim (text_cmp u.0 t.0) as (λ r. length (match_ordering r (u ∷ t ∷ ts) (with_coefficient t.0 (bit_xor t.1 u.1) ts) (t ∷ plus_term text_cmp ts u)) ≤ length (t ∷ ts) + 1) [
      | Less ↦ omega arith
      | Equal ↦ elim (bit_xor t.1 u.1 == 0) as (λ b. length (cond b ts ((t.0, bit_xor t.1 u.1) ∷ ts)) ≤ length (t ∷ ts) + 1) [ true ↦ omega arith | false ↦ omega arith ]
      | Greater ↦ omega (arith, rest)
    ]

-- a polynomial of the function with at most n terms
pub record IsSized (k : ℕ) (mul : ℕ → ℕ → ℕ) (h : Point → ℕ) (n : ℕ) : Type 0 where
  pub terms : Terms
  pub is : IsPolynomialOf k mul h terms
  pub small : length terms ≤ n

module _ {k : ℕ} {mul : ℕ → ℕ → ℕ} (f : IsField k mul) where
  pub sized_of : (ts : Terms) (n : ℕ) → IsReduced k ts → length ts ≤ n → IsSized k mul (λ p. value mul p ts) n
  sized_of ts n reduced small = record { terms = ts; is = record { reduced = reduced; values = λ p at. refl }; small = small }

  pub sized_sum : (h g : Point → ℕ) (n m : ℕ) → IsSized k mul h n → IsSized k mul g m → IsSized k mul (λ p. bit_xor (h p) (g p)) (n + m)
  sized_sum h g n m a b = record {
    terms = plus text_cmp a.terms b.terms;
    is = record {
      reduced = reduced_plus f a.terms b.terms a.is.reduced b.is.reduced;
      values = λ p at. value-plus f p at a.terms b.terms a.is.reduced.terms b.is.reduced.terms ∙ (λ i. bit_xor (a.is.values p at i) (b.is.values p at i));
    };
    small = (let one = a.small in let two = b.small in omega (arith, plus_few a.terms b.terms, one, two));
  }

  pub sized_same : (h g : Point → ℕ) (n m : ℕ) → n ≤ m → ((p : Point) → IsPoint k p → h p ≡ g p) → IsSized k mul h n → IsSized k mul g m
  sized_same h g n m less same a = record {
    terms = a.terms;
    is = record { reduced = a.is.reduced; values = λ p at. a.is.values p at ∙ same p at };
    small = (let one = a.small in omega (arith, one, less));
  }

  -- a term times bits
  abbrev with_all : List ℕ → Monomial × ℕ → Monomial × ℕ
  with_all bits t = (record { exponents = t.0.exponents; bits = union t.0.bits bits }, t.1)

  chosen : List ℕ → Terms → Terms
  chosen bits [] = []
  chosen bits (t ∷ ts) = plus text_cmp (with_all bits t ∷ []) (chosen bits ts)

  chosen_long : (bits : List ℕ) (ts : Terms) → length (chosen bits ts) ≤ length ts
  unfolding chosen
  chosen_long bits [] = omega arith
  chosen_long bits (t ∷ ts) = omega (arith, plus_few (with_all bits t ∷ []) (chosen bits ts), chosen_long bits ts)

  one_chosen : (bits : List ℕ) (t : Monomial × ℕ) → IsTerm k t → t.1 ≢ 0 → IsReduced k (with_all bits t ∷ [])
  one_chosen bits t is some =
      one_term f (record { exponents = t.0.exponents; bits = union t.0.bits bits }) t.1
      (record { monomial = record { words = is.monomial.words; exponents = is.monomial.exponents; rising = rising-union t.0.bits bits is.monomial.rising }; element = is.element }) some

  chosen_reduced : (bits : List ℕ) (ts : Terms) → AllByRecursion (IsTerm k) ts → AllByRecursion (λ t. t.1 ≢ 0) ts → IsReduced k (chosen bits ts)
  unfolding chosen
  chosen_reduced bits [] all some = reduced_nothing f
  chosen_reduced bits (t ∷ ts) all some = reduced_plus f (with_all bits t ∷ []) (chosen bits ts) (one_chosen bits t all.0 some.0) (chosen_reduced bits ts all.1 some.1)

  both : (b : Bool) (x y : ℕ) → bit_xor (cond b x 0) (cond b y 0) ≡ cond b (bit_xor x y) 0
  both true x y = refl
  both false x y = refl

  none : (b : Bool) → ◌≡◌ {A = ℕ} 0 (cond b 0 0)
  none true = refl
  none false = refl

  chosen_value : (bits : List ℕ) (ts : Terms) → AllByRecursion (IsTerm k) ts → AllByRecursion (λ t. t.1 ≢ 0) ts → (p : Point) → IsPoint k p → value mul p (chosen bits ts) ≡ cond (list_all p.is_one bits) (value mul p ts) 0
  unfolding chosen
  chosen_value bits [] all some p at = none (list_all p.is_one bits)
  chosen_value bits (t ∷ ts) all some p at =
      let x : ℕ = mul t.1 (powers mul t.0.exponents p.words) in
      let own : term_value mul p (with_all bits t) ≡ cond (list_all p.is_one bits) (term_value mul p t) 0 =
      ap (λ b. cond b x 0) (all-union p.is_one t.0.bits bits) ∙ cond_and (list_all p.is_one t.0.bits) (list_all p.is_one bits) x in
      value-plus f p at (with_all bits t ∷ []) (chosen bits ts) (one_chosen bits t all.0 some.0).terms (chosen_reduced bits ts all.1 some.1).terms
      ∙ (λ i. bit_xor ((xor_zero_r (term_value mul p (with_all bits t)) ∙ own) i) (chosen_value bits ts all.1 some.1 p at i))
      ∙ both (list_all p.is_one bits) (term_value mul p t) (value mul p ts)

  -- a polynomial times bits has no more terms
  pub sized_chosen : (bits : List ℕ) (h : Point → ℕ) (n : ℕ) → IsSized k mul h n → IsSized k mul (λ p. cond (list_all p.is_one bits) (h p) 0) n
  sized_chosen bits h n a = record {
    terms = chosen bits a.terms;
    is = record {
      reduced = chosen_reduced bits a.terms a.is.reduced.terms a.is.reduced.is_map.nonzero;
      values = λ p at. chosen_value bits a.terms a.is.reduced.terms a.is.reduced.is_map.nonzero p at ∙ ap (λ x. cond (list_all p.is_one bits) x 0) (a.is.values p at);
    };
    small = (let one = a.small in omega (arith, chosen_long bits a.terms, one));
  }
