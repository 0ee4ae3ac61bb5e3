-- The products of a term and of sets of bits.
use Rattle.std.proofs.Common.{◌≡◌, ◌≢◌, ℕ, Bool, true, false, cond, ◌&&◌, ◌+◌, ◌*◌, List, [], ◌∷◌, ◌++◌, map, bit_xor, refl, sym, ◌∙◌, ap, subst}
use lib.Bits.{xor_zero_l, xor_zero_r, xor_self, xor_assoc}
use Rattle.std.specs.List.{AllByRecursion, list_all}
use Rattle.poly_mixed.specs.Monomial.{Monomial, text_cmp}
use Rattle.poly_mixed.specs.Polynomial.{Terms, Point, IsPoint, IsElement, IsTerm, IsPolynomialOf, IsReduced, powers, term_value, value}
use Rattle.poly_mixed.specs.Product.{with_rank, union}
use Rattle.poly_mixed.specs.Table.{differ, index, subset_parity, table_bit}
use Rattle.poly_mixed.specs.laws.Uniqueness.{IsZeros}
use Rattle.poly_mixed.specs.Sum.{with_coefficient, xor_sum, plus_term, plus}
use Rattle.poly_mixed.proofs.FieldLaws.{IsField}
use Rattle.poly_mixed.proofs.ProductLemmas.{rising-union, value_element, all-with_rank, all-union}
use Rattle.std.proofs.lemmas.Bool.{ne_eqb}
use Rattle.lists.specs.laws.BoolLaws.{cond_and}
use Rattle.lists.specs.laws.ListLaws.{all_append}
use Rattle.poly_mixed.proofs.SharedLemmas.{index_map}
use Rattle.poly_mixed.proofs.SumLemmas.{all_plus}
use Rattle.poly_mixed.proofs.ValueLemmas.{value-plus, reduced_plus, product_zero}
use Rattle.poly_mixed.proofs.SimpleLemmas.{one_rank_rises, one_simple, bits_monomial, single}
use lib.Bits.{xor_lt}
use Rattle.rato_reduce.specs.private.CutTerms.{of_bits, IsBitTerm, products, all_products}
use Rattle.rato_reduce.specs.Monomials.{monomials}
use Rattle.rato_reduce.proofs.CutLemmas.{sum_map_is}

-- whether an odd number of these sets is 1 at the point
abbrev pub parity : (ℕ → Bool) → List (List ℕ) → Bool
parity f [] = false
parity f (n ∷ ns) = differ (list_all f n) (parity f ns)

product_terms : (t : Monomial × ℕ) (ns : List (List ℕ)) → IsBitTerm t → AllByRecursion IsBitTerm (products t ns)
product_terms t [] is = tt
product_terms t (n ∷ ns) is = (record { no_words = refl; rising = rising-union t.0.bits n is.rising; some = is.some }, product_terms t ns is)

pub all_product_terms : (ts : Terms) (ns : List (List ℕ)) → AllByRecursion IsBitTerm ts → AllByRecursion IsBitTerm (all_products ts ns)
all_product_terms [] ns all = tt
all_product_terms (t ∷ ts) ns all = all_append IsBitTerm (products t ns) (all_products ts ns) (product_terms t ns all.0) (all_product_terms ts ns all.1)

products_over : (k : ℕ) (t : Monomial × ℕ) (ns : List (List ℕ)) → IsBitTerm t → IsTerm k t → AllByRecursion (IsTerm k) (products t ns)
products_over k t [] is over = tt
products_over k t (n ∷ ns) is over =
    let P : Monomial → Type 0 = λ m. IsTerm k (m, t.1) in
    let whole : IsTerm k (of_bits t.0.bits, t.1) = subst P is.no_words over in
    (record { monomial = record { words = refl; exponents = whole.monomial.exponents; rising = rising-union t.0.bits n is.rising }; element = over.element }, products_over k t ns is over)

pub all_products_over : (k : ℕ) (ts : Terms) (ns : List (List ℕ)) → AllByRecursion IsBitTerm ts → AllByRecursion (IsTerm k) ts → AllByRecursion (IsTerm k) (all_products ts ns)
all_products_over k [] ns all over = tt
all_products_over k (t ∷ ts) ns all over = all_append (IsTerm k) (products t ns) (all_products ts ns) (products_over k t ns all.0 over.0) (all_products_over k ts ns all.1 over.1)

pub reduced_more : (k : ℕ) (old us : Terms) → IsReduced k old → AllByRecursion IsBitTerm us → AllByRecursion (IsTerm k) us → IsReduced k (plus text_cmp old us)
reduced_more k old us reduced all over = record {
  is_map = sum_map_is old us reduced.is_map all;
  terms = all_plus text_cmp (IsTerm k) (λ t u h m n. record { monomial = h.monomial; element = xor_lt k t.1 u.1 h.element m.element }) old us reduced.terms over;
}

pub sum_append : (f : Monomial × ℕ → ℕ) (ts us : Terms) → xor_sum f (ts ++ us) ≡ bit_xor (xor_sum f ts) (xor_sum f us)
sum_append f [] us = sym (xor_zero_l (xor_sum f us))
sum_append f (t ∷ ts) us = ap (bit_xor (f t)) (sum_append f ts us) ∙ sym (xor_assoc (f t) (xor_sum f ts) (xor_sum f us))

add_chosen : (a b : Bool) (x : ℕ) → bit_xor (cond a x 0) (cond b x 0) ≡ cond (differ a b) x 0
add_chosen true true x = xor_self x
add_chosen true false x = xor_zero_r x
add_chosen false true x = xor_zero_l x
add_chosen false false x = refl

-- ---- the values of products

module _ (mul : ℕ → ℕ → ℕ) (p : Point) where
  product_value : (t : Monomial × ℕ) (n : List ℕ) → IsBitTerm t → term_value mul p (of_bits (union t.0.bits n), t.1) ≡ cond (list_all p.is_one n) (term_value mul p t) 0
  product_value t n is =
      let x = mul t.1 (powers mul (of_bits t.0.bits).exponents p.words) in
      let here : term_value mul p (of_bits t.0.bits, t.1) ≡ term_value mul p t = ap (λ (m : Monomial). term_value mul p (m, t.1)) (sym is.no_words) in
      ap (λ b. cond b x 0) (all-union p.is_one t.0.bits n) ∙ cond_and (list_all p.is_one t.0.bits) (list_all p.is_one n) x ∙ ap (λ v. cond (list_all p.is_one n) v 0) here

  products_value : (t : Monomial × ℕ) (ns : List (List ℕ)) → IsBitTerm t → value mul p (products t ns) ≡ cond (parity p.is_one ns) (term_value mul p t) 0
  products_value t [] is = refl
  products_value t (n ∷ ns) is = (λ i. bit_xor (product_value t n is i) (products_value t ns is i)) ∙ add_chosen (list_all p.is_one n) (parity p.is_one ns) (term_value mul p t)

  pub all_products_value : (ts : Terms) (ns : List (List ℕ)) → AllByRecursion IsBitTerm ts → value mul p (all_products ts ns) ≡ cond (parity p.is_one ns) (value mul p ts) 0
  all_products_value [] ns all = elim (parity p.is_one ns) as (λ b. ◌≡◌ {A = ℕ} 0 (cond b 0 0)) [ true ↦ refl | false ↦ refl ]
  all_products_value (t ∷ ts) ns all =
      sum_append (term_value mul p) (products t ns) (all_products ts ns)
      ∙ (λ i. bit_xor (products_value t ns all.0 i) (all_products_value ts ns all.1 i))
      ∙ elim (parity p.is_one ns) as (λ b. bit_xor (cond b (term_value mul p t) 0) (cond b (value mul p ts) 0) ≡ cond b (bit_xor (term_value mul p t) (value mul p ts)) 0) [ true ↦ refl | false ↦ refl ]

-- ---- the sets of a form

parity_append : (f : ℕ → Bool) (ms ns : List (List ℕ)) → parity f (ms ++ ns) ≡ differ (parity f ms) (parity f ns)
parity_append f [] ns = refl
parity_append f (m ∷ ms) ns = ap (differ (list_all f m)) (parity_append f ms ns) ∙ assoc (list_all f m) (parity f ms) (parity f ns)
  where
    assoc : (a b c : Bool) → differ a (differ b c) ≡ differ (differ a b) c
    assoc true true true = refl
    assoc true true false = refl
    assoc true false true = refl
    assoc true false false = refl
    assoc false b c = refl

pub parity_monomials : (f : ℕ → Bool) (form : ℕ) (taken rs : List ℕ) (base step : ℕ) → parity f (monomials form taken rs base step) ≡ (list_all f taken && subset_parity (table_bit form) f rs base step)
parity_monomials f form taken [] base step = elim (table_bit form base) as (λ b. parity f (cond b (taken ∷ []) []) ≡ (list_all f taken && b)) [
  | true ↦ elim (list_all f taken) as (λ b. differ b false ≡ (b && true)) [ true ↦ refl | false ↦ refl ]
  | false ↦ elim (list_all f taken) as (λ b. false ≡ (b && false)) [ true ↦ refl | false ↦ refl ]
]
parity_monomials f form taken (r ∷ rs) base step =
    let low = subset_parity (table_bit form) f rs base (2 * step) in
    let high = subset_parity (table_bit form) f rs (base + step) (2 * step) in
    parity_append f (monomials form taken rs base (2 * step)) (monomials form (with_rank taken r) rs (base + step) (2 * step))
    ∙ (λ i. differ (parity_monomials f form taken rs base (2 * step) i) ((parity_monomials f form (with_rank taken r) rs (base + step) (2 * step) ∙ ap (λ b. b && high) (all-with_rank f taken r)) i))
    ∙ elim (list_all f taken) as (λ b. differ (b && low) ((b && f r) && high) ≡ (b && differ low (f r && high))) [ true ↦ refl | false ↦ refl ]

-- ---- a cut with the products of the terms and of a table

pub put_table : {k : ℕ} {mul : ℕ → ℕ → ℕ} (f : IsField k mul) (old part : Terms) (ns : List (List ℕ)) (b : Bool) (p : Point) → IsPoint k p → AllByRecursion (IsTerm k) old
    → AllByRecursion IsBitTerm part → AllByRecursion (IsTerm k) part → parity p.is_one ns ≡ b
    → value mul p (plus text_cmp old (all_products part ns)) ≡ bit_xor (value mul p old) (mul (cond b 1 0) (value mul p part))
put_table {k} {mul} f old part ns b p at over all part_over is =
    let x = value mul p part in
    let e : IsElement k x = value_element f p at part part_over in
    value-plus f p at old (all_products part ns) over (all_products_over k part ns all part_over)
    ∙ ap (bit_xor (value mul p old)) (all_products_value mul p part ns all ∙ ap (λ v. cond v x 0) is ∙ elim b as (λ v. cond v x 0 ≡ mul (cond v 1 0) x) [ true ↦ sym (f.neutral x e) | false ↦ sym (product_zero f x e) ])

-- the sets of the form of a table, at the ranks of a gate's inputs
pub table_parity : (f : ℕ → Bool) (table form : ℕ) (rank : ℕ → ℕ) (ins ranks : List ℕ) (sets : List (List ℕ)) → ranks ≡ map rank ins → sets ≡ monomials form [] ranks 0 1
    → table_bit table (index f ranks) ≡ subset_parity (table_bit form) f ranks 0 1 → parity f sets ≡ table_bit table (index (λ n. f (rank n)) ins)
table_parity f table form rank ins ranks sets are sets_are law =
    ap (parity f) sets_are
    ∙ parity_monomials f form [] ranks 0 1
    ∙ sym law
    ∙ ap (λ rs. table_bit table (index f rs)) are
    ∙ ap (table_bit table) (index_map f rank ins)

-- ---- a cut with one bit more

zeros : IsZeros (0 ∷ 0 ∷ 0 ∷ 0 ∷ 0 ∷ 0 ∷ 0 ∷ 0 ∷ [])
zeros = (refl, (refl, (refl, (refl, (refl, (refl, (refl, (refl, tt))))))))

one_bit : {k : ℕ} {mul : ℕ → ℕ → ℕ} (f : IsField k mul) (rank c : ℕ) → IsElement k c → c ≢ 0 → IsPolynomialOf k mul (λ p. cond (list_all p.is_one (rank ∷ [])) c 0) ((of_bits (rank ∷ []), c) ∷ [])
one_bit {k} {mul} f rank c e some =
    let m = of_bits (rank ∷ []) in
    let P : Terms → Type 0 = IsPolynomialOf k mul (λ p. cond (list_all p.is_one (rank ∷ [])) c 0) in
    let alone : with_coefficient m c [] ≡ (m, c) ∷ [] = ap (λ b. cond b [] ((m, c) ∷ [])) (ne_eqb c 0 some) in
    subst P alone (one_simple f c m e (bits_monomial f (rank ∷ []) m refl (one_rank_rises rank)) zeros)

pub reduced_bit : {k : ℕ} {mul : ℕ → ℕ → ℕ} (f : IsField k mul) (old : Terms) (rank c : ℕ) → IsReduced k old → IsElement k c → c ≢ 0 → IsReduced k (plus_term text_cmp old (of_bits (rank ∷ []), c))
reduced_bit f old rank c reduced e some = reduced_plus f old ((of_bits (rank ∷ []), c) ∷ []) reduced (one_bit f rank c e some).reduced

pub value_bit : {k : ℕ} {mul : ℕ → ℕ → ℕ} (f : IsField k mul) (old : Terms) (rank c : ℕ) → IsReduced k old → IsElement k c → c ≢ 0 → (p : Point) → IsPoint k p
    → value mul p (plus_term text_cmp old (of_bits (rank ∷ []), c)) ≡ bit_xor (value mul p old) (cond (p.is_one rank) c 0)
value_bit {k} {mul} f old rank c reduced e some p at =
    let one = one_bit f rank c e some in
    value-plus f p at old ((of_bits (rank ∷ []), c) ∷ []) reduced.terms one.reduced.terms ∙ ap (bit_xor (value mul p old)) (one.values p at ∙ single f rank c p)
