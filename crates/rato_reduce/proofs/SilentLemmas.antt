-- Gates put in where equal terms stand apart, and pairs that nobody asks for.
use Rattle.std.proofs.Common.{◌≡◌, ℕ, Bool, List, [], ◌∷◌, bit_xor, refl, sym, ◌∙◌, ap, subst}
use lib.Bits.{xor_zero_l}
use Rattle.std.specs.List.{AllByRecursion}
use Rattle.lists.specs.laws.XorLaws.{xor_cross}
use Rattle.poly_mixed.specs.Monomial.{Monomial, text_cmp, text_cmp_total}
use Rattle.poly_mixed.specs.Polynomial.{Terms, Point, IsPoint, IsMap, IsReduced, coefficient, value}
use Rattle.poly_mixed.specs.Product.{union}
use Rattle.poly_mixed.specs.Steps.{Step}
use Rattle.poly_mixed.specs.Sum.{xor_sum, plus}
use Rattle.poly_mixed.specs.Cofactor.{at_bit, cofactors, lacking}
use Rattle.poly_mixed.specs.declared.steps.Generator.TheVariants.{Net}
use Rattle.poly_mixed.proofs.CofactorLemmas.{absent_of_none, none_of_absent, reduced_cofactors, reduced_lacking, value-cofactors}
use Rattle.poly_mixed.proofs.FieldLaws.{IsField}
use Rattle.poly_mixed.proofs.MonomialLemmas.{text_cmp-same}
use Rattle.poly_mixed.proofs.OneBitLemmas.{is_cofactor}
use Rattle.poly_mixed.proofs.SumLemmas.{IsAdditive, all_plus, at, at_additive, found_is_sum, xor_sum-plus}
use Rattle.poly_mixed.proofs.ValueLemmas.{same_map}
use Rattle.stage_model.specs.CutSteps.{AreStepsAt}
use Rattle.rato_reduce.specs.private.CutTerms.{of_bits, all_products, products, IsBitTerm}
use Rattle.rato_reduce.proofs.CutLemmas.{all_unit, sum_map_is}
use Rattle.rato_reduce.proofs.ProductLemmas.{all_product_terms, all_products_over, parity, put_table, reduced_more, sum_append}
use Rattle.rato_reduce.proofs.PutInLemmas.{put_in}

-- ---- the products of terms are those of their sum

product_sum : (q : Monomial) (ts : Terms) (ns : List (List ℕ)) → xor_sum (at text_cmp q) (all_products ts ns) ≡ xor_sum (λ t. xor_sum (at text_cmp q) (products t ns)) ts
product_sum q [] ns = refl
product_sum q (t ∷ ts) ns = sum_append (at text_cmp q) (products t ns) (all_products ts ns) ∙ ap (bit_xor (xor_sum (at text_cmp q) (products t ns))) (product_sum q ts ns)

products_add : (q : Monomial) (ns : List (List ℕ)) (m : Monomial) (c d : ℕ)
    → xor_sum (at text_cmp q) (products (m, bit_xor c d) ns) ≡ bit_xor (xor_sum (at text_cmp q) (products (m, c) ns)) (xor_sum (at text_cmp q) (products (m, d) ns))
products_add q [] m c d = sym (xor_zero_l 0)
products_add q (n ∷ ns) m c d =
    let u : Monomial = of_bits (union m.bits n) in
    (λ i. bit_xor ((at_additive text_cmp q).sums u c d tt tt i) (products_add q ns m c d i))
    ∙ xor_cross (at text_cmp q (u, c)) (at text_cmp q (u, d)) (xor_sum (at text_cmp q) (products (m, c) ns)) (xor_sum (at text_cmp q) (products (m, d) ns))

products_none : (q : Monomial) (ns : List (List ℕ)) (m : Monomial) → xor_sum (at text_cmp q) (products (m, 0) ns) ≡ 0
products_none q [] m = refl
products_none q (n ∷ ns) m = (λ i. bit_xor ((at_additive text_cmp q).none (of_bits (union m.bits n)) i) (products_none q ns m i)) ∙ xor_zero_l 0

products_additive : (q : Monomial) (ns : List (List ℕ)) → IsAdditive {K = Monomial} (λ _. Unit {0}) (λ t. xor_sum (at text_cmp q) (products t ns))
products_additive q ns = record { sums = λ m c d _ _. products_add q ns m c d; none = λ m. products_none q ns m }

sum_of_parts : (q : Monomial) (part : Terms) (ns : List (List ℕ)) → xor_sum (at text_cmp q) (all_products (plus text_cmp [] part) ns) ≡ xor_sum (at text_cmp q) (all_products part ns)
sum_of_parts q part ns =
    let f : Monomial × ℕ → ℕ = λ t. xor_sum (at text_cmp q) (products t ns) in
    product_sum q (plus text_cmp [] part) ns
    ∙ xor_sum-plus text_cmp text_cmp-same (λ _. Unit {0}) f (products_additive q ns) (λ x y _ _. tt) [] part tt (all_unit part)
    ∙ xor_zero_l (xor_sum f part)
    ∙ sym (product_sum q part ns)

added_sum : (old us : Terms) (q : Monomial) → IsMap (plus text_cmp old us) → coefficient (plus text_cmp old us) q ≡ bit_xor (xor_sum (at text_cmp q) old) (xor_sum (at text_cmp q) us)
added_sum old us q is_map =
    found_is_sum text_cmp text_cmp_total (plus text_cmp old us) q is_map.sorted
    ∙ xor_sum-plus text_cmp text_cmp-same (λ _. Unit {0}) (at text_cmp q) (at_additive text_cmp q) (λ x y _ _. tt) old us (all_unit old) (all_unit us)

sum_terms : (part : Terms) → AllByRecursion IsBitTerm part → AllByRecursion IsBitTerm (plus text_cmp [] part)
sum_terms part each = all_plus text_cmp IsBitTerm (λ t u h k n. record { no_words = h.no_words; rising = h.rising; some = n }) [] part tt each

summed_products : (old part : Terms) (ns : List (List ℕ)) → IsMap old → AllByRecursion IsBitTerm part → plus text_cmp old (all_products part ns) ≡ plus text_cmp old (all_products (plus text_cmp [] part) ns)
summed_products old part ns is_map each =
    let sum = plus text_cmp [] part in
    let one = sum_map_is old (all_products part ns) is_map (all_product_terms part ns each) in
    let other = sum_map_is old (all_products sum ns) is_map (all_product_terms sum ns (sum_terms part each)) in
    same_map (plus text_cmp old (all_products part ns)) (plus text_cmp old (all_products sum ns)) one other
    (λ q.
    added_sum old (all_products part ns) q one
    ∙ ap (bit_xor (xor_sum (at text_cmp q) old)) (sym (sum_of_parts q part ns))
    ∙ sym (added_sum old (all_products sum ns) q other))

-- ---- a gate in the place of its output

module _ {k : ℕ} {mul : ℕ → ℕ → ℕ} (f : IsField k mul) (old part new : Terms) (rank : ℕ) (ns : List (List ℕ)) (reduced : IsReduced k old) (each : AllByRecursion IsBitTerm part) (is : plus text_cmp [] part ≡ cofactors rank old)
    (made : new ≡ plus text_cmp (lacking rank old) (all_products part ns)) where
  part_each : AllByRecursion IsBitTerm (cofactors rank old)
  part_each = let P : Terms → Type 0 = AllByRecursion IsBitTerm in subst P is (sum_terms part each)

  made_of : new ≡ plus text_cmp (lacking rank old) (all_products (cofactors rank old) ns)
  made_of =
      made
      ∙ summed_products (lacking rank old) part ns (reduced_lacking k rank old reduced).is_map each
      ∙ ap (λ (ts : Terms). plus text_cmp (lacking rank old) (all_products ts ns)) is

  pub put_reduced : IsReduced k new
  put_reduced =
      let P : Terms → Type 0 = IsReduced k in
      let over = (reduced_cofactors k rank old reduced).terms in
      subst P (sym made_of) (reduced_more k (lacking rank old) (all_products (cofactors rank old) ns) (reduced_lacking k rank old reduced) (all_product_terms (cofactors rank old) ns part_each) (all_products_over k (cofactors rank old) ns part_each over))

  pub put_values : (h : Point → Bool) → ((p : Point) → parity p.is_one ns ≡ h p) → (p : Point) → IsPoint k p → value mul p new ≡ value mul (at_bit p rank (h p)) old
  put_values h same =
      put_in f rank old (cofactors rank old) new h reduced (λ p at. value-cofactors mul p rank old)
      (λ p at.
      ap (λ (ts : Terms). value mul p ts) made_of
      ∙ put_table f (lacking rank old) (cofactors rank old) ns (h p) p at (reduced_lacking k rank old reduced).terms part_each (reduced_cofactors k rank old reduced).terms (same p))

-- ---- the pairs at a net

pub silent_step : (k rank n : ℕ) (ts : Terms) → IsReduced k ts → (made : List Step) × AreStepsAt k rank n ts made
silent_step k rank n ts reduced = parts (cofactors rank ts) refl
  where
    parts : (part : Terms) → cofactors rank ts ≡ part → (made : List Step) × AreStepsAt k rank n ts made
    parts [] none = ([], record { absent = λ _. refl; present = λ stands. absurd (stands (absent_of_none rank ts none)) })
    parts (t ∷ us) some = (
      (Net n, cofactors rank ts) ∷ [],
      record {
        absent = λ lacks. (let bad : t ∷ us ≡ [] = sym some ∙ none_of_absent rank ts lacks in absurd (cc));
        present = λ _. record { cofactor = cofactors rank ts; reduced = reduced_cofactors k rank ts reduced; is = is_cofactor rank ts reduced.is_map; steps_are = refl };
      },
    )
