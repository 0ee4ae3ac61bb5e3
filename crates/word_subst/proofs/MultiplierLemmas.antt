-- The product so far with a term's later bits of the word is the multiplier of the bit.
use Rattle.std.proofs.Common.{◌≡◌, ◌∙◌, ap, sym, ℕ, suc, ◌<◌, ◌-◌, ◌*◌, Bool, true, false, cond, not, ◌&&◌, ◌==◌, List, ◌++◌, take, drop, Some, arith}
use Rattle.std.specs.Prelude.{slice_get, nat_lt}
use Rattle.std.specs.Int.{bit_at}
use Rattle.std.specs.List.{filter, list_all}
use Rattle.std.proofs.lemmas.Bool.{lt-ltb, le-ltb}
use Rattle.std.proofs.lemmas.List.Folds.{list_all-append}
use Rattle.poly_mixed.proofs.AroundLemmas.{all_around}
use Rattle.poly_mixed.specs.Monomial.{Monomial}
use Rattle.poly_mixed.specs.Polynomial.{Terms, Point, IsPoint, IsElement, IsTerm, IsReduced, powers, value}
use Rattle.poly_mixed.specs.Product.{IsProduct}
use Rattle.poly_mixed.proofs.FieldLaws.{IsField}
use Rattle.poly_mixed.proofs.ProductLemmas.{value_element}
use Rattle.stage_model.specs.WordStage.{is_of_word, word_bits, with_word}
use Rattle.stage_model.specs.WordSteps.{with_word_below}
use Rattle.stage_model.specs.PlainWord.{IsReading, IsProductOf}
use Rattle.stage_model.proofs.WordPolyLemmas.{filter_passes}
use Rattle.word_subst.specs.Multiplier.{IsWithBits}
use Rattle.word_subst.specs.Read.{multiplier_at}
use Rattle.word_subst.proofs.ChoiceLemmas.{times_bit}
use Rattle.lists.specs.laws.BoolLaws.{cond_and}

module _ (k : ℕ) (mul : ℕ → ℕ → ℕ) (elements : List ℕ) (w : ℕ) (t : Monomial × ℕ) (is : IsTerm k t) where
  pub multiplier_is : (j r : ℕ) (product ts : Terms) → slice_get (word_bits k w t) j ≡ Some r → IsProductOf k mul elements w t j product → IsWithBits k mul product (drop (suc j) (word_bits k w t)) ts
      → IsReading k mul elements w (multiplier_at k mul w t r) ts
  multiplier_is j r product ts got so_far with_bits = record {
    reduced = with_bits.reduced;
    values = λ p d at bits.
        let q : ℕ → Bool = (with_word_below k w r d p).is_one in
        let low : ℕ → Bool = (with_word k w d p).is_one in
        let rest : List ℕ = filter (λ x. not (is_of_word k w x)) t.0.bits in
        let whole : ℕ = mul t.1 (powers mul t.0.exponents p.words) in
        let own : is_of_word k w r ≡ true = filter_passes (is_of_word k w) t.0.bits j r got in
        with_bits.values p at
        ∙ (ap (λ x. cond (list_all p.is_one (drop (suc j) (word_bits k w t))) x 0) (so_far.values p d at bits)
        ∙ (sym (cond_and (list_all low (take j (word_bits k w t) ++ rest)) (list_all p.is_one (drop (suc j) (word_bits k w t))) whole)
        ∙ ap (λ b. cond b whole 0)
        (ap (λ b. b && list_all p.is_one (drop (suc j) (word_bits k w t))) (list_all-append low (take j (word_bits k w t)) rest)
        ∙ sym (all_around (is_of_word k w) q low p.is_one r own (low_same d p) (high_same d p) (other_same d p) t.0.bits j is.monomial.rising got))));
  }
    where
      low_same : (d : ℕ) (p : Point) (x : ℕ) → is_of_word k w x ≡ true → x < r → (with_word_below k w r d p).is_one x ≡ (with_word k w d p).is_one x
      low_same d p x e less =
          let l : nat_lt x r ≡ true = lt-ltb x r less in
          (λ i. cond (e i && l i) (bit_at d (x - k * w) == 1) (p.is_one x)) ∙ sym (ap (λ b. cond b (bit_at d (x - k * w) == 1) (p.is_one x)) e)

      high_same : (d : ℕ) (p : Point) (x : ℕ) → is_of_word k w x ≡ true → r < x → (with_word_below k w r d p).is_one x ≡ p.is_one x
      high_same d p x e more =
          let l : nat_lt x r ≡ false = le-ltb x r (omega arith) in
          (λ i. cond (e i && l i) (bit_at d (x - k * w) == 1) (p.is_one x))

      other_same : (d : ℕ) (p : Point) (x : ℕ) → is_of_word k w x ≡ false → (with_word_below k w r d p).is_one x ≡ (with_word k w d p).is_one x
      other_same d p x e = (λ i. cond (e i && nat_lt x r) (bit_at d (x - k * w) == 1) (p.is_one x)) ∙ sym (ap (λ b. cond b (bit_at d (x - k * w) == 1) (p.is_one x)) e)

-- the product with a polynomial that is 1 where all these bits are, and else 0
pub chosen : {k : ℕ} {mul : ℕ → ℕ → ℕ} (f : IsField k mul) (product : Terms) (bits : List ℕ) (ones ts : Terms) → IsReduced k product → IsReduced k ts → IsProduct k mul ts product ones
    → ((p : Point) → IsPoint k p → value mul p ones ≡ cond (list_all p.is_one bits) 1 0) → IsWithBits k mul product bits ts
chosen {k} {mul} f product bits ones ts over reduced is one = record {
  reduced = reduced;
  values = λ p at.
      let x : ℕ = value mul p product in
      let less : IsElement k x = value_element f p at product over.terms in
      is p at ∙ (ap (mul x) (one p at) ∙ times_bit f x less (list_all p.is_one bits));
}
