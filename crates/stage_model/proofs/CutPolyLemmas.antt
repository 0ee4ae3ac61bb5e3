-- The polynomial of a cut, bit by bit.
use Rattle.std.proofs.Common.{◌≡◌, ◌∙◌, ap, sym, refl, subst, inl, inr, ℕ, zero, suc, ◌<◌, ◌≤◌, Bool, true, false, cond, List, [], ◌∷◌, ◌++◌, length, get_or, bit_xor, arith}
use Rattle.std.proofs.lemmas.Bool.{cases_order, lt-ltb, le-ltb}
use lib.Bits.{xor_self, xor_zero_r, xor_zero_l, xor_assoc, xor_comm, xor_lt}
use Rattle.std.proofs.lemmas.List.{length-append}
use Rattle.net_core.specs.NetList.{NetList, nets}
use Rattle.circuit_model.specs.Word.{Word}
use Rattle.poly_mixed.specs.Polynomial.{Terms, Point, IsPoint, IsReduced, IsPolynomialOf, IsElement, point, value}
use Rattle.poly_mixed.proofs.FieldLaws.{IsField}
use Rattle.poly_mixed.proofs.ValueLemmas.{product_zero}
use Rattle.poly_mixed.proofs.ProductLemmas.{value_element}
use Rattle.stage_model.specs.Variables.{rank_in, point_bit}
use Rattle.stage_model.specs.Cut.{IsCut}
use Rattle.stage_model.specs.private.Plain.{HasEachNet, with_first, IsChoice, IsCutAfter}

module _ {k : ℕ} {mul : ℕ → ℕ → ℕ} (f : IsField k mul) where
  -- zero + bit * (zero + one)
  pub chosen : (rank : ℕ) (off on change bit product sum : Terms) → IsReduced k off → IsReduced k on
      → ((p : Point) → IsPoint k p → value mul p change ≡ bit_xor (value mul p on) (value mul p off))
      → ((p : Point) → IsPoint k p → value mul p bit ≡ cond (p.is_one rank) 1 0)
      → ((p : Point) → IsPoint k p → value mul p product ≡ mul (value mul p bit) (value mul p change))
      → ((p : Point) → IsPoint k p → value mul p sum ≡ bit_xor (value mul p off) (value mul p product)) → IsChoice k mul rank off on sum
  chosen rank off on change bit product sum rz ro ch bi pr su p at =
      let z = value mul p off in
      let o = value mul p on in
      let z_in : IsElement k z = value_element f p at off rz.terms in
      let o_in : IsElement k o = value_element f p at on ro.terms in
      su p at ∙ (ap (bit_xor z) (pr p at ∙ (λ i. mul (bi p at i) (ch p at i))) ∙ by z o z_in o_in (p.is_one rank))
    where
      by : (z o : ℕ) → IsElement k z → IsElement k o → (b : Bool) → bit_xor z (mul (cond b 1 0) (bit_xor o z)) ≡ cond b o z
      by z o hz ho true =
          ap (bit_xor z) (f.neutral (bit_xor o z) (xor_lt k o z ho hz) ∙ xor_comm o z) ∙ (sym (xor_assoc z z o) ∙ (ap (λ x. bit_xor x o) (xor_self z) ∙ xor_zero_l o))
      by z o hz ho false = ap (bit_xor z) (product_zero f (bit_xor o z) (xor_lt k o z ho hz)) ∙ xor_zero_r z

-- cuts at points with the same bits of nets
pub same_cut : (net : NetList) (variables : List ℕ) (output : Word) (t : ℕ) (p q : Point) (e : ℕ) → ((n : ℕ) → n < nets net → point_bit variables p n ≡ point_bit variables q n) → IsCut net variables output t p e → IsCut net variables output t q e
same_cut net variables output t p q e same cut = record {
  order = cut.order;
  elimination = cut.elimination;
  bits = cut.bits;
  settled = record { long = cut.settled.long; free = λ n less none. cut.settled.free n less none ∙ same n less; right = cut.settled.right };
  element = cut.element;
}

front_get : (xs ys : List Bool) (r : ℕ) → r < length xs → get_or (xs ++ ys) r false ≡ get_or xs r false
front_get [] ys r less = absurd (omega arith)
front_get (x ∷ xs) ys zero less = refl
front_get (x ∷ xs) ys (suc r) less = front_get xs ys r (omega arith)

last_get : (xs : List Bool) (b : Bool) → get_or (xs ++ b ∷ []) (length xs) false ≡ b
last_get [] b = refl
last_get (x ∷ xs) b = last_get xs b

first_one : (bits : List Bool) (p : Point) (r : ℕ) → r < length bits → (with_first bits p).is_one r ≡ get_or bits r false
first_one bits p r less = ap (λ c. cond c (get_or bits r false) (p.is_one r)) (lt-ltb r (length bits) less)

later_one : (bits : List Bool) (p : Point) (r : ℕ) → length bits ≤ r → (with_first bits p).is_one r ≡ p.is_one r
later_one bits p r past = ap (λ c. cond c (get_or bits r false) (p.is_one r)) (le-ltb r (length bits) past)

more_same : (bits : List Bool) (b : Bool) (p : Point) → p.is_one (length bits) ≡ b → (r : ℕ) → (with_first (bits ++ b ∷ []) p).is_one r ≡ (with_first bits p).is_one r
more_same bits b p is r =
    elim (cases_order r (length bits)) [
      | inl same ↦
          let P : ℕ → Type 0 = λ s. (with_first (bits ++ b ∷ []) p).is_one s ≡ (with_first bits p).is_one s in
          subst P (sym same) (first_one (bits ++ b ∷ []) p (length bits) (omega (arith, long)) ∙ (last_get bits b ∙ (sym is ∙ sym (later_one bits p (length bits) (omega arith)))))
      | inr other ↦ elim other [
        | inl low ↦ first_one (bits ++ b ∷ []) p r (omega (arith, long)) ∙ (front_get bits (b ∷ []) r low ∙ sym (first_one bits p r low))
        | inr high ↦ later_one (bits ++ b ∷ []) p r (omega (arith, long)) ∙ sym (later_one bits p r (omega arith))
      ]
    ]
  where
    long : length (bits ++ b ∷ []) ≡ suc (length bits)
    long = omega (arith, length-append bits (b ∷ []))

module _ (k : ℕ) (mul : ℕ → ℕ → ℕ) (net : NetList) (variables : List ℕ) (output : Word) (t : ℕ) where
  -- where all ranks have their bits
  pub all_bits : (bits : List Bool) (e : ℕ) (ts : Terms) → HasEachNet net variables → length bits ≡ length variables → ((ws : List ℕ) → IsCut net variables output t (point ws bits) e) → IsPolynomialOf k mul (λ p. e) ts → IsCutAfter k mul net variables output t bits ts
  all_bits bits e ts each long cut is = record {
    reduced = is.reduced;
    values = λ p at.
        let P : ℕ → Type 0 = λ x. IsCut net variables output t (with_first bits p) x in
        subst P (sym (is.values p at)) (same_cut net variables output t (point [] bits) (with_first bits p) e (λ n less. sym (first_one bits p (rank_in variables n) (low n less))) (cut []));
  }
    where
      low : (n : ℕ) → n < nets net → rank_in variables n < length bits
      low n less = omega (arith, each n less, long)

  -- where one more rank has either bit
  pub one_more : (bits : List Bool) (zs os ts : Terms) → IsReduced k ts → IsChoice k mul (length bits) zs os ts → IsCutAfter k mul net variables output t (bits ++ false ∷ []) zs → IsCutAfter k mul net variables output t (bits ++ true ∷ []) os → IsCutAfter k mul net variables output t bits ts
  one_more bits zs os ts reduced choice off on = record {
    reduced = reduced;
    values = λ p at. elim (p.is_one (length bits)) as (λ b. p.is_one (length bits) ≡ b → IsCut net variables output t (with_first bits p) (value mul p ts)) [
      | true ↦ λ e. moved p true e (value mul p os) (choice p at ∙ ap (λ b. cond b (value mul p os) (value mul p zs)) e) (on.values p at)
      | false ↦ λ e. moved p false e (value mul p zs) (choice p at ∙ ap (λ b. cond b (value mul p os) (value mul p zs)) e) (off.values p at)
    ] refl;
  }
    where
      moved : (p : Point) (b : Bool) → p.is_one (length bits) ≡ b → (x : ℕ) → value mul p ts ≡ x → IsCut net variables output t (with_first (bits ++ b ∷ []) p) x → IsCut net variables output t (with_first bits p) (value mul p ts)
      moved p b e x is cut =
          let P : ℕ → Type 0 = λ y. IsCut net variables output t (with_first bits p) y in
          subst P (sym is) (same_cut net variables output t (with_first (bits ++ b ∷ []) p) (with_first bits p) x (λ n less. more_same bits b p e (rank_in variables n)) cut)
