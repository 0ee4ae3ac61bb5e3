-- The running sum of a certificate has a polynomial, where the claim and the multipliers are reduced.
use Rattle.std.proofs.Common.{◌≡◌, ◌∙◌, ap, sym, refl, subst, inl, inr, ℕ, zero, suc, ◌+◌, ◌*◌, ◌<◌, ◌≤◌, ◌^◌, Bool, true, false, cond, List, [], ◌∷◌, length, map, bit_xor, arith}
use Rattle.std.specs.Prelude.{Option, None, Some, slice_get, slice_index}
use Rattle.std.specs.List.{AllByRecursion}
use Rattle.std.proofs.lemmas.Bool.{cases_lt}
use lib.Bits.{xor_assoc, xor_comm, xor_lt, xor_self, xor_zero_l, xor_zero_r}
use Rattle.lists.specs.Lists.{Has}
use Rattle.lists.specs.laws.ListLaws.{all_append}
use Rattle.lists.specs.laws.ReadLaws.{all_at}
use Rattle.gf_field.specs.Element.{AreElements}
use Rattle.gf_field.specs.Field.{HasNoZeroDivisors}
use Rattle.gf_field.specs.Polynomial.{sum_of_first}
use Rattle.gf_field.specs.Ring.{IsRing}
use Rattle.gf_field.specs.Trace.{frobenius}
use Rattle.gf_field.specs.laws.PowerLaws.{one_below}
use Rattle.gf_field.specs.laws.RingLaws.{zero_mul}
use Rattle.irreducible.specs.Span.{combination}
use Rattle.irreducible.specs.laws.SpanLaws.{combination_below}
use Rattle.gf_basis.specs.BasisParts.{elements_of, duals_of, IsBasisOver}
use Rattle.gf_basis.specs.declared.bases.Basis.{Basis}
use Rattle.net_core.specs.GateValue.{GateValue}
use Rattle.net_core.specs.NetList.{nets}
use Rattle.net_words.specs.Binding.{BoundNet}
use Rattle.net_words.specs.BoundTo.{output_bits}
use Rattle.net_words.specs.Variables.{variables}
use Rattle.net_words.specs.declared.bound.BoundWord.{BoundWord}
use Rattle.net_words.specs.declared.word.Role.{Role}
use Rattle.net_words.specs.declared.word.Role.TheVariants.{Input, State, Fed, Output}
use Rattle.poly_mixed.specs.Polynomial.{Terms, Point, IsPoint, IsReduced, value}
use Rattle.poly_mixed.specs.Steps.{Step}
use Rattle.poly_mixed.specs.Table.{index, table_bit}
use Rattle.poly_mixed.specs.declared.steps.Generator.{Generator}
use Rattle.poly_mixed.specs.declared.steps.Generator.TheVariants.{Net, Bit}
use Rattle.circuit_model.specs.Bases.{AreBases}
use Rattle.circuit_model.specs.OfBinding.{word_with, words_of, output_basis, output_basis_with}
use Rattle.circuit_model.specs.Word.{Word}
use Rattle.stage_model.proofs.SomePolynomialLemmas.{HasPolynomial, some_sum, some_product, some_constant, some_bit, some_word}
use Rattle.cert_check.specs.Certificate.{Certificate}
use Rattle.cert_check.specs.Driver.{driver}
use Rattle.cert_check.specs.Running.{rank_among, driven_value, dual_form, dual_at, dual_words, generator_value, products, output_value}
use Rattle.cert_check.specs.Verdict.{IsRunningSum}

-- the claim, the shared multipliers and those of the pairs are reduced
pub record AreReduced (k : ℕ) (c : Certificate) : Type 0 where
  pub claim : IsReduced k c.claim
  pub shared : AllByRecursion (IsReduced k) c.shared
  pub pairs : AllByRecursion (λ (s : Step). IsReduced k s.1) c.pairs

past_end : (xs : List ℕ) (i : ℕ) → length xs ≤ i → slice_index xs i ≡ 0
past_end [] zero past = refl
past_end [] (suc i) past = refl
past_end (x ∷ xs) zero past = absurd (omega (arith, past))
past_end (x ∷ xs) (suc i) past = past_end xs i (omega (arith, past))

-- each place, and what stands past the end, holds an element
abbrev AreLow : ℕ → List ℕ → Type 0
AreLow k xs = (i : ℕ) → slice_index xs i < 2 ^ k

module _ (k : ℕ) (mul : ℕ → ℕ → ℕ) (ring : IsRing k mul) (field : HasNoZeroDivisors k mul) where
  zero_low : 0 < 2 ^ k
  zero_low = omega (arith, one_below k mul ring)

  bit_low : (b : Bool) → cond b 1 0 < 2 ^ k
  bit_low true = one_below k mul ring
  bit_low false = zero_low

  elements_low : (xs : List ℕ) → AreElements k xs → AreLow k xs
  elements_low xs are i =
      elim (cases_lt i (length xs)) [
        | inl less ↦ are i less
        | inr past ↦ (let P : ℕ → Type 0 = λ x. x < 2 ^ k in subst P (sym (past_end xs i past)) zero_low)
      ]

  -- ---- functions with polynomials

  same_polynomial : (g h : Point → ℕ) → ((p : Point) → IsPoint k p → g p ≡ h p) → HasPolynomial k mul g → HasPolynomial k mul h
  same_polynomial g h same a = (a.0, record { reduced = a.1.reduced; values = λ p at. a.1.values p at ∙ same p at })

  zero_polynomial : HasPolynomial k mul (λ p. 0)
  zero_polynomial = some_constant k mul ring field 0 zero_low

  own_polynomial : (ts : Terms) → IsReduced k ts → HasPolynomial k mul (λ p. value mul p ts)
  own_polynomial ts reduced = (ts, record { reduced = reduced; values = λ p at. refl })

  -- off, plus the bit times the sum of on and off
  picked : (off on : ℕ) → off < 2 ^ k → on < 2 ^ k → (b : Bool) → bit_xor off (mul (cond b 1 0) (bit_xor on off)) ≡ cond b on off
  picked off on low high true = ap (bit_xor off) (ring.one (bit_xor on off) (xor_lt k on off high low) ∙ xor_comm on off) ∙ (sym (xor_assoc off off on) ∙ (ap (λ x. bit_xor x on) (xor_self off) ∙ xor_zero_l on))
  picked off on low high false = ap (bit_xor off) (zero_mul k mul ring (bit_xor on off)) ∙ xor_zero_r off

  joined : (F : ℕ → ℕ) (b : Bool) (j : ℕ) → cond b (F (1 + 2 * j)) (F (0 + 2 * j)) ≡ F (cond b 1 0 + 2 * j)
  joined F true j = refl
  joined F false j = refl

  -- a function of the number that the bits of ranks make
  indexed : (rank : ℕ → ℕ) (ns : List ℕ) (F : ℕ → ℕ) → ((j : ℕ) → F j < 2 ^ k) → HasPolynomial k mul (λ p. F (index (λ n. p.is_one (rank n)) ns))
  indexed rank [] F low = some_constant k mul ring field (F 0) (low 0)
  indexed rank (n ∷ ns) F low =
      let at : Point → ℕ = λ p. index (λ m. p.is_one (rank m)) ns in
      let off : Point → ℕ = λ p. F (0 + 2 * at p) in
      let on : Point → ℕ = λ p. F (1 + 2 * at p) in
      let bit : Point → ℕ = λ p. cond (p.is_one (rank n)) 1 0 in
      let offs : HasPolynomial k mul off = indexed rank ns (λ j. F (0 + 2 * j)) (λ j. low (0 + 2 * j)) in
      let ons : HasPolynomial k mul on = indexed rank ns (λ j. F (1 + 2 * j)) (λ j. low (1 + 2 * j)) in
      let change : HasPolynomial k mul (λ p. mul (bit p) (bit_xor (on p) (off p))) = some_product k mul ring field bit (λ p. bit_xor (on p) (off p)) (some_bit k mul ring field (rank n)) (some_sum k mul ring field on off ons offs) in
      same_polynomial (λ p. bit_xor (off p) (mul (bit p) (bit_xor (on p) (off p)))) (λ p. F (cond (p.is_one (rank n)) 1 0 + 2 * at p))
      (λ p point. picked (off p) (on p) (low (0 + 2 * at p)) (low (1 + 2 * at p)) (p.is_one (rank n)) ∙ joined F (p.is_one (rank n)) (at p))
      (some_sum k mul ring field off (λ p. mul (bit p) (bit_xor (on p) (off p))) offs change)

  word_polynomial : (w : ℕ) → HasPolynomial k mul (λ p. slice_index p.words w)
  word_polynomial w =
      elim (cases_lt w 8) [
        | inl less ↦ some_word k mul ring field w less
        | inr past ↦ same_polynomial (λ p. 0) (λ p. slice_index p.words w) (λ p at. sym (past_end p.words w (omega (arith, at.words, past)))) zero_polynomial
      ]

  squared : (j : ℕ) (g : Point → ℕ) → HasPolynomial k mul g → HasPolynomial k mul (λ p. frobenius mul j (g p))
  unfolding frobenius
  squared zero g a = a
  squared (suc j) g a = some_product k mul ring field (λ p. frobenius mul j (g p)) (λ p. frobenius mul j (g p)) (squared j g a) (squared j g a)

  squared_low : (j d : ℕ) → d < 2 ^ k → frobenius mul j d < 2 ^ k
  unfolding frobenius
  squared_low zero d low = low
  squared_low (suc j) d low = ring.closed (frobenius mul j d) (frobenius mul j d)

  form_polynomial : (n d w : ℕ) → d < 2 ^ k → HasPolynomial k mul (λ p. sum_of_first n (λ j. mul (frobenius mul j d) (frobenius mul j (slice_index p.words w))))
  form_polynomial zero d w low = zero_polynomial
  form_polynomial (suc n) d w low =
      some_sum k mul ring field (λ p. sum_of_first n (λ j. mul (frobenius mul j d) (frobenius mul j (slice_index p.words w)))) (λ p. mul (frobenius mul n d) (frobenius mul n (slice_index p.words w)))
      (form_polynomial n d w low)
      (some_product k mul ring field (λ p. frobenius mul n d) (λ p. frobenius mul n (slice_index p.words w)) (some_constant k mul ring field (frobenius mul n d) (squared_low n d low)) (squared n (λ p. slice_index p.words w) (word_polynomial w)))

  -- ---- the bases

  role_low : (role : Role) (nets basis : List ℕ) → AreLow k basis → AllByRecursion (λ (w : Word). AreLow k w.basis) (word_with role nets basis)
  role_low Input nets basis low = (low, tt)
  role_low State nets basis low = (low, tt)
  role_low Fed nets basis low = (low, tt)
  role_low Output nets basis low = tt

  words_low : (words : List BoundWord) (bases : List (List ℕ)) → AllByRecursion (AreLow k) bases → AllByRecursion (λ (w : Word). AreLow k w.basis) (words_of words bases)
  words_low [] bases low = tt
  words_low (word ∷ words) [] low = tt
  words_low (word ∷ words) (basis ∷ bases) low =
      all_append (λ (w : Word). AreLow k w.basis) (word_with word.role word.nets basis) (words_of words bases) (role_low word.role word.nets basis low.0) (words_low words bases low.1)

  chosen_low : (role : Role) (basis other : List ℕ) → AreLow k basis → AreLow k other → AreLow k (output_basis_with role basis other)
  chosen_low Input basis other low high = high
  chosen_low State basis other low high = high
  chosen_low Fed basis other low high = high
  chosen_low Output basis other low high = low

  none_low : AreLow k []
  none_low i = let P : ℕ → Type 0 = λ x. x < 2 ^ k in subst P (sym (past_end [] i (omega arith))) zero_low

  output_low : (words : List BoundWord) (bases : List (List ℕ)) → AllByRecursion (AreLow k) bases → AreLow k (output_basis words bases)
  output_low [] bases low = none_low
  output_low (word ∷ words) [] low = none_low
  output_low (word ∷ words) (basis ∷ bases) low = chosen_low word.role basis (output_basis words bases) low.0 (output_low words bases low.1)

  duals_low : (bases : List Basis) → ((basis : Basis) → Has bases basis → IsBasisOver k mul basis) → AllByRecursion (AreLow k) (map duals_of bases)
  duals_low [] each = tt
  duals_low (basis ∷ bases) each = (elements_low (duals_of basis) (each basis (0, refl)).dual.inside, duals_low bases (λ other has. each other (suc has.0, has.1)))

  parts_low : (bases : List Basis) → ((basis : Basis) → Has bases basis → IsBasisOver k mul basis) → AllByRecursion (AreLow k) (map elements_of bases)
  parts_low [] each = tt
  parts_low (basis ∷ bases) each = (elements_low (elements_of basis) (each basis (0, refl)).elements.inside, parts_low bases (λ other has. each other (suc has.0, has.1)))

  module _ (netlist : BoundNet) (bases : List Basis) (are : AreBases k mul netlist bases) where
    abbrev vars : List ℕ
    vars = variables (nets netlist.net) netlist.binding.words

    dual_low : (found : Option Word) (w i : ℕ) → slice_get (dual_words netlist bases) w ≡ found → dual_at found i < 2 ^ k
    dual_low None w i at = zero_low
    dual_low (Some word) w i at = all_at (λ (v : Word). AreLow k v.basis) (dual_words netlist bases) w word (words_low netlist.binding.words (map duals_of bases) (duals_low bases are.each)) at i

    driven_polynomial : (found : Option GateValue) → HasPolynomial k mul (λ p. driven_value vars p found)
    driven_polynomial None = zero_polynomial
    driven_polynomial (Some g) = indexed (rank_among vars) g.inputs (λ j. cond (table_bit g.table j) 1 0) (λ j. bit_low (table_bit g.table j))

    generator_polynomial : (g : Generator) → HasPolynomial k mul (generator_value k mul netlist bases g)
    generator_polynomial (Net n) =
        some_sum k mul ring field (λ p. cond (p.is_one (rank_among vars n)) 1 0) (λ p. driven_value vars p (driver netlist.net n))
        (some_bit k mul ring field (rank_among vars n)) (driven_polynomial (driver netlist.net n))
    generator_polynomial (Bit w i) =
        let d : ℕ = dual_at (slice_get (dual_words netlist bases) w) i in
        some_sum k mul ring field (λ p. cond (p.is_one (k * w + i)) 1 0) (λ p. dual_form k mul d (slice_index p.words w))
        (some_bit k mul ring field (k * w + i)) (form_polynomial k d w (dual_low (slice_get (dual_words netlist bases) w) w i refl))

    products_polynomial : (steps : List Step) → AllByRecursion (λ (s : Step). IsReduced k s.1) steps → HasPolynomial k mul (products k mul netlist bases steps)
    products_polynomial [] all = zero_polynomial
    products_polynomial (s ∷ steps) all =
        some_sum k mul ring field (λ p. mul (generator_value k mul netlist bases s.0 p) (value mul p s.1)) (products k mul netlist bases steps)
        (some_product k mul ring field (generator_value k mul netlist bases s.0) (λ p. value mul p s.1) (generator_polynomial s.0) (own_polynomial s.1 all.0)) (products_polynomial steps all.1)

    output_polynomial : HasPolynomial k mul (output_value k mul netlist bases)
    output_polynomial =
        let basis : List ℕ = output_basis netlist.binding.words (map elements_of bases) in
        indexed (rank_among vars) (output_bits netlist.binding.words) (combination basis) (λ j. combination_below basis k j (λ i less. output_low netlist.binding.words (map elements_of bases) (parts_low bases are.each) i))

    pub some_running : (c : Certificate) → AreReduced k c → (sum : Terms) × IsRunningSum k mul netlist bases c sum
    some_running c reduced =
        some_sum k mul ring field (λ p. bit_xor (output_value k mul netlist bases p) (value mul p c.claim)) (products k mul netlist bases c.pairs)
        (some_sum k mul ring field (output_value k mul netlist bases) (λ p. value mul p c.claim) output_polynomial (own_polynomial c.claim reduced.claim)) (products_polynomial c.pairs reduced.pairs)
