-- A word in its bits.
use Rattle.std.proofs.Common.{◌≡◌, ◌∙◌, ap, sym, refl, subst, ℕ, zero, suc, ◌<◌, ◌+◌, ◌-◌, ◌*◌, ◌^◌, Bool, true, false, cond, List, [], ◌∷◌, length, take, get_or, bit_xor, Some, arith}
use Rattle.std.specs.Prelude.{slice_get, slice_index}
use lib.Bits.{xor_zero_l, xor_zero_r, xor_assoc}
use Rattle.std.proofs.lemmas.Option.{get_or_from_slice_get, slice_get_within}
use Rattle.lists.specs.laws.NumberLaws.{lowest_times, rest_of_choice}
use Rattle.lists.specs.laws.ReadLaws.{get_below}
use Rattle.gf_basis.specs.Basis.{first_values}
use Rattle.irreducible.specs.Span.{combination}
use Rattle.net_core.specs.NetList.{nets}
use Rattle.net_core.specs.Value.{bit_of, index_of}
use Rattle.poly_mixed.specs.Table.{index}
use Rattle.poly_mixed.specs.Polynomial.{Terms, Point, IsPoint, IsReduced, IsPolynomialOf, value}
use Rattle.circuit_model.specs.Word.{Word, HasElement}
use Rattle.circuit_model.specs.Circuit.{Circuit, IsInput}
use Rattle.circuit_model.specs.WellFormed.{IsWellFormed}
use Rattle.circuit_model.proofs.SourceLemmas.{source_inside, stands_source}
use Rattle.gf_basis.proofs.CodeLaws.{length-first_values, get_or-first_values}
use Rattle.poly_mixed.proofs.ReadReducedLemmas.{nothing_reduced}
use Rattle.stage_model.specs.Variables.{point_bits, variables_of}
use Rattle.stage_model.specs.InputPoint.{IsAtInput}
use Rattle.stage_model.proofs.PointLemmas.{point_bits_at}
use Rattle.stage_model.proofs.PlaceLemmas.{place_rank}
use Rattle.spec_expand.specs.private.Expanding.{IsOfInput, IsWordInBits}

-- the sum of chosen elements, place by place
sum_more : (f : ℕ → Bool) (basis ns : List ℕ) (i : ℕ) → i < length basis → i < length ns
    → combination (take (suc i) basis) (index f (take (suc i) ns)) ≡ bit_xor (combination (take i basis) (index f (take i ns))) (cond (f (get_or ns i 0)) (get_or basis i 0) 0)
sum_more f [] ns i l m = absurd (omega arith)
sum_more f (b ∷ bs) [] i l m = absurd (omega arith)
sum_more f (b ∷ bs) (n ∷ ns) zero l m = ap (λ x. bit_xor x 0) (lowest_times (f n) 0 b) ∙ (xor_zero_r (cond (f n) b 0) ∙ sym (xor_zero_l (cond (f n) b 0)))
sum_more f (b ∷ bs) (n ∷ ns) (suc i) l m =
    let more = index f (take (suc i) ns) in
    let less = index f (take i ns) in
    (λ j. bit_xor (lowest_times (f n) more b j) (combination (take (suc i) bs) (rest_of_choice (f n) more j)))
    ∙ (ap (bit_xor (cond (f n) b 0)) (sum_more f bs ns i (omega arith) (omega arith))
    ∙ (sym (xor_assoc (cond (f n) b 0) (combination (take i bs) less) (cond (f (get_or ns i 0)) (get_or bs i 0) 0))
    ∙ sym (λ j. bit_xor (bit_xor (lowest_times (f n) less b j) (combination (take i bs) (rest_of_choice (f n) less j))) (cond (f (get_or ns i 0)) (get_or bs i 0) 0))))

-- ---- the ranks of a word

abbrev pub ranks : ℕ → ℕ → List ℕ
ranks k w = first_values k (λ i. k * w + i)

-- the element with the first m places of the word
abbrev pub first_places : ℕ → List ℕ → ℕ → ℕ → Point → ℕ
first_places k elements w m p = combination (take m elements) (index p.is_one (take m (ranks k w)))

module _ (k : ℕ) (mul : ℕ → ℕ → ℕ) (elements : List ℕ) (long : length elements ≡ k) (w : ℕ) where
  -- one place more
  next_place : (m : ℕ) (p : Point) → m < k → first_places k elements w (m + 1) p ≡ bit_xor (first_places k elements w m p) (cond (p.is_one (k * w + m)) (get_or elements m 0) 0)
  next_place m p less =
      let up : m + 1 ≡ suc m = omega arith in
      ap (λ n. first_places k elements w n p) up
      ∙ sum_more p.is_one elements (ranks k w) m (omega (arith, less, long)) (omega (arith, less, length-first_values k (λ i. k * w + i)))
      ∙ ap (λ r. bit_xor (first_places k elements w m p) (cond (p.is_one r) (get_or elements m 0) 0)) (get_or-first_values k (λ i. k * w + i) m less)

  whole : (m : ℕ) (xs : List ℕ) → length xs ≡ m → take m xs ≡ xs
  whole zero [] e = refl
  whole zero (x ∷ xs) e = absurd (omega (arith, e))
  whole (suc m) [] e = absurd (omega (arith, e))
  whole (suc m) (x ∷ xs) e = ap (λ (ys : List ℕ). x ∷ ys) (whole m xs (omega (arith, e)))

  all_places : (p : Point) → first_places k elements w k p ≡ combination elements (index p.is_one (ranks k w))
  all_places p = λ i. combination (whole k elements long i) (index p.is_one (whole k (ranks k w) (length-first_values k (λ i. k * w + i)) i))

  -- nothing is the sum with no place
  pub first_sum : (ts : Terms) → ts ≡ [] → IsPolynomialOf k mul (first_places k elements w 0) ts
  first_sum ts e =
      let P : Terms → Type 0 = λ us. IsPolynomialOf k mul (first_places k elements w 0) us in
      subst P (sym e) (record { reduced = nothing_reduced k; values = λ p at. refl })

  -- the sum with one place more
  pub next_sum : (m : ℕ) (old part new : Terms) (scale rank : ℕ) → m < k → scale ≡ slice_index elements m → rank ≡ k * w + m
      → IsPolynomialOf k mul (first_places k elements w m) old → IsPolynomialOf k mul (λ p. cond (p.is_one rank) scale 0) part → IsReduced k new → ((p : Point) → IsPoint k p → value mul p new ≡ bit_xor (value mul p old) (value mul p part))
      → IsPolynomialOf k mul (first_places k elements w (m + 1)) new
  next_sum m old part new scale rank less is place a b reduced values = record {
    reduced = reduced;
    values = λ p at. values p at ∙ ((λ i. bit_xor (a.values p at i) ((b.values p at ∙ (λ n. cond (p.is_one (place n)) (is n) 0)) i)) ∙ sym (next_place m p less));
  }

  pub last_sum : (m : ℕ) (ts : Terms) → m ≡ k → IsPolynomialOf k mul (first_places k elements w m) ts → IsWordInBits k mul elements w ts
  last_sum m ts last a = record { reduced = a.reduced; values = λ p at. a.values p at ∙ (ap (λ n. first_places k elements w n p) last ∙ all_places p) }

-- ---- the word's element

same_index : (bits : List Bool) (f : ℕ → Bool) (k : ℕ) (g : ℕ → ℕ) (ns : List ℕ) → length ns ≡ k → ((i n : ℕ) → slice_get ns i ≡ Some n → bit_of bits n ≡ f (g i)) → index_of bits ns ≡ index f (first_values k g)
same_index bits f zero g [] e same = refl
same_index bits f zero g (n ∷ ns) e same = absurd (omega (arith, e))
same_index bits f (suc k) g [] e same = absurd (omega (arith, e))
same_index bits f (suc k) g (n ∷ ns) e same =
    (λ i. cond (same 0 n refl i) 1 0 + 2 * same_index bits f k (λ j. g (suc j)) ns (omega (arith, e)) (λ j m got. same (suc j) m got) i)

module _ (c : Circuit) (well : IsWellFormed c) (w : ℕ) (word : Word) (at : slice_get c.words w ≡ Some word) where
  -- the bits of a word at a point that has the bits of an input are those of the word's element
  word_element : (p : Point) (xs : List ℕ) → IsInput c xs → IsAtInput c xs p → combination word.basis (index p.is_one (first_values c.k (λ i. c.k * w + i))) ≡ slice_index xs w
  word_element p xs input here =
      let found = get_below xs w (omega (arith, slice_get_within c.words w word at, input.long)) in
      let element : HasElement (point_bits (nets c.net) (variables_of c) p) word found.0 = here w word found.0 at found.1 tt in
      let is = well.words word (w, at) in
      ap (combination word.basis) (sym (same_index (point_bits (nets c.net) (variables_of c) p) p.is_one c.k (λ i. c.k * w + i) word.nets is.nets (λ i n got.
      point_bits_at (nets c.net) (variables_of c) p n (source_inside c.net well.sound n (stands_source c.net word.role n (well.inner word (w, at)) (well.places word n (w, at) (i, got))))
      ∙ ap p.is_one (place_rank c well w i n word at got))))
      ∙ (element.sum.is ∙ sym (get_or_from_slice_get xs w found.0 0 found.1))

  -- so the polynomial of the word in its bits is that of the input's element
  pub word_of_input : (ts : Terms) (elements : List ℕ) → word.basis ≡ elements → IsWordInBits c.k c.product elements w ts → IsOfInput c (λ xs. slice_index xs w) ts
  word_of_input ts elements same is = record {
    reduced = is.reduced;
    values = λ p xs is_point input here. is.values p is_point ∙ (ap (λ es. combination es (index p.is_one (first_values c.k (λ i. c.k * w + i)))) (sym same) ∙ word_element p xs input here);
  }
