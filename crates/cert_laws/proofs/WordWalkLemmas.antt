-- The pairs of words lead from the last cut to the output in words.
use Rattle.std.proofs.Common.{◌≡◌, ◌≢◌, ◌∙◌, ap, sym, refl, subst, ℕ, zero, suc, ◌+◌, ◌*◌, ◌<◌, ◌≤◌, ◌==◌, cond, List, [], ◌∷◌, ◌++◌, length, take, drop, Some, slice_get, bit_xor, arith, append_assoc, append-nil}
use lib.Bits.{xor_assoc, xor_comm, xor_zero_l, xor_zero_r}
use Rattle.std.specs.Int.{bit_at}
use Rattle.std.specs.List.{list_all}
use Rattle.std.specs.List.Sorted.{IsStrictlySortedBy}
use Rattle.std.proofs.lemmas.Option.{slice_get_within}
use Rattle.std.proofs.Math.Numerals.{add-one}
use Rattle.lists.specs.laws.ReadLaws.{get_here}
use Rattle.gf_field.specs.Field.{HasNoZeroDivisors}
use Rattle.gf_field.specs.Ring.{IsRing}
use Rattle.gf_basis.specs.declared.bases.Basis.{Basis}
use Rattle.net_words.specs.Binding.{BoundNet}
use Rattle.poly_mixed.specs.Cofactor.{without_bit}
use Rattle.poly_mixed.specs.Monomial.{Monomial}
use Rattle.poly_mixed.specs.Polynomial.{Terms, Point, IsPoint, IsElement, IsTerm, IsReduced, term_value, value}
use Rattle.poly_mixed.specs.Steps.{Step}
use Rattle.poly_mixed.proofs.FieldLaws.{IsField, field_of}
use Rattle.poly_mixed.proofs.ProductLemmas.{one_term, term_value_element}
use Rattle.poly_mixed.proofs.SimpleLemmas.{reduced_nothing}
use Rattle.poly_mixed.proofs.ValueLemmas.{zero_element}
use Rattle.circuit_model.specs.Bases.{AreBases, circuit_in}
use Rattle.circuit_model.specs.Circuit.{Circuit}
use Rattle.circuit_model.specs.WellFormed.{IsWellFormed}
use Rattle.stage_model.specs.Mix.{IsMix}
use Rattle.stage_model.specs.Stage.{IsOfStage}
use Rattle.stage_model.specs.WordStage.{is_of_word, word_bits, first_bits, with_word, IsRead, IsTermProduct, IsTermSum}
use Rattle.stage_model.specs.WordSteps.{with_word_below, IsStepOf, AreStepsOfTerm, AreStepsOfTerms, AreWordStepsTo}
use Rattle.stage_model.proofs.MixLemmas.{one_mix}
use Rattle.stage_model.proofs.NextMixLemmas.{next_mix}
use Rattle.stage_model.proofs.WordPolyLemmas.{filter_passes, own_range}
use Rattle.stage_model.proofs.WordStageLemmas.{one_read, some_read, one_terms, one_term_of, with_point}
use Rattle.cert_check.specs.Running.{generator_value, dual_words}
use Rattle.cert_laws.proofs.CutWalkLemmas.{put_in, low_of}
use Rattle.cert_laws.proofs.SizedLemmas.{IsSized, sized_of, sized_sum, sized_same, sized_chosen}
use Rattle.cert_laws.proofs.TermBitLemmas.{mixed, none_read, all_read, multiplier, before_bit, after_bit, form_value}
use Rattle.cert_laws.proofs.WalkLemmas.{Walk, IsLow, walk_none, walk_one, walk_then}

step_at : (xs : List Step) (j : ℕ) → j < length xs → (x : Step) × (slice_get xs j ≡ Some x) × (drop j xs ≡ x ∷ drop (suc j) xs)
step_at [] j less = absurd (omega (arith, less))
step_at (x ∷ xs) zero less = (x, refl, refl)
step_at (x ∷ xs) (suc j) less = step_at xs j (omega (arith, less))

dropped_all : (xs : List Step) (j : ℕ) → j ≡ length xs → drop j xs ≡ []
dropped_all [] zero e = refl
dropped_all [] (suc j) e = absurd (omega (arith, e))
dropped_all (x ∷ xs) zero e = absurd (omega (arith, e))
dropped_all (x ∷ xs) (suc j) e = dropped_all xs j (omega (arith, e))

reduced_rest : {k : ℕ} (t : Monomial × ℕ) (ts : Terms) → IsReduced k (t ∷ ts) → IsReduced k ts
unfolding IsStrictlySortedBy
reduced_rest t ts is = record { is_map = record { sorted = is.is_map.sorted.1; rising = is.is_map.rising.1; nonzero = is.is_map.nonzero.1 }; terms = is.terms.1 }

-- a part of a sum changes
moved : (a b r y : ℕ) → bit_xor (bit_xor a (bit_xor b r)) y ≡ bit_xor a (bit_xor (bit_xor b y) r)
moved a b r y = xor_assoc a (bit_xor b r) y ∙ ap (bit_xor a) (xor_assoc b r y ∙ ap (bit_xor b) (xor_comm r y) ∙ sym (xor_assoc b y r))

taken_there : (done : Terms) (t : Monomial × ℕ) (rest : Terms) → take (length done + 1) (done ++ t ∷ rest) ≡ done ++ t ∷ []
taken_there done t rest = ap (λ n. take n (done ++ t ∷ rest)) (add-one (length done)) ∙ taken done
  where
    taken : (done : Terms) → take (suc (length done)) (done ++ t ∷ rest) ≡ done ++ t ∷ []
    taken [] = refl
    taken (x ∷ done) = ap (λ (ts : Terms). x ∷ ts) (taken done)

value_append : (mul : ℕ → ℕ → ℕ) (p : Point) (xs ys : Terms) → value mul p (xs ++ ys) ≡ bit_xor (value mul p xs) (value mul p ys)
value_append mul p [] ys = sym (xor_zero_l (value mul p ys))
value_append mul p (x ∷ xs) ys = ap (bit_xor (term_value mul p x)) (value_append mul p xs ys) ∙ sym (xor_assoc (term_value mul p x) (value mul p xs) (value mul p ys))

-- what is known of the mixes and of the stages between them
pub record AreSmall (k : ℕ) (mul : ℕ → ℕ → ℕ) (c : Circuit) (n : ℕ) : Type 0 where
  pub mixes : (w : ℕ) → w ≤ length c.words → (ts : Terms) × IsOfStage k mul (IsMix c w) ts × (length ts ≤ n)
  pub sums : (w s : ℕ) (ts : Terms) → w < length c.words → IsOfStage k mul (IsMix c w) ts → 1 ≤ s → s ≤ length ts → (x : Terms) × IsOfStage k mul (IsTermSum c w s) x × (length x ≤ n)
  pub products : (w s j : ℕ) (ts : Terms) (t : Monomial × ℕ) → w < length c.words → IsOfStage k mul (IsMix c w) ts → slice_get ts s ≡ Some t → 1 ≤ j → j ≤ length (word_bits k w t) → (x : Terms) × IsOfStage k mul (IsTermProduct c w (s + 1) j) x × (length x ≤ n)

module _ (k : ℕ) (mul : ℕ → ℕ → ℕ) (ring : IsRing k mul) (field : HasNoZeroDivisors k mul) (bound : BoundNet) (bases : List Basis) (are : AreBases k mul bound bases) (well : IsWellFormed (circuit_in k mul bound bases)) (same_words : length (dual_words bound bases) ≡ length (circuit_in k mul bound bases).words) (claim : Terms) (n most : ℕ) (claimed : IsReduced k claim) (small : length claim ≤ n) (four : 4 * n ≤ most) where
  abbrev c : Circuit
  c = circuit_in k mul bound bases

  abbrev fld : IsField k mul
  fld = field_of k mul ring field

  abbrev WalkTo : (Point → ℕ) → (Point → ℕ) → List Step → Type 0
  WalkTo v w steps = Walk k mul bound bases fld claim most v w steps

  -- three parts and the claim
  abbrev three : (Point → ℕ) → (Point → ℕ) → (Point → ℕ) → Point → ℕ
  three g h r p = bit_xor (g p) (bit_xor (h p) (r p))

  low_three : (g h r : Point → ℕ) → IsSized k mul g n → IsSized k mul h n → IsSized k mul r n → IsLow k mul bound bases fld claim most (three g h r)
  low_three g h r one two three' =
      sized_same fld (λ p. bit_xor (bit_xor (g p) (bit_xor (h p) (r p))) (value mul p claim)) (λ p. bit_xor (bit_xor (g p) (bit_xor (h p) (r p))) (value mul p claim)) (n + (n + n) + n) most (omega (arith, four)) (λ p at. refl)
      (sized_sum fld (λ p. bit_xor (g p) (bit_xor (h p) (r p))) (λ p. value mul p claim) (n + (n + n)) n
      (sized_sum fld g (λ p. bit_xor (h p) (r p)) n (n + n) one (sized_sum fld h r n n two three'))
      (sized_of fld claim n claimed small))

  module _ (w : ℕ) (inside : w < length c.words) where
    -- the sum of these terms, read from the word
    record IsDone (done : Terms) (s : Terms) : Type 0 where
      reduced : IsReduced k s
      few : length s ≤ n
      values : (p : Point) (d : ℕ) → IsPoint k p → IsRead c w p d → value mul p s ≡ value mul (with_word k w d p) done

    -- a function that is the term with its first j bits of the word read
    record IsPiece (t : Monomial × ℕ) (j : ℕ) (h : Point → ℕ) : Type 0 where
      sized : IsSized k mul h n
      values : (p : Point) (d : ℕ) → IsPoint k p → IsRead c w p d → h p ≡ mixed k mul w t j d p

    module _ (t : Monomial × ℕ) (is : IsTerm k t) (pieces : (j : ℕ) → 1 ≤ j → j ≤ length (word_bits k w t) → (h : Point → ℕ) × IsPiece t j h) (front : List Step) (steps : AreStepsOfTerm c w t front) (s next : Terms) (rest : Terms) (summed : IsSized k mul (λ p. value mul p s) n) (left : IsSized k mul (λ p. value mul p rest) n)
        (joins : (h : Point → ℕ) → IsPiece t (length (word_bits k w t)) h → (p : Point) → IsPoint k p → three (λ p. value mul p s) h (λ p. value mul p rest) p ≡ bit_xor (value mul p next) (value mul p rest)) where
      -- one bit
      bit_step : (j : ℕ) (step : Step) (h h' : Point → ℕ) → slice_get front j ≡ Some step → IsPiece t j h → IsPiece t (suc j) h' → WalkTo (three (λ p. value mul p s) h (λ p. value mul p rest)) (three (λ p. value mul p s) h' (λ p. value mul p rest)) (step ∷ [])
      bit_step j step h h' at now then =
          let one = steps.each j step at in
          walk_one k mul bound bases fld claim most (three (λ p. value mul p s) h (λ p. value mul p rest)) (three (λ p. value mul p s) h' (λ p. value mul p rest)) step
          (low_three (λ p. value mul p s) h (λ p. value mul p rest) summed now.sized left)
          (low_three (λ p. value mul p s) h' (λ p. value mul p rest) summed then.sized left)
          (λ p point. stepped one p point)
        where
          stepped : IsStepOf c w t j step → (p : Point) → IsPoint k p → bit_xor (three (λ p. value mul p s) h (λ p. value mul p rest) p) (mul (generator_value k mul bound bases step.0 p) (value mul p step.1)) ≡ three (λ p. value mul p s) h' (λ p. value mul p rest) p
          stepped one p point =
              let read = some_read c well w p point inside in
              let d : ℕ = read.0 in
              let m = one.multiplier.values p point in
              let place : ℕ = one.place in
              let same_d : m.d ≡ d = one_read c well w p m.d d point m.read read.1 in
              let x : ℕ = multiplier k mul w t is j place d p one.at in
              let multiplied : value mul p step.1 ≡ x = sym m.element ∙ ap (λ e. term_value mul (with_word_below k w (k * w + place) e p) (without_bit (k * w + place) t.0, t.1)) same_d in
              let range = own_range k w (k * w + place) (filter_passes (is_of_word k w) t.0.bits j (k * w + place) one.at) in
              let form = form_value k mul bound bases ring field are w place d p read.1 (let less = range.1 in omega (arith, less)) (omega (arith, inside, same_words)) in
              let generator : generator_value k mul bound bases step.0 p ≡ bit_xor (cond (p.is_one (k * w + place)) 1 0) (cond (bit_at d place == 1) 1 0) =
              ap (λ g. generator_value k mul bound bases g p) one.generator ∙ ap (bit_xor (cond (p.is_one (k * w + place)) 1 0)) form in
              let before : h p ≡ cond (p.is_one (k * w + place)) x 0 = now.values p d point read.1 ∙ before_bit k mul w t is j place d p one.at in
              let after : h' p ≡ cond (bit_at d place == 1) x 0 = then.values p d point read.1 ∙ after_bit k mul w t is j place d p one.at in
              let element : IsElement k x = term_value_element fld (with_word_below k w (k * w + place) d p) (record { words = point.words; elements = point.elements }) (without_bit (k * w + place) t.0, t.1) is.element in
              let changed : bit_xor (h p) (mul (generator_value k mul bound bases step.0 p) (value mul p step.1)) ≡ h' p =
              (λ i. bit_xor (before i) (mul (generator i) ((multiplied ∙ sym (xor_zero_r x)) i)))
              ∙ put_in k mul ring field (p.is_one (k * w + place)) (bit_at d place == 1) x 0 element (zero_element fld)
              ∙ sym after in
              moved (value mul p s) (h p) (value mul p rest) (mul (generator_value k mul bound bases step.0 p) (value mul p step.1)) ∙ ap (λ y. bit_xor (value mul p s) (bit_xor y (value mul p rest))) changed

      -- the bits from number j on
      term_walk : (m j : ℕ) (h : Point → ℕ) → j + m ≡ length (word_bits k w t) → IsPiece t j h → WalkTo (three (λ p. value mul p s) h (λ p. value mul p rest)) (λ p. bit_xor (value mul p next) (value mul p rest)) (drop j front)
      term_walk zero j h sum piece =
          let whole : j ≡ length (word_bits k w t) = omega (arith, sum) in
          let P : List Step → Type 0 = λ xs. WalkTo (three (λ p. value mul p s) h (λ p. value mul p rest)) (λ p. bit_xor (value mul p next) (value mul p rest)) xs in
          let Q : ℕ → Type 0 = λ i. IsPiece t i h in
          subst P (sym (dropped_all front j (whole ∙ sym steps.long)))
          (walk_none k mul bound bases fld claim most (three (λ p. value mul p s) h (λ p. value mul p rest)) (λ p. bit_xor (value mul p next) (value mul p rest)) (low_three (λ p. value mul p s) h (λ p. value mul p rest) summed piece.sized left) (joins h (subst Q whole piece)))
      term_walk (suc m) j h sum piece =
          let step = step_at front j (let long = steps.long in omega (arith, sum, long)) in
          let then = pieces (suc j) (omega arith) (omega (arith, sum)) in
          let P : List Step → Type 0 = λ xs. WalkTo (three (λ p. value mul p s) h (λ p. value mul p rest)) (λ p. bit_xor (value mul p next) (value mul p rest)) xs in
          subst P (sym step.2)
          (walk_then k mul bound bases fld claim most (three (λ p. value mul p s) h (λ p. value mul p rest)) (three (λ p. value mul p s) then.0 (λ p. value mul p rest)) (λ p. bit_xor (value mul p next) (value mul p rest)) (step.0 ∷ []) (drop (suc j) front)
          (bit_step j step.0 h then.0 step.1 piece then.1)
          (term_walk m (suc j) then.0 (omega (arith, sum)) then.1))

    module _ (ts : Terms) (ts_is : IsOfStage k mul (IsMix c w) ts) (ts_few : length ts ≤ n)
        (sums : (s : ℕ) → 1 ≤ s → s ≤ length ts → (x : Terms) × IsOfStage k mul (IsTermSum c w s) x × (length x ≤ n))
        (products : (s j : ℕ) (t : Monomial × ℕ) → slice_get ts s ≡ Some t → 1 ≤ j → j ≤ length (word_bits k w t) → (x : Terms) × IsOfStage k mul (IsTermProduct c w (s + 1) j) x × (length x ≤ n))
        (q : Terms) (q_is : IsOfStage k mul (IsMix c (suc w)) q) where
      -- the value of the next mix
      next_value : (p : Point) (d : ℕ) → IsPoint k p → IsRead c w p d → value mul (with_word k w d p) ts ≡ value mul p q
      next_value p d point read =
          one_mix c well (suc w) p (value mul (with_word k w d p) ts) (value mul p q) ((next_mix c well w d p read (value mul (with_word k w d p) ts)).0 (ts_is.values (with_word k w d p) (with_point k k w d p point))) (q_is.values p point)

      nothing_done : IsDone [] []
      nothing_done = record { reduced = reduced_nothing fld; few = omega arith; values = λ p d point read. refl }

      sum_done : (done : Terms) (s : ℕ) (x : Terms) → take s ts ≡ done → IsOfStage k mul (IsTermSum c w s) x → length x ≤ n → IsDone done x
      sum_done done s x taken is few = record {
        reduced = is.reduced;
        few = few;
        values = λ p d point read.
            let sum = is.values p point in
            let same : sum.terms ≡ ts = one_terms c well w sum.terms ts sum.before ts_is in
            let same_d : sum.d ≡ d = one_read c well w p sum.d d point sum.read read in
            sym sum.element ∙ (λ i. value mul (with_word k w (same_d i) p) (take s (same i))) ∙ ap (value mul (with_word k w d p)) taken;
      }

      product_piece : (s j : ℕ) (t : Monomial × ℕ) (x : Terms) → slice_get ts s ≡ Some t → IsOfStage k mul (IsTermProduct c w (s + 1) j) x → length x ≤ n → IsPiece t j (λ p. cond (list_all p.is_one (drop j (word_bits k w t))) (value mul p x) 0)
      product_piece s j t x at is few = record {
        sized = sized_chosen fld (drop j (word_bits k w t)) (λ p. value mul p x) n (sized_of fld x n is.reduced few);
        values = λ p d point read.
            let product = is.values p point in
            let same : product.term ≡ t = one_term_of c well w (s + 1) product.term t product.is_term (record { terms = ts; before = ts_is; place = s; number = refl; at = at }) in
            let same_d : product.d ≡ d = one_read c well w p product.d d point product.read read in
            ap (λ y. cond (list_all p.is_one (drop j (word_bits k w t))) y 0) (sym product.element ∙ (λ i. term_value mul (with_word k w (same_d i) p) (first_bits k w j (same i))));
      }

      first_piece : (t : Monomial × ℕ) → IsTerm k t → t.1 ≢ 0 → 1 ≤ n → IsPiece t 0 (λ p. term_value mul p t)
      first_piece t is some one = record {
        sized = record { terms = t ∷ []; is = record { reduced = one_term fld t.0 t.1 is some; values = λ p at. xor_zero_r (term_value mul p t) }; small = one };
        values = λ p d point read. none_read k mul w t d p;
      }

      terms_walk : (rest done : Terms) (steps : List Step) (s : Terms) → ts ≡ done ++ rest → IsReduced k rest → length rest ≤ n → AreStepsOfTerms c w rest steps → IsDone done s → WalkTo (λ p. bit_xor (value mul p s) (value mul p rest)) (λ p. value mul p q) steps
      terms_walk [] done steps s same reduced few are_steps is_done =
          let P : List Step → Type 0 = λ xs. WalkTo (λ p. bit_xor (value mul p s) 0) (λ p. value mul p q) xs in
          subst P (sym are_steps)
          (walk_none k mul bound bases fld claim most (λ p. bit_xor (value mul p s) 0) (λ p. value mul p q)
          (sized_same fld (λ p. bit_xor (value mul p s) (value mul p claim)) (λ p. bit_xor (bit_xor (value mul p s) 0) (value mul p claim)) (n + n) most (omega (arith, four)) (λ p at. ap (λ x. bit_xor x (value mul p claim)) (sym (xor_zero_r (value mul p s))))
          (sized_sum fld (λ p. value mul p s) (λ p. value mul p claim) n n (sized_of fld s n is_done.reduced is_done.few) (sized_of fld claim n claimed small)))
          (λ p point.
          let read = some_read c well w p point inside in
          xor_zero_r (value mul p s) ∙ is_done.values p read.0 point read.1 ∙ ap (value mul (with_word k w read.0 p)) (sym (same ∙ append-nil done)) ∙ next_value p read.0 point read.1))
      terms_walk (t ∷ rest) done steps s same reduced few (front, more, own, later, split) is_done =
          let at : slice_get ts (length done) ≡ Some t = ap (λ (xs : Terms). slice_get xs (length done)) same ∙ get_here done t rest in
          let within : length done < length ts = slice_get_within ts (length done) t at in
          let sum = sums (length done + 1) (omega arith) (omega (arith, within)) in
          let next_done = sum_done (done ++ t ∷ []) (length done + 1) sum.0 (ap (take (length done + 1)) same ∙ taken_there done t rest) sum.1 sum.2 in
          let is : IsTerm k t = reduced.terms.0 in
          let rest_reduced : IsReduced k rest = reduced_rest t rest reduced in
          let pieces : (j : ℕ) → 1 ≤ j → j ≤ length (word_bits k w t) → (h : Point → ℕ) × IsPiece t j h =
          λ j least most. let x = products (length done) j t at least most in ((λ p. cond (list_all p.is_one (drop j (word_bits k w t))) (value mul p x.0) 0), product_piece (length done) j t x.0 at x.1 x.2) in
          let one = first_piece t is reduced.is_map.nonzero.0 (omega (arith, within, ts_few)) in
          let walk = term_walk t is pieces front own s sum.0 rest (sized_of fld s n is_done.reduced is_done.few) (sized_of fld rest n rest_reduced (omega (arith, few)))
          (λ h piece p point.
          let read = some_read c well w p point inside in
          joined p read.0 (h p) (value mul p rest) (is_done.values p read.0 point read.1) (piece.values p read.0 point read.1 ∙ all_read k mul w t read.0 p) (next_done.values p read.0 point read.1))
          (length (word_bits k w t)) 0 (λ p. term_value mul p t) (omega arith) one in
          let P : List Step → Type 0 = λ xs. WalkTo (λ p. bit_xor (value mul p s) (value mul p (t ∷ rest))) (λ p. value mul p q) xs in
          subst P (sym split)
          (walk_then k mul bound bases fld claim most (λ p. bit_xor (value mul p s) (value mul p (t ∷ rest))) (λ p. bit_xor (value mul p sum.0) (value mul p rest)) (λ p. value mul p q) front more
          walk
          (terms_walk rest (done ++ t ∷ []) more sum.0 (same ∙ sym (append_assoc done (t ∷ []) rest)) rest_reduced (omega (arith, few)) later next_done))
        where
          joined : (p : Point) (d h r : ℕ) → value mul p s ≡ value mul (with_word k w d p) done → h ≡ term_value mul (with_word k w d p) t → {x : ℕ} → x ≡ value mul (with_word k w d p) (done ++ t ∷ []) → bit_xor (value mul p s) (bit_xor h r) ≡ bit_xor x r
          joined p d h r first second {x} third =
              (λ i. bit_xor (first i) (bit_xor (second i) r))
              ∙ sym (xor_assoc (value mul (with_word k w d p) done) (term_value mul (with_word k w d p) t) r)
              ∙ ap (λ y. bit_xor y r) (sym (third ∙ value_append mul (with_word k w d p) done (t ∷ []) ∙ ap (bit_xor (value mul (with_word k w d p) done)) (xor_zero_r (term_value mul (with_word k w d p) t))))

      -- the pairs of a word
      pub word_walk : (steps : List Step) → AreStepsOfTerms c w ts steps → IsReduced k q → WalkTo (λ p. value mul p ts) (λ p. value mul p q) steps
      word_walk steps are_steps q_reduced =
          walk_then k mul bound bases fld claim most (λ p. value mul p ts) (λ p. bit_xor (value mul p []) (value mul p ts)) (λ p. value mul p q) [] steps
          (walk_none k mul bound bases fld claim most (λ p. value mul p ts) (λ p. bit_xor (value mul p []) (value mul p ts)) (low_of k mul ring field bound bases claim n most claimed small four ts ts_is.reduced ts_few) (λ p at. sym (xor_zero_l (value mul p ts))))
          (terms_walk ts [] steps [] refl ts_is.reduced ts_few are_steps nothing_done)

  -- the pairs of the first words
  pub words_walk : AreSmall k mul c n → (w : ℕ) → w ≤ length c.words → (steps : List Step) → AreWordStepsTo c w steps → (start : Terms) → IsOfStage k mul (IsMix c 0) start → length start ≤ n → (q : Terms) → IsOfStage k mul (IsMix c w) q → length q ≤ n → WalkTo (λ p. value mul p start) (λ p. value mul p q) steps
  words_walk all zero less steps are_steps start start_is few q q_is q_few =
      let P : List Step → Type 0 = λ xs. WalkTo (λ p. value mul p start) (λ p. value mul p q) xs in
      subst P (sym are_steps) (walk_none k mul bound bases fld claim most (λ p. value mul p start) (λ p. value mul p q) (low_of k mul ring field bound bases claim n most claimed small four start start_is.reduced few) (λ p at. one_mix c well 0 p (value mul p start) (value mul p q) (start_is.values p at) (q_is.values p at)))
  words_walk all (suc w) less steps (front, last, before, own, same) start start_is few q q_is q_few =
      let mix = all.mixes w (omega (arith, less)) in
      let ts : Terms = own.terms in
      let equal : mix.0 ≡ ts = one_terms c well w mix.0 ts mix.1 own.before in
      let ts_few : length ts ≤ n = (let long : length mix.0 ≡ length ts = ap length equal in let most = mix.2 in omega (arith, long, most)) in
      let P : List Step → Type 0 = λ xs. WalkTo (λ p. value mul p start) (λ p. value mul p q) xs in
      subst P (sym same)
      (walk_then k mul bound bases fld claim most (λ p. value mul p start) (λ p. value mul p ts) (λ p. value mul p q) front last
      (words_walk all w (omega (arith, less)) front before start start_is few ts own.before ts_few)
      (word_walk w (omega (arith, less)) ts own.before ts_few (λ s least most. all.sums w s ts (omega (arith, less)) own.before least most) (λ s j t at least most. all.products w s j ts t (omega (arith, less)) own.before at least most) q q_is last own.are q_is.reduced))
