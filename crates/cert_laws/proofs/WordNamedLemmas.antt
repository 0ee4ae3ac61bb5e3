-- The labels of a circuit name what stands in the pairs of its words.
use Rattle.std.proofs.Common.{◌≡◌, ◌∙◌, ap, sym, refl, subst, ℕ, zero, suc, ◌+◌, ◌-◌, ◌*◌, ◌<◌, ◌≤◌, ◌==◌, ◌&&◌, nat_eq, nat_lt, Bool, cond, not, List, [], ◌∷◌, length, drop, map, filter, Some, slice_get, arith}
use Rattle.std.specs.Int.{bit_at}
use Rattle.std.specs.List.{AllByRecursion, list_all}
use Rattle.std.proofs.lemmas.List.{length-map}
use Rattle.lists.specs.laws.ListLaws.{all_filter as all_filtered, all_append}
use Rattle.gf_field.specs.Field.{HasNoZeroDivisors}
use Rattle.gf_field.specs.Power.{power}
use Rattle.gf_field.specs.Ring.{IsRing}
use Rattle.gf_basis.specs.BasisParts.{elements_of}
use Rattle.gf_basis.specs.declared.bases.Basis.{Basis}
use Rattle.net_core.specs.NetList.{nets}
use Rattle.net_core.specs.Sound.{IsSound}
use Rattle.net_words.specs.Binding.{BoundNet}
use Rattle.net_words.specs.OneCycle.{IsOneCycle}
use Rattle.net_words.specs.Variables.{variables}
use Rattle.poly_mixed.specs.Cofactor.{without_bit}
use Rattle.poly_mixed.specs.Labels.{Labelling, bit_count, word_at}
use Rattle.poly_mixed.specs.Monomial.{Monomial}
use Rattle.poly_mixed.specs.Polynomial.{Terms, Point, IsPoint, IsTerm, powers, term_value}
use Rattle.poly_mixed.specs.Steps.{Step}
use Rattle.poly_mixed.specs.laws.TextLaw.{IsWritten}
use Rattle.poly_mixed.specs.laws.Uniqueness.{IsZeros, InFirstWords}
use Rattle.poly_mixed.specs.declared.steps.Generator.{Generator}
use Rattle.poly_mixed.proofs.FieldLaws.{IsField, field_of}
use Rattle.poly_mixed.proofs.ProductLemmas.{term_value_element}
use Rattle.poly_mixed.proofs.UniquenessLemmas.{zero_powers}
use Rattle.circuit_model.specs.Bases.{AreBases, circuit_in}
use Rattle.circuit_model.specs.Circuit.{Circuit}
use Rattle.circuit_model.specs.WellFormed.{IsWellFormed}
use Rattle.circuit_model.specs.Word.{word_nets}
use Rattle.stage_model.specs.First.{AgreeAtFirst}
use Rattle.stage_model.specs.Mix.{IsMix}
use Rattle.stage_model.specs.Stage.{IsOfStage}
use Rattle.stage_model.specs.Variables.{rank_in, point_bits, variables_of}
use Rattle.stage_model.specs.WordStage.{is_of_word}
use Rattle.stage_model.specs.WordSteps.{with_word_below, IsMultiplier, IsStepOf, AreStepsOfTerms, AreWordStepsTo}
use Rattle.stage_model.proofs.BoundLemmas.{bound_variables}
use Rattle.stage_model.proofs.FunctionLemmas.{in_first_words, in_first_ranks}
use Rattle.stage_model.proofs.InterpolationLemmas.{LooksAtFirst}
use Rattle.stage_model.proofs.MixLemmas.{some_mix, one_mix}
use Rattle.stage_model.proofs.PointLemmas.{point_bits_at, same_word}
use Rattle.stage_model.proofs.SharedLemmas.{named_terms}
use Rattle.stage_model.proofs.SomeStageLemmas.{word_net}
use Rattle.stage_model.proofs.VariableLemmas.{has_each}
use Rattle.stage_model.proofs.WordPolyLemmas.{filter_passes, own_range}
use Rattle.stage_model.proofs.WordStageLemmas.{some_read, one_read}
use Rattle.cert_check.proofs.SoundLemmas.{well}
use Rattle.cert_make.specs.CircuitLabels.{NameVariables}
use Rattle.cert_make.specs.Writable.{IsWritablePair, IsOfNet, HaveNumbers}

same_on : (q g : ℕ → Bool) (count : ℕ) (xs : List ℕ) → ((r : ℕ) → r < count → q r ≡ g r) → AllByRecursion (λ r. r < count) xs → list_all q xs ≡ list_all g xs
same_on q g count [] same all = refl
same_on q g count (x ∷ xs) same all = λ i. same x all.0 i && same_on q g count xs same all.1 i

-- the powers look at the words whose exponents are not 0
powers_same : {k : ℕ} {mul : ℕ → ℕ → ℕ} → IsField k mul → (m : ℕ) (es ps qs : List ℕ) → length ps ≡ length qs → ((i : ℕ) → i < m → slice_get ps i ≡ slice_get qs i) → IsZeros (drop m es) → powers mul es ps ≡ powers mul es qs
powers_same f zero es ps qs long same zeros = zero_powers f es ps zeros ∙ sym (zero_powers f es qs zeros)
powers_same f (suc m) [] ps qs long same zeros = refl
powers_same f (suc m) (e ∷ es) [] [] long same zeros = refl
powers_same f (suc m) (e ∷ es) [] (y ∷ qs) long same zeros = absurd (omega (arith, long))
powers_same f (suc m) (e ∷ es) (x ∷ ps) [] long same zeros = absurd (omega (arith, long))
powers_same {mul} f (suc m) (e ∷ es) (x ∷ ps) (y ∷ qs) long same zeros =
    let first : x ≡ y = (let both = same 0 (omega arith) in cc) in
    λ i. mul (power mul (first i) e) (powers_same f m es ps qs (omega (arith, long)) (λ j less. same (suc j) (omega (arith, less))) zeros i)

place_bits : (k : ℕ) (ws : List (List ℕ × ℕ)) (w : ℕ) → AllByRecursion (λ x. x.1 ≡ k) ws → w < length ws → (word_at ws w).1 ≡ k
place_bits k [] w all less = absurd (omega (arith, less))
place_bits k (x ∷ ws) zero all less = all.0
place_bits k (x ∷ ws) (suc w) all less = place_bits k ws w all.1 (omega (arith, less))

module _ (k : ℕ) (mul : ℕ → ℕ → ℕ) (ring : IsRing k mul) (field : HasNoZeroDivisors k mul) (bound : BoundNet) (bases : List Basis) (sound : IsSound bound.net) (one : IsOneCycle bound.net bound.binding) (same : bound.binding.k ≡ k) (are : AreBases k mul bound bases) (labels : Labelling) (numbers : HaveNumbers k bound.net labels) (names : NameVariables bound labels)
    (words_counted : length (circuit_in k mul bound bases).words ≡ length labels.words) (all_counted : length (variables (nets bound.net) bound.binding.words) ≡ bit_count labels.words + length labels.nets) where
  abbrev c : Circuit
  c = circuit_in k mul bound bases

  abbrev count : ℕ
  count = length (variables_of c)

  abbrev m : ℕ
  m = length c.words

  circuit : IsWellFormed c
  circuit = well k mul bound bases ring field sound one same are

  fld : IsField k mul
  fld = field_of k mul ring field

  count_is : count ≡ bit_count labels.words + length labels.nets
  count_is = ap length (bound_variables k mul bound (map elements_of bases) (length-map bases elements_of ∙ are.long)) ∙ all_counted

  -- ---- what a mix looks at

  rank_low : (n : ℕ) → n < nets c.net → rank_in (variables_of c) n < count
  rank_low n less = has_each c.net (word_nets c.words) n less

  mix_looks : (w : ℕ) → w ≤ m → LooksAtFirst k (IsMix c w) m count
  mix_looks w few = record {
    some = λ p at. some_mix c circuit w p at;
    alone = λ p q e at at' same mix. record {
      xs = mix.xs;
      mixed = record {
        words = λ i x low got. sym (same.elements i (omega (arith, low, few))) ∙ mix.mixed.words i x low got;
        bits = λ i x v high at got.
            same_word (point_bits (nets c.net) (variables_of c) p) (point_bits (nets c.net) (variables_of c) q) v x
            (λ n has.
            let less = word_net c circuit i n v at has in
            point_bits_at (nets c.net) (variables_of c) p n less ∙ (same.bits (rank_in (variables_of c) n) (rank_low n less) ∙ sym (point_bits_at (nets c.net) (variables_of c) q n less)))
            (mix.mixed.bits i x v high at got);
      };
      output = mix.output;
    };
  }

  -- a term whose ranks and words have names
  abbrev IsNamedTerm : Monomial × ℕ → Type 0
  IsNamedTerm t = IsTerm k t × AllByRecursion (λ r. r < count) t.0.bits × IsZeros (drop m t.0.exponents)

  mix_terms : (w : ℕ) → w ≤ m → (ts : Terms) → IsOfStage k mul (IsMix c w) ts → AllByRecursion IsNamedTerm ts
  mix_terms w few ts is =
      both ts is.reduced.terms
      (named_terms count ts (in_first_ranks k mul ring field (IsMix c w) (λ p x y at a b. one_mix c circuit w p x y a b) m count (mix_looks w few) ts is))
      (in_first_words k mul ring field (IsMix c w) (λ p x y at a b. one_mix c circuit w p x y a b) m count (mix_looks w few) ts is)
    where
      both : (ts : Terms) → AllByRecursion (IsTerm k) ts → AllByRecursion (λ t. AllByRecursion (λ r. r < count) t.0.bits) ts → AllByRecursion (λ t. IsZeros (drop m t.0.exponents)) ts → AllByRecursion IsNamedTerm ts
      both [] a b d = tt
      both (t ∷ ts) a b d = ((a.0, b.0, d.0), both ts a.1 b.1 d.1)

  -- ---- what a multiplier looks at

  module _ (w rank : ℕ) (inside : w < m) (t : Monomial × ℕ) (is : IsNamedTerm t) where
    one_multiplier : (p : Point) (x y : ℕ) → IsPoint k p → IsMultiplier c w t rank p x → IsMultiplier c w t rank p y → x ≡ y
    one_multiplier p x y at a b =
        sym a.element ∙ ap (λ d. term_value mul (with_word_below k w rank d p) (without_bit rank t.0, t.1)) (one_read c circuit w p a.d b.d at a.read b.read) ∙ b.element

    multiplier_looks : LooksAtFirst k (IsMultiplier c w t rank) m count
    multiplier_looks = record {
      some = λ p at.
          let read = some_read c circuit w p at inside in (
            term_value mul (with_word_below k w rank read.0 p) (without_bit rank t.0, t.1),
            record { d = read.0; read = read.1; element = refl },
            term_value_element fld (with_word_below k w rank read.0 p) (record { words = at.words; elements = at.elements }) (without_bit rank t.0, t.1) is.0.element,
          );
      alone = λ p q e at at' same a. record {
        d = a.d;
        read = record { word = a.read.word; element = a.read.element; at_word = a.read.at_word; at_point = sym (same.elements w inside) ∙ a.read.at_point; bits = a.read.bits };
        element = sym (moved a.d p q at at' same) ∙ a.element;
      };
    }
      where
        moved : (d : ℕ) (p q : Point) → IsPoint k p → IsPoint k q → AgreeAtFirst m count p q → term_value mul (with_word_below k w rank d p) (without_bit rank t.0, t.1) ≡ term_value mul (with_word_below k w rank d q) (without_bit rank t.0, t.1)
        moved d p q at at' same =
            let bits_same = same_on (with_word_below k w rank d p).is_one (with_word_below k w rank d q).is_one count (filter (λ r. not (nat_eq r rank)) t.0.bits)
            (λ r less. ap (λ b. cond (is_of_word k w r && nat_lt r rank) (bit_at d (r - k * w) == 1) b) (same.bits r less)) (all_filtered (λ r. r < count) (λ r. not (nat_eq r rank)) t.0.bits is.1) in
            let powers_are = powers_same fld m t.0.exponents p.words q.words (at.words ∙ sym at'.words) same.elements is.2 in
            λ i. cond (bits_same i) (mul t.1 (powers_are i)) 0

    multiplier_named : (ts : Terms) → IsOfStage k mul (IsMultiplier c w t rank) ts → IsWritten labels k ts
    multiplier_named ts of_stage =
        let P : ℕ → Type 0 = λ n. AllByRecursion (λ t. AllByRecursion (λ r. r < n) t.0.bits) ts in
        let Q : ℕ → Type 0 = λ n. InFirstWords n ts in
        record {
          labels = numbers.are_labels;
          some = numbers.some;
          small = numbers.small;
          few = numbers.ranks;
          reduced = of_stage.reduced;
          ranks = subst P count_is (named_terms count ts (in_first_ranks k mul ring field (IsMultiplier c w t rank) one_multiplier m count multiplier_looks ts of_stage));
          words = subst Q words_counted (in_first_words k mul ring field (IsMultiplier c w t rank) one_multiplier m count multiplier_looks ts of_stage);
        }

  -- ---- the pairs

  abbrev IsGood : Step → Type 0
  IsGood s = IsWritablePair labels k s × IsOfNet bound.net labels s.0

  step_named : (w : ℕ) → w < m → (t : Monomial × ℕ) → IsNamedTerm t → (j : ℕ) (s : Step) → IsStepOf c w t j s → IsGood s
  step_named w inside t is j s step =
      let place : ℕ = step.place in
      let range = own_range k w (k * w + place) (filter_passes (is_of_word k w) t.0.bits j (k * w + place) step.at) in
      let low : w < length labels.words = omega (arith, inside, words_counted) in
      let bits_are : (word_at labels.words w).1 ≡ k = place_bits bound.binding.k labels.words w names.words.bits low ∙ same in
      let P : Generator → Type 0 = λ g. IsWritablePair labels k (g, s.1) × IsOfNet bound.net labels g in
      subst P (sym step.generator) ((low, multiplier_named w (k * w + place) inside t is s.1 step.multiplier), (low, (let less = range.1 in omega (arith, less, bits_are))))

  each_named : (w : ℕ) → w < m → (t : Monomial × ℕ) → IsNamedTerm t → (i : ℕ) (steps : List Step) → ((j : ℕ) (s : Step) → slice_get steps j ≡ Some s → IsStepOf c w t (i + j) s) → AllByRecursion IsGood steps
  each_named w inside t is i [] each = tt
  each_named w inside t is i (s ∷ steps) each = (
    step_named w inside t is (i + 0) s (each 0 s refl),
    each_named w inside t is (i + 1) steps (λ j x at. let P : ℕ → Type 0 = λ n. IsStepOf c w t n x in let next : i + suc j ≡ i + 1 + j = omega arith in subst P next (each (suc j) x at)),
  )

  terms_named : (w : ℕ) → w < m → (ts : Terms) → AllByRecursion IsNamedTerm ts → (steps : List Step) → AreStepsOfTerms c w ts steps → AllByRecursion IsGood steps
  terms_named w inside [] all steps are_steps = let P : List Step → Type 0 = AllByRecursion IsGood in subst P (sym are_steps) tt
  terms_named w inside (t ∷ ts) all steps (front, more, own, later, split) =
      let P : List Step → Type 0 = AllByRecursion IsGood in
      subst P (sym split) (all_append IsGood front more (each_named w inside t all.0 0 front (λ j x at. let Q : ℕ → Type 0 = λ n. IsStepOf c w t n x in let same_place : j ≡ 0 + j = omega arith in subst Q same_place (own.each j x at))) (terms_named w inside ts all.1 more later))

  words_named : (w : ℕ) → w ≤ m → (steps : List Step) → AreWordStepsTo c w steps → AllByRecursion IsGood steps
  words_named zero few steps are_steps = let P : List Step → Type 0 = AllByRecursion IsGood in subst P (sym are_steps) tt
  words_named (suc w) few steps (front, last, before, own, split) =
      let P : List Step → Type 0 = AllByRecursion IsGood in
      subst P (sym split) (all_append IsGood front last (words_named w (omega (arith, few)) front before) (terms_named w (omega (arith, few)) own.terms (mix_terms w (omega (arith, few)) own.terms own.before) last own.are))

  pub word_steps_named : (steps : List Step) → AreWordStepsTo c m steps → AllByRecursion IsGood steps
  word_steps_named steps are_steps = words_named m (omega arith) steps are_steps
