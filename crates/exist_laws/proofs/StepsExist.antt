-- The pairs that the elimination of gates and the replacement of words record exist.
use Rattle.std.proofs.Common.{◌≡◌, ◌∙◌, ap, sym, refl, inl, inr, ℕ, zero, suc, ◌<◌, ◌≤◌, ◌+◌, ◌-◌, ◌*◌, Bool, true, false, cond, ◌&&◌, List, [], ◌∷◌, ◌++◌, length, reverse, Some, arith}
use Rattle.std.specs.Prelude.{slice_get, nat_le, nat_lt, Contains, ◌==◌}
use Rattle.std.specs.Int.{bit_at}
use Rattle.std.specs.List.{list_all, AllByRecursion}
use Rattle.std.proofs.lemmas.Bool.{leb-true}
use Rattle.std.proofs.lemmas.List.Sorted.{Contains-permutation, IsPermutation-reverse}
use Rattle.std.proofs.lemmas.Option.{get_or_from_slice_get, slice_get_within}
use Rattle.lists.specs.Lists.{Has}
use Rattle.lists.specs.laws.HasLaws.{none_at}
use Rattle.lists.specs.laws.ReadLaws.{get_below, got_at, same_lists}
use Rattle.net_core.specs.GateValue.{GateValue}
use Rattle.net_core.specs.NetList.{NetList}
use Rattle.net_core.specs.Order.{IsElimination}
use Rattle.circuit_model.specs.Circuit.{Circuit}
use Rattle.circuit_model.specs.WellFormed.{IsWellFormed}
use Rattle.circuit_model.specs.Word.{Word}
use Rattle.poly_mixed.specs.Cofactor.{cofactors, without_bit}
use Rattle.poly_mixed.specs.Monomial.{Monomial}
use Rattle.poly_mixed.specs.Polynomial.{powers, term_value, IsPoint, IsTerm, Point, Terms}
use Rattle.poly_mixed.specs.Steps.{Step}
use Rattle.poly_mixed.specs.declared.steps.Generator.TheVariants.{Bit, Net}
use Rattle.poly_mixed.proofs.CofactorLemmas.{reduced_cofactors}
use Rattle.poly_mixed.proofs.FieldLaws.{field_of}
use Rattle.poly_mixed.proofs.OneBitLemmas.{is_cofactor}
use Rattle.poly_mixed.proofs.ProductLemmas.{term_value_element}
use Rattle.stage_model.specs.Cut.{IsCut}
use Rattle.stage_model.specs.CutSteps.{AreStepsOf, AreStepsTo}
use Rattle.stage_model.specs.First.{AgreeAtFirst}
use Rattle.stage_model.specs.Stage.{HasPolynomial}
use Rattle.stage_model.specs.Variables.{rank_in}
use Rattle.stage_model.specs.WordStage.{is_of_word, word_bits, IsRead}
use Rattle.stage_model.specs.WordSteps.{with_word_below, AreStepsOfTerm, AreStepsOfTerms, AreStepsOfWord, AreWordSteps, AreWordStepsTo, IsMultiplier, IsStepOf}
use Rattle.stage_model.proofs.EliminationLemmas.{elimination_long}
use Rattle.stage_model.proofs.InterpolationLemmas.{of_first, LooksAtFirst}
use Rattle.stage_model.proofs.SomeStageLemmas.{mix_polynomial, ranks_below}
use Rattle.stage_model.proofs.StepLemmas.{lacks_or}
use Rattle.stage_model.proofs.WordPolyLemmas.{filter_passes}
use Rattle.stage_model.proofs.WordStageLemmas.{some_read}
use Rattle.exist_laws.proofs.ListedExist.{listed}

-- ---- gates

in_reverse : (xs : List ℕ) (x : ℕ) → Has xs x → Has (reverse xs) x
in_reverse xs x has =
    let there : Contains xs x = (has.0, slice_get_within xs has.0 x has.1, get_or_from_slice_get xs has.0 x x has.1) in
    let after = Contains-permutation xs (reverse xs) x (IsPermutation-reverse xs) there in
    (after.0, got_at (reverse xs) after.0 x x after.1 after.2)

module _ (k : ℕ) (mul : ℕ → ℕ → ℕ) (net : NetList) (variables : List ℕ) (output : Word) (cut : (t : ℕ) → HasPolynomial k mul (IsCut net variables output t)) (order : List ℕ) (elimination : IsElimination net order) where
  some_of : (t : ℕ) (position : ℕ) → slice_get order t ≡ Some position → (gate : GateValue) → slice_get net.gates position ≡ Some gate → (steps : List Step) × AreStepsOf k mul net variables output order t steps
  some_of t position at gate here =
      let before = cut t in
      let rank : ℕ = rank_in variables gate.out in
      elim (lacks_or rank before.0) [
        | inl none ↦ ([], record { position = position; gate = gate; terms = before.0; at_order = at; at_net = here; before = before.1; are = record { absent = λ any. refl; present = λ some. absurd (some none) } })
        | inr some ↦ (
          (Net gate.out, cofactors rank before.0) ∷ [],
          record {
            position = position;
            gate = gate;
            terms = before.0;
            at_order = at;
            at_net = here;
            before = before.1;
            are = record {
              absent = λ none. absurd (some none);
              present = λ any. record { cofactor = cofactors rank before.0; reduced = reduced_cofactors k rank before.0 before.1.reduced; is = is_cofactor rank before.0 before.1.reduced.is_map; steps_are = refl };
            };
          },
        )
      ]

  pub some_steps_to : (t : ℕ) → t ≤ length net.gates → (steps : List Step) × AreStepsTo k mul net variables output order t steps
  some_steps_to zero within = ([], refl)
  some_steps_to (suc t) within =
      let front = some_steps_to t (omega arith) in
      let position = get_below order t (let long = elimination_long net order elimination in omega (arith, long, within)) in
      let gate = elimination.2.within position.0 (in_reverse order position.0 (t, position.1)) in
      let last = some_of t position.0 position.1 gate.0 gate.1 in
      (front.0 ++ last.0, (front.0, last.0, front.1, last.1, refl))

-- ---- words

own_rank : (k w r : ℕ) → is_of_word k w r ≡ true → k * w ≤ r
own_rank k w r is =
    elim (nat_le (k * w) r) as (λ b. nat_le (k * w) r ≡ b → (b && nat_lt r (k * w + k)) ≡ true → k * w ≤ r) [
      | true ↦ λ low any. leb-true (k * w) r low
      | false ↦ λ high both. absurd (let bad : false ≡ true = both in cc)
    ] refl is

-- ---- the multiplier of a bit

same_bits : (p q : ℕ → Bool) (rs : List ℕ) → ((r : ℕ) → Has rs r → p r ≡ q r) → list_all p rs ≡ list_all q rs
same_bits p q [] same = refl
same_bits p q (r ∷ rs) same = λ i. same r (0, refl) i && same_bits p q rs (λ s has. same s (suc has.0, has.1)) i

rank_below : (rs : List ℕ) (r : ℕ) → Has rs r → r < ranks_below rs
rank_below [] r has = absurd (none_at r has)
rank_below (s ∷ rs) r (zero, got) = let same : s ≡ r = cc in omega (arith, same)
rank_below (s ∷ rs) r (suc i, got) = let less = rank_below rs r (i, got) in omega (arith, less)

module _ (c : Circuit) (well : IsWellFormed c) (w : ℕ) (low : w < length c.words) where
  module _ (term : Monomial × ℕ) (is_term : IsTerm c.k term) (rank : ℕ) where
    left : Monomial × ℕ
    left = (without_bit rank term.0, term.1)

    ranks : ℕ
    ranks = ranks_below (without_bit rank term.0).bits

    value_at : ℕ → Point → ℕ
    value_at d p = term_value c.product (with_word_below c.k w rank d p) (without_bit rank term.0, term.1)

    alone : (p q : Point) (d : ℕ) → IsPoint c.k p → IsPoint c.k q → AgreeAtFirst 8 ranks p q → value_at d p ≡ value_at d q
    unfolding value_at ranks
    alone p q d at at' same =
        let words : p.words ≡ q.words = same_lists p.words q.words (at.words ∙ sym at'.words)
        (λ i x y got got'.
        let less : i < 8 = omega (arith, slice_get_within p.words i x got, at.words) in
        let both : slice_get p.words i ≡ slice_get q.words i = same.elements i less in
        let equal : x ≡ y = cc in
        equal) in
        let bits = same_bits (with_word_below c.k w rank d p).is_one (with_word_below c.k w rank d q).is_one (without_bit rank term.0).bits (λ r has. ap (λ b. cond (is_of_word c.k w r && nat_lt r rank) (bit_at d (r - c.k * w) == 1) b) (same.bits r (rank_below (without_bit rank term.0).bits r has))) in
        λ i. cond (bits i) (c.product term.1 (powers c.product (without_bit rank term.0).exponents (words i))) 0

    looks : LooksAtFirst c.k (IsMultiplier c w term rank) 8 ranks
    unfolding value_at
    looks = record {
      some = λ p at.
          let read = some_read c well w p at low in (
            term_value c.product (with_word_below c.k w rank read.0 p) (without_bit rank term.0, term.1),
            record { d = read.0; read = read.1; element = refl },
            term_value_element (field_of c.k c.product well.ring well.no_zero_divisors) (with_word_below c.k w rank read.0 p) (record { words = at.words; elements = at.elements }) (without_bit rank term.0, term.1) is_term.element,
          );
      alone = λ p q e at at' same is.
          let read : IsRead c w q is.d = record { word = is.read.word; element = is.read.element; at_word = is.read.at_word; at_point = sym (same.elements w (omega (arith, low, well.few))) ∙ is.read.at_point; bits = is.read.bits } in
          record { d = is.d; read = read; element = sym (alone p q is.d at at' same) ∙ is.element };
    }

    multiplier : HasPolynomial c.k c.product (IsMultiplier c w term rank)
    multiplier = of_first c.k c.product well.ring well.no_zero_divisors 8 ranks (IsMultiplier c w term rank) (omega arith) looks

  -- ---- the pairs of a word

  some_step : (term : Monomial × ℕ) → IsTerm c.k term → (j : ℕ) → j < length (word_bits c.k w term) → (step : Step) × IsStepOf c w term j step
  some_step term is_term j less =
      let found = get_below (word_bits c.k w term) j less in
      let past : c.k * w ≤ found.0 = own_rank c.k w found.0 (filter_passes (is_of_word c.k w) term.0.bits j found.0 found.1) in
      let place : ℕ = found.0 - c.k * w in
      let same : found.0 ≡ c.k * w + place = omega (arith, past) in
      let made = multiplier term is_term (c.k * w + place) in
      ((Bit w place, made.0), record { place = place; at = found.1 ∙ ap Some same; generator = refl; multiplier = made.1 })

  some_of_term : (term : Monomial × ℕ) → IsTerm c.k term → (steps : List Step) × AreStepsOfTerm c w term steps
  some_of_term term is_term =
      let made = listed (IsStepOf c w term) (length (word_bits c.k w term)) (some_step term is_term) in
      (made.0, record { long = made.1.0; each = made.1.1 })

  some_of_terms : (ts : Terms) → AllByRecursion (IsTerm c.k) ts → (steps : List Step) × AreStepsOfTerms c w ts steps
  some_of_terms [] all = ([], refl)
  some_of_terms (t ∷ ts) all =
      let front = some_of_term t all.0 in
      let rest = some_of_terms ts all.1 in
      (front.0 ++ rest.0, (front.0, rest.0, front.1, rest.1, refl))

  some_of_word : (steps : List Step) × AreStepsOfWord c w steps
  some_of_word =
      let before = mix_polynomial c well w (omega (arith, low)) in
      let made = some_of_terms before.0 before.1.reduced.terms in
      (made.0, record { terms = before.0; before = before.1; are = made.1 })

module _ (c : Circuit) (well : IsWellFormed c) where
  some_words_to : (n : ℕ) → n ≤ length c.words → (steps : List Step) × AreWordStepsTo c n steps
  some_words_to zero within = ([], refl)
  some_words_to (suc w) within =
      let front = some_words_to w (omega (arith, within)) in
      let last = some_of_word c well w (omega (arith, within)) in
      (front.0 ++ last.0, (front.0, last.0, front.1, last.1, refl))

  pub some_word_steps : (steps : List Step) × AreWordSteps c steps
  some_word_steps = some_words_to (length c.words) (omega arith)
