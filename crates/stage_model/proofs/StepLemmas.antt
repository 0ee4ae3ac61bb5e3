-- The pairs that elimination and replacement record are the only ones.
use Rattle.std.proofs.Common.{◌≡◌, ◌⊎◌, ◌∙◌, ap, sym, refl, subst, inl, inr, ℕ, zero, suc, ◌+◌, ◌*◌, true, false, List, [], ◌∷◌, ◌++◌, length, Some, arith}
use Rattle.std.specs.Prelude.{slice_get}
use Rattle.net_core.specs.GateValue.{GateValue}
use Rattle.net_core.specs.NetList.{NetList}
use Rattle.net_core.specs.Sound.{IsSound}
use Rattle.gf_field.specs.Ring.{IsRing}
use Rattle.gf_field.specs.Field.{HasNoZeroDivisors}
use Rattle.poly_mixed.specs.Monomial.{Monomial, has_bit}
use Rattle.poly_mixed.specs.Polynomial.{Terms, term_value}
use Rattle.poly_mixed.specs.Cofactor.{LacksBit, without_bit}
use Rattle.poly_mixed.specs.Steps.{Step}
use Rattle.poly_mixed.specs.declared.steps.Generator.TheVariants.{Net, Bit}
use Rattle.poly_mixed.proofs.ValueLemmas.{same_map}
use Rattle.circuit_model.specs.Word.{Word}
use Rattle.circuit_model.specs.WellFormed.{IsWellFormed}
use Rattle.circuit_model.specs.Circuit.{Circuit}
use Rattle.stage_model.specs.Variables.{rank_in}
use Rattle.stage_model.specs.Cut.{IsCut}
use Rattle.stage_model.specs.Stage.{IsOfStage}
use Rattle.stage_model.specs.WordStage.{word_bits}
use Rattle.stage_model.specs.CutSteps.{IsNetStep, AreStepsAt, AreStepsOf, AreStepsTo, AreCutSteps}
use Rattle.stage_model.specs.WordSteps.{with_word_below, IsMultiplier, IsStepOf, AreStepsOfTerm, AreStepsOfTerms, AreStepsOfWord, AreWordStepsTo}
use Rattle.stage_model.proofs.EliminationLemmas.{one_elimination}
use Rattle.stage_model.proofs.CutLemmas.{one_cut_of}
use Rattle.stage_model.proofs.SizeLemmas.{IsFunction, same_terms}
use Rattle.stage_model.proofs.WordStageLemmas.{one_terms, one_read}

same_steps : (xs ys : List Step) → length xs ≡ length ys → ((i : ℕ) (x y : Step) → slice_get xs i ≡ Some x → slice_get ys i ≡ Some y → x ≡ y) → xs ≡ ys
same_steps [] [] long same = refl
same_steps [] (y ∷ ys) long same = absurd (omega arith)
same_steps (x ∷ xs) [] long same = absurd (omega arith)
same_steps (x ∷ xs) (y ∷ ys) long same =
    let head : x ≡ y = same 0 x y refl refl in
    let tail : xs ≡ ys = same_steps xs ys (omega arith) (λ i a b first second. same (suc i) a b first second) in
    λ i. head i ∷ tail i

pub lacks_or : (rank : ℕ) (ts : Terms) → LacksBit rank ts ⊎ (LacksBit rank ts → ⊥)
lacks_or rank [] = inl tt
lacks_or rank (t ∷ ts) =
    elim (has_bit rank t.0) as (λ b. has_bit rank t.0 ≡ b → LacksBit rank (t ∷ ts) ⊎ (LacksBit rank (t ∷ ts) → ⊥)) [
      | true ↦ λ e. inr (λ all. both e all.0)
      | false ↦ λ e. elim (lacks_or rank ts) [ inl rest ↦ inl (e, rest) | inr some ↦ inr (λ all. some all.1) ]
    ] refl
  where
    both : has_bit rank t.0 ≡ true → has_bit rank t.0 ≡ false → ⊥
    both e f = cc

module _ (k : ℕ) (mul : ℕ → ℕ → ℕ) (ring : IsRing k mul) (field : HasNoZeroDivisors k mul) (net : NetList) (sound : IsSound net) (variables : List ℕ) (output : Word) where
  one_net_step : (rank n : ℕ) (ts : Terms) (steps other : List Step) → IsNetStep k rank n ts steps → IsNetStep k rank n ts other → steps ≡ other
  one_net_step rank n ts steps other a b =
      let same : a.cofactor ≡ b.cofactor = same_map a.cofactor b.cofactor a.reduced.is_map b.reduced.is_map (λ m. a.is m ∙ sym (b.is m)) in
      a.steps_are ∙ ((λ i. (Net n, same i) ∷ []) ∙ sym b.steps_are)

  one_at : (rank n : ℕ) (ts : Terms) (steps other : List Step) → AreStepsAt k rank n ts steps → AreStepsAt k rank n ts other → steps ≡ other
  one_at rank n ts steps other a b =
      elim (lacks_or rank ts) [
        | inl none ↦ a.absent none ∙ sym (b.absent none)
        | inr some ↦ one_net_step rank n ts steps other (a.present some) (b.present some)
      ]

  one_of : (order : List ℕ) (t : ℕ) (steps other : List Step) → AreStepsOf k mul net variables output order t steps → AreStepsOf k mul net variables output order t other → steps ≡ other
  one_of order t steps other a b =
      let at : slice_get order t ≡ Some a.position = a.at_order in
      let at' : slice_get order t ≡ Some b.position = b.at_order in
      let place : b.position ≡ a.position = cc in
      let here : slice_get net.gates a.position ≡ Some a.gate = a.at_net in
      let here' : slice_get net.gates a.position ≡ Some b.gate = ap (slice_get net.gates) (sym place) ∙ b.at_net in
      let gate : b.gate ≡ a.gate = cc in
      let terms : b.terms ≡ a.terms = same_terms k mul ring field (IsCut net variables output t) (λ p x y at first second. one_cut_of net sound variables output t p x y first second) b.terms a.terms b.before a.before in
      let P : GateValue → Type 0 = λ g. AreStepsAt k (rank_in variables g.out) g.out b.terms other in
      let Q : Terms → Type 0 = λ ts. AreStepsAt k (rank_in variables a.gate.out) a.gate.out ts other in
      one_at (rank_in variables a.gate.out) a.gate.out a.terms steps other a.are (subst Q terms (subst P gate b.are))

  one_to : (order : List ℕ) (t : ℕ) (steps other : List Step) → AreStepsTo k mul net variables output order t steps → AreStepsTo k mul net variables output order t other → steps ≡ other
  one_to order zero steps other a b = a ∙ sym b
  one_to order (suc t) steps other a b =
      let front = one_to order t a.0 b.0 a.2 b.2 in
      let last = one_of order t a.1 b.1 a.3 b.3 in
      a.4 ∙ ((λ i. front i ++ last i) ∙ sym b.4)

  pub one_cut_steps : (t : ℕ) (steps other : List Step) → AreCutSteps k mul net variables output t steps → AreCutSteps k mul net variables output t other → steps ≡ other
  one_cut_steps t steps other a b =
      let P : List ℕ → Type 0 = λ order. AreStepsTo k mul net variables output order t other in
      one_to a.order t steps other a.are (subst P (one_elimination net sound b.order a.order b.elimination a.elimination) b.are)

module _ (c : Circuit) (well : IsWellFormed c) where
  one_multiplier : (w : ℕ) (term : Monomial × ℕ) (rank : ℕ) → IsFunction c.k (IsMultiplier c w term rank)
  one_multiplier w term rank p x y at a b =
      let d = one_read c well w p a.d b.d at a.read b.read in
      sym a.element ∙ ((λ i. term_value c.product (with_word_below c.k w rank (d i) p) (without_bit rank term.0, term.1)) ∙ b.element)

  same_pair : (x y : Step) → x.0 ≡ y.0 → x.1 ≡ y.1 → x ≡ y
  same_pair x y e f = λ i. (e i, f i)

  one_step : (w : ℕ) (term : Monomial × ℕ) (j : ℕ) (x y : Step) → IsStepOf c w term j x → IsStepOf c w term j y → x ≡ y
  one_step w term j x y a b =
      let place : b.place ≡ a.place = equal a.place b.place a.at b.at in
      let P : ℕ → Type 0 = λ i. IsOfStage c.k c.product (IsMultiplier c w term (c.k * w + i)) y.1 in
      same_pair x y (a.generator ∙ (ap (λ i. Bit w i) (sym place) ∙ sym b.generator))
      (same_terms c.k c.product well.ring well.no_zero_divisors (IsMultiplier c w term (c.k * w + a.place)) (one_multiplier w term (c.k * w + a.place)) x.1 y.1 a.multiplier (subst P place b.multiplier))
    where
      equal : (i l : ℕ) → slice_get (word_bits c.k w term) j ≡ Some (c.k * w + i) → slice_get (word_bits c.k w term) j ≡ Some (c.k * w + l) → l ≡ i
      equal i l first second = let same : c.k * w + l ≡ c.k * w + i = cc in omega arith

  one_term_steps : (w : ℕ) (term : Monomial × ℕ) (steps other : List Step) → AreStepsOfTerm c w term steps → AreStepsOfTerm c w term other → steps ≡ other
  one_term_steps w term steps other a b = same_steps steps other (a.long ∙ sym b.long) (λ j x y got got'. one_step w term j x y (a.each j x got) (b.each j y got'))

  one_terms_steps : (w : ℕ) (ts : Terms) (steps other : List Step) → AreStepsOfTerms c w ts steps → AreStepsOfTerms c w ts other → steps ≡ other
  one_terms_steps w [] steps other a b = a ∙ sym b
  one_terms_steps w (t ∷ ts) steps other a b =
      let front = one_term_steps w t a.0 b.0 a.2 b.2 in
      let rest = one_terms_steps w ts a.1 b.1 a.3 b.3 in
      a.4 ∙ ((λ i. front i ++ rest i) ∙ sym b.4)

  one_word : (w : ℕ) (steps other : List Step) → AreStepsOfWord c w steps → AreStepsOfWord c w other → steps ≡ other
  one_word w steps other a b =
      let P : Terms → Type 0 = λ ts. AreStepsOfTerms c w ts other in
      one_terms_steps w a.terms steps other a.are (subst P (one_terms c well w b.terms a.terms b.before a.before) b.are)

  pub one_word_steps : (n : ℕ) (steps other : List Step) → AreWordStepsTo c n steps → AreWordStepsTo c n other → steps ≡ other
  one_word_steps zero steps other a b = a ∙ sym b
  one_word_steps (suc n) steps other a b =
      let front = one_word_steps n a.0 b.0 a.2 b.2 in
      let last = one_word n a.1 b.1 a.3 b.3 in
      a.4 ∙ ((λ i. front i ++ last i) ∙ sym b.4)
