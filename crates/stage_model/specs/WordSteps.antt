-- The pairs of generator and multiplier that the replacement of bits by words records. Source: this project's own.
use Rattle.std.specs.Prelude.{◌≡◌, ℕ, zero, suc, ◌+◌, ◌-◌, ◌*◌, ◌==◌, ◌&&◌, cond, List, [], ◌∷◌, ◌++◌, Some, length, slice_get, nat_lt}
use Rattle.std.specs.Int.{bit_at}
use Rattle.poly_mixed.specs.Monomial.{Monomial}
use Rattle.poly_mixed.specs.Polynomial.{Terms, Point, term_value}
use Rattle.poly_mixed.specs.Cofactor.{without_bit}
use Rattle.poly_mixed.specs.Steps.{Step}
use Rattle.poly_mixed.specs.declared.steps.Generator.TheVariants.{Bit}
use Rattle.circuit_model.specs.Circuit.{Circuit}
use Rattle.stage_model.specs.Mix.{IsMix}
use Rattle.stage_model.specs.Stage.{IsOfStage}
use Rattle.stage_model.specs.WordStage.{is_of_word, word_bits, IsRead}

-- the point with the bits of the number d at the places of word w whose ranks are below this one
abbrev pub with_word_below : ℕ → ℕ → ℕ → ℕ → Point → Point
with_word_below k w rank d p = record { words = p.words; is_one = λ r. cond (is_of_word k w r && nat_lt r rank) (bit_at d (r - k * w) == 1) (p.is_one r) }

module _ (circuit : Circuit) (w : ℕ) where
  -- the multiplier of a bit in a term: the term without the bit, where its bits of word w below are read from the word,
  -- and those above stay bits
  pub record IsMultiplier (term : Monomial × ℕ) (rank : ℕ) (p : Point) (e : ℕ) : Type 0 where
    pub d : ℕ
    pub read : IsRead circuit w p d
    pub element : term_value circuit.product (with_word_below circuit.k w rank d p) (without_bit rank term.0, term.1) ≡ e

  -- the pair of the term's bit j of word w, counted from 0: that bit, and the polynomial of its multiplier
  pub record IsStepOf (term : Monomial × ℕ) (j : ℕ) (step : Step) : Type 0 where
    pub place : ℕ
    pub at : slice_get (word_bits circuit.k w term) j ≡ Some (circuit.k * w + place)
    pub generator : step.0 ≡ Bit w place
    pub multiplier : IsOfStage circuit.k circuit.product (IsMultiplier term (circuit.k * w + place)) step.1

  -- the pairs of a term, one for each of its bits of word w, by rising place
  pub record AreStepsOfTerm (term : Monomial × ℕ) (steps : List Step) : Type 0 where
    pub long : length steps ≡ length (word_bits circuit.k w term)
    pub each : (j : ℕ) (step : Step) → slice_get steps j ≡ Some step → IsStepOf term j step

  -- the pairs of terms, term by term
  abbrev pub AreStepsOfTerms : Terms → List Step → Type 0
  AreStepsOfTerms [] steps = steps ≡ []
  AreStepsOfTerms (t ∷ ts) steps = (front : List Step) × (rest : List Step) × AreStepsOfTerm t front × AreStepsOfTerms ts rest × (steps ≡ front ++ rest)

  -- the pairs of word w: those of the terms of the polynomial in which it is replaced
  pub record AreStepsOfWord (steps : List Step) : Type 0 where
    pub terms : Terms
    pub before : IsOfStage circuit.k circuit.product (IsMix circuit w) terms
    pub are : AreStepsOfTerms terms steps

-- the pairs of the first words, word by word
abbrev pub AreWordStepsTo : Circuit → ℕ → List Step → Type 0
AreWordStepsTo circuit zero steps = steps ≡ []
AreWordStepsTo circuit (suc w) steps = (front : List Step) × (last : List Step) × AreWordStepsTo circuit w front × AreStepsOfWord circuit w last × (steps ≡ front ++ last)

-- the pairs of all words
abbrev pub AreWordSteps : Circuit → List Step → Type 0
AreWordSteps circuit steps = AreWordStepsTo circuit (length circuit.words) steps
