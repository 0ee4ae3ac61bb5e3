-- The pairs that the replacement of one word records, out of the terms of the polynomial in which the word is replaced.
-- Source: this project's own.
use Rattle.std.specs.Prelude.{◌≡◌, ℕ, ◌+◌, ◌*◌, List, [], ◌∷◌, ◌++◌, Option, Some, length, slice_get}
use Rattle.poly_mixed.specs.Monomial.{Monomial}
use Rattle.poly_mixed.specs.Polynomial.{Terms}
use Rattle.poly_mixed.specs.Steps.{Step, Tells}
use Rattle.poly_mixed.specs.declared.steps.Generator.TheVariants.{Bit}
use Rattle.stage_model.specs.WordStage.{word_bits}
use Rattle.stage_model.specs.PlainWord.{IsReading}
use Rattle.word_subst.specs.Read.{multiplier_at}

module _ (k : ℕ) (mul : ℕ → ℕ → ℕ) (elements : List ℕ) (w : ℕ) where
  -- the pair of bit j of a term, counted from 0: the bit, and a polynomial of its multiplier
  pub record IsReadStep (term : Monomial × ℕ) (j : ℕ) (step : Step) : Type 0 where
    pub place : ℕ
    pub at : slice_get (word_bits k w term) j ≡ Some (k * w + place)
    pub generator : step.0 ≡ Bit w place
    pub multiplier : IsReading k mul elements w (multiplier_at k mul w term (k * w + place)) step.1

  -- the pairs of the first n bits of a term
  pub record AreFirstSteps (term : Monomial × ℕ) (n : ℕ) (steps : List Step) : Type 0 where
    pub long : length steps ≡ n
    pub each : (j : ℕ) (step : Step) → slice_get steps j ≡ Some step → IsReadStep term j step

  -- the pairs of terms, term by term
  abbrev pub AreReadSteps : Terms → List Step → Type 0
  AreReadSteps [] steps = steps ≡ []
  AreReadSteps (t ∷ ts) steps = (front : List Step) × (rest : List Step) × AreFirstSteps t (length (word_bits k w t)) front × AreReadSteps ts rest × (steps ≡ front ++ rest)

  -- where the recorder tells its pairs, it holds what it held and then those of the first n bits of a term
  pub record TellsFirst (term : Monomial × ℕ) (n : ℕ) (old new : Option (List Step)) : Type 0 where
    pub steps : List Step
    pub are : AreFirstSteps term n steps
    pub told : Tells old new steps

  -- so it does for all its bits of the word
  abbrev pub TellsTerm : Monomial × ℕ → Option (List Step) → Option (List Step) → Type 0
  TellsTerm term old new = TellsFirst term (length (word_bits k w term)) old new

  -- where the recorder tells its pairs, it holds what it held and then those of these terms
  pub record TellsTerms (terms : Terms) (old new : Option (List Step)) : Type 0 where
    pub steps : List Step
    pub are : AreReadSteps terms steps
    pub told : Tells old new steps
