-- A recorder that is told a generator with a polynomial times bits.
use Rattle.std.specs.Prelude.{ℕ, List, [], ◌∷◌, Option}
use Rattle.poly_mixed.specs.Polynomial.{Terms}
use Rattle.poly_mixed.specs.Steps.{Step, Tells}
use Rattle.poly_mixed.specs.declared.steps.Generator.{Generator}
use Rattle.word_subst.specs.Multiplier.{IsWithBits}

-- where the recorder tells its pairs, it holds one more: the generator with the polynomial times these bits
pub record TellsMultiplier (k : ℕ) (mul : ℕ → ℕ → ℕ) (product : Terms) (bits : List ℕ) (generator : Generator) (old new : Option (List Step)) : Type 0 where
  pub multiplier : Terms
  pub is : IsWithBits k mul product bits multiplier
  pub told : Tells old new ((generator, multiplier) ∷ [])
