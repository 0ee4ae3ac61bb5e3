-- A wired top: what feeds its instances and its output word. Source: Pruss, Kalla, Enescu, DAC 2014.
use Rattle.std.specs.Prelude.{◌≡◌, ℕ, ◌<◌, ◌≤◌, ◌^◌, List, Some, length, slice_get}
use Rattle.poly_mixed.specs.Polynomial.{value, IsPolynomialOf, Terms}
use Rattle.poly_mixed.specs.declared.stage.ReduceFault.{ReduceFault}
use Rattle.poly_mixed.specs.declared.stage.ReduceFault.TheVariants.{TooManyTerms, OutOfMemory}
use Rattle.compose_model.specs.Wiring.{feeding_graph}
use Rattle.compose_model.specs.declared.feeder.Feeder.{Feeder}
use Rattle.compose_polys.specs.LevelOrder.{IsLevelOrder}
use Rattle.compose_polys.specs.Instances.{AreDone, IsReady, IsRefused}
use Rattle.compose_polys.specs.Words.{feed_terms, AreWordPolys, IsBlockFor, IsFeedAmong}

-- each instance has a block in words and feeds among the top's words and instances, and so has the output word
pub record IsWired (k count : ℕ) (blocks : List Terms) (rows : List (List Feeder)) (output : Feeder) : Type 0 where
  pub words : count ≤ 8
  pub long : length blocks ≡ length rows
  pub few : length rows < 2 ^ 32
  pub blocks_are : (i : ℕ) (block : Terms) (feeds : List Feeder) → slice_get blocks i ≡ Some block → slice_get rows i ≡ Some feeds → IsBlockFor k feeds block
  pub feeds_are : (i j : ℕ) (feeds : List Feeder) (feed : Feeder) → slice_get rows i ≡ Some feeds → slice_get feeds j ≡ Some feed → IsFeedAmong count (length rows) feed
  pub output_is : IsFeedAmong count (length rows) output

module _ (k : ℕ) (mul : ℕ → ℕ → ℕ) (count : ℕ) (blocks : List Terms) (rows : List (List Feeder)) (bound : ℕ) where
  -- the words as polynomials, and the instances by level
  pub record IsTakenByLevel (words : List Terms) (order : List ℕ) : Type 0 where
    pub words_are : AreWordPolys k mul words
    pub many : length words ≡ count
    pub by_level : IsLevelOrder (feeding_graph rows) order
    pub ready : IsReady k words blocks rows order

  -- all instances got their polynomials by level, and this is the polynomial of what feeds the output word
  pub record IsWiredPoly (output : Feeder) (ts : Terms) : Type 0 where
    pub words : List Terms
    pub order : List ℕ
    pub taken : IsTakenByLevel words order
    pub polys : List Terms
    pub done : AreDone k mul words blocks rows bound order (length order) polys
    pub is : IsPolynomialOf k mul (λ p. value mul p (feed_terms words polys output)) ts

  -- the stage is the first over the bound of the instances by level
  pub record IsStageOver (fault : ReduceFault) : Type 0 where
    pub words : List Terms
    pub order : List ℕ
    pub taken : IsTakenByLevel words order
    pub refused : IsRefused k mul words blocks rows bound order fault

  -- why there is no polynomial; out of memory is free
  abbrev pub IsStageFault : ReduceFault → Type 0
  IsStageFault (TooManyTerms stage n) = IsStageOver (TooManyTerms stage n)
  IsStageFault OutOfMemory = Unit {0}
