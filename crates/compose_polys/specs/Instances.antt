-- The polynomials of instances in an order, and the first of their stages over a bound. Source: Pruss, Kalla, Enescu, DAC 2014.
use denote.Ref.{Bor}
use Rattle.std.specs.Global.{Global}
use Rattle.std.specs.Prelude.{◌≡◌, ℕ, ◌+◌, ◌<◌, ◌^◌, List, Some, Vec, length, slice_get}
use Rattle.lists.specs.Lists.{Has}
use Rattle.poly_mixed.specs.Polynomial.{value, IsPolynomialOf, Polynomial, Terms}
use Rattle.poly_mixed.specs.declared.stage.ReduceFault.{ReduceFault}
use Rattle.poly_mixed.specs.declared.stage.ReduceFault.TheVariants.{TooManyTerms, OutOfMemory}
use Rattle.poly_mixed.specs.declared.stage.Stage.{Stage}
use Rattle.stage_model.specs.Listing.{AreAllWithin, IsOver}
use Rattle.compose_polys.specs.Instance.{block_terms, point_of, AreReduced}
use Rattle.compose_polys.specs.InstanceListing.{instance_listing}
use Rattle.compose_model.specs.Wiring.{instances_among, rows_in}
use Rattle.compose_model.specs.declared.feeder.Feeder.{Feeder}
use Rattle.compose_polys.specs.Words.{borrowed_terms, terms_of, values_of, IsBlockFor, IsFeedAmong}

-- The words have polynomials over the field, and each instance a block and feeds among words and instances; in the order
-- each instance stands once at most, and after those that feed it.
pub record IsReady (k : ℕ) (words blocks : List Terms) (rows : List (List Feeder)) (order : List ℕ) : Type 0 where
  pub words_reduced : AreReduced k words
  pub long : length blocks ≡ length rows
  pub few : length rows < 2 ^ 32
  pub blocks_are : (i : ℕ) (block : Terms) (feeds : List Feeder) → slice_get blocks i ≡ Some block → slice_get rows i ≡ Some feeds → IsBlockFor k feeds block
  pub feeds_are : (i j : ℕ) (feeds : List Feeder) (feed : Feeder) → slice_get rows i ≡ Some feeds → slice_get feeds j ≡ Some feed → IsFeedAmong (length words) (length rows) feed
  pub inside : (m i : ℕ) → slice_get order m ≡ Some i → i < length rows
  pub once : (m n i : ℕ) → slice_get order m ≡ Some i → slice_get order n ≡ Some i → m ≡ n
  pub after : (m i j : ℕ) (feeds : List Feeder) → slice_get order m ≡ Some i → slice_get rows i ≡ Some feeds → Has (instances_among feeds) j → (n : ℕ) × (n < m) × (slice_get order n ≡ Some j)

module _ (k : ℕ) (mul : ℕ → ℕ → ℕ) (words blocks : List Terms) (rows : List (List Feeder)) (bound : ℕ) where
  -- an instance has the polynomial of its block at its feeds, and none of its stages is over the bound
  pub record IsDone (polys : List Terms) (i : ℕ) : Type 0 where
    pub poly : Terms
    pub block : Terms
    pub feeds : List Feeder
    pub at : slice_get polys i ≡ Some poly
    pub block_at : slice_get blocks i ≡ Some block
    pub row : slice_get rows i ≡ Some feeds
    pub is : IsPolynomialOf k mul (λ p. value mul (point_of (values_of mul words polys feeds p)) block) poly
    pub within : AreAllWithin k mul (instance_listing mul (values_of mul words polys feeds) (i + 1) (block_terms block)) bound

  -- so are the first n instances of the order
  pub record AreDone (order : List ℕ) (n : ℕ) (polys : List Terms) : Type 0 where
    pub long : length polys ≡ length rows
    pub reduced : AreReduced k polys
    pub each : (m i : ℕ) → m < n → slice_get order m ≡ Some i → IsDone polys i

  -- the stage is the first over the bound of its instance, and those before it in the order have none
  pub record IsFirstOver (order : List ℕ) (stage : Stage) (size : ℕ) : Type 0 where
    pub n : ℕ
    pub i : ℕ
    pub polys : List Terms
    pub block : Terms
    pub feeds : List Feeder
    pub here : slice_get order n ≡ Some i
    pub before : AreDone order n polys
    pub block_at : slice_get blocks i ≡ Some block
    pub row : slice_get rows i ≡ Some feeds
    pub over : IsOver k mul (instance_listing mul (values_of mul words polys feeds) (i + 1) (block_terms block)) bound stage size

  -- that stage with its size; out of memory is free
  abbrev pub IsRefused : List ℕ → ReduceFault → Type 0
  IsRefused order (TooManyTerms stage size) = IsFirstOver order stage size
  IsRefused order OutOfMemory = Unit {0}

-- all instances of the order have got their polynomials, where words, blocks and rows are as the program has them
abbrev pub AreAllDone : ℕ → (ℕ → ℕ → ℕ) → List Polynomial → List (Bor Polynomial) → List (Vec Feeder Global) → ℕ → List ℕ → List Polynomial → Type 0
AreAllDone k mul words blocks rows bound order polys = AreDone k mul (terms_of words) (borrowed_terms blocks) (rows_in rows) bound order (length order) (terms_of polys)
