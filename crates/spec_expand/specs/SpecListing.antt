-- The stages of a specification over input, state and fed bits as a listing. Source: this project's own.
use Rattle.std.specs.Prelude.{◌≡◌, ◌⊎◌, ℕ, ◌+◌, ◌<◌, ◌≤◌, List, Some, length, take, slice_get}
use Rattle.poly_mixed.specs.Polynomial.{Point}
use Rattle.poly_mixed.specs.declared.stage.ReduceFault.{ReduceFault}
use Rattle.poly_mixed.specs.declared.stage.Stage.{Stage}
use Rattle.poly_mixed.specs.declared.stage.Stage.TheVariants.{Cut, WordProduct, WordSum, SpecProduct, SpecSum, InstanceProduct, InstanceSum}
use Rattle.circuit_model.specs.Circuit.{Circuit, IsInput}
use Rattle.stage_model.specs.InputPoint.{IsAtInput}
use Rattle.stage_model.specs.Listing.{Listing, Nothing, AreAllWithin, IsRefusal}
use Rattle.term_expand.specs.SumListing.{HasFactor}
use Rattle.spec_expand.specs.Specification.{SpecTerms}
use Rattle.spec_expand.specs.SpecValue.{spec_at, product_at}

-- a function of the input as a stage: the point is related to its value at the input whose bits the point has
pub record IsAtPoint (circuit : Circuit) (h : List ℕ → ℕ) (p : Point) (e : ℕ) : Type 0 where
  pub xs : List ℕ
  pub input : IsInput circuit xs
  pub at : IsAtInput circuit xs p
  pub value : h xs ≡ e

-- term s of the specification, counted from 1, with its first j factors
pub record IsSpecProduct (circuit : Circuit) (spec : SpecTerms) (s j : ℕ) (p : Point) (e : ℕ) : Type 0 where
  pub place : ℕ
  pub term : ℕ × List (ℕ × ℕ)
  pub number : place + 1 ≡ s
  pub at : slice_get spec place ≡ Some term
  pub is : IsAtPoint circuit (λ xs. product_at circuit.product xs term j) p e

-- the names of the product and sum stages
abbrev pub is_spec_stage : SpecTerms → Stage → Type 0
is_spec_stage spec (SpecProduct s j) = HasFactor spec s j
is_spec_stage spec (SpecSum s) = (1 ≤ s) × (s ≤ length spec)
is_spec_stage spec (Cut t) = ⊥
is_spec_stage spec (WordProduct w s j) = ⊥
is_spec_stage spec (WordSum w s) = ⊥
is_spec_stage spec (InstanceProduct i s j) = ⊥
is_spec_stage spec (InstanceSum i s) = ⊥

-- the product or sum stage of a name
abbrev pub spec_stage_of : Circuit → SpecTerms → Stage → Point → ℕ → Type 0
spec_stage_of circuit spec (SpecProduct s j) = IsSpecProduct circuit spec s j
spec_stage_of circuit spec (SpecSum s) = IsAtPoint circuit (λ xs. spec_at circuit.product xs (take s spec))
spec_stage_of circuit spec (Cut t) = Nothing
spec_stage_of circuit spec (WordProduct w s j) = Nothing
spec_stage_of circuit spec (WordSum w s) = Nothing
spec_stage_of circuit spec (InstanceProduct i s j) = Nothing
spec_stage_of circuit spec (InstanceSum i s) = Nothing

-- term by term, the products of a term before its sum
abbrev pub is_earlier_spec_stage : Stage → Stage → Type 0
is_earlier_spec_stage (SpecProduct r i) (SpecProduct s j) = (r < s) ⊎ ((r ≡ s) × (i < j))
is_earlier_spec_stage (SpecProduct r i) (SpecSum s) = r ≤ s
is_earlier_spec_stage (SpecSum r) (SpecProduct s j) = r < s
is_earlier_spec_stage (SpecSum r) (SpecSum s) = r < s
is_earlier_spec_stage name other = ⊥

-- the stages of a specification over the bits of a circuit's input, state and fed words
abbrev pub spec_listing : Circuit → SpecTerms → Listing Stage
spec_listing circuit spec = record { is_listed = is_spec_stage spec; stage_of = spec_stage_of circuit spec; comes_before = is_earlier_spec_stage }

-- no stage of the specification is over the bound
abbrev pub IsSpecWithin : Circuit → SpecTerms → ℕ → Type 0
IsSpecWithin circuit spec bound = AreAllWithin circuit.k circuit.product (spec_listing circuit spec) bound

-- of the stages of the specification the first over the bound, with its size; out of memory is free
abbrev pub IsSpecRefusal : Circuit → SpecTerms → ℕ → ReduceFault → Type 0
IsSpecRefusal circuit spec bound fault = IsRefusal circuit.k circuit.product (spec_listing circuit spec) bound fault
